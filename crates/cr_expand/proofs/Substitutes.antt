-- What is put in, from its parts.
use Rattle.std.proofs.Common.{◌≡◌, List, ◌++◌, sym, ap, ◌∙◌, subst, append_assoc, None, false}
use Rattle.cr_base.specs.declared.cause.Role.TheVariants.{MacroName}
use Rattle.cr_macros.specs.declared.macros.Seen.{Seen}
use Rattle.cr_macros.specs.declared.fault.ExpandFault.{ExpandFault}
use Rattle.cr_macros.specs.Tokens.{Text, Token, MacroText, Event, takes, note, give, ◌>>=◌}
use Rattle.cr_macros.specs.Substitution as spec
use Rattle.cr_expand.specs.Held.{Watch, noted, Does, Stops}
use Rattle.cr_expand.proofs.Noted.{noted_append}
use Rattle.cr_expand.proofs.Telling.{does_then, does_give, does_note, stops_first, stops_then}

pub noted_all : (w w1 : Watch) (s0 s1 s2 : List Seen) (a b c : List Event) → w1 ≡ w → c ≡ b → s1 ≡ s0 ++ noted w a → s2 ≡ s1 ++ noted w1 b → s2 ≡ s0 ++ noted w (a ++ c)
noted_all w w1 s0 s1 s2 a b c e f h k =
    k ∙ ap (λ x. s1 ++ noted x b) e ∙ ap (λ s. s ++ noted w b) h
    ∙ append_assoc s0 (noted w a) (noted w b)
    ∙ ap (λ s. s0 ++ s) (sym (noted_append w a b))
    ∙ ap (λ x. s0 ++ noted w (a ++ x)) (sym f)

module _ (w : Watch) (s0 s2 : List Seen) (name : Token) (m : MacroText) (raw full : spec.Args) (hide : List Text) (its : List spec.Item) (e : its ≡ spec.body_items m)
    (h : s2 ≡ s0 ++ noted w (takes MacroName name ++ spec.dropped (spec.body_items m) 0 raw)) where
  start_does : Does w s0 s2 (note (takes MacroName name ++ spec.dropped (spec.body_items m) 0 raw) (spec.body_items m)) its
  start_does = subst (Does w s0 s2 (note (takes MacroName name ++ spec.dropped (spec.body_items m) 0 raw) (spec.body_items m))) (sym e)
      (does_note w s0 s2 (takes MacroName name ++ spec.dropped (spec.body_items m) 0 raw) (spec.body_items m) h)

  pub subst_does : (s3 s4 : List Seen) (ps : List spec.Part) (ts out : List Token)
      → Does w s2 s3 (spec.all_filled name raw full its) ps → Does w s3 s4 (spec.all_pasted name None false ps) ts → out ≡ spec.placed name hide ts → Does w s0 s4 (spec.subst name m raw full hide) out
  subst_does s3 s4 ps ts out f g o =
      subst (Does w s0 s4 (spec.subst name m raw full hide)) (sym o)
      (does_then w s0 s2 s4 (note (takes MacroName name ++ spec.dropped (spec.body_items m) 0 raw) (spec.body_items m)) (λ is1. spec.all_filled name raw full is1 >>= λ qs. spec.all_pasted name None false qs >>= λ us. give (spec.placed name hide us)) its (spec.placed name hide ts) start_does
      (does_then w s2 s3 s4 (spec.all_filled name raw full its) (λ qs. spec.all_pasted name None false qs >>= λ us. give (spec.placed name hide us)) ps (spec.placed name hide ts) f
      (does_then w s3 s4 s4 (spec.all_pasted name None false ps) (λ us. give (spec.placed name hide us)) ts (spec.placed name hide ts) g (does_give w s4 (spec.placed name hide ts)))))

  pub fill_stops : (e1 : ExpandFault) → Stops (spec.all_filled name raw full its) e1 → Stops (spec.subst name m raw full hide) e1
  fill_stops e1 f =
      stops_then w s0 s2 (note (takes MacroName name ++ spec.dropped (spec.body_items m) 0 raw) (spec.body_items m)) (λ is1. spec.all_filled name raw full is1 >>= λ qs. spec.all_pasted name None false qs >>= λ us. give (spec.placed name hide us)) its e1 start_does
      (stops_first (spec.all_filled name raw full its) (λ qs. spec.all_pasted name None false qs >>= λ us. give (spec.placed name hide us)) e1 f)

  pub paste_stops : (s3 : List Seen) (ps : List spec.Part) (e1 : ExpandFault)
      → Does w s2 s3 (spec.all_filled name raw full its) ps → Stops (spec.all_pasted name None false ps) e1 → Stops (spec.subst name m raw full hide) e1
  paste_stops s3 ps e1 f g =
      stops_then w s0 s2 (note (takes MacroName name ++ spec.dropped (spec.body_items m) 0 raw) (spec.body_items m)) (λ is1. spec.all_filled name raw full is1 >>= λ qs. spec.all_pasted name None false qs >>= λ us. give (spec.placed name hide us)) its e1 start_does
      (stops_then w s2 s3 (spec.all_filled name raw full its) (λ qs. spec.all_pasted name None false qs >>= λ us. give (spec.placed name hide us)) ps e1 f
      (stops_first (spec.all_pasted name None false ps) (λ us. give (spec.placed name hide us)) e1 g))
