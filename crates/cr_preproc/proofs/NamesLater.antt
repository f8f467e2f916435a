-- A unit's state stays as it is where the table of names grows.
use Rattle.std.proofs.Common.{◌≡◌, ◌<◌, ℕ, Bool, true, false, cond, List, [], ◌∷◌, map, length, refl, ap, sym, ◌∙◌, Some, None, Option}
use Rattle.std.specs.Prelude.{bytes_eq}
use Rattle.std.specs.List.{All, list_any}
use Rattle.std.specs.Map.{lookup}
use Rattle.std.specs.Option.{option_map}
use Rattle.std.proofs.Math.Path.{fun_ext}
use Rattle.std.proofs.lemmas.List.Elements.{All-head, All-tail}
use Rattle.cr_base.specs.NameTable.{IsDistinct}
use Rattle.cr_base.specs.declared.token.Name.{Name}
use Rattle.cr_base.specs.declared.token.PpTok.{PpTok}
use Rattle.cr_macros.specs.declared.macros.Macro.{Macro}
use Rattle.cr_macros.specs.Definition.{text_of}
use Rattle.cr_macros.specs.MacroTables.{Macros, macro_text}
use Rattle.cr_macros.specs.Tokens.{Text, MacroText, token_of, tokens_of}
use Rattle.cr_expand.specs.HideSets.{Grows}
use Rattle.cr_expand.specs.Held.{IsNamed}
use Rattle.cr_expand.specs.Items.{IsTokenNamed, IsMacroKnown, AreNamed as AreParamsNamed}
use Rattle.cr_expand.specs.Machines.{AreMacros}
use Rattle.cr_preproc.specs.declared.progress.Progress.{Progress}
use Rattle.cr_phase4.specs.Tasks.{Event, Goes, Task, Done, ready}
use Rattle.cr_preproc.specs.Seen.{AreMacrosNamed, macros_of}
use Rattle.cr_preproc.specs.Progressing.{state_of, IsProgress, IsTold, Did}
use Rattle.cr_preproc.proofs.MacroNames.{lookup_same, missing, found_at}
use Rattle.cr_preproc.proofs.NamesGrow.{text_later, known_later, token_later, tokens_later, all_named_later, grows_more}
use Rattle.cr_preproc.proofs.Progresses.{told_none}

module _ (names new : List Text) (g : Grows names new) where
  params_kept : (ps : List Name) → All (IsNamed names) ps → map (text_of new) ps ≡ map (text_of names) ps
  params_kept [] h = refl
  params_kept (p ∷ ps) h =
      ap (λ t. t ∷ map (text_of new) ps) (text_later names new p g (All-head (IsNamed names) p ps h)) ∙ ap (λ l. text_of names p ∷ l) (params_kept ps (All-tail (IsNamed names) p ps h))

  all_params_kept : (o : Option (List Name)) → AreParamsNamed names o → option_map (map (text_of new)) o ≡ option_map (map (text_of names)) o
  all_params_kept None h = refl
  all_params_kept (Some ps) h = ap (λ l. Some l) (params_kept ps h)

  body_kept : (ts : List PpTok) → All (IsTokenNamed names) ts → tokens_of new ts ≡ tokens_of names ts
  body_kept [] h = refl
  body_kept (t ∷ ts) h =
      ap (λ x. x ∷ tokens_of new ts) (token_later names new [] t g (All-head (IsTokenNamed names) t ts h)) ∙ ap (λ l. token_of names [] t ∷ l) (body_kept ts (All-tail (IsTokenNamed names) t ts h))

  macro_kept : (m : Macro) → IsMacroKnown names m → macro_text new m ≡ macro_text names m
  macro_kept m h =
      ap {B = MacroText} (λ ps. record { params = ps; variadic = m.variadic; body = tokens_of new m.body }) (all_params_kept m.params h.params)
      ∙ ap {B = MacroText} (λ ts. record { params = option_map (map (text_of names)) m.params; variadic = m.variadic; body = ts }) (body_kept m.body h.body)

  lookup_kept : (t : Text) (macros : Macros) → AreMacrosNamed names macros → lookup (λ k. bytes_eq t (text_of new k)) macros ≡ lookup (λ k. bytes_eq t (text_of names k)) macros
  lookup_kept t [] h = refl
  lookup_kept t (e ∷ macros) h =
      ap (λ x. cond (bytes_eq t x) (Some e.1) (lookup (λ k. bytes_eq t (text_of new k)) macros)) (text_later names new e.0 g h.0)
      ∙ ap (λ o. cond (bytes_eq t (text_of names e.0)) (Some e.1) o) (lookup_kept t macros h.1)

  -- a macro that is found by its text is known
  found_known : (t : Text) (macros : Macros) (m : Macro) → IsDistinct names → AreMacrosNamed names macros → AreMacros names macros → lookup (λ k. bytes_eq t (text_of names k)) macros ≡ Some m → IsMacroKnown names m
  found_known t macros m d h k e = go (list_any (bytes_eq t) names) refl where
    at : (n : Name) → n.0 < length names → text_of names n ≡ t → IsMacroKnown names m
    at n l f = (k.known n m (sym (lookup_same names n macros d l h) ∙ ap (λ x. lookup (λ k. bytes_eq x (text_of names k)) macros) f ∙ e)).1.0

    go : (b : Bool) → list_any (bytes_eq t) names ≡ b → IsMacroKnown names m
    go false f = let no : None ≡ Some m = sym (missing names t macros f h) ∙ e in let r : ⊥ = cc in absurd r
    go true f = let w = found_at names t f in at (record { 0 = w.0 }) w.1 w.2

  pub macros_kept : (macros : Macros) → IsDistinct names → AreMacrosNamed names macros → AreMacros names macros → (t : Text) → macros_of new macros t ≡ macros_of names macros t
  macros_kept macros d h k t = ap (option_map (macro_text new)) (lookup_kept t macros h) ∙ go (lookup (λ k. bytes_eq t (text_of names k)) macros) refl where
    go : (o : Option Macro) → lookup (λ k. bytes_eq t (text_of names k)) macros ≡ o → option_map (macro_text new) o ≡ option_map (macro_text names) o
    go None e = refl
    go (Some m) e = ap (λ x. Some x) (macro_kept m (found_known t macros m d h k e))

  pub macros_named_later : (macros : Macros) → AreMacrosNamed names macros → AreMacrosNamed new macros
  macros_named_later [] h = tt
  macros_named_later (e ∷ macros) h = (known_later names new e.0 g h.0, macros_named_later macros h.1)

module _ (p : Progress) (new : List Text) (good : IsProgress p) (g : Grows p.names new) where
  abbrev later : Progress
  later = record p { names = new }

  pub state_later : state_of later ≡ state_of p
  state_later = ap (λ f. record (state_of p) { macro = f }) (fun_ext (macros_kept p.names new g p.macros good.distinct good.macro_names good.macros))

  pub good_later : IsDistinct new → AreMacros new p.macros → IsProgress later
  good_later d k = record {
    distinct = d;
    old = known_later p.names new p.renaming.old g good.old;
    new = known_later p.names new p.renaming.new g good.new;
    macros = k;
    macro_names = macros_named_later p.names new g p.macros good.macro_names;
    tokens = all_named_later p.names new p.tokens.items g good.tokens;
    used = good.used;
    reading = good.reading;
    room = good.room;
  }

  -- events stay told
  pub told_later : (old : Progress) (events : List Event) → IsTold old p events → IsTold old later events
  told_later old events h = record {
    tokens = tokens_later p.names new p.tokens.items g good.tokens ∙ h.tokens;
    trace = h.trace;
    renaming = h.renaming;
    names = grows_more old.names p.names new h.names g;
  }

  -- nothing was done but that names were added
  pub named_did : IsDistinct new → AreMacros new p.macros → Did 0 p later ready Done
  named_did d k = record {
    events = [];
    size = refl;
    goes = ap (λ s. Goes Done s []) (sym state_later);
    told = told_later p [] (told_none p);
    good = good_later d k;
  }

-- a task stays done where names are added behind it
pub did_later : {A : Type 0} (n : ℕ) (p q : Progress) (new : List Text) (m : Task A) (a : A) → Did n p q m a → Grows q.names new → IsDistinct new → AreMacros new q.macros → Did n p (record q { names = new }) m a
did_later n p q new m a h g d k = record {
  events = h.events;
  size = h.size;
  goes = h.goes ∙ ap (λ s. Goes a s h.events) (sym (state_later q new h.good g));
  told = told_later q new h.good g p h.events h.told;
  good = good_later q new h.good g d k;
}
