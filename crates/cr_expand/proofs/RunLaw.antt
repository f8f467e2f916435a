-- However a list is fed, a machine gives its expansion.
use Rattle.std.proofs.Common.{◌≡◌, ◌-◌, true, false, None, List, [], ◌∷◌, ◌++◌, map, refl, sym, ap, subst, ◌∙◌, append_assoc, append-nil}
use Rattle.std.proofs.lemmas.List.{map-append}
use Rattle.cr_base.specs.declared.token.PpTok.{PpTok}
use Rattle.cr_expand.specs.declared.expander.Expander.{Expander}
use Rattle.cr_expand.specs.declared.machine.ExpStep.TheVariants as step
use Rattle.cr_expand.specs.declared.machine.TheConstants.{LIMIT}
use Rattle.cr_macros.specs.Tokens.{Text, Token, token_of, tokens_of, Event, Answer, Gave, Stopped}
use Rattle.cr_macros.specs.Definition.{text_of}
use Rattle.cr_macros.specs.Expansion.{expand}
use Rattle.cr_macros.specs.MacroTables.{Macros, table_of}
use Rattle.cr_expand.specs.HideSets.{Grows}
use Rattle.cr_expand.specs.Held.{IsNamed, watch_of, noted}
use Rattle.cr_expand.specs.Running.{leads}
use Rattle.cr_expand.specs.Machines.{IsUse, AreMacros}
use Rattle.cr_expand.specs.Expanders.{left_over, IsRunning, IsFed, Steps, plain, Run, Begins, Fed, Gives, Goes, Grown, Finishes, GivesTheExpansion}
use Rattle.cr_expand.proofs.Kept.{watch_kept}
use Rattle.cr_expand.proofs.Noted.{noted_append}
use Rattle.cr_expand.proofs.Sets.{grows_same, grows_then}
use Rattle.cr_expand.proofs.RunsOn.{left_later}

leads_nothing : (r : Answer (List Token)) → r ≡ leads [] [] r
leads_nothing (Gave ts left events) = refl
leads_nothing (Stopped cause stopped) = refl

leads_leads : (a b : List Token) (x y : List Event) (r : Answer (List Token)) → leads a x (leads b y r) ≡ leads (a ++ b) (x ++ y) r
leads_leads a b x y (Gave ts left events) = ap (λ l. Gave l left (x ++ (y ++ events))) (sym (append_assoc a b ts)) ∙ ap (Gave (a ++ b ++ ts) left) (sym (append_assoc x y events))
leads_leads a b x y (Stopped cause stopped) = ap (Stopped cause) (sym (append_assoc x y stopped))

module _ (macros : Macros) (names : List Text) (first : Expander) (watched : IsNamed names first.machine.notes.from × IsNamed names first.machine.notes.to) where
  -- what was given so far, where more comes
  pub record Follows (at : List Text) (e : Expander) (fed out more : List Token) : Type 0 where
    pub shown : List Token
    pub events : List Event
    pub out_is : map plain shown ≡ out
    pub gives : left_over names macros first (fed ++ more) ≡ leads shown events (left_over at macros e more)
    pub seen : e.machine.notes.seen.items ≡ first.machine.notes.seen.items ++ noted (watch_of names first.machine.notes) events

  pub record IsReached (at : List Text) (e : Expander) (fed out : List Token) : Type 0 where
    pub grows : Grows names at
    pub from : e.machine.notes.from ≡ first.machine.notes.from
    pub to : e.machine.notes.to ≡ first.machine.notes.to
    pub follows : (more : List Token) → (e.machine.finished ≡ true → more ≡ []) → Follows at e fed out more

  used : (at new : List Text) (e now : Expander) (fed out more one given : List Token) → IsReached at e fed out → (e.machine.finished ≡ true → more ≡ []) → IsUse at new macros e.machine now.machine more one → map plain one ≡ given
      → Follows new now fed (out ++ given) more
  used at new e now fed out more one given r q u p =
      let f = r.follows more q in
      record {
        shown = f.shown ++ one;
        events = f.events ++ u.events;
        out_is = map-append plain f.shown one ∙ ap (λ l. l ++ map plain one) f.out_is ∙ ap (λ l. out ++ l) p;
        gives = f.gives ∙ ap (leads f.shown f.events) u.goes ∙ leads_leads f.shown one f.events u.events (left_over new macros now more);
        seen = u.seen ∙ ap (λ l. l ++ noted (watch_of at e.machine.notes) u.events) f.seen
            ∙ ap (λ w. first.machine.notes.seen.items ++ noted (watch_of names first.machine.notes) f.events ++ noted w u.events) (watch_kept names at first.machine.notes e.machine.notes r.grows watched r.from r.to)
            ∙ append_assoc first.machine.notes.seen.items (noted (watch_of names first.machine.notes) f.events) (noted (watch_of names first.machine.notes) u.events)
            ∙ ap (λ l. first.machine.notes.seen.items ++ l) (sym (noted_append (watch_of names first.machine.notes) f.events u.events));
      }

  begun : IsReached names first [] []
  begun = record {
    grows = grows_same names;
    from = refl;
    to = refl;
    follows = λ more q. record { shown = []; events = []; out_is = refl; gives = leads_nothing (left_over names macros first more); seen = sym (append-nil first.machine.notes.seen.items) };
  }

  fed_more : (at : List Text) (e now : Expander) (fed out : List Token) (tokens : List PpTok) → IsReached at e fed out → e.machine.finished ≡ false → IsFed e now tokens → IsReached at now (fed ++ tokens_of at tokens) out
  fed_more at e now fed out tokens r n k = record {
    grows = r.grows;
    from = k.same.0 ∙ r.from;
    to = k.same.1 ∙ r.to;
    follows = λ more q.
        let f = r.follows (tokens_of at tokens ++ more) (λ t. absurd (let z : ⊥ = cc in z)) in
        record {
          shown = f.shown;
          events = f.events;
          out_is = f.out_is;
          gives = ap (left_over names macros first) (append_assoc fed (tokens_of at tokens) more) ∙ f.gives ∙ ap (leads f.shown f.events) (sym (k.gives at macros more));
          seen = k.seen ∙ f.seen;
        };
  }

  gave : (at new : List Text) (e now : Expander) (fed out : List Token) (t : PpTok) → IsReached at e fed out → Steps at new macros e now (step.Out t) → IsReached new now fed (out ++ tokens_of new (t ∷ []))
  gave at new e now fed out t r s = record {
    grows = grows_then names at new r.grows s.1;
    from = s.2.0 ∙ r.from;
    to = s.2.1 ∙ r.to;
    follows = λ more q.
        let p : e.machine.finished ≡ true → more ≡ [] = λ f. q (s.2.3 ∙ f) in
        let u = s.0 more p in
        used at new e now fed out more (token_of new u.0 t ∷ []) (tokens_of new (t ∷ [])) r p u.1 refl;
  }

  went : (at new : List Text) (e now : Expander) (fed out : List Token) → IsReached at e fed out → Steps at new macros e now step.More → IsReached new now fed out
  went at new e now fed out r s = record {
    grows = grows_then names at new r.grows s.1;
    from = s.2.0 ∙ r.from;
    to = s.2.1 ∙ r.to;
    follows = λ more q.
        let p : e.machine.finished ≡ true → more ≡ [] = λ f. q (s.2.3 ∙ f) in
        subst (λ o. Follows new now fed o more) (append-nil out) (used at new e now fed out more [] [] r p (s.0 more p) refl);
  }

  grown : (at new : List Text) (e : Expander) (fed out : List Token) → IsReached at e fed out → Grows at new → AreMacros at macros → IsRunning at macros e → e.fault ≡ None → IsReached new e fed out
  grown at new e fed out r g known run f = record {
    grows = grows_then names at new r.grows g;
    from = r.from;
    to = r.to;
    follows = λ more q.
        let x = r.follows more q in
        record { shown = x.shown; events = x.events; out_is = x.out_is; gives = x.gives ∙ ap (leads x.shown x.events) (sym (left_later at new g macros e more known run f)); seen = x.seen };
  }

  finished : (at : List Text) (e now : Expander) (fed out : List Token) → IsReached at e fed out → now ≡ record e { machine = record e.machine { finished = true } } → IsReached at now fed out
  finished at e now fed out r e1 = subst (λ n. IsReached at n fed out) (sym e1) (record {
    grows = r.grows;
    from = r.from;
    to = r.to;
    follows = λ more q.
        let f = r.follows more (λ _. q refl) in
        record { shown = f.shown; events = f.events; out_is = f.out_is; gives = f.gives; seen = f.seen };
  })

  reached : {at : List Text} {e : Expander} {fed out : List Token} → Run macros names first at e fed out → IsReached at e fed out
  reached Begins = begun
  reached (Fed {at} {e} {fed} {out} run tokens now n k) = fed_more at e now fed out tokens (reached run) n k
  reached (Gives {at} {e} {fed} {out} run t new now s) = gave at new e now fed out t (reached run) s
  reached (Goes {at} {e} {fed} {out} run new now s) = went at new e now fed out (reached run) s
  reached (Grown {at} {e} {fed} {out} run new g known runs f) = grown at new e fed out (reached run) g known runs f
  reached (Finishes {at} {e} {fed} {out} run now k) = finished at e now fed out (reached run) k

pub gives_the_expansion : GivesTheExpansion
gives_the_expansion macros names at new old_name new_name file work first e now fed out fresh a b run s =
    let watched : IsNamed names first.machine.notes.from × IsNamed names first.machine.notes.to = (subst (IsNamed names) (sym fresh.watched.0) a, subst (IsNamed names) (sym fresh.watched.1) b) in
    let r = reached macros names first watched run in
    let f = r.follows [] (λ _. refl) in
    let z = s.0 [] (λ _. refl) in (
      f.shown,
      f.events,
      ap (λ ts. expand (table_of names macros (text_of names file)) ts (LIMIT - work)) (sym (append-nil fed)) ∙ sym (fresh.gives names macros (fed ++ [])) ∙ f.gives ∙ ap (leads f.shown f.events) z.2
          ∙ ap (λ l. Gave l (LIMIT - e.machine.used) (f.events ++ [])) (append-nil f.shown) ∙ ap (Gave f.shown (LIMIT - e.machine.used)) (append-nil f.events),
      f.out_is,
      f.seen ∙ ap (λ l. l ++ noted (watch_of names first.machine.notes) f.events) fresh.seen,
    )
