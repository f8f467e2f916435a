-- What the parts of a trace tell is what the trace tells.
use Rattle.std.proofs.Common.{◌≡◌, ◌⊎◌, List, true, refl, sym, subst, inl, inr}
use Rattle.std.specs.FinSet.{contains}
use Rattle.cr_base.specs.declared.token.Place.{Place}
use Rattle.cr_macros.specs.declared.macros.Seen.{Seen}
use Rattle.cr_facts.specs.FactOrder.{Facts}
use Rattle.cr_facts.specs.declared.fact.Fact.{Fact}
use Rattle.cr_facts.specs.declared.fact.Fact.TheVariants as fact
use Rattle.cr_groups.specs.Adding.{Adds}
use Rattle.cr_keeps.specs.UnitFacts.{TraceTells}
use Rattle.cr_trace_facts.specs.Telling.{trace_with, Among, RoleTells, DefinesNew, IsInBody, IsOpaque}

abbrev Parts : List Seen → List Place → List Place → List Place → Fact → Type 0
Parts seen new_macros body_params opaque f =
    ((Among RoleTells seen f ⊎ Among DefinesNew new_macros f) ⊎ Among IsInBody body_params f) ⊎ Among IsOpaque opaque f

module _ (seen : List Seen) (new_macros body_params opaque : List Place) where
  to : (f : Fact) → Parts seen new_macros body_params opaque f → TraceTells (trace_with seen new_macros body_params opaque) f
  to f (inl (inl (inl (s, there, told)))) = subst (TraceTells (trace_with seen new_macros body_params opaque)) (sym told.1) (told.0, there)
  to f (inl (inl (inr (p, there, is)))) = subst (TraceTells (trace_with seen new_macros body_params opaque)) (sym is) there
  to f (inl (inr (p, there, is))) = subst (TraceTells (trace_with seen new_macros body_params opaque)) (sym is) there
  to f (inr (p, there, is)) = subst (TraceTells (trace_with seen new_macros body_params opaque)) (sym is) there

  from : (f : Fact) → TraceTells (trace_with seen new_macros body_params opaque) f → Parts seen new_macros body_params opaque f
  from (fact.HasRole p r) h = inl (inl (inl (record { place = p; role = r }, h.1, (h.0, refl))))
  from (fact.NewMacro p) h = inl (inl (inr (p, h, refl)))
  from (fact.BodyParam p) h = inl (inr (p, h, refl))
  from (fact.OpaqueAt p) h = inr (p, h, refl)
  from (fact.Declares k p) h = absurd h
  from (fact.Denotes p k) h = absurd h
  from (fact.OfKind k d) h = absurd h
  from (fact.FileScope k) h = absurd h
  from (fact.MadeDenotes k p) h = absurd h
  from (fact.NewKey k) h = absurd h
  from (fact.Conflict k p) h = absurd h

pub told_all : (seen : List Seen) (new_macros body_params opaque : List Place) (a b c d e : Facts) →
    Adds a b (Among RoleTells seen) → Adds b c (Among DefinesNew new_macros) → Adds c d (Among IsInBody body_params) → Adds d e (Among IsOpaque opaque) →
    Adds a e (TraceTells (trace_with seen new_macros body_params opaque))
told_all seen new_macros body_params opaque a b c d e one two three four f = (there, back)
  where
    there : contains e f ≡ true → (contains a f ≡ true) ⊎ TraceTells (trace_with seen new_macros body_params opaque) f
    there h =
        elim ((four f).0 h) [
          | inr m ↦ inr (to seen new_macros body_params opaque f (inr m))
          | inl k ↦
              elim ((three f).0 k) [
                | inr m ↦ inr (to seen new_macros body_params opaque f (inl (inr m)))
                | inl l ↦
                    elim ((two f).0 l) [
                      | inr m ↦ inr (to seen new_macros body_params opaque f (inl (inl (inr m))))
                      | inl n ↦
                          elim ((one f).0 n) [ inl o ↦ inl o | inr m ↦ inr (to seen new_macros body_params opaque f (inl (inl (inl m)))) ]
                    ]
              ]
        ]

    up : Parts seen new_macros body_params opaque f → contains e f ≡ true
    up (inl (inl (inl m))) = (four f).1 (inl ((three f).1 (inl ((two f).1 (inl ((one f).1 (inr m)))))))
    up (inl (inl (inr m))) = (four f).1 (inl ((three f).1 (inl ((two f).1 (inr m)))))
    up (inl (inr m)) = (four f).1 (inl ((three f).1 (inr m)))
    up (inr m) = (four f).1 (inr m)

    back : (contains a f ≡ true) ⊎ TraceTells (trace_with seen new_macros body_params opaque) f → contains e f ≡ true
    back (inl h) = (four f).1 (inl ((three f).1 (inl ((two f).1 (inl ((one f).1 (inl h)))))))
    back (inr t) = up (from seen new_macros body_params opaque f t)
