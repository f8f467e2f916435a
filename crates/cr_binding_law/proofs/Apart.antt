-- In a unit without conflicts no declaration that is renamed meets one of the new name.
use Rattle.std.specs.Prelude.{◌≡◌, ◌⊎◌, ℕ, zero, suc, ◌+◌, ◌<◌, ◌≤◌, Bool, true, false, ltb, Some, option_map, List, [], ◌∷◌, take, drop, slice_get}
use Rattle.std.proofs.Common.{refl, sym, ◌∙◌, ap, inl, inr, arith}
use Rattle.std.proofs.lemmas.Bool.{ltb-true, lt-ltb}
use Rattle.std.proofs.lemmas.List.{take-append-drop}
use Rattle.std.proofs.lemmas.Option.{slice_get_within}
use Rattle.cr_base.specs.declared.Name.{Name}
use Rattle.cr_scope.specs.Declarations.{Flat}
use Rattle.cr_scope.specs.Linkage.{has_linkage}
use Rattle.cr_capture.specs.declared.Mention.TheVariants as mention
use Rattle.cr_capture.specs.Renaming.{IsRenaming, IsFree}
use Rattle.cr_capture.proofs.Renamed.{numbered}
use Rattle.cr_binding.specs.Source.{Source, name_at}
use Rattle.cr_binding.specs.State.{Declaration, State}
use Rattle.cr_binding.specs.Entities.{entry}
use Rattle.cr_binding.specs.UnitConflicts.{scopes_at}
use Rattle.cr_binding.specs.ActionsStay.{declared_by}
use Rattle.cr_binding.specs.FreeUnits.{IsFreeUnit}
use Rattle.cr_binding.specs.BindingGrows.{Extends}
use Rattle.cr_binding.proofs.Renaming.{entry_found, not_beside, not_linked}
use Rattle.cr_binding_law.specs.Renaming.{IsRenamed, AreEntities}
use Rattle.cr_binding_law.proofs.Renamed.{Laws, renaming}

-- two declarations of which one name would be a fault, or one entity
abbrev pub Meet : Declaration → Declaration → Type 0
Meet d e =
    ((d.path ≡ e.path) × (d.space ≡ e.space)) ⊎ ((has_linkage d.linkage ≡ true) × (has_linkage e.linkage ≡ true))

pub front : {A : Type 0} (n : ℕ) (xs : List A) → Extends (take n xs) xs
front n xs = (drop n xs, sym (take-append-drop n xs))

pub in_front : {A : Type 0} (xs : List A) (n i : ℕ) (x : A) → i < n → slice_get xs i ≡ Some x → slice_get (take n xs) i ≡ Some x
in_front xs zero i x w h = absurd (omega (arith, w))
in_front [] (suc n) i x w h = cc
in_front (y ∷ xs) (suc n) zero x w h = h
in_front (y ∷ xs) (suc n) (suc i) x w h = in_front xs n i x (omega (arith, w)) h

module _ (law : Laws) (class : ℕ → Bool) (old new : Name) (t u : Source) (ren : IsRenamed class old new t u) (end : State) (ents : AreEntities class t end) (free : IsFreeUnit class old new t end) where
  module _ (c : ℕ) (x : Declaration) (at_c : slice_get end.declarations c ≡ Some x) where
    abbrev then_scopes : Flat
    then_scopes = scopes_at t end [] (c + 1)

    own_free : IsFree (declared_by class) then_scopes old new (mention.Declared (numbered c))
    own_free =
        law.declarations class old new t end free then_scopes (numbered c) (slice_get_within end.declarations c x at_c) refl

    of : IsRenaming (declared_by class) old new then_scopes.entries
    of =
        renaming law class old new t u ren end ents free (take (c + 1) end.declarations) (front (c + 1) end.declarations)

    found : (i : ℕ) (d : Declaration) → i ≤ c → slice_get end.declarations i ≡ Some d → slice_get then_scopes.entries i ≡ Some (entry t d)
    found i d w at =
        sym (entry_found t (take (c + 1) end.declarations) i)
        ∙ ap (λ o. option_map (entry t) o) (in_front end.declarations (c + 1) i d (omega (arith, w)) at)

    -- two declarations up to x, of which x is one
    apart_by : (i j : ℕ) (d e : Declaration) → i ≤ c → j ≤ c → ((numbered c ≡ numbered i) × (x ≡ d)) ⊎ ((numbered c ≡ numbered j) × (x ≡ e)) → slice_get end.declarations i ≡ Some d → slice_get end.declarations j ≡ Some e → class d.token ≡ true → name_at t e.token ≡ new → Meet d e → ⊥
    apart_by i j d e wi wj one at_d at_e cd ne (inl h) =
        not_beside (declared_by class) old new then_scopes (numbered c) (entry t x) of (found c x (omega arith) at_c) own_free i j (entry t d) (entry t e) (found i d wi at_d) (found j e wj at_e) (which one) cd (ren.spelled d.token cd) ne h.0 h.1
      where
        which : ((numbered c ≡ numbered i) × (x ≡ d)) ⊎ ((numbered c ≡ numbered j) × (x ≡ e)) → (numbered c ≡ numbered i) ⊎ (numbered c ≡ numbered j)
        which (inl o) = inl o.0
        which (inr o) = inr o.0
    apart_by i j d e wi wj one at_d at_e cd ne (inr h) =
        not_linked (declared_by class) old new then_scopes (numbered c) (entry t x) of (found c x (omega arith) at_c) own_free i j (entry t d) (entry t e) (found i d wi at_d) (found j e wj at_e) (named one) (has one) cd (ren.spelled d.token cd) ne h.0 h.1
      where
        named : ((numbered c ≡ numbered i) × (x ≡ d)) ⊎ ((numbered c ≡ numbered j) × (x ≡ e)) → (name_at t x.token ≡ old) ⊎ (name_at t x.token ≡ new)
        named (inl o) = inl (ap (λ (z : Declaration). name_at t z.token) o.1 ∙ ren.spelled d.token cd)
        named (inr o) = inr (ap (λ (z : Declaration). name_at t z.token) o.1 ∙ ne)

        has : ((numbered c ≡ numbered i) × (x ≡ d)) ⊎ ((numbered c ≡ numbered j) × (x ≡ e)) → has_linkage x.linkage ≡ true
        has (inl o) = ap (λ (z : Declaration). has_linkage z.linkage) o.1 ∙ h.0
        has (inr o) = ap (λ (z : Declaration). has_linkage z.linkage) o.1 ∙ h.1

  pub apart : (i j : ℕ) (d e : Declaration) → slice_get end.declarations i ≡ Some d → slice_get end.declarations j ≡ Some e → class d.token ≡ true → name_at t e.token ≡ new → Meet d e → ⊥
  apart i j d e at_d at_e cd ne meet = by (ltb i j) refl
    where
      not_below : ltb i j ≡ false → j ≤ i
      not_below f = let no : i < j → ⊥ = λ w. differ f (lt-ltb i j w) in omega (arith, no)
        where
          differ : ltb i j ≡ false → ltb i j ≡ true → ⊥
          differ f e = cc

      by : (b : Bool) → ltb i j ≡ b → ⊥
      by true w =
          let l : i < j = ltb-true i j w in
          apart_by j e at_e i j d e (omega (arith, l)) (omega arith) (inr (refl, refl)) at_d at_e cd ne meet
      by false w =
          apart_by i d at_d i j d e (omega arith) (not_below w) (inl (refl, refl)) at_d at_e cd ne meet
