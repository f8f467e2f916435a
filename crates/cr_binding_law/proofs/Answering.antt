-- What was asked in a unit has the same answers after a renaming.
use Rattle.std.specs.Prelude.{◌≡◌, ◌⊎◌, ℕ, zero, suc, ◌<◌, Bool, true, false, cond, ◌==◌, Some, None, option_and_then, option_map, List, [], ◌∷◌, ◌++◌, length, map, take, slice_get, slice_index_or, Contains}
use Rattle.std.specs.List.{find}
use Rattle.std.proofs.Common.{refl, sym, ◌∙◌, ap, subst, inl, inr, arith}
use Rattle.std.proofs.lemmas.Bool.{eqb-true, eq-eqb}
use Rattle.cr_base.specs.declared.Name.{Name}
use Rattle.cr_scope.specs.declared.Space.{Space}
use Rattle.cr_scope.specs.declared.Space.TheVariants as space
use Rattle.cr_scope.specs.declared.DeclNo.{DeclNo}
use Rattle.cr_scope.specs.Declarations.{Entry, Flat, number}
use Rattle.cr_scope.specs.Meaning.{Sees}
use Rattle.cr_scope.proofs.Paths.{prefix_more}
use Rattle.cr_capture.specs.declared.Mention.{Mention}
use Rattle.cr_capture.specs.declared.Mention.TheVariants as mention
use Rattle.cr_capture.specs.Conflicts.{Pair, IsConflict, IsCaptured, IsHidden}
use Rattle.cr_capture.specs.Renaming.{IsFree, AreAccepted, IsFreeParameter}
use Rattle.cr_capture.proofs.Renamed.{numbered}
use Rattle.cr_binding.specs.Source.{Source, name_at, text_at, is_built_in}
use Rattle.cr_binding.specs.State.{Declaration, LookedUp, IsParameter, IsBuiltIn, WasAsked, State, start}
use Rattle.cr_binding.specs.Entities.{entry}
use Rattle.cr_binding.specs.UnitConflicts.{scopes_at}
use Rattle.cr_binding.specs.WellFormed.{is_some_typedef, is_typedef_name, AreAnswered}
use Rattle.cr_binding.specs.ActionsStay.{declared_by, scopes_of}
use Rattle.cr_binding.specs.FreeUnits.{IsFreeUnit}
use Rattle.cr_binding.specs.BindingGrows.{Extends}
use Rattle.cr_binding.specs.BindingStays.{MeansAlike}
use Rattle.cr_binding.proofs.Asking.{declaration_of}
use Rattle.cr_binding.proofs.Renaming.{entry_found}
use Rattle.cr_binding_law.specs.Renaming.{HasNoOwnMeaning, IsRenamed, AreEntities}
use Rattle.cr_binding_law.specs.AskedIdentifiers.{IsLookedUpLater, IsParameterLater, IsSuppliedLater, AsksAreUsed}
use Rattle.cr_binding_law.proofs.Growth.{still_at}
use Rattle.cr_binding.specs.Expressions.{is_function_name}
use Rattle.cr_binding_law.proofs.Texts.{third_alike, third_by}
use Rattle.cr_binding_law.proofs.Apart.{front}
use Rattle.cr_binding_law.proofs.Renamed.{Laws, respelled, renaming, all_free, denoted_alike}

-- what is seen from a scope is seen from those inside it
sees_within : (p q : List ℕ) (sp : Space) (name : Name) (es : List Entry) (j : ℕ) (e : Entry) → Sees p sp name es j e → Sees (p ++ q) sp name es j e
sees_within p q sp name es j e h =
    record { there = h.there; visible = prefix_more e.path p q h.visible; in_space = h.in_space; named = h.named }

-- so a mention without a conflict there has none here
free_outside : (class : Entry → Bool) (old new : Name) (p q : List ℕ) (es : List Entry) (sp : Space) (name : Name) (i : ℕ) (k : DeclNo) → IsFree class (record { scopes = []; present = p ++ q; entries = es }) old new (mention.Named sp name i (Some k)) → IsFree class (record { scopes = []; present = p; entries = es }) old new (mention.Named sp name i (Some k))
free_outside class old new p q es sp name i k h d token e conflict at cls =
    h d token e (conflict.0, conflict.1, by conflict.2) at cls
  where
    by : IsCaptured (record { scopes = []; present = p; entries = es }) old new sp name (Some k) conflict.0 ⊎ IsHidden (record { scopes = []; present = p; entries = es }) old new sp name (Some k) conflict.0 → IsCaptured (record { scopes = []; present = p ++ q; entries = es }) old new sp name (Some k) conflict.0 ⊎ IsHidden (record { scopes = []; present = p ++ q; entries = es }) old new sp name (Some k) conflict.0
    by (inl c) =
        inl (record { mentions = c.mentions; itself = c.itself; seen = sees_within p q sp old es (number conflict.0) c.itself c.seen; deeper = c.deeper })
    by (inr c) =
        inr (record { mentions = c.mentions; meant = c.meant; itself = c.itself; there = c.there; other = c.other; over = c.over; seen = sees_within p q sp new es (number c.other) c.over c.seen; inside = c.inside })

-- a declaration at a token is found by the token
token_found : (i : ℕ) (ds : List Declaration) (d : Declaration) (k : ℕ) → k < length ds → slice_index_or ds k d ≡ d → d.token ≡ i → (e : Declaration) × (find (λ d. d.token == i) ds ≡ Some e) × (e.token ≡ i)
token_found i [] d k w h own = absurd (omega (arith, w))
token_found i (x ∷ ds) d zero w h own =
    let k : (x.token == i) ≡ true = eq-eqb x.token i (ap (λ (z : Declaration). z.token) h ∙ own) in
    (x, ap (λ b. cond b (Some x) (find (λ d. d.token == i) ds)) k, ap (λ (z : Declaration). z.token) h ∙ own)
token_found i (x ∷ ds) d (suc k) w h own =
    by (x.token == i) refl (token_found i ds d k (omega (arith, w)) h own)
  where
    by : (b : Bool) → (x.token == i) ≡ b → ((e : Declaration) × (find (λ d. d.token == i) ds ≡ Some e) × (e.token ≡ i)) → (e : Declaration) × (cond b (Some x) (find (λ d. d.token == i) ds) ≡ Some e) × (e.token ≡ i)
    by true q rest = (x, refl, eqb-true x.token i q)
    by false q rest = rest

accepted_front : (t : Source) (ds : List Declaration) (n : ℕ) → AreAccepted (map (entry t) ds) → AreAccepted (map (entry t) (take n ds))
accepted_front t ds n h i j e g w at_e at_g = h i j e g w (at i e at_e) (at j g at_g)
  where
    at : (k : ℕ) (x : Entry) → slice_get (map (entry t) (take n ds)) k ≡ Some x → slice_get (map (entry t) ds) k ≡ Some x
    at k x there =
        let c : (c : Declaration) × (slice_get (take n ds) k ≡ Some c) × (entry t c ≡ x) = declaration_of t (take n ds) k x there in
        sym (entry_found t ds k) ∙ ap (λ o. option_map (entry t) o) (still_at (take n ds) ds k c.0 (front n ds) c.1) ∙ ap Some c.2

module _ (law : Laws) (class : ℕ → Bool) (old new : Name) (t u : Source) (ren : IsRenamed class old new t u) (end : State) (ents : AreEntities class t end) (free : IsFreeUnit class old new t end) (accepted : AreAccepted (map (entry t) end.declarations)) where
  -- the place of an ask
  abbrev asked_in : List ℕ → ℕ → State
  asked_in path before = record start { present = path; declarations = take before end.declarations }

  within : (path : List ℕ) (before : ℕ) → Extends (take before end.declarations) end.declarations
  within path before = front before end.declarations

  looked_answer : (i : ℕ) (path : List ℕ) (before : ℕ) → IsLookedUpLater t end i path before → is_typedef_name u path i (take before end.declarations) ≡ is_typedef_name t path i (take before end.declarations)
  looked_answer i path before l =
      ap (λ k. is_some_typedef (option_and_then (slice_get (take before end.declarations)) k)) means
    where
      fine : IsFree (declared_by class) (scopes_of t (asked_in path before)) old new (mention.Named space.Ordinary (name_at t i) i (Some (numbered l.denoted)))
      fine =
          free_outside (declared_by class) old new path l.inner (map (entry t) (take before end.declarations)) space.Ordinary (name_at t i) i (numbered l.denoted)
          (law.mentions class old new t end free space.Ordinary i (path ++ l.inner) before (numbered l.denoted) l.used)

      means : MeansAlike t u (asked_in path before) space.Ordinary i
      means =
          denoted_alike law class old new t u ren end ents free (asked_in path before) (within path before) space.Ordinary i l.denoted l.means fine
          (λ d at. ents.uses (LookedUp space.Ordinary i (path ++ l.inner) before (Some l.denoted)) l.used d at)

  -- of an ask that was denied
  denied_answer : (i : ℕ) (path : List ℕ) (before : ℕ) (parameter : Bool) → IsFree (declared_by class) (scopes_of t (asked_in path before)) old new (mention.Asked (name_at t i) i parameter) → IsFreeParameter (class i) (scopes_of t (asked_in path before)) old new (name_at t i) i parameter → is_typedef_name t path i (take before end.declarations) ≡ false → is_typedef_name u path i (take before end.declarations) ≡ false
  denied_answer i path before parameter fine itself denied =
      law.denied class old new t u (asked_in path before) i parameter (respelled law class old new t u ren end ents free) (renaming law class old new t u ren end ents free (take before end.declarations) (within path before)) (accepted_front t end.declarations before accepted) (all_free law class old new t u ren end ents free (asked_in path before) (within path before)) fine itself denied

  supplied_answer : (i : ℕ) (path : List ℕ) (before : ℕ) → IsSuppliedLater t end i → is_typedef_name u path i (take before end.declarations) ≡ is_typedef_name t path i (take before end.declarations)
  supplied_answer i path before p =
      ap (λ k. is_some_typedef (option_and_then (slice_get (take before end.declarations)) k))
      (third_alike class old new t u ren (asked_in path before) space.Ordinary i (third_by class old new t u ren i (ents.uses (IsBuiltIn i) p.used) (λ h. own h p.named)))
    where
      differ : (b : Bool) → b ≡ true → b ≡ false → ⊥
      differ true c d = cc
      differ false c d = cc

      own : HasNoOwnMeaning (text_at t i) → (is_built_in (text_at t i) ≡ true) ⊎ (is_function_name (text_at t i) ≡ true) → ⊥
      own h (inl e) = differ (is_built_in (text_at t i)) e h.no_built_in
      own h (inr e) = differ (is_function_name (text_at t i)) e h.no_function_name

  -- the parameter that a token declares has no conflict of its own
  module _ (i : ℕ) (path : List ℕ) (before : ℕ) (was : Contains end.uses (WasAsked i path before false)) (used : Contains end.uses (IsParameter i)) (d : Declaration) (declared : Contains end.declarations d) (own : d.token ≡ i) (cls : class i ≡ true) where
    abbrev here : Flat
    here = scopes_at t end path before

    abbrev What : Mention
    What = mention.Asked (name_at t i) i true

    none_some : {k : DeclNo} → None ≡ Some k → ⊥
    none_some e = cc

    not_own : (token : ℕ) → IsConflict here old new (None, token) What → ⊥
    not_own token conflict = by conflict
      where
        other : (k : DeclNo) (x y : Pair) → x.0 ≡ None → y.0 ≡ Some k → x ≡ y → ⊥
        other k x y hx hy e = none_some (sym hx ∙ ap (λ (p : Pair). p.0) e ∙ hy)

        found : (e : Declaration) × (find (λ d. d.token == i) end.declarations ≡ Some e) × (e.token ≡ i)
        found = token_found i end.declarations d declared.0 declared.1 declared.2 own

        itself : IsConflict here old new (None, token) What → token ≡ i → ⊥
        itself c e =
            free.mentions here What (None, token) found.0 (path, before, was, refl, (refl, refl), used) c
            (ap (λ k. find (λ (d : Declaration). d.token == k) end.declarations) e ∙ found.1) (ap class found.2 ∙ cls)

        by : IsConflict here old new (None, token) What → ⊥
        by (inl (inl c)) = none_some (ap (λ (p : Pair). p.0) c.2)
        by (inl (inr c)) = none_some (ap (λ (p : Pair). p.0) c.3)
        by (inr (inl c)) = none_some (ap (λ (p : Pair). p.0) c.2)
        by (inr (inr c)) = itself (inr (inr c)) (ap (λ (p : Pair). p.1) c.2)

  parameter_answer : (i : ℕ) (path : List ℕ) (before : ℕ) → Contains end.uses (WasAsked i path before false) → (answer : Bool) → IsParameterLater end i answer → is_typedef_name t path i (take before end.declarations) ≡ false → is_typedef_name u path i (take before end.declarations) ≡ false
  parameter_answer i path before was answer p denied =
      denied_answer i path before true (law.asks class old new t end free i path before true was p.used)
      (λ c. (ren.spelled i c, refl, not_own i path before was p.used p.itself p.declared p.own c)) denied

  pub answers_alike : AsksAreUsed t end → AreAnswered t end → AreAnswered u end
  answers_alike used answered i path before answer was =
      by (used i path before answer was)
    where
      right : answer ≡ is_typedef_name t path i (take before end.declarations)
      right = answered i path before answer was

      denied : answer ≡ false → Contains end.uses (WasAsked i path before false) × (is_typedef_name t path i (take before end.declarations) ≡ false)
      denied e = (subst (λ b. Contains end.uses (WasAsked i path before b)) e was, sym right ∙ e)

      by : IsLookedUpLater t end i path before ⊎ (IsParameterLater end i answer ⊎ IsSuppliedLater t end i) → answer ≡ is_typedef_name u path i (take before end.declarations)
      by (inl l) = right ∙ sym (looked_answer i path before l)
      by (inr (inl p)) =
          let d = denied p.denied in p.denied ∙ sym (parameter_answer i path before d.0 answer p d.1)
      by (inr (inr p)) = right ∙ sym (supplied_answer i path before p)
