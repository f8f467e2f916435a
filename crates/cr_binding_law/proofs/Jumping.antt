-- Labels mean the same after a renaming.
use Rattle.std.specs.Prelude.{◌≡◌, ◌⊎◌, ℕ, ◌<◌, Bool, true, eqb, if◌then◌else◌, Option, Some, None, is_some, List, [], ◌∷◌, length, slice_get, Contains}
use Rattle.std.proofs.Common.{refl, sym, ◌∙◌, ap, subst, inl, inr, arith}
use Rattle.std.proofs.lemmas.Bool.{eqb-true}
use Rattle.cr_base.specs.declared.Name.{Name}
use Rattle.cr_base.specs.declared.cause.IllCause.{IllCause}
use Rattle.cr_base.specs.declared.cause.IllCause.TheVariants as cause
use Rattle.cr_scope.specs.declared.Space.TheVariants as space
use Rattle.cr_scope.specs.declared.DeclNo.{DeclNo}
use Rattle.cr_scope.specs.Declarations.{Entry, number, depth, is_prefix}
use Rattle.cr_scope.specs.Meaning.{IsLookup}
use Rattle.cr_scope.proofs.Paths.{and_both}
use Rattle.cr_capture.specs.declared.Mention.TheVariants as mention
use Rattle.cr_capture.specs.Conflicts.{Pair, IsCaptured, IsHidden}
use Rattle.cr_capture.specs.Renaming.{IsFree}
use Rattle.cr_capture.proofs.Renamed.{numbered, found_at}
use Rattle.cr_binding.specs.Source.{Source, name_at}
use Rattle.cr_binding.specs.State.{Declaration, Use, GoesTo, State}
use Rattle.cr_binding.specs.Entities.{entry}
use Rattle.cr_binding.specs.Declaring.{failed, used, meaning_here}
use Rattle.cr_binding.specs.Scoping.{unless_failed, jump_to, all_jumps}
use Rattle.cr_binding.specs.ActionsStay.{declared_by, entries_of, scopes_of}
use Rattle.cr_binding.specs.FreeUnits.{IsFreeUnit}
use Rattle.cr_binding.specs.BindingGrows.{Extends, Grows}
use Rattle.cr_binding.specs.BindingStays.{MeansAlike, JumpAlike}
use Rattle.cr_binding.proofs.Asking.{declaration_of}
use Rattle.cr_binding.proofs.Growing.{followed, jumps_grow}
use Rattle.cr_binding_law.specs.Renaming.{IsRenamed, AreEntities}
use Rattle.cr_binding_law.proofs.Growth.{still_at, get_contains, last_there}
use Rattle.cr_binding_law.proofs.Renamed.{Laws, denoted_alike}
use Rattle.cr_binding_law.proofs.Apart.{apart}
use Rattle.cr_binding_law.proofs.Acting.{some_not}

-- two scopes of one depth on a path are one
one_path : (p q r : List ℕ) → is_prefix p r ≡ true → is_prefix q r ≡ true → length p ≡ length q → p ≡ q
one_path [] [] r hp hq e = refl
one_path [] (b ∷ q) r hp hq e = absurd (omega (arith, e))
one_path (a ∷ p) [] r hp hq e = absurd (omega (arith, e))
one_path (a ∷ p) (b ∷ q) [] hp hq e = cc
one_path (a ∷ p) (b ∷ q) (c ∷ r) hp hq e =
    let x : (eqb a c ≡ true) × (is_prefix p r ≡ true) = and_both (eqb a c) (is_prefix p r) hp in
    let y : (eqb b c ≡ true) × (is_prefix q r ≡ true) = and_both (eqb b c) (is_prefix q r) hq in
    ap (λ k. k ∷ p) (eqb-true a c x.0 ∙ sym (eqb-true b c y.0)) ∙ ap (λ l. b ∷ l) (one_path p q r x.1 y.1 (omega (arith, e)))

module _ (law : Laws) (class : ℕ → Bool) (old new : Name) (t u : Source) (ren : IsRenamed class old new t u) (end : State) (ents : AreEntities class t end) (free : IsFreeUnit class old new t end) (labels : (d : Declaration) → Contains end.declarations d → d.space ≡ space.Label → length d.path ≡ 1) where
  -- a declaration of a state
  module _ (s : State) (more : Extends s.declarations end.declarations) where
    abbrev There : ℕ → Entry → Type 0
    There k e = (d : Declaration) × (slice_get end.declarations k ≡ Some d) × (entry t d ≡ e)

    there : (k : ℕ) (e : Entry) → slice_get (entries_of t s) k ≡ Some e → There k e
    there k e at =
        let c : (c : Declaration) × (slice_get s.declarations k ≡ Some c) × (entry t c ≡ e) = declaration_of t s.declarations k e at in
        (c.0, still_at s.declarations end.declarations k c.0 more c.1, c.2)

    -- a label that is visible stands in the function
    label_depth : (k : ℕ) (e : Entry) → There k e → e.decl.space ≡ space.Label → depth e ≡ 1
    label_depth k e d is =
        ap depth (sym d.2)
        ∙ labels d.0 (get_contains end.declarations k d.0 d.1) (ap (λ (x : Entry). x.decl.space) d.2 ∙ is)

    module _ (i k : ℕ) (e : Entry) (is : IsLookup s.present space.Label (name_at t i) (entries_of t s) k e) where
      not_captured : (d : DeclNo) → IsCaptured (scopes_of t s) old new space.Label (name_at t i) (Some (numbered k)) d → ⊥
      not_captured d c =
          let itself : There (number d) c.itself = there (number d) c.itself c.seen.there in
          let own : There k c.deeper.0 = there k c.deeper.0 c.deeper.1 in
          let same : Some c.deeper.0 ≡ Some e = sym c.deeper.1 ∙ is.seen.there in
          let g : c.deeper.0 ≡ e = one_of same in
          let a : depth c.itself ≡ 1 = label_depth (number d) c.itself itself c.seen.in_space in
          let b : depth c.deeper.0 ≡ 1 = ap depth g ∙ label_depth k e (there k e is.seen.there) is.seen.in_space in
          let l : depth c.deeper.0 < depth c.itself = c.deeper.2 in
          omega (arith, a, b, l)
        where
          one_of : {x y : Entry} → Some x ≡ Some y → x ≡ y
          one_of e = cc

      not_hidden : (d : DeclNo) (g : Entry) → IsHidden (scopes_of t s) old new space.Label (name_at t i) (Some (numbered k)) d → slice_get (entries_of t s) (number d) ≡ Some g → class g.decl.token ≡ true → ⊥
      not_hidden d g h at cls =
          let same : number d ≡ k = ap number h.meant in
          let a : There k e = there k e is.seen.there in
          let b : There (number h.other) h.over = there (number h.other) h.over h.seen.there in
          let own : e ≡ g = one_of (sym is.seen.there ∙ ap (slice_get (entries_of t s)) (sym same) ∙ at) in
          let path : e.path ≡ h.over.path = one_path e.path h.over.path s.present is.seen.visible h.seen.visible (label_depth k e a is.seen.in_space ∙ sym (label_depth (number h.other) h.over b h.seen.in_space)) in
          apart law class old new t u ren end ents free k (number h.other) a.0 b.0 a.1 b.1
          (ap (λ (x : Entry). class x.decl.token) a.2 ∙ ap (λ (x : Entry). class x.decl.token) own ∙ cls)
          (ap (λ (x : Entry). x.decl.name) b.2 ∙ h.seen.named)
          (inl (ap (λ (x : Entry). x.path) a.2 ∙ path ∙ ap (λ (x : Entry). x.path) (sym b.2), ap (λ (x : Entry). x.decl.space) a.2 ∙ is.seen.in_space ∙ sym h.seen.in_space ∙ ap (λ (x : Entry). x.decl.space) (sym b.2)))
        where
          one_of : {x y : Entry} → Some x ≡ Some y → x ≡ y
          one_of e = cc

      label_free : IsFree (declared_by class) (scopes_of t s) old new (mention.Named space.Label (name_at t i) i (Some (numbered k)))
      label_free d token g conflict at cls = by conflict.2
        where
          same : d ≡ conflict.0
          same = one_of (ap (λ (p : Pair). p.0) conflict.1)
            where
              one_of : {a b : DeclNo} → Some a ≡ Some b → a ≡ b
              one_of e = cc

          by : IsCaptured (scopes_of t s) old new space.Label (name_at t i) (Some (numbered k)) conflict.0 ⊎ IsHidden (scopes_of t s) old new space.Label (name_at t i) (Some (numbered k)) conflict.0 → ⊥
          by (inl c) = not_captured conflict.0 c
          by (inr h) =
              not_hidden conflict.0 g h (ap (λ (x : DeclNo). slice_get (entries_of t s) (number x)) (sym same) ∙ at) cls

  label_alike : (s : State) → Extends s.declarations end.declarations → (i k : ℕ) → meaning_here t space.Label i s ≡ Some k → Contains end.uses (GoesTo i k) → MeansAlike t u s space.Label i
  label_alike s more i k found used =
      let f : (e : Entry) × IsLookup s.present space.Label (name_at t i) (entries_of t s) k e = found_at s.present space.Label (name_at t i) (entries_of t s) law.means k found in
      denoted_alike law class old new t u ren end ents free s more space.Label i k found (label_free s more i k f.0 f.1) (λ d at. ents.uses (GoesTo i k) used d at)

  -- ---- the jumps of a function

  faulty : (is : List ℕ) (s : State) (f : IllCause × ℕ) → s.fault ≡ Some f → (all_jumps t is s).fault ≡ None → ⊥
  faulty [] s f e h = absurd (some_not f (sym e ∙ h))
  faulty (i ∷ is) s f e h =
      faulty is (unless_failed s (jump_to (meaning_here t space.Label i s) i s)) f (ap (λ (x : State). x.fault) (ap (λ o. if is_some o then s else jump_to (meaning_here t space.Label i s) i s) e) ∙ e) h

  same_jumps : (x : Use) (is : List ℕ) (s : State) → JumpAlike t u (used x s) is → JumpAlike t u s is
  same_jumps x [] s h = h
  same_jumps x (i ∷ is) s h = (h.0, same_jumps x is s h.1)

  pub jumps_alike : (is : List ℕ) (s : State) → s.fault ≡ None → Grows s end → (all_jumps t is s).fault ≡ None → Grows (all_jumps t is s) end → JumpAlike t u s is
  jumps_alike [] s sound more h g = tt
  jumps_alike (i ∷ is) s sound more h g =
      by (meaning_here t space.Label i s) refl (λ k h g. jumps_alike is (used (GoesTo i k) s) sound (uses_grow k h g) h g)
      (ap (λ (x : State). (all_jumps t is x).fault) (sym done) ∙ h) (subst (λ x. Grows (all_jumps t is x) end) done g)
    where
      done : unless_failed s (jump_to (meaning_here t space.Label i s) i s) ≡ jump_to (meaning_here t space.Label i s) i s
      done = ap (λ o. if is_some o then s else jump_to (meaning_here t space.Label i s) i s) sound

      uses_grow : (k : ℕ) → (all_jumps t is (used (GoesTo i k) s)).fault ≡ None → Grows (all_jumps t is (used (GoesTo i k) s)) end → Grows (used (GoesTo i k) s) end
      uses_grow k h g = followed (used (GoesTo i k) s) (all_jumps t is (used (GoesTo i k) s)) end (jumps_grow t is (used (GoesTo i k) s)) g

      by : (k : Option ℕ) → meaning_here t space.Label i s ≡ k → ((k : ℕ) → (all_jumps t is (used (GoesTo i k) s)).fault ≡ None → Grows (all_jumps t is (used (GoesTo i k) s)) end → JumpAlike t u (used (GoesTo i k) s) is) → (all_jumps t is (jump_to k i s)).fault ≡ None → Grows (all_jumps t is (jump_to k i s)) end → JumpAlike t u s (i ∷ is)
      by None found rest h g = absurd (faulty is (failed cause.Unresolved i s) (cause.Unresolved, i) refl h)
      by (Some k) found rest h g =
          (label_alike s more.declarations i k found (last_there s.uses end.uses (GoesTo i k) (uses_grow k h g).uses), same_jumps (GoesTo i k) is s (rest k h g))
