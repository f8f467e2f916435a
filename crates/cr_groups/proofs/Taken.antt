-- The rows of the first declarations.
use Rattle.std.proofs.Common.{◌≡◌, ℕ, zero, suc, ◌<◌, true, ◌&&◌, eqb, Some, List, [], ◌∷◌, map, take, refl, sym, ap, ◌∙◌, arith, true≢false}
use Rattle.std.specs.Prelude.{slice_get}
use Rattle.std.specs.Cmp.{both_ways}
use Rattle.std.proofs.lemmas.Bool.{eqb-true, eq-eqb}
use Rattle.cr_base.specs.declared.token.Name.{Name}
use Rattle.cr_scope.specs.declared.Space.{Space}
use Rattle.cr_scope.specs.declared.Space.TheVariants as space
use Rattle.cr_scope.specs.Declarations.{same_space, same_name}
use Rattle.cr_scope.proofs.Paths.{and_both}
use Rattle.cr_declared.specs.declared.rows.Row.{Row}
use Rattle.cr_declared.specs.declared.rows.Slot.{Slot}
use Rattle.cr_declared.specs.Rows.{slot, same_slot, slot_of, is_in}

pub mapped : {A B : Type 0} (g : A → B) (xs : List A) (j : ℕ) (e : B) → slice_get (map g xs) j ≡ Some e → (x : A) × (slice_get xs j ≡ Some x) × (e ≡ g x)
mapped g [] j e h = cc
mapped g (x ∷ xs) zero e h = (x, refl, cc)
mapped g (x ∷ xs) (suc j) e h = mapped g xs j e h

pub to_mapped : {A B : Type 0} (g : A → B) (xs : List A) (j : ℕ) (x : A) → slice_get xs j ≡ Some x → slice_get (map g xs) j ≡ Some (g x)
to_mapped g [] j x h = cc
to_mapped g (y ∷ ys) zero x h = (let e : y ≡ x = cc in ap (λ z. Some (g z)) e)
to_mapped g (y ∷ ys) (suc j) x h = to_mapped g ys j x h

pub taken : {A B : Type 0} (g : A → B) (n : ℕ) (xs : List A) (j : ℕ) (e : B) → slice_get (map g (take n xs)) j ≡ Some e → (j < n) × (slice_get (map g xs) j ≡ Some e)
taken g zero xs j e h = cc
taken g (suc n) [] j e h = cc
taken g (suc n) (x ∷ xs) zero e h = (omega arith, h)
taken g (suc n) (x ∷ xs) (suc j) e h =
    let r : (j < n) × (slice_get (map g xs) j ≡ Some e) = taken g n xs j e h in
    (omega (arith, r.0), r.1)

pub to_taken : {A B : Type 0} (g : A → B) (n : ℕ) (xs : List A) (j : ℕ) (e : B) → j < n → slice_get (map g xs) j ≡ Some e → slice_get (map g (take n xs)) j ≡ Some e
to_taken g zero xs j e lt h = absurd (omega (arith, lt))
to_taken g (suc n) [] j e lt h = cc
to_taken g (suc n) (x ∷ xs) zero e lt h = h
to_taken g (suc n) (x ∷ xs) (suc j) e lt h = to_taken g n xs j e (omega (arith, lt)) h

-- ---- slots

pub spaces_same : (a b : Space) → same_space a b ≡ true → a ≡ b
spaces_same space.Label space.Label h = refl
spaces_same space.Tag space.Tag h = refl
spaces_same space.Ordinary space.Ordinary h = refl
spaces_same _ _ h = absurd (true≢false (sym h))

pub space_itself : (a : Space) → same_space a a ≡ true
space_itself space.Label = refl
space_itself space.Tag = refl
space_itself space.Ordinary = refl

spaces_turned : (a b : Space) → same_space a b ≡ same_space b a
spaces_turned space.Label space.Label = refl
spaces_turned space.Label space.Tag = refl
spaces_turned space.Label space.Ordinary = refl
spaces_turned space.Tag space.Label = refl
spaces_turned space.Tag space.Tag = refl
spaces_turned space.Tag space.Ordinary = refl
spaces_turned space.Ordinary space.Label = refl
spaces_turned space.Ordinary space.Tag = refl
spaces_turned space.Ordinary space.Ordinary = refl

pub eqb_turned : (a b : ℕ) → eqb a b ≡ eqb b a
eqb_turned a b = both_ways (eqb a b) (eqb b a) (λ h. eq-eqb b a (sym (eqb-true a b h))) (λ h. eq-eqb a b (sym (eqb-true b a h)))

pub slots_turned : (a b : Slot) → same_slot a b ≡ same_slot b a
slots_turned a b = λ i. eqb_turned a.path b.path i && (spaces_turned a.space b.space i && eqb_turned a.name.0 b.name.0 i)

pub slots_same : (a b : Slot) → same_slot a b ≡ true → a ≡ b
slots_same a b h =
    let x : (eqb a.path b.path ≡ true) × ((same_space a.space b.space && same_name a.name b.name) ≡ true) = and_both (eqb a.path b.path) (same_space a.space b.space && same_name a.name b.name) h in
    let y : (same_space a.space b.space ≡ true) × (same_name a.name b.name ≡ true) = and_both (same_space a.space b.space) (same_name a.name b.name) x.1 in
    let p : a.path ≡ b.path = eqb-true a.path b.path x.0 in
    let s : a.space ≡ b.space = spaces_same a.space b.space y.0 in
    let n : a.name.0 ≡ b.name.0 = eqb-true a.name.0 b.name.0 y.1 in
    λ i. record { path = p i; space = s i; name = record { 0 = n i } }

pub slot_is_itself : (a : Slot) → same_slot a a ≡ true
slot_is_itself a =
    ap (λ z. z && (same_space a.space a.space && same_name a.name a.name)) (eq-eqb a.path a.path refl)
    ∙ ap (λ z. z && same_name a.name a.name) (space_itself a.space)
    ∙ eq-eqb a.name.0 a.name.0 refl

pub in_parts : (q : ℕ) (sp : Space) (name : Name) (x : Row) → is_in (slot q sp name) x ≡ true → (q ≡ x.path) × (x.decl.space ≡ sp) × (x.decl.name ≡ name)
in_parts q sp name x h =
    let e : slot q sp name ≡ slot_of x = slots_same (slot q sp name) (slot_of x) h in
    (ap (λ (z : Slot). z.path) e, ap (λ (z : Slot). z.space) (sym e), ap (λ (z : Slot). z.name) (sym e))

pub parts_in : (q : ℕ) (sp : Space) (name : Name) (x : Row) → x.path ≡ q → x.decl.space ≡ sp → x.decl.name ≡ name → is_in (slot q sp name) x ≡ true
parts_in q sp name x p s n =
    let e : slot_of x ≡ slot q sp name = (λ i. slot (p i) (s i) (n i)) in
    ap (λ z. same_slot z (slot_of x)) (sym e) ∙ slot_is_itself (slot_of x)
