-- Where no two declarations clash, a further one clashes with any of them just where it clashes with the last one of its slot,
-- or with the first one of its name that has linkage.
use Rattle.std.proofs.Common.{◌≡◌, inl, inr, ℕ, ◌≤◌, Bool, true, false, not, ◌&&◌, ◌||◌, Some, List, refl, sym, subst, ◌∙◌, arith, true≢false}
use Rattle.std.specs.Prelude.{slice_get}
use Rattle.std.proofs.lemmas.Bool.{cases_lt}
use Rattle.cr_base.specs.declared.Kind.{Kind}
use Rattle.cr_base.specs.declared.Kind.TheVariants as kind
use Rattle.cr_scope.specs.declared.Linkage.{Linkage}
use Rattle.cr_scope.specs.declared.Linkage.TheVariants as linkage
use Rattle.cr_scope.specs.declared.Decl.{Decl}
use Rattle.cr_scope.specs.Declarations.{Entry, same_space, same_name}
use Rattle.cr_scope.specs.Linkage.{has_linkage}
use Rattle.cr_scope.specs.Redeclaration.{same_path, repeats, may_repeat, are_opposite}
use Rattle.cr_declared.specs.Rows.{AreApart}

one_kind : (l : Bool) (a b : Kind) → repeats l a b ≡ true → a ≡ b
one_kind l kind.Function kind.Function h = refl
one_kind l kind.Object kind.Object h = refl
one_kind l kind.Typedef kind.Typedef h = refl
one_kind l kind.Struct kind.Struct h = refl
one_kind l kind.Union kind.Union h = refl
one_kind l kind.Enum kind.Enum h = refl
one_kind l _ _ h = absurd (true≢false (sym h))

both_of : (a b c : Bool) → (a && b) ≡ true → (b && c) ≡ true → (a && c) ≡ true
both_of true true true g h = refl
both_of true true false g h = h
both_of true false c g h = absurd (true≢false (sym g))
both_of false b c g h = absurd (true≢false (sym g))

through_kind : (k : Kind) (a b c : Bool) → repeats (a && b) k k ≡ true → repeats (b && c) k k ≡ true → repeats (a && c) k k ≡ true
through_kind kind.Function a b c g h = both_of a b c g h
through_kind kind.Object a b c g h = both_of a b c g h
through_kind kind.Typedef a b c g h = refl
through_kind kind.Struct a b c g h = refl
through_kind kind.Union a b c g h = refl
through_kind kind.Enum a b c g h = refl
through_kind _ a b c g h = absurd (true≢false (sym g))

-- what may repeat one that may repeat another may repeat that
pub repeat_through : (d e f : Decl) → may_repeat d e ≡ true → may_repeat e f ≡ true → may_repeat d f ≡ true
repeat_through d e f g h =
    let x : d.kind ≡ e.kind = one_kind (has_linkage d.linkage && has_linkage e.linkage) d.kind e.kind g in
    let y : e.kind ≡ f.kind = one_kind (has_linkage e.linkage && has_linkage f.linkage) e.kind f.kind h in
    let g' : repeats (has_linkage d.linkage && has_linkage e.linkage) e.kind e.kind ≡ true = subst (λ k. repeats (has_linkage d.linkage && has_linkage e.linkage) k e.kind ≡ true) x g in
    let h' : repeats (has_linkage e.linkage && has_linkage f.linkage) e.kind e.kind ≡ true = subst (λ k. repeats (has_linkage e.linkage && has_linkage f.linkage) e.kind k ≡ true) (sym y) h in
    let r : repeats (has_linkage d.linkage && has_linkage f.linkage) e.kind e.kind ≡ true = through_kind e.kind (has_linkage d.linkage) (has_linkage e.linkage) (has_linkage f.linkage) g' h' in
    subst (λ k. repeats (has_linkage d.linkage && has_linkage f.linkage) k f.kind ≡ true) (sym x)
    (subst (λ k. repeats (has_linkage d.linkage && has_linkage f.linkage) e.kind k ≡ true) y r)

linkages : (a b c : Linkage) → are_opposite a b ≡ true → has_linkage c ≡ true → are_opposite b c ≡ false → are_opposite a c ≡ true
linkages linkage.Internal linkage.External linkage.External g h k = refl
linkages linkage.External linkage.Internal linkage.Internal g h k = refl
linkages linkage.Internal linkage.External linkage.Internal g h k = absurd (true≢false k)
linkages linkage.External linkage.Internal linkage.External g h k = absurd (true≢false k)
linkages a b linkage.None g h k = absurd (true≢false (sym h))
linkages _ _ _ g h k = absurd (true≢false (sym g))

not_clash : (n p : Bool) (o : Bool) → n ≡ true → (n && (p || o)) ≡ false → (p ≡ false) × (o ≡ false)
not_clash true true o e h = absurd (true≢false h)
not_clash true false o e h = (refl, h)
not_clash false p o e h = absurd (true≢false (sym e))

not_other : (p s r : Bool) → p ≡ true → s ≡ true → (p && (s && not r)) ≡ false → r ≡ true
not_other true true true e f h = refl
not_other true true false e f h = absurd (true≢false h)
not_other true false r e f h = absurd (true≢false (sym f))
not_other false s r e f h = absurd (true≢false (sym e))

false_unless : (b : Bool) → (b ≡ true → ⊥) → b ≡ false
false_unless true f = absurd (f refl)
false_unless false f = refl

module _ (es : List Entry) (apart : AreApart es) (d : Decl) where
  -- a later one of the same slot, which d may not repeat either
  pub clashes_last : (j m : ℕ) (x y : Entry) → slice_get es j ≡ Some x → slice_get es m ≡ Some y → j ≤ m
      → same_name y.decl.name x.decl.name ≡ true → same_path y.path x.path ≡ true → same_space y.decl.space x.decl.space ≡ true
      → may_repeat d x.decl ≡ false → may_repeat d y.decl ≡ false
  clashes_last j m x y at bt le name path space other =
      elim (cases_lt j m) [
        | inl lt ↦ false_unless (may_repeat d y.decl)
            (λ h. true≢false (sym (repeat_through d y.decl x.decl h
            (not_other (same_path y.path x.path) (same_space y.decl.space x.decl.space) (may_repeat y.decl x.decl) path space
            (not_clash (same_name y.decl.name x.decl.name) (same_path y.path x.path && (same_space y.decl.space x.decl.space && not (may_repeat y.decl x.decl))) (are_opposite y.decl.linkage x.decl.linkage) name (apart j m x y at bt lt)).0)) ∙ other))
        | inr ge ↦ (let same : j ≡ m = omega (arith, le, ge) in
            let e : slice_get es m ≡ Some x = subst (λ z. slice_get es z ≡ Some x) same at in
            let f : Some x ≡ Some y = sym e ∙ bt in
            let g : x ≡ y = cc in
            subst (λ z. may_repeat d z.decl ≡ false) g other)
      ]

  -- the first one of the name that has linkage, which is opposite to that of d too
  pub clashes_linked : (i j : ℕ) (x y : Entry) → slice_get es i ≡ Some y → slice_get es j ≡ Some x → i ≤ j
      → same_name x.decl.name y.decl.name ≡ true → has_linkage y.decl.linkage ≡ true
      → are_opposite d.linkage x.decl.linkage ≡ true → are_opposite d.linkage y.decl.linkage ≡ true
  clashes_linked i j x y at bt le name has opposite =
      elim (cases_lt i j) [
        | inl lt ↦ linkages d.linkage x.decl.linkage y.decl.linkage opposite has
            (not_clash (same_name x.decl.name y.decl.name) (same_path x.path y.path && (same_space x.decl.space y.decl.space && not (may_repeat x.decl y.decl))) (are_opposite x.decl.linkage y.decl.linkage) name (apart i j y x at bt lt)).1
        | inr ge ↦ (let same : i ≡ j = omega (arith, le, ge) in
            let e : slice_get es j ≡ Some y = subst (λ z. slice_get es z ≡ Some y) same at in
            let f : Some y ≡ Some x = sym e ∙ bt in
            let g : x ≡ y = cc in
            subst (λ z. are_opposite d.linkage z.decl.linkage ≡ true) g opposite)
      ]
