-- One more row is grouped.
use Rattle.std.proofs.Common.{◌≡◌, ◌⊎◌, inl, inr, ℕ, ◌+◌, ◌<◌, Bool, true, false, Option, Some, None, List, refl, sym, ap, subst, ◌∙◌, arith, true≢false}
use Rattle.std.specs.Prelude.{slice_get, cond}
use Rattle.std.proofs.lemmas.Bool.{cases_lt}
use Rattle.cr_base.specs.declared.token.Name.{Name}
use Rattle.cr_base.specs.declared.token.Tok.{Tok}
use Rattle.cr_declared.specs.declared.rows.Row.{Row}
use Rattle.cr_declared.specs.declared.rows.Slot.{Slot}
use Rattle.cr_groups.specs.declared.groups.Group.{Group}
use Rattle.cr_declared.specs.Rows.{same_slot, slot_of, is_in}
use Rattle.cr_groups.specs.Groups.{find_group}
use Rattle.cr_groups.specs.Rows.{IsOneOf}
use Rattle.cr_groups.proofs.Taken.{slots_same, slot_is_itself}
use Rattle.cr_groups.specs.Built.{group_of, or_new, AddsRow, IsFirst, IsBuilt}

pub slot_itself : (x : Row) → is_in (slot_of x) x ≡ true
slot_itself x = slot_is_itself (slot_of x)

module _ (unit : ℕ) (texts : List (List ℕ)) (tokens : List Tok) (rows : List Row) (old new : Name) where
  abbrev Built : List (Slot × Group) → ℕ → Type 0
  Built es n = IsBuilt unit texts tokens rows old new es n

  pub nothing_built : (es : List (Slot × Group)) → ((a : Slot) → find_group a es ≡ None) → Built es 0
  nothing_built es none = record {
    none = λ a one h j x lt at is. omega (arith, lt);
    some = λ a g h. (let no : None ≡ Some g = sym (none a) ∙ h in cc);
  }

  module _ (es es' : List (Slot × Group)) (n : ℕ) (x : Row) (at : slice_get rows n ≡ Some x) (built : Built es n) where
    abbrev here : Group
    here = group_of unit texts tokens rows n x

    -- the row itself, or an earlier one
    same_row : (j : ℕ) (y : Row) → slice_get rows j ≡ Some y → j < n + 1 → (j < n) ⊎ ((j ≡ n) × (y ≡ x))
    same_row j y bt lt =
        elim (cases_lt j n) [
          | inl l ↦ inl l
          | inr ge ↦ (let e : j ≡ n = omega (arith, lt, ge) in
              let f : slice_get rows n ≡ Some y = subst (λ z. slice_get rows z ≡ Some y) e bt in
              let g : Some y ≡ Some x = sym f ∙ at in
              let h : y ≡ x = cc in
              inr (e, h))
        ]

    later : (a : Slot) (g : Group) → IsFirst unit texts tokens rows old new n a g → IsFirst unit texts tokens rows old new (n + 1) a g
    later a g f = (let l : g.first < n = f.before in record { named = f.named; before = omega (arith, l); first = f.first; earliest = f.earliest })

    other_name : (IsOneOf old new x.decl.name → ⊥) → Built es (n + 1)
    other_name not = record {
      none = λ a one h j y lt bt is.
          elim (same_row j y bt lt) [
            | inl l ↦ built.none a one h j y l bt is
            | inr e ↦ not (subst (λ z. IsOneOf old new z) (ap (λ (z : Slot). z.name) (slots_same a (slot_of x) (subst (λ z. is_in a z ≡ true) e.1 is))) one)
          ];
      some = λ a g h. later a g (built.some a g h);
    }

    -- nothing before is in the slot where it has no group
    here_first : IsOneOf old new x.decl.name → find_group (slot_of x) es ≡ None → IsFirst unit texts tokens rows old new (n + 1) (slot_of x) here
    here_first one none = record {
      named = one;
      before = omega arith;
      first = (x, at, slot_itself x, refl);
      earliest = λ j y bt is.
          elim (cases_lt j n) [
            | inl l ↦ absurd (built.none (slot_of x) one none j y l bt is)
            | inr ge ↦ omega (arith, ge)
          ];
    }

    grouped : IsOneOf old new x.decl.name → ((a : Slot) → find_group a es' ≡ cond (same_slot a (slot_of x)) (or_new (find_group (slot_of x) es) here) (find_group a es)) → Built es' (n + 1)
    grouped one f = record {
      none = λ a named h j y lt bt is. by_none a (same_slot a (slot_of x)) refl named (sym (f a) ∙ h) j y lt bt is;
      some = λ a g h. by_some a g (same_slot a (slot_of x)) refl (find_group (slot_of x) es) refl (sym (f a) ∙ h);
    }
      where
        never : (o : Option Group) → or_new o here ≡ None → ⊥
        never None h = cc
        never (Some g) h = cc

        by_none : (a : Slot) (b : Bool) → same_slot a (slot_of x) ≡ b → IsOneOf old new a.name → cond b (or_new (find_group (slot_of x) es) here) (find_group a es) ≡ None → (j : ℕ) (y : Row) → j < n + 1 → slice_get rows j ≡ Some y → is_in a y ≡ true → ⊥
        by_none a true s named h j y lt bt is = never (find_group (slot_of x) es) h
        by_none a false s named h j y lt bt is =
            elim (same_row j y bt lt) [
              | inl l ↦ built.none a named h j y l bt is
              | inr e ↦ true≢false (sym (subst (λ z. is_in a z ≡ true) e.1 is) ∙ s)
            ]

        by_some : (a : Slot) (g : Group) (b : Bool) → same_slot a (slot_of x) ≡ b → (o : Option Group) → find_group (slot_of x) es ≡ o → cond b (or_new o here) (find_group a es) ≡ Some g → IsFirst unit texts tokens rows old new (n + 1) a g
        by_some a g false s o e h = later a g (built.some a g h)
        by_some a g true s None e h =
            let p : here ≡ g = cc in
            subst (λ z. IsFirst unit texts tokens rows old new (n + 1) a z) p (subst (λ z. IsFirst unit texts tokens rows old new (n + 1) z here) (sym (slots_same a (slot_of x) s)) (here_first one e))
        by_some a g true s (Some k) e h =
            let p : k ≡ g = cc in
            later a g (subst (λ z. IsFirst unit texts tokens rows old new n a z) p (subst (λ z. IsFirst unit texts tokens rows old new n z k) (sym (slots_same a (slot_of x) s)) (built.some (slot_of x) k e)))

    pub one_more : AddsRow old new x here es es' → Built es' (n + 1)
    one_more h =
        elim h [
          | inl k ↦ grouped k.0 k.1
          | inr k ↦ subst (λ z. Built z (n + 1)) (sym k.1) (other_name k.0)
        ]
