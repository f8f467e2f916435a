-- One more row, and the least tokens of slots.
use Rattle.std.proofs.Common.{◌≡◌, ◌⊎◌, inl, inr, ℕ, ◌+◌, ◌<◌, ◌≤◌, Bool, true, false, Option, Some, None, List, length, refl, sym, ap, subst, ◌∙◌, arith, true≢false}
use Rattle.std.specs.Prelude.{slice_get, cond, MatchOption}
use Rattle.std.proofs.lemmas.Bool.{cases_lt}
use Rattle.std.proofs.lemmas.Option.{slice_get_within}
use Rattle.cr_base.specs.declared.token.Name.{Name}
use Rattle.cr_declared.specs.declared.rows.Row.{Row}
use Rattle.cr_declared.specs.declared.rows.Slot.{Slot}
use Rattle.cr_declared.specs.Rows.{same_slot}
use Rattle.cr_declared.specs.Rows.{is_in}
use Rattle.cr_groups.specs.Rows.{IsOneOf}
use Rattle.cr_declared.specs.Rows.{slot_of}
use Rattle.cr_conflicts.specs.Pairs.{find_least, IsLeast, AreLeast}
use Rattle.cr_conflicts.specs.Leasts.{lower, AddsLeast, IsLeastOf, AreLeastOf}
use Rattle.cr_groups.proofs.Taken.{slots_same}

lower_both : (k i : ℕ) → (lower (Some k) i ≤ k) × (lower (Some k) i ≤ i) × ((lower (Some k) i ≡ k) ⊎ (lower (Some k) i ≡ i))
lower_both k i = elim (cases_lt k i) [
  | inl lt ↦ (let e : lower (Some k) i ≡ k = grind (arith, lt) in (omega (arith, e), omega (arith, e, lt), inl e))
  | inr ge ↦ (let e : lower (Some k) i ≡ i = grind (arith, ge) in (omega (arith, e, ge), omega (arith, e), inr e))
]

module _ (old new : Name) (rows : List Row) where
  None_of : ℕ → Slot → Type 0
  None_of n a = (j : ℕ) (x : Row) → j < n → slice_get rows j ≡ Some x → is_in a x ≡ true → ⊥

  -- all rows
  pub all_least : (least : Slot → Option ℕ) → AreLeastOf old new rows least (length rows) → AreLeast old new rows least
  all_least least h a one = by (least a) (h a one)
    where
      by : (o : Option ℕ) → MatchOption o ((j : ℕ) (x : Row) → j < length rows → slice_get rows j ≡ Some x → is_in a x ≡ true → ⊥) (IsLeastOf rows (length rows) a) → MatchOption o ((j : ℕ) (x : Row) → slice_get rows j ≡ Some x → is_in a x ≡ true → ⊥) (IsLeast rows a)
      by None h = λ j x at is. h j x (slice_get_within rows j x at) at is
      by (Some m) h = record { least = λ j x at is. h.least j x (slice_get_within rows j x at) at is; reached = (h.reached.0, h.reached.1, h.reached.3, h.reached.4, h.reached.5) }

  module _ (es es' : List (Slot × ℕ)) (n : ℕ) (x : Row) (at : slice_get rows n ≡ Some x) (h : AreLeastOf old new rows (find_least es) n) where
    abbrev Goal : Slot → Option ℕ → Type 0
    Goal a o = MatchOption o ((j : ℕ) (y : Row) → j < n + 1 → slice_get rows j ≡ Some y → is_in a y ≡ true → ⊥) (IsLeastOf rows (n + 1) a)

    abbrev Known : Slot → Option ℕ → Type 0
    Known a o = MatchOption o ((j : ℕ) (y : Row) → j < n → slice_get rows j ≡ Some y → is_in a y ≡ true → ⊥) (IsLeastOf rows n a)

    same_row : (j : ℕ) (y : Row) → slice_get rows j ≡ Some y → j < n + 1 → (j < n) ⊎ (y ≡ x)
    same_row j y bt lt =
        elim (cases_lt j n) [
          | inl l ↦ inl l
          | inr ge ↦ (let e : j ≡ n = omega (arith, lt, ge) in
              let f : slice_get rows n ≡ Some y = subst (λ z. slice_get rows z ≡ Some y) e bt in
              let g : Some y ≡ Some x = sym f ∙ at in
              let k : y ≡ x = cc in
              inr k)
        ]

    -- the row isn't in the slot
    elsewhere : (a : Slot) (o : Option ℕ) → (is_in a x ≡ true → ⊥) → Known a o → Goal a o
    elsewhere a None not k = λ j y lt bt is.
        elim (same_row j y bt lt) [
          | inl l ↦ k j y l bt is
          | inr e ↦ not (subst (λ z. is_in a z ≡ true) e is)
        ]
    elsewhere a (Some m) not k = (let r : k.reached.0 < n = k.reached.2 in record {
      least = λ j y lt bt is.
          elim (same_row j y bt lt) [
            | inl l ↦ k.least j y l bt is
            | inr e ↦ absurd (not (subst (λ z. is_in a z ≡ true) e is))
          ];
      reached = (k.reached.0, k.reached.1, omega (arith, r), k.reached.3, k.reached.4, k.reached.5);
    })

    -- it is
    inside : (a : Slot) (o : Option ℕ) → is_in a x ≡ true → Known a o → IsLeastOf rows (n + 1) a (lower o x.decl.token)
    inside a None is k = record {
      least = λ j y lt bt iy.
          elim (same_row j y bt lt) [
            | inl l ↦ absurd (k j y l bt iy)
            | inr e ↦ (let t : y.decl.token ≡ x.decl.token = ap (λ (z : Row). z.decl.token) e in omega (arith, t))
          ];
      reached = (n, x, omega arith, at, is, refl);
    }
    inside a (Some m) is k =
        let b : (lower (Some m) x.decl.token ≤ m) × (lower (Some m) x.decl.token ≤ x.decl.token) × ((lower (Some m) x.decl.token ≡ m) ⊎ (lower (Some m) x.decl.token ≡ x.decl.token)) = lower_both m x.decl.token in
        let r : k.reached.0 < n = k.reached.2 in
        record {
          least = λ j y lt bt iy.
              elim (same_row j y bt lt) [
                | inl l ↦ (let c : m ≤ y.decl.token = k.least j y l bt iy in omega (arith, c, b.0))
                | inr e ↦ (let t : y.decl.token ≡ x.decl.token = ap (λ (z : Row). z.decl.token) e in omega (arith, t, b.1))
              ];
          reached = elim b.2 [
            | inl e ↦ (k.reached.0, k.reached.1, omega (arith, r), k.reached.3, k.reached.4, e ∙ k.reached.5)
            | inr e ↦ (n, x, omega arith, at, is, e)
          ];
        }

    pub one_lower : AddsLeast old new x es es' → AreLeastOf old new rows (find_least es') (n + 1)
    one_lower k a one =
        elim k [
          | inl c ↦ subst (Goal a) (sym (c.1 a)) (by c (same_slot a (slot_of x)) refl)
          | inr c ↦ subst (λ z. Goal a (find_least z a)) (sym c.1)
              (elsewhere a (find_least es a) (λ is. c.0 (subst (λ z. IsOneOf old new z) (ap (λ (z : Slot). z.name) (slots_same a (slot_of x) is)) one)) (h a one))
        ]
      where
        by : (c : IsOneOf old new x.decl.name × ((a : Slot) → find_least es' a ≡ cond (same_slot a (slot_of x)) (Some (lower (find_least es (slot_of x)) x.decl.token)) (find_least es a))) (b : Bool) → same_slot a (slot_of x) ≡ b
            → Goal a (cond b (Some (lower (find_least es (slot_of x)) x.decl.token)) (find_least es a))
        by c true e =
            subst (λ z. IsLeastOf rows (n + 1) a (lower (find_least es z) x.decl.token)) (slots_same a (slot_of x) e) (inside a (find_least es a) e (h a one))
        by c false e = elsewhere a (find_least es a) (λ is. true≢false (sym is ∙ e)) (h a one)
