-- Members of a record are unique by their names.
use Rattle.std.specs.Prelude.{◌≡◌, ℕ, zero, suc, Bool, true, false, ◌==◌, if◌then◌else◌, None, List, [], ◌∷◌, ◌++◌, map, filter, Contains}
use Rattle.std.specs.List.{list_any}
use Rattle.std.proofs.Common.{refl, sym, ◌∙◌, ap, subst, inl, inr, arith}
use Rattle.std.proofs.lemmas.Bool.{eq-eqb, eqb-true}
use Rattle.cr_base.specs.declared.token.Name.{Name}
use Rattle.cr_scope.specs.Declarations.{same_name}
use Rattle.cr_binding.specs.Source.{Source, name_at}
use Rattle.cr_binding.specs.State.{Member, State}
use Rattle.cr_binding.specs.RecordMembers.{is_named, members_of, repeated, least_token, brought_in}
use Rattle.cr_sound_law.specs.Sound.{AreUnique}
use Rattle.cr_sound_law.proofs.Lists.{in_tail, head_or_tail, passed_of, passing, any_of, all_more, get_contains}

-- two members may stand in one unit
abbrev pub Differ : Source → Member → Member → Type 0
Differ t m n = m.holder ≡ n.holder → name_at t m.token ≡ name_at t n.token → ⊥

abbrev pub Apart : Source → List Member → Type 0
Apart t [] = Unit {0}
Apart t (m ∷ ms) = ((n : Member) → Contains ms n → Differ t m n) × Apart t ms

names_same : (a b : Name) → a ≡ b → same_name a b ≡ true
names_same a b e = eq-eqb a.0 b.0 (ap (λ (n : Name). n.0) e)

module _ (t : Source) where
  pub apart_more : (ms ns : List Member) → Apart t ms → Apart t ns → ((m n : Member) → Contains ms m → Contains ns n → Differ t m n) → Apart t (ms ++ ns)
  apart_more [] ns a b meet = b
  apart_more (m ∷ ms) ns a b meet = (
    all_more (Differ t m) ms ns a.0 (λ n c. meet m n (0, omega arith, refl) c),
    apart_more ms ns a.1 b (λ x n c d. meet x n (in_tail m x ms c) d),
  )

  apart_passing : (p : Member → Bool) (ms : List Member) → Apart t ms → Apart t (filter p ms)
  apart_passing p [] a = tt
  apart_passing p (m ∷ ms) a = by (p m) (apart_passing p ms a.1)
    where
      by : (b : Bool) → Apart t (filter p ms) → Apart t (if b then m ∷ filter p ms else filter p ms)
      by true rest = (λ n c. a.0 n (passed_of p ms n c).0, rest)
      by false rest = rest

  abbrev pub held_by : ℕ → List Member → List Member
  held_by r ms = map {A = Member} (λ m. record m { holder = r }) ms

  -- what is brought in is written elsewhere
  pub brought_from : (r : ℕ) (ms : List Member) (m : Member) → Contains (held_by r ms) m → (k : Member) × Contains ms k × (k.token ≡ m.token) × (k.own ≡ m.own)
  brought_from r [] m c = absurd (omega (arith, c.1))
  brought_from r (x ∷ ms) m c =
      elim (head_or_tail (record x { holder = r }) m (held_by r ms) c) [
        | inl e ↦ (x, (0, omega arith, refl), ap (λ (z : Member). z.token) e, ap (λ (z : Member). z.own) e)
        | inr d ↦ (let k = brought_from r ms m d in (k.0, in_tail x k.0 ms k.1, k.2, k.3))
      ]

  pub brought_to : (r : ℕ) (ms : List Member) (m : Member) → Contains (held_by r ms) m → m.holder ≡ r
  brought_to r [] m c = absurd (omega (arith, c.1))
  brought_to r (x ∷ ms) m c =
      elim (head_or_tail (record x { holder = r }) m (held_by r ms) c) [
        | inl e ↦ ap (λ (z : Member). z.holder) (sym e)
        | inr d ↦ brought_to r ms m d
      ]

  apart_brought : (r q : ℕ) (ms : List Member) → ((m : Member) → Contains ms m → m.holder ≡ q) → Apart t ms → Apart t (held_by r ms)
  apart_brought r q [] one a = tt
  apart_brought r q (m ∷ ms) one a = (
    λ n c holders names. (let k = brought_from r ms n c in
        a.0 k.0 k.1 (one m (0, omega arith, refl) ∙ sym (one k.0 (in_tail m k.0 ms k.1))) (names ∙ ap (name_at t) (sym k.2))),
    apart_brought r q ms (λ n c. one n (in_tail m n ms c)) a.1,
  )

  pub brought_apart : (r q : ℕ) (s : State) → Apart t s.members → Apart t (brought_in r q s)
  brought_apart r q s a =
      apart_brought r q (members_of s q) (λ m c. eqb-true m.holder q (passed_of (λ m. m.holder == q) s.members m c).1)
      (apart_passing (λ m. m.holder == q) s.members a)

  -- ---- members that are new to a record

  pub no_least : (ms : List Member) → least_token ms ≡ None → ms ≡ []
  no_least [] h = refl
  no_least (m ∷ ms) h = cc

  new_differ : (r : ℕ) (more : List Member) (s : State) → ((m : Member) → Contains more m → m.holder ≡ r) → repeated t s r more ≡ [] → (m n : Member) → Contains s.members m → Contains more n → Differ t m n
  new_differ r more s held new m n cm cn holders names =
      let there : Contains (members_of s r) m = passing (λ m. m.holder == r) s.members m cm (eq-eqb m.holder r (holders ∙ held n cn)) in
      let any : list_any (is_named t (name_at t n.token)) (members_of s r) ≡ true = any_of (is_named t (name_at t n.token)) (members_of s r) m there (names_same (name_at t m.token) (name_at t n.token) names) in
      let again : Contains (repeated t s r more) n = passing (λ m. list_any (is_named t (name_at t m.token)) (members_of s r)) more n cn any in
      let none : Contains [] n = subst (λ l. Contains l n) new again in
      omega (arith, none.1)

  pub written_apart : (r : ℕ) (more : List Member) (s : State) → ((m : Member) → Contains more m → m.holder ≡ r) → repeated t s r more ≡ [] → Apart t more → Apart t s.members → Apart t (s.members ++ more)
  written_apart r more s held new a b = apart_more s.members more b a (new_differ r more s held new)

  -- ---- by place

  pub unique_by_place : (ms : List Member) → Apart t ms → AreUnique t ms
  unique_by_place [] a i j m n h k holders names = cc
  unique_by_place (x ∷ ms) a zero zero m n h k holders names = refl
  unique_by_place (x ∷ ms) a zero (suc j) m n h k holders names =
      let e : x ≡ m = cc in
      absurd (a.0 n (get_contains ms j n k) (ap (λ (z : Member). z.holder) e ∙ holders) (ap (λ (z : Member). name_at t z.token) e ∙ names))
  unique_by_place (x ∷ ms) a (suc i) zero m n h k holders names =
      let e : x ≡ n = cc in
      absurd (a.0 m (get_contains ms i m h) (ap (λ (z : Member). z.holder) e ∙ sym holders) (ap (λ (z : Member). name_at t z.token) e ∙ sym names))
  unique_by_place (x ∷ ms) a (suc i) (suc j) m n h k holders names =
      ap suc (unique_by_place ms a.1 i j m n h k holders names)
