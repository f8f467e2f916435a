-- What a loop over visible declarations has found.
use Rattle.std.proofs.Common.{◌≡◌, ℕ, zero, suc, ◌<◌, ◌⊎◌, inl, inr, List, [], ◌∷◌, ◌++◌, length, refl, sym, ap, subst, arith}
use Rattle.std.specs.Prelude.{All, Contains, ◌↔◌, slice_index_or}
use Rattle.std.proofs.lemmas.List.Elements.{Contains-append_left, Contains-append_right, Contains-append_cases}
use Rattle.cr_scope.specs.declared.DeclNo.{DeclNo}
use Rattle.cr_scope.specs.Declarations.{number}
use Rattle.cr_capture.specs.Conflicts.{Pair}
use Rattle.cr_capture.specs.Finding.{Adds}

pub one_number : (c d : DeclNo) → number c ≡ number d → c ≡ d
one_number c d e = ap (λ n. record { 0 = n }) e

pub none_in : {A : Type 0} (x : A) → Contains [] x → ⊥
none_in x h = let k : h.0 < 0 = h.1 in omega arith

pub one_in : {A : Type 0} (a x : A) → Contains (a ∷ []) x → x ≡ a
one_in {A} a x h = by h.0 h.1 h.2
  where
    by : (k : ℕ) → k < length (a ∷ []) → slice_index_or (a ∷ []) k x ≡ x → x ≡ a
    by zero lt e = sym e
    by (suc k) lt e = absurd (omega arith)

pub in_one : {A : Type 0} (a x : A) → x ≡ a → Contains (a ∷ []) x
in_one a x e = (0, omega arith, sym e)

-- what holds of all that are left holds of all after the first
pub rest_given : (P : ℕ → Type 0) (n : ℕ) (ns rest : List ℕ) → ns ≡ n ∷ rest → All P ns → All P rest
rest_given P n ns rest e h = by (subst (λ z. All P z) e h)
  where
    by : All P (n ∷ rest) → All P rest
    by g k x lt = g (suc k) x (omega arith)

-- the pairs that those of the numbers give
abbrev pub Passed : List ℕ → (DeclNo → Pair → Type 0) → Pair → Type 0
Passed ns Gives x = (d : DeclNo) × Contains ns (number d) × Gives d x

-- what is found and what is left make what was there at the start and all that is to be looked at
pub record IsBetween (count : ℕ) (start found : List Pair) (all rest : List ℕ) (Gives : DeclNo → Pair → Type 0) : Type 0 where
  pub given : All (λ n. n < count) rest
  pub from : (x : Pair) → Contains found x ⊎ Passed rest Gives x → Contains start x ⊎ Passed all Gives x
  pub to : (x : Pair) → Contains start x ⊎ Passed all Gives x → Contains found x ⊎ Passed rest Gives x

pub begins : (count : ℕ) (start : List Pair) (all rest : List ℕ) (Gives : DeclNo → Pair → Type 0) → All (λ n. n < count) rest → rest ≡ all → IsBetween count start start all rest Gives
begins count start all rest Gives given e =
    subst (λ z. IsBetween count start start z rest Gives) e (record { given = given; from = λ x h. h; to = λ x h. h })

-- of those that are left the first is d
module _ (ns rest : List ℕ) (d : DeclNo) (next : ns ≡ number d ∷ rest) where
  pub first_or : (c : DeclNo) → Contains ns (number c) → (c ≡ d) ⊎ Contains rest (number c)
  first_or c h =
      elim (Contains-append_cases (number d ∷ []) rest (number c) (subst (λ z. Contains z (number c)) next h)) [
        | inl k ↦ inl (one_number c d (one_in (number d) (number c) k))
        | inr k ↦ inr k
      ]

  pub is_first : Contains ns (number d)
  is_first =
      subst (λ z. Contains z (number d)) (sym next)
      (Contains-append_left (number d ∷ []) rest (number d) (in_one (number d) (number d) refl))

  pub is_later : (n : ℕ) → Contains rest n → Contains ns n
  is_later n h = subst (λ z. Contains z n) (sym next) (Contains-append_right (number d ∷ []) rest n h)

module _ (count : ℕ) (start found after : List Pair) (all ns rest : List ℕ) (Gives : DeclNo → Pair → Type 0) (d : DeclNo) (next : ns ≡ number d ∷ rest) (between : IsBetween count start found all ns Gives) where
  pub later_passed : (x : Pair) → Passed rest Gives x → Passed ns Gives x
  later_passed x h = (h.0, is_later ns rest d next (number h.0) h.1, h.2)

  -- d gives one pair, and that is added
  pub takes : (pair : Pair) → Gives d pair → ((x : Pair) → Gives d x → x ≡ pair) → after ≡ found ++ pair ∷ [] → IsBetween count start after all rest Gives
  takes pair gives one more =
      record {
        given = rest_given (λ n. n < count) (number d) ns rest next between.given;
        from = λ x h.
            elim h [
              | inl k ↦
                  elim (Contains-append_cases found (pair ∷ []) x (subst (λ z. Contains z x) more k)) [
                    | inl m ↦ between.from x (inl m)
                    | inr m ↦
                        between.from x (inr (d, is_first ns rest d next, subst (λ z. Gives d z) (sym (one_in pair x m)) gives))
                  ]
              | inr k ↦ between.from x (inr (later_passed x k))
            ];
        to = λ x h.
            elim (between.to x h) [
              | inl k ↦ inl (subst (λ z. Contains z x) (sym more) (Contains-append_left found (pair ∷ []) x k))
              | inr k ↦
                  elim (first_or ns rest d next k.0 k.1) [
                    | inl m ↦
                        inl
                        (subst (λ z. Contains z x) (sym more)
                        (Contains-append_right found (pair ∷ []) x (in_one pair x (one x (subst (λ z. Gives z x) m k.2)))))
                    | inr m ↦ inr (k.0, m, k.2)
                  ]
            ];
      }

  -- d gives none
  pub leaves : ((x : Pair) → Gives d x → ⊥) → after ≡ found → IsBetween count start after all rest Gives
  leaves fails same =
      record {
        given = rest_given (λ n. n < count) (number d) ns rest next between.given;
        from = λ x h.
            elim h [
              | inl k ↦ between.from x (inl (subst (λ z. Contains z x) same k))
              | inr k ↦ between.from x (inr (later_passed x k))
            ];
        to = λ x h.
            elim (between.to x h) [
              | inl k ↦ inl (subst (λ z. Contains z x) (sym same) k)
              | inr k ↦
                  elim (first_or ns rest d next k.0 k.1) [
                    | inl m ↦ absurd (fails x (subst (λ z. Gives z x) m k.2))
                    | inr m ↦ inr (k.0, m, k.2)
                  ]
            ];
      }

-- where nothing is left, what is found is what was there and all that was given
pub all_found : (count : ℕ) (start found : List Pair) (all rest : List ℕ) (Gives : DeclNo → Pair → Type 0) → rest ≡ [] → IsBetween count start found all rest Gives → Adds start found (Passed all Gives)
all_found count start found all rest Gives none between x = (
  (λ h. between.from x (inl h)),
  (λ h.
      elim (between.to x h) [
        | inl k ↦ k
        | inr k ↦ absurd (none_in (number k.0) (subst (λ z. Contains z (number k.0)) none k.1))
      ]),
)

pub adds_same : (before after : List Pair) (P Q : Pair → Type 0) → ((x : Pair) → P x → Q x) → ((x : Pair) → Q x → P x) → Adds before after P → Adds before after Q
adds_same before after P Q f g h x = (
  (λ k. elim ((h x).0 k) [ inl m ↦ inl m | inr m ↦ inr (f x m) ]),
  (λ k. elim k [ inl m ↦ (h x).1 (inl m) | inr m ↦ (h x).1 (inr (g x m)) ]),
)

pub adds_none : (before : List Pair) (P : Pair → Type 0) → ((x : Pair) → P x → ⊥) → Adds before before P
adds_none before P f x = ((λ k. inl k), (λ k. elim k [ inl m ↦ m | inr m ↦ absurd (f x m) ]))

pub adds_one : (before after : List Pair) (pair : Pair) → after ≡ before ++ pair ∷ [] → Adds before after (λ x. x ≡ pair)
adds_one before after pair more x = (
  (λ k.
      elim (Contains-append_cases before (pair ∷ []) x (subst (λ z. Contains z x) more k)) [
        | inl m ↦ inl m
        | inr m ↦ inr (one_in pair x m)
      ]),
  (λ k.
      subst (λ z. Contains z x) (sym more)
      (elim k [
        | inl m ↦ Contains-append_left before (pair ∷ []) x m
        | inr m ↦ Contains-append_right before (pair ∷ []) x (in_one pair x m)
      ])),
)

pub adds_both : (a b c : List Pair) (P Q : Pair → Type 0) → Adds a b P → Adds b c Q → Adds a c (λ x. P x ⊎ Q x)
adds_both a b c P Q h g x = (
  (λ k.
      elim ((g x).0 k) [
        | inl m ↦ elim ((h x).0 m) [ inl n ↦ inl n | inr n ↦ inr (inl n) ]
        | inr m ↦ inr (inr m)
      ]),
  (λ k.
      elim k [
        | inl m ↦ (g x).1 (inl ((h x).1 (inl m)))
        | inr m ↦ elim m [ inl n ↦ (g x).1 (inl ((h x).1 (inr n))) | inr n ↦ (g x).1 (inr n) ]
      ]),
)

-- what is found where nothing was there
pub from_none : (before after : List Pair) (P : Pair → Type 0) → before ≡ [] → Adds before after P → (x : Pair) → Contains after x ↔ P x
from_none before after P none h x = (
  (λ k. elim ((h x).0 k) [ inl m ↦ absurd (none_in x (subst (λ z. Contains z x) none m)) | inr m ↦ m ]),
  (λ k. (h x).1 (inr k)),
)
