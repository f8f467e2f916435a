-- Declarations after a renaming, and that none collide.
use Rattle.std.proofs.Common.{◌≡◌, ℕ, zero, suc, ◌+◌, ◌<◌, ◌≤◌, ◌⊎◌, inl, inr, true, Option, Some, None, List, [], ◌∷◌, map, take, refl, sym, ap, subst, arith}
use Rattle.std.specs.Prelude.{slice_get, MatchOption, max}
use Rattle.std.proofs.lemmas.Bool.{cases_lt}
use Rattle.std.proofs.lemmas.Option.{slice_get_within}
use Rattle.cr_base.specs.declared.Name.{Name}
use Rattle.cr_scope.specs.declared.Space.{Space}
use Rattle.cr_scope.specs.declared.DeclNo.{DeclNo}
use Rattle.cr_scope.specs.Declarations.{Entry, Flat, depth, number, lookup}
use Rattle.cr_scope.specs.Meaning.{IsLookup, SeesNone, LookupMeans}
use Rattle.cr_capture.specs.Conflicts.{IsEntry}
use Rattle.cr_capture.specs.Renaming.{Class, renamed, AreFree}

abbrev pub numbered : ℕ → DeclNo
numbered n = record { 0 = n }

-- what stands in a list of renamed declarations
pub renamed_at : (class : Class) (new : Name) (es : List Entry) (i : ℕ) (e : Entry) → slice_get es i ≡ Some e → slice_get (map (renamed class new) es) i ≡ Some (renamed class new e)
renamed_at class new [] i e h = cc
renamed_at class new (a ∷ es) zero e h = let k : a ≡ e = cc in ap (λ z. Some (renamed class new z)) k
renamed_at class new (a ∷ es) (suc i) e h = renamed_at class new es i e h

pub from_renamed : (class : Class) (new : Name) (es : List Entry) (i : ℕ) (d : Entry) → slice_get (map (renamed class new) es) i ≡ Some d → (e : Entry) × (slice_get es i ≡ Some e) × (d ≡ renamed class new e)
from_renamed class new [] i d h = cc
from_renamed class new (a ∷ es) zero d h = let k : renamed class new a ≡ d = cc in (a, refl, sym k)
from_renamed class new (a ∷ es) (suc i) d h = from_renamed class new es i d h

pub taken_at : (es : List Entry) (n i : ℕ) (e : Entry) → i < n → slice_get es i ≡ Some e → slice_get (take n es) i ≡ Some e
taken_at [] n i e lt h = cc
taken_at (a ∷ es) zero i e lt h = absurd (omega arith)
taken_at (a ∷ es) (suc n) zero e lt h = h
taken_at (a ∷ es) (suc n) (suc i) e lt h = taken_at es n i e (omega arith) h

-- of two declarations in one scope and space, one renamed and one of the new name, one was in conflict when it was made
module _ (class : Class) (old new : Name) (f : Flat) (free : AreFree class f old new) where
  pub no_collision : (c d : DeclNo) (e g : Entry) → IsEntry f c e → class e ≡ true → e.decl.name ≡ old → IsEntry f d g → g.decl.name ≡ new → e.path ≡ g.path → e.decl.space ≡ g.decl.space → ⊥
  no_collision c d e g he ce ne hg ng path sp = by (cases_lt (number c) (number d))
    where
      at : (k i : ℕ) (z : Entry) → i ≤ k → slice_get f.entries i ≡ Some z → slice_get (take (k + 1) f.entries) i ≡ Some z
      at k i z le h = taken_at f.entries (k + 1) i z (omega arith) h

      by : (number c < number d) ⊎ (number d ≤ number c) → ⊥
      by (inl lt) =
          free d (slice_get_within f.entries (number d) g hg) c (max e.decl.token g.decl.token) e (
            c,
            max e.decl.token g.decl.token,
            refl,
            inl (record {
              itself = e;
              there = at (number d) (number c) e (omega arith) he;
              named = ne;
              other = d;
              beside = g;
              other_there = at (number d) (number d) g (omega arith) hg;
              other_named = ng;
              one_scope = path;
              one_space = sp;
              made = inr refl;
              at = refl;
            }),
          )
          (at (number d) (number c) e (omega arith) he)
          ce
      by (inr le) =
          free c (slice_get_within f.entries (number c) e he) c (max e.decl.token g.decl.token) e (
            c,
            max e.decl.token g.decl.token,
            refl,
            inl (record {
              itself = e;
              there = at (number c) (number c) e (omega arith) he;
              named = ne;
              other = d;
              beside = g;
              other_there = at (number c) (number d) g le hg;
              other_named = ng;
              one_scope = path;
              one_space = sp;
              made = inl refl;
              at = refl;
            }),
          )
          (at (number c) (number c) e (omega arith) he)
          ce

-- what a look-up answers
abbrev pub Answers : List ℕ → Space → Name → List Entry → Option ℕ → Type 0
Answers present s name es r = MatchOption r (SeesNone present s name es) (λ i. (e : Entry) × IsLookup present s name es i e)

module _ (present : List ℕ) (s : Space) (name : Name) (es : List Entry) (means : LookupMeans) where
  pub one_number_of : (k i : ℕ) (g e : Entry) → IsLookup present s name es k g → IsLookup present s name es i e → k ≡ i
  one_number_of k i g e h is =
      elim (h.best i e is.seen) [
        | inl x ↦
            elim (is.best k g h.seen) [
              | inl y ↦ absurd (omega arith)
              | inr y ↦ (let q : depth g ≡ depth e = y.0 in absurd (omega arith))
            ]
        | inr x ↦
            elim (is.best k g h.seen) [
              | inl y ↦ (let q : depth e ≡ depth g = x.0 in absurd (omega arith))
              | inr y ↦ omega (arith, x.1, y.1)
            ]
      ]

  pub one_answer : (r : Option ℕ) → Answers present s name es r → (i : ℕ) (e : Entry) → IsLookup present s name es i e → r ≡ Some i
  one_answer None h i e is = absurd (h i e is.seen)
  one_answer (Some k) h i e is = ap Some (one_number_of k i h.0 e h.1 is)

  pub lookup_one : (i : ℕ) (e : Entry) → IsLookup present s name es i e → lookup present s name es ≡ Some i
  lookup_one i e is = one_answer (lookup present s name es) (means present s name es) i e is

  pub no_answer : (r : Option ℕ) → Answers present s name es r → SeesNone present s name es → r ≡ None
  no_answer None h g = refl
  no_answer (Some k) h g = absurd (g k h.0 h.1.seen)

  pub lookup_none : SeesNone present s name es → lookup present s name es ≡ None
  lookup_none g = no_answer (lookup present s name es) (means present s name es) g

  pub none_seen : lookup present s name es ≡ None → SeesNone present s name es
  none_seen h = subst (Answers present s name es) h (means present s name es)

  pub found_at : (i : ℕ) → lookup present s name es ≡ Some i → (e : Entry) × IsLookup present s name es i e
  found_at i h = subst (Answers present s name es) h (means present s name es)
