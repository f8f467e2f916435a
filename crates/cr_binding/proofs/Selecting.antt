-- A renaming under which no two members of a record meet keeps what is selected.
use Rattle.std.specs.Prelude.{◌≡◌, ℕ, suc, Bool, true, false, cond, ◌||◌, ◌==◌, if◌then◌else◌, Option, Some, None, Ok, List, [], ◌∷◌, filter, Contains}
use Rattle.std.specs.List.{find, list_any}
use Rattle.std.proofs.Common.{refl, sym, ◌∙◌, ap, arith}
use Rattle.std.proofs.lemmas.Bool.{eqb-true}
use Rattle.cr_base.specs.declared.Name.{Name}
use Rattle.cr_scope.specs.Declarations.{same_name}
use Rattle.cr_capture.proofs.KeptLinkage.{same_names, one_name}
use Rattle.cr_binding.specs.Source.{Source, name_at}
use Rattle.cr_binding.specs.State.{Member, State}
use Rattle.cr_binding.specs.RecordMembers.{is_named, is_complete, members_of, or_no_member}
use Rattle.cr_binding.specs.ActionsStay.{IsRespelled}
use Rattle.cr_binding.specs.MembersStay.{AreSpelled, AreDistinct, MeetNone, KeepsSelection, KeepsNewMembers}

-- ---- lists

here : (x : Member) (xs : List Member) → Contains (x ∷ xs) x
here x xs = (0, omega arith, refl)

there : (x y : Member) (xs : List Member) → Contains xs y → Contains (x ∷ xs) y
there x y xs h = (suc h.0, omega (arith, h.1), h.2)

-- what a test finds among those that pass another one
pub found_among : (p h : Member → Bool) (xs : List Member) (m : Member) → find p (filter h xs) ≡ Some m → Contains xs m × (h m ≡ true) × (p m ≡ true)
found_among p h [] m e = cc
found_among p h (x ∷ xs) m e = by (found_among p h xs m) (h x) (p x) refl refl e
  where
    by : (find p (filter h xs) ≡ Some m → Contains xs m × (h m ≡ true) × (p m ≡ true)) → (a b : Bool) → h x ≡ a → p x ≡ b → find p (cond a (x ∷ filter h xs) (filter h xs)) ≡ Some m → Contains (x ∷ xs) m × (h m ≡ true) × (p m ≡ true)
    by more false b ha pb k = let f : Contains xs m × (h m ≡ true) × (p m ≡ true) = more k in (there x m xs f.0, f.1, f.2)
    by more true true ha pb k =
        let q : x ≡ m = first (ap (λ b. cond b (Some x) (find p (filter h xs))) (sym pb) ∙ k) in
        ((0, omega arith, q), ap h (sym q) ∙ ha, ap p (sym q) ∙ pb)
      where
        first : Some x ≡ Some m → x ≡ m
        first e = cc
    by more true false ha pb k =
        let f : Contains xs m × (h m ≡ true) × (p m ≡ true) = more (ap (λ b. cond b (Some x) (find p (filter h xs))) (sym pb) ∙ k) in
        (there x m xs f.0, f.1, f.2)

-- two tests that agree on them find the same
find_alike : (p q h : Member → Bool) (xs : List Member) → ((n : Member) → Contains xs n → h n ≡ true → q n ≡ p n) → find q (filter h xs) ≡ find p (filter h xs)
find_alike p q h [] each = refl
find_alike p q h (x ∷ xs) each = by (find_alike p q h xs (λ n c. each n (there x n xs c))) (h x) refl
  where
    by : find q (filter h xs) ≡ find p (filter h xs) → (a : Bool) → h x ≡ a → find q (cond a (x ∷ filter h xs) (filter h xs)) ≡ find p (cond a (x ∷ filter h xs) (filter h xs))
    by rest false e = rest
    by rest true e =
        ap (λ b. cond b (Some x) (find q (filter h xs))) (each x (here x xs) e) ∙ ap (λ o. cond (p x) (Some x) o) rest

neither : (a b : Bool) → (a || b) ≡ false → (a ≡ false) × (b ≡ false)
neither true b h = cc
neither false b h = (refl, h)

-- a test that none of them passes, and another one that each fails where it fails the first
none_alike : (p q h : Member → Bool) (xs : List Member) → ((n : Member) → Contains xs n → h n ≡ true → p n ≡ false → q n ≡ false) → list_any p (filter h xs) ≡ false → list_any q (filter h xs) ≡ false
none_alike p q h [] each e = refl
none_alike p q h (x ∷ xs) each e = by (none_alike p q h xs (λ n c. each n (there x n xs c))) (h x) refl e
  where
    by : (list_any p (filter h xs) ≡ false → list_any q (filter h xs) ≡ false) → (a : Bool) → h x ≡ a → list_any p (cond a (x ∷ filter h xs) (filter h xs)) ≡ false → list_any q (cond a (x ∷ filter h xs) (filter h xs)) ≡ false
    by rest false ha k = rest k
    by rest true ha k =
        let f : (p x ≡ false) × (list_any p (filter h xs) ≡ false) = neither (p x) (list_any p (filter h xs)) k in
        ap (λ b. b || list_any q (filter h xs)) (each x (here x xs) ha f.0) ∙ rest f.1

-- of a list none passes a test, and none another one
none_left : (p q : Member → Bool) (xs : List Member) → ((m : Member) → Contains xs m → p m ≡ false → q m ≡ false) → filter p xs ≡ [] → filter q xs ≡ []
none_left p q [] each e = refl
none_left p q (x ∷ xs) each e = by (none_left p q xs (λ m c. each m (there x m xs c))) (p x) refl e
  where
    by : (filter p xs ≡ [] → filter q xs ≡ []) → (a : Bool) → p x ≡ a → cond a (x ∷ filter p xs) (filter p xs) ≡ [] → filter q (x ∷ xs) ≡ []
    by rest true pa k = cc
    by rest false pa k = ap (λ b. cond b (x ∷ filter q xs) (filter q xs)) (each x (here x xs) pa) ∙ rest k

-- ---- names

unlike : (n m : Name) → (n ≡ m → ⊥) → same_name n m ≡ false
unlike n m h = by (same_name n m) refl
  where
    by : (b : Bool) → same_name n m ≡ b → b ≡ false
    by true e = absurd (h (one_name n m e))
    by false e = refl

pub both_unlike : (a b : Name) (c d : Name) → (a ≡ b → ⊥) → (c ≡ d → ⊥) → same_name a b ≡ same_name c d
both_unlike a b c d h k = unlike a b h ∙ sym (unlike c d k)

pub both_alike : (a b : Name) (c d : Name) → a ≡ b → c ≡ d → same_name a b ≡ same_name c d
both_alike a b c d h k = same_names a b h ∙ sym (same_names c d k)

-- ---- selecting

module _ (class : ℕ → Bool) (old new : Name) (t u : Source) (s : State) (respelled : IsRespelled class new t u) (spelled : AreSpelled class old t) (distinct : AreDistinct t s.members) (meet : MeetNone class new t s.members) where
  after : (i : ℕ) (b : Bool) → class i ≡ b → name_at u i ≡ cond b new (name_at t i)
  after i b e = respelled.names i ∙ ap (λ b. cond b new (name_at t i)) e

  -- m is selected by token i, and n is another member of its record
  test_alike : (i : ℕ) (m n : Member) → Contains s.members m → Contains s.members n → m.holder ≡ n.holder → name_at t m.token ≡ name_at t i → class i ≡ class m.token → is_named u (name_at u i) n ≡ is_named t (name_at t i) n
  test_alike i m n cm cn same named e = by (class i) (class n.token) refl refl
    where
      -- two members of one name are one, so both are of the class or neither is
      one_class : name_at t n.token ≡ name_at t i → class i ≡ class n.token
      one_class h = e ∙ ap class (distinct m n cm cn same (named ∙ sym h))

      by : (a b : Bool) → class i ≡ a → class n.token ≡ b → is_named u (name_at u i) n ≡ is_named t (name_at t i) n
      by true true ci cx =
          both_alike (name_at u n.token) (name_at u i) (name_at t n.token) (name_at t i) (after n.token true cx ∙ sym (after i true ci)) (spelled n.token cx ∙ sym (spelled i ci))
      by false false ci cx =
          ap (λ x. same_name x (name_at u i)) (after n.token false cx) ∙ ap (λ x. same_name (name_at t n.token) x) (after i false ci)
      by true false ci cx = both_unlike (name_at u n.token) (name_at u i) (name_at t n.token) (name_at t i) u_no t_no
        where
          u_no : name_at u n.token ≡ name_at u i → ⊥
          u_no h = meet m n cm cn same (sym e ∙ ci) (sym (after n.token false cx) ∙ h ∙ after i true ci)

          t_no : name_at t n.token ≡ name_at t i → ⊥
          t_no h = let k : true ≡ false = sym ci ∙ one_class h ∙ cx in cc
      by false true ci cx = both_unlike (name_at u n.token) (name_at u i) (name_at t n.token) (name_at t i) u_no t_no
        where
          u_no : name_at u n.token ≡ name_at u i → ⊥
          u_no h =
              meet n m cn cm (sym same) cx (named ∙ sym (after i false ci) ∙ sym h ∙ after n.token true cx)

          t_no : name_at t n.token ≡ name_at t i → ⊥
          t_no h = let k : false ≡ true = sym ci ∙ one_class h ∙ cx in cc

  selection_kept : (r i : ℕ) (m : Member) → (b : Bool) → or_no_member (if b then find (is_named t (name_at t i)) (members_of s r) else None) ≡ Ok m → class i ≡ class m.token → or_no_member (if b then find (is_named u (name_at u i)) (members_of s r) else None) ≡ Ok m
  selection_kept r i m false h e = cc
  selection_kept r i m true h e =
      let f : Contains s.members m × ((m.holder == r) ≡ true) × (is_named t (name_at t i) m ≡ true) = found_among (is_named t (name_at t i)) (λ n. n.holder == r) s.members m (was_found (find (is_named t (name_at t i)) (members_of s r)) h) in
      ap or_no_member
      (find_alike (is_named t (name_at t i)) (is_named u (name_at u i)) (λ n. n.holder == r) s.members
      (λ n c held. test_alike i m n f.0 c (eqb-true m.holder r f.1 ∙ sym (eqb-true n.holder r held)) (one_name (name_at t m.token) (name_at t i) f.2) e))
      ∙ h
    where
      was_found : (o : Option Member) → or_no_member o ≡ Ok m → o ≡ Some m
      was_found None k = cc
      was_found (Some n) k = cc

pub keeps_selection : KeepsSelection
keeps_selection class old new t u s r i m respelled spelled distinct meet h e =
    selection_kept class old new t u s respelled spelled distinct meet r i m (is_complete s r) h e

-- ---- adding

module _ (class : ℕ → Bool) (old new : Name) (t u : Source) (respelled : IsRespelled class new t u) (spelled : AreSpelled class old t) where
  new_name : (i : ℕ) (b : Bool) → class i ≡ b → name_at u i ≡ cond b new (name_at t i)
  new_name i b e = respelled.names i ∙ ap (λ b. cond b new (name_at t i)) e

  -- m is new beside n
  stays_new : (m n : Member) → (class m.token ≡ true → name_at t n.token ≡ new → ⊥) → (class n.token ≡ true → name_at t m.token ≡ new → ⊥) → is_named t (name_at t m.token) n ≡ false → is_named u (name_at u m.token) n ≡ false
  stays_new m n one other e = by (class m.token) (class n.token) refl refl
    where
      differ : name_at t n.token ≡ name_at t m.token → ⊥
      differ h = let k : same_name (name_at t n.token) (name_at t m.token) ≡ true = same_names (name_at t n.token) (name_at t m.token) h in cc

      by : (a b : Bool) → class m.token ≡ a → class n.token ≡ b → is_named u (name_at u m.token) n ≡ false
      by true true cm cn = absurd (differ (spelled n.token cn ∙ sym (spelled m.token cm)))
      by true false cm cn =
          unlike (name_at u n.token) (name_at u m.token) (λ h. one cm (sym (new_name n.token false cn) ∙ h ∙ new_name m.token true cm))
      by false true cm cn =
          unlike (name_at u n.token) (name_at u m.token) (λ h. other cn (sym (new_name m.token false cm) ∙ sym h ∙ new_name n.token true cn))
      by false false cm cn =
          unlike (name_at u n.token) (name_at u m.token) (λ h. differ (sym (new_name n.token false cn) ∙ h ∙ new_name m.token false cm))

pub keeps_new_members : KeepsNewMembers
keeps_new_members class old new t u s r more respelled spelled one other e =
    none_left (λ m. list_any (is_named t (name_at t m.token)) (members_of s r)) (λ m. list_any (is_named u (name_at u m.token)) (members_of s r)) more
    (λ m c fails. none_alike (is_named t (name_at t m.token)) (is_named u (name_at u m.token)) (λ n. n.holder == r) s.members
    (λ n d held fresh. stays_new class old new t u respelled spelled m n (one m n c d (eqb-true n.holder r held)) (other m n c d (eqb-true n.holder r held)) fresh) fails) e
