-- A unit that means the same after a renaming had no conflict.
use Rattle.std.specs.Prelude.{◌≡◌, ◌⊎◌, ℕ, zero, suc, ◌+◌, ◌<◌, ◌≤◌, Bool, true, false, not, ◌&&◌, ◌||◌, cond, eqb, Option, Some, None, option_map, option_and_then, MatchOption, List, [], ◌∷◌, length, map, take, slice_get, Contains}
use Rattle.std.specs.Prelude.{nat_lt}
use Rattle.std.specs.List.{find, position, position_or_len}
use Rattle.std.proofs.lemmas.List.Folds.{find_at}
use Rattle.std.proofs.Common.{refl, sym, ◌∙◌, ap, subst, inl, inr, arith}
use Rattle.std.proofs.lemmas.Bool.{eqb-true, eq-eqb}
use Rattle.cr_base.specs.declared.token.Name.{Name}
use Rattle.cr_base.specs.declared.Kind.{Kind}
use Rattle.cr_base.specs.declared.Kind.TheVariants as kind
use Rattle.cr_ll.specs.Derivation.{Trees}
use Rattle.cr_scope.specs.declared.Space.{Space}
use Rattle.cr_scope.specs.declared.Space.TheVariants as space
use Rattle.cr_scope.specs.declared.DeclNo.{DeclNo}
use Rattle.cr_scope.specs.Declarations.{Entry, Flat, depth, number, lookup, is_prefix, same_space, same_name}
use Rattle.cr_scope.specs.Meaning.{Sees, IsLookup, SeesNone, LookupMeans}
use Rattle.cr_scope.specs.Linkage.{has_linkage, linked}
use Rattle.cr_scope.specs.Linkage as scopes
use Rattle.cr_scope.specs.Redeclaration.{same_path, repeats, are_opposite}
use Rattle.cr_capture.specs.declared.Mention.{Mention}
use Rattle.cr_capture.specs.declared.Mention.TheVariants as mention
use Rattle.cr_capture.specs.Conflicts.{Pair, Shows, IsTypedef, IsTypeName, IsTypedefOver, Collides, AreBothLinked, IsConflict}
use Rattle.cr_capture.specs.Renaming.{AreAccepted}
use Rattle.cr_binding.specs.Source.{Source, name_at}
use Rattle.cr_binding.specs.State.{Declaration, LookedUp, WasAsked, State}
use Rattle.cr_binding.specs.Entities.{entry, meaning, is_linked, is_tag, is_typedef, is_typedef_kind, are_one, token_or, first_token}
use Rattle.cr_binding.specs.Binding.{bound}
use Rattle.cr_binding.specs.Resolution.{Declared, Occurrence, occurrences, origin_of, resolution}
use Rattle.cr_binding.specs.UnitConflicts.{entries_at, made_by, Mentions, declaration_of}
use Rattle.cr_binding.specs.WellFormed.{IsWellFormed, AreAnswered, is_typedef_name, is_some_typedef}
use Rattle.cr_binding.specs.MembersStay.{AreDistinct, MeetNone}
use Rattle.cr_binding_law.specs.Renaming.{AreEntities}
use Rattle.cr_binding_law.specs.UnitStays.{MeansTheSame}
use Rattle.cr_binding_law.specs.ConsistentUnits.{IsConsistent, UnitsAreConsistent}
use Rattle.cr_keys_law.proofs.Spelled.{in_tail, head_or_tail, found_there, names_one}
use Rattle.cr_keys_law.proofs.Moving.{mapped_alike, declared_occurs}
use Rattle.cr_same_law.specs.Told.{fits, IsToldUnit}
use Rattle.cr_same_law.specs.SameMeaning.{IsRespelledAs, IsNoAsk, IsOfClass, IsNotBetter, IsLookupOutside, ChangesAnswer, finds, uncovers, takes, HasNoNeededConflict, TagsAreDeclared, UnitsDeclareTags, SameMeaningsAreFree}
use Rattle.cr_same_law.proofs.Told.{units_are_told}

-- ---- lists

pub get_contains : {A : Type 0} (xs : List A) (i : ℕ) (x : A) → slice_get xs i ≡ Some x → Contains xs x
get_contains [] i x h = cc
get_contains (y ∷ xs) zero x h = (0, omega arith, (let e : y ≡ x = cc in e))
get_contains (y ∷ xs) (suc i) x h = in_tail y x xs (get_contains xs i x h)

pub mapped_get : {A B : Type 0} (f : A → B) (xs : List A) (k : ℕ) (y : B) → slice_get (map f xs) k ≡ Some y → (x : A) × (slice_get xs k ≡ Some x) × (f x ≡ y)
mapped_get f [] k y h = cc
mapped_get f (x ∷ xs) zero y h = let e : f x ≡ y = cc in (x, refl, e)
mapped_get f (x ∷ xs) (suc k) y h = mapped_get f xs k y h

get_mapped : {A B : Type 0} (f : A → B) (xs : List A) (k : ℕ) (x : A) → slice_get xs k ≡ Some x → slice_get (map f xs) k ≡ Some (f x)
get_mapped f [] k x h = cc
get_mapped f (y ∷ xs) zero x h = let e : y ≡ x = cc in ap (λ z. Some (f z)) e
get_mapped f (y ∷ xs) (suc k) x h = get_mapped f xs k x h

pub taken_get : {A : Type 0} (n : ℕ) (xs : List A) (k : ℕ) (x : A) → slice_get (take n xs) k ≡ Some x → (slice_get xs k ≡ Some x) × (k < n)
taken_get zero xs k x h = cc
taken_get (suc n) [] k x h = cc
taken_get (suc n) (y ∷ xs) zero x h = (h, omega arith)
taken_get (suc n) (y ∷ xs) (suc k) x h = let w = taken_get n xs k x h in (w.0, omega (arith, w.1))

get_taken : {A : Type 0} (n : ℕ) (xs : List A) (k : ℕ) (x : A) → slice_get xs k ≡ Some x → k < n → slice_get (take n xs) k ≡ Some x
get_taken zero xs k x h w = absurd (omega (arith, w))
get_taken (suc n) [] k x h w = h
get_taken (suc n) (y ∷ xs) zero x h w = h
get_taken (suc n) (y ∷ xs) (suc k) x h w = get_taken n xs k x h (omega (arith, w))

pub one_got : {A : Type 0} {o : Option A} {x y : A} → o ≡ Some x → o ≡ Some y → x ≡ y
one_got {A} {o} {x} {y} h g = let e : Some x ≡ Some y = sym h ∙ g in cc

find_alike : {A : Type 0} (p q : A → Bool) (xs : List A) → ((x : A) → Contains xs x → p x ≡ q x) → find p xs ≡ find q xs
find_alike p q [] each = refl
find_alike p q (x ∷ xs) each =
    ap (λ b. cond b (Some x) (find p xs)) (each x (0, omega arith, refl))
    ∙ ap (λ o. cond (q x) (Some x) o) (find_alike p q xs (λ n c. each n (in_tail x n xs c)))

is_found : {A : Type 0} (p : A → Bool) (xs : List A) (x : A) → Contains xs x → p x ≡ true → (y : A) × (find p xs ≡ Some y)
is_found p [] x c h = absurd (omega (arith, c.1))
is_found {A = A} p (z ∷ xs) x c h = by (p z) refl (head_or_tail z x xs c) (λ d. is_found p xs x d h)
  where
    by : (b : Bool) → p z ≡ b → (z ≡ x) ⊎ Contains xs x → (Contains xs x → (y : A) × (find p xs ≡ Some y)) → (y : A) × (cond b (Some z) (find p xs) ≡ Some y)
    by true q o more = (z, refl)
    by false q (inl e) more = let k : true ≡ false = sym h ∙ ap p (sym e) ∙ q in cc
    by false q (inr d) more = more d

positioned : {A : Type 0} (p : A → Bool) (xs : List A) (n : ℕ) (x : A) → position p xs ≡ Some n → slice_get xs n ≡ Some x → p x ≡ true
positioned p xs n x h g = by (nat_lt (position_or_len p xs) (length xs)) h
  where
    by : (b : Bool) → cond b (Some (position_or_len p xs)) None ≡ Some n → p x ≡ true
    by true e = let k : position_or_len p xs ≡ n = cc in (found_there p xs x (find_at p xs ∙ ap (slice_get xs) k ∙ g)).1
    by false e = cc

-- ---- booleans

and_both : (a b : Bool) → (a && b) ≡ true → (a ≡ true) × (b ≡ true)
and_both true true h = (refl, refl)
and_both true false h = cc
and_both false b h = cc

or_either : (a b : Bool) → (a || b) ≡ true → (a ≡ true) ⊎ (b ≡ true)
or_either true b h = inl refl
or_either false b h = inr h

pub is_false : (b : Bool) → (b ≡ true → ⊥) → b ≡ false
is_false true h = absurd (h refl)
is_false false h = refl

unlike : {P : Type 0} → true ≡ false → P
unlike e = cc

-- of a pair that doesn't clash
no_clash : (n p s r o : Bool) → (n && ((p && (s && not r)) || o)) ≡ false → n ≡ true → p ≡ true → s ≡ true → r ≡ true
no_clash true true true true o h a b c = refl
no_clash true true true false o h a b c = cc
no_clash true true false r o h a b c = cc
no_clash true false s r o h a b c = cc
no_clash false p s r o h a b c = cc

space_itself : (s : Space) → same_space s s ≡ true
space_itself space.Label = refl
space_itself space.Tag = refl
space_itself space.Ordinary = refl

path_itself : (p : List ℕ) → same_path p p ≡ true
path_itself [] = refl
path_itself (a ∷ p) = ap (λ b. b && same_path p p) (eq-eqb a a refl) ∙ path_itself p

one_path : (p q : List ℕ) → same_path p q ≡ true → p ≡ q
one_path [] [] h = refl
one_path [] (b ∷ q) h = cc
one_path (a ∷ p) [] h = cc
one_path (a ∷ p) (b ∷ q) h = let w = and_both (eqb a b) (same_path p q) h in ap (λ n. n ∷ p) (eqb-true a b w.0) ∙ ap (λ l. b ∷ l) (one_path p q w.1)

one_space : (a b : Space) → same_space a b ≡ true → a ≡ b
one_space space.Label space.Label h = refl
one_space space.Label space.Tag h = cc
one_space space.Label space.Ordinary h = cc
one_space space.Tag space.Label h = cc
one_space space.Tag space.Tag h = refl
one_space space.Tag space.Ordinary h = cc
one_space space.Ordinary space.Label h = cc
one_space space.Ordinary space.Tag h = cc
one_space space.Ordinary space.Ordinary h = refl

-- of the scopes on a path there is one of each depth
one_scope : (p r q : List ℕ) → is_prefix p q ≡ true → is_prefix r q ≡ true → length p ≡ length r → p ≡ r
one_scope [] [] q h g e = refl
one_scope [] (b ∷ r) q h g e = cc
one_scope (a ∷ p) [] q h g e = cc
one_scope (a ∷ p) (b ∷ r) [] h g e = cc
one_scope (a ∷ p) (b ∷ r) (c ∷ q) h g e =
    let x = and_both (eqb a c) (is_prefix p q) h in
    let y = and_both (eqb b c) (is_prefix r q) g in
    let l : length p ≡ length r = omega (arith, e) in
    ap (λ n. n ∷ p) (eqb-true a c x.0 ∙ sym (eqb-true b c y.0)) ∙ ap (λ z. b ∷ z) (one_scope p r q x.1 y.1 l)

name_itself : (a b : Name) → a ≡ b → same_name a b ≡ true
name_itself a b e = eq-eqb a.0 b.0 (ap (λ (n : Name). n.0) e)

-- ---- declarations of one entity

kinds_repeat : (l : Bool) (a b : Kind) → fits space.Ordinary a ≡ true → repeats l a b ≡ true → (l ≡ true) ⊎ ((is_typedef_kind a ≡ true) × (is_typedef_kind b ≡ true))
kinds_repeat l kind.Function kind.Function f h = inl h
kinds_repeat l kind.Object kind.Object f h = inl h
kinds_repeat l kind.Typedef kind.Typedef f h = inr (refl, refl)
kinds_repeat l kind.Function _ f h = cc
kinds_repeat l kind.Object _ f h = cc
kinds_repeat l kind.Typedef _ f h = cc
kinds_repeat l kind.Enumerator b f h = cc
kinds_repeat l kind.Struct b f h = cc
kinds_repeat l kind.Union b f h = cc
kinds_repeat l kind.Enum b f h = cc
kinds_repeat l kind.Member b f h = cc
kinds_repeat l kind.Label b f h = cc

labels_repeat : (l : Bool) (a b : Kind) → fits space.Label a ≡ true → repeats l a b ≡ true → ⊥
labels_repeat l kind.Label b f h = cc
labels_repeat l kind.Function b f h = cc
labels_repeat l kind.Object b f h = cc
labels_repeat l kind.Typedef b f h = cc
labels_repeat l kind.Enumerator b f h = cc
labels_repeat l kind.Struct b f h = cc
labels_repeat l kind.Union b f h = cc
labels_repeat l kind.Enum b f h = cc
labels_repeat l kind.Member b f h = cc

-- why two declarations of one name are of one entity
data AreAlike (d e : Declaration) : Type 0 where
  both_linked : is_linked d ≡ true → is_linked e ≡ true → AreAlike d e
  both_tags : d.path ≡ e.path → is_tag d ≡ true → is_tag e ≡ true → AreAlike d e
  both_typedefs : d.path ≡ e.path → is_typedef d ≡ true → is_typedef e ≡ true → AreAlike d e

swapped : (d e : Declaration) → AreAlike d e → AreAlike e d
swapped d e (both_linked a b) = both_linked b a
swapped d e (both_tags p a b) = both_tags (sym p) b a
swapped d e (both_typedefs p a b) = both_typedefs (sym p) b a

module _ (v : Source) where
  one_of : (d e : Declaration) → name_at v d.token ≡ name_at v e.token → AreAlike d e → are_one v d e ≡ true
  one_of d e n a = by (same_name (name_at v d.token) (name_at v e.token)) (name_itself (name_at v d.token) (name_at v e.token) n) a
    where
      paths : d.path ≡ e.path → same_path d.path e.path ≡ true
      paths p = ap (same_path d.path) (sym p) ∙ path_itself d.path

      linked_by : (l k r : Bool) → l ≡ true → k ≡ true → ((l && k) || r) ≡ true
      linked_by true true r h g = refl
      linked_by true false r h g = cc
      linked_by false k r h g = cc

      tags_by : (x p g k y : Bool) → p ≡ true → g ≡ true → k ≡ true → (x || (p && ((g && k) || y))) ≡ true
      tags_by true p g k y a b c = refl
      tags_by false true true true y a b c = refl
      tags_by false true true false y a b c = cc
      tags_by false true false k y a b c = cc
      tags_by false false g k y a b c = cc

      typedefs_by : (x p y g k : Bool) → p ≡ true → g ≡ true → k ≡ true → (x || (p && (y || (g && k)))) ≡ true
      typedefs_by true p y g k a b c = refl
      typedefs_by false true true g k a b c = refl
      typedefs_by false true false true true a b c = refl
      typedefs_by false true false true false a b c = cc
      typedefs_by false true false false k a b c = cc
      typedefs_by false false y g k a b c = cc

      alike : AreAlike d e → ((is_linked d && is_linked e) || (same_path d.path e.path && ((is_tag d && is_tag e) || (is_typedef d && is_typedef e)))) ≡ true
      alike (both_linked a b) = linked_by (is_linked d) (is_linked e) _ a b
      alike (both_tags p a b) = tags_by (is_linked d && is_linked e) (same_path d.path e.path) (is_tag d) (is_tag e) _ (paths p) a b
      alike (both_typedefs p a b) = typedefs_by (is_linked d && is_linked e) (same_path d.path e.path) (is_tag d && is_tag e) (is_typedef d) (is_typedef e) (paths p) a b

      by : (n : Bool) → n ≡ true → AreAlike d e → (n && ((is_linked d && is_linked e) || (same_path d.path e.path && ((is_tag d && is_tag e) || (is_typedef d && is_typedef e))))) ≡ true
      by true h a = alike a
      by false h a = cc

  alike_of : (d e : Declaration) → are_one v d e ≡ true → (name_at v d.token ≡ name_at v e.token) × AreAlike d e
  alike_of d e h =
      let w = and_both (same_name (name_at v d.token) (name_at v e.token)) ((is_linked d && is_linked e) || (same_path d.path e.path && ((is_tag d && is_tag e) || (is_typedef d && is_typedef e)))) h in
      (names_one (name_at v d.token) (name_at v e.token) w.0, by (or_either (is_linked d && is_linked e) (same_path d.path e.path && ((is_tag d && is_tag e) || (is_typedef d && is_typedef e))) w.1))
    where
      sorts : d.path ≡ e.path → (is_tag d && is_tag e) ≡ true ⊎ (is_typedef d && is_typedef e) ≡ true → AreAlike d e
      sorts p (inl g) = let k = and_both (is_tag d) (is_tag e) g in both_tags p k.0 k.1
      sorts p (inr g) = let k = and_both (is_typedef d) (is_typedef e) g in both_typedefs p k.0 k.1

      by : ((is_linked d && is_linked e) ≡ true) ⊎ ((same_path d.path e.path && ((is_tag d && is_tag e) || (is_typedef d && is_typedef e))) ≡ true) → AreAlike d e
      by (inl g) = let k = and_both (is_linked d) (is_linked e) g in both_linked k.0 k.1
      by (inr g) =
          let k = and_both (same_path d.path e.path) ((is_tag d && is_tag e) || (is_typedef d && is_typedef e)) g in
          sorts (one_path d.path e.path k.0) (or_either (is_tag d && is_tag e) (is_typedef d && is_typedef e) k.1)

  module _ (s : State) (linkeds : (d : Declaration) → Contains s.declarations d → is_linked d ≡ true → (d.space ≡ space.Ordinary) × (is_typedef d ≡ false)) (typedefs : (d : Declaration) → Contains s.declarations d → is_typedef d ≡ true → d.space ≡ space.Ordinary) where
    no_tag : (d : Declaration) → d.space ≡ space.Ordinary → is_tag d ≡ true → ⊥
    no_tag d e h = let no : false ≡ true = sym (ap (λ x. same_space x space.Tag) e) ∙ h in cc

    -- what is of one entity with e is with d
    followed : (d e g : Declaration) → Contains s.declarations d → Contains s.declarations e → AreAlike d e → AreAlike e g → AreAlike d g
    followed d e g in_d in_e (both_linked a b) (both_linked x y) = both_linked a y
    followed d e g in_d in_e (both_linked a b) (both_tags p x y) = absurd (no_tag e (linkeds e in_e b).0 x)
    followed d e g in_d in_e (both_linked a b) (both_typedefs p x y) = unlike (sym x ∙ (linkeds e in_e b).1)
    followed d e g in_d in_e (both_tags p a b) (both_linked x y) = absurd (no_tag e (linkeds e in_e x).0 b)
    followed d e g in_d in_e (both_tags p a b) (both_tags q x y) = both_tags (p ∙ q) a y
    followed d e g in_d in_e (both_tags p a b) (both_typedefs q x y) = absurd (no_tag e (typedefs e in_e x) b)
    followed d e g in_d in_e (both_typedefs p a b) (both_linked x y) = unlike (sym b ∙ (linkeds e in_e x).1)
    followed d e g in_d in_e (both_typedefs p a b) (both_tags q x y) = absurd (no_tag e (typedefs e in_e b) x)
    followed d e g in_d in_e (both_typedefs p a b) (both_typedefs q x y) = both_typedefs (p ∙ q) a y

    follows : (d e g : Declaration) → Contains s.declarations d → Contains s.declarations e → are_one v d e ≡ true → are_one v e g ≡ true → are_one v d g ≡ true
    follows d e g in_d in_e h k =
        let a = alike_of d e h in let b = alike_of e g k in one_of d g (a.0 ∙ b.0) (followed d e g in_d in_e a.1 b.1)

    turned : (d e : Declaration) → are_one v d e ≡ true → are_one v e d ≡ true
    turned d e h = let a = alike_of d e h in one_of e d (sym a.0) (swapped d e a.1)

    same_bool : (a b : Bool) → (a ≡ true → b ≡ true) → (b ≡ true → a ≡ true) → a ≡ b
    same_bool true b f g = sym (f refl)
    same_bool false true f g = g refl
    same_bool false false f g = refl

    -- they have one first token
    pub one_first : (d e : Declaration) → Contains s.declarations d → Contains s.declarations e → are_one v d e ≡ true → first_token v s.declarations d ≡ first_token v s.declarations e
    one_first d e in_d in_e h =
        let y = is_found (are_one v d) s.declarations e in_e h in
        let z = find_alike (are_one v e) (are_one v d) s.declarations (λ g c. same_bool (are_one v e g) (are_one v d g) (λ k. follows d e g in_d in_e h k) (λ k. follows e d g in_e in_d (turned d e h) k)) in
        ap (token_or d.token) y.1 ∙ sym (ap (token_or e.token) (z ∙ y.1))

  first_named : (ds : List Declaration) (d : Declaration) → name_at v (first_token v ds d) ≡ name_at v d.token
  first_named ds d = by (find (are_one v d) ds) refl
    where
      by : (o : Option Declaration) → find (are_one v d) ds ≡ o → name_at v (token_or d.token o) ≡ name_at v d.token
      by None e = refl
      by (Some f) e = sym (alike_of d f (found_there (are_one v d) ds f e).1).0

-- ---- the clauses

module _ (means : LookupMeans) (consistent : UnitsAreConsistent) (class : ℕ → Bool) (old new : Name) (t u : Source) (tree : Trees)
    (r : IsRespelledAs class old new t u) (well : IsWellFormed t tree) (ents : AreEntities class t (bound t tree)) (same : MeansTheSame t u tree) (tags : TagsAreDeclared t (bound t tree)) where
  abbrev s : State
  s = bound t tree

  abbrev ds : List Declaration
  ds = s.declarations

  -- ---- spellings

  class_new : (i : ℕ) → class i ≡ true → name_at u i ≡ new
  class_new i h = r.names i ∙ ap (λ b. cond b new (name_at t i)) h

  stays : (i : ℕ) → class i ≡ false → name_at u i ≡ name_at t i
  stays i h = r.names i ∙ ap (λ b. cond b new (name_at t i)) h

  new_apart : (i : ℕ) → name_at t i ≡ new → class i ≡ false
  new_apart i e = is_false (class i) (λ h. r.differ (sym (r.spelled i h) ∙ e))

  new_stays : (i : ℕ) → name_at t i ≡ new → name_at u i ≡ new
  new_stays i e = stays i (new_apart i e) ∙ e

  -- ---- u, as t

  c : IsConsistent t s
  c = consistent t tree

  told_t : IsToldUnit t s
  told_t = units_are_told means t tree

  told_u : IsToldUnit u s
  told_u = subst (IsToldUnit u) same.binding (units_are_told means u tree)

  accepted_u : AreAccepted (map (entry u) ds)
  accepted_u = subst (λ (x : State). AreAccepted (map (entry u) x.declarations)) same.binding (consistent u tree).accepted

  distinct_u : AreDistinct u s.members
  distinct_u = subst (λ (x : State). AreDistinct u x.members) same.binding (consistent u tree).members

  firsts : (d : Declaration) → Contains ds d → first_token u ds d ≡ first_token t ds d
  firsts d in_d =
      let e : ◌≡◌ {A = ℕ × Option ℕ} (d.token, Some (first_token u ds d)) (d.token, Some (first_token t ds d)) =
      mapped_alike {A = Occurrence} (λ x. (x.0, origin_of u s x.1)) (λ x. (x.0, origin_of t s x.1)) (occurrences s) (d.token, Declared d) (ap (resolution u) (sym same.binding) ∙ same.resolution) (declared_occurs s d in_d) in
      let f : Some (first_token u ds d) ≡ Some (first_token t ds d) = ap (λ (x : ℕ × Option ℕ). x.1) e in
      cc

  -- no two entities became one
  apart : (d e : Declaration) → Contains ds d → Contains ds e → are_one u d e ≡ true → name_at t d.token ≡ old → name_at t e.token ≡ new → ⊥
  apart d e in_d in_e one a b =
      r.differ (sym a ∙ sym (first_named t ds d) ∙ ap (name_at t) (sym (firsts d in_d) ∙ one_first u s c.linked c.typedefs d e in_d in_e one ∙ firsts e in_e) ∙ first_named t ds e ∙ b)

  -- ---- two declarations in one scope and space

  repeat_alike : (l : Bool) (d e : Declaration) → Contains ds d → Contains ds e → d.path ≡ e.path → d.space ≡ e.space → (l ≡ true → (is_linked d ≡ true) × (is_linked e ≡ true)) → repeats l d.kind e.kind ≡ true → AreAlike d e
  repeat_alike l d e in_d in_e p q linked h = by d.space refl
    where
      fit : (sp : Space) → d.space ≡ sp → fits sp d.kind ≡ true
      fit sp h = ap (λ x. fits x d.kind) (sym h) ∙ told_t.kinds d in_d

      tag : d.space ≡ space.Tag → AreAlike d e
      tag h = both_tags p (ap (λ x. same_space x space.Tag) h) (ap (λ x. same_space x space.Tag) (sym q ∙ h))

      ordinary : (l ≡ true) ⊎ ((is_typedef_kind d.kind ≡ true) × (is_typedef_kind e.kind ≡ true)) → AreAlike d e
      ordinary (inl k) = both_linked (linked k).0 (linked k).1
      ordinary (inr (a, b)) = both_typedefs p a b

      by : (sp : Space) → d.space ≡ sp → AreAlike d e
      by space.Label k = absurd (labels_repeat l d.kind e.kind (fit space.Label k) h)
      by space.Tag k = tag k
      by space.Ordinary k = ordinary (kinds_repeat l d.kind e.kind (fit space.Ordinary k) h)

  -- the later one k, the earlier one j
  beside_later : (j k : ℕ) (d e : Declaration) → j < k → slice_get ds k ≡ Some d → slice_get ds j ≡ Some e → name_at u d.token ≡ name_at u e.token → d.path ≡ e.path → d.space ≡ e.space → AreAlike d e
  beside_later j k d e w at_d at_e n p q =
      repeat_alike (is_linked d && is_linked e) d e (get_contains ds k d at_d) (get_contains ds j e at_e) p q (and_both (is_linked d) (is_linked e))
      (no_clash (same_name (name_at u d.token) (name_at u e.token)) (same_path d.path e.path) (same_space d.space e.space) (repeats (is_linked d && is_linked e) d.kind e.kind) (are_opposite d.linkage e.linkage)
      (accepted_u k j (entry u d) (entry u e) w (get_mapped (entry u) ds k d at_d) (get_mapped (entry u) ds j e at_e))
      (name_itself (name_at u d.token) (name_at u e.token) n) (ap (same_path d.path) (sym p) ∙ path_itself d.path) (ap (same_space d.space) (sym q) ∙ space_itself d.space))

  order_by : (j k : ℕ) → (j < k) ⊎ ((k < j) ⊎ (j ≡ k))
  order_by zero zero = inr (inr refl)
  order_by zero (suc k) = inl (omega arith)
  order_by (suc j) zero = inr (inl (omega arith))
  order_by (suc j) (suc k) = elim (order_by j k) [ inl w ↦ inl (omega (arith, w)) | inr (inl w) ↦ inr (inl (omega (arith, w))) | inr (inr e) ↦ inr (inr (ap suc e)) ]

  -- a declaration of the class and one of the name new can't have stood in one scope and space
  no_neighbours : (k j : ℕ) (d e : Declaration) → slice_get ds k ≡ Some d → slice_get ds j ≡ Some e → class d.token ≡ true → name_at t e.token ≡ new → d.path ≡ e.path → d.space ≡ e.space → ⊥
  no_neighbours k j d e at_d at_e of_class is_new p q = by (order_by j k)
    where
      names : name_at u d.token ≡ name_at u e.token
      names = class_new d.token of_class ∙ sym (new_stays e.token is_new)

      in_d : Contains ds d
      in_d = get_contains ds k d at_d

      in_e : Contains ds e
      in_e = get_contains ds j e at_e

      ends : AreAlike d e → ⊥
      ends a = apart d e in_d in_e (one_of u d e names a) (r.spelled d.token of_class) is_new

      by : (j < k) ⊎ ((k < j) ⊎ (j ≡ k)) → ⊥
      by (inl w) = ends (beside_later j k d e w at_d at_e names p q)
      by (inr (inl w)) = ends (swapped e d (beside_later k j e d w at_e at_d (sym names) (sym p) (sym q)))
      by (inr (inr z)) =
          let one : d ≡ e = one_got at_d (ap (λ n. slice_get ds n) (sym z) ∙ at_e) in
          r.differ (sym (r.spelled d.token of_class) ∙ ap (λ (x : Declaration). name_at t x.token) one ∙ is_new)

  -- ---- look-ups

  -- a declaration that is seen in t, as u sees it
  record SeenAs (path : List ℕ) (sp : Space) (n k : ℕ) (e : Entry) : Type 0 where
    itself : Declaration
    taken : slice_get (take n ds) k ≡ Some itself
    at : slice_get ds k ≡ Some itself
    early : k < n
    is : entry t itself ≡ e
    seen : Sees path sp (name_at u itself.token) (entries_at u s n) k (entry u itself)

  seen_as : (path : List ℕ) (sp : Space) (name : Name) (n k : ℕ) (e : Entry) → Sees path sp name (entries_at t s n) k e → SeenAs path sp n k e
  seen_as path sp name n k e see =
      let d = mapped_get (entry t) (take n ds) k e see.there in
      let w = taken_get n ds k d.0 d.1 in
      record {
        itself = d.0;
        taken = d.1;
        at = w.0;
        early = w.1;
        is = d.2;
        seen = record { there = get_mapped (entry u) (take n ds) k d.0 d.1; visible = ap (λ (x : Entry). is_prefix x.path path) d.2 ∙ see.visible; in_space = ap (λ (x : Entry). x.decl.space) d.2 ∙ see.in_space; named = refl };
      }

  -- the same among the first declarations only
  seen_early : (path : List ℕ) (sp : Space) (n m k : ℕ) (d : Declaration) → Sees path sp (name_at u d.token) (entries_at u s n) k (entry u d) → slice_get ds k ≡ Some d → k < m → Sees path sp (name_at u d.token) (entries_at u s m) k (entry u d)
  seen_early path sp n m k d see at w =
      record { there = get_mapped (entry u) (take m ds) k d (get_taken m ds k d at w); visible = see.visible; in_space = see.in_space; named = see.named }

  looked : (v : Source) (path : List ℕ) (sp : Space) (i n k : ℕ) → meaning v path sp i (take n ds) ≡ Some k → (e : Entry) × IsLookup path sp (name_at v i) (entries_at v s n) k e
  looked v path sp i n k h = by (meaning v path sp i (take n ds)) h (means path sp (name_at v i) (entries_at v s n))
    where
      by : (o : Option ℕ) → o ≡ Some k → MatchOption o (SeesNone path sp (name_at v i) (entries_at v s n)) (λ k. (e : Entry) × IsLookup path sp (name_at v i) (entries_at v s n) k e) → (e : Entry) × IsLookup path sp (name_at v i) (entries_at v s n) k e
      by None e m = cc
      by (Some j) e m = let z : j ≡ k = cc in subst (λ k. (e : Entry) × IsLookup path sp (name_at v i) (entries_at v s n) k e) z m

  looked_none : (v : Source) (path : List ℕ) (sp : Space) (i n : ℕ) → meaning v path sp i (take n ds) ≡ None → SeesNone path sp (name_at v i) (entries_at v s n)
  looked_none v path sp i n h = by (meaning v path sp i (take n ds)) h (means path sp (name_at v i) (entries_at v s n))
    where
      by : (o : Option ℕ) → o ≡ None → MatchOption o (SeesNone path sp (name_at v i) (entries_at v s n)) (λ k. (e : Entry) × IsLookup path sp (name_at v i) (entries_at v s n) k e) → SeesNone path sp (name_at v i) (entries_at v s n)
      by None e m = m
      by (Some j) e m = cc

  in_class : (k : ℕ) (d e : Declaration) → slice_get ds k ≡ Some d → slice_get ds k ≡ Some e → class e.token ≡ true → class d.token ≡ true
  in_class k d e a b h = ap (λ (x : Declaration). class x.token) (one_got a b) ∙ h

  -- ---- (a) a mention of new, and a declaration of the class in a deeper scope

  not_captured : (path : List ℕ) (sp : Space) (i before : ℕ) (denoted : Option DeclNo) (d : DeclNo) (own : Declaration) (itself : Entry)
      → Contains s.uses (LookedUp sp i path before (option_map number denoted))
      → name_at t i ≡ new
      → Sees path sp old (entries_at t s (made_by denoted before)) (number d) itself
      → (deeper : (o : DeclNo) → denoted ≡ Some o → (g : Entry) × (slice_get (entries_at t s before) (number o) ≡ Some g) × (depth g < depth itself))
      → slice_get ds (number d) ≡ Some own → class own.token ≡ true → ⊥
  not_captured path sp i before (Some o) d own itself used is_new see deeper at of_class = by (l.1.best (number d) (entry u x.itself) named)
    where
      x : SeenAs path sp before (number d) itself
      x = seen_as path sp old before (number d) itself see

      named : Sees path sp (name_at u i) (entries_at u s before) (number d) (entry u x.itself)
      named = subst (λ n. Sees path sp n (entries_at u s before) (number d) (entry u x.itself)) (class_new x.itself.token (in_class (number d) x.itself own x.at at of_class) ∙ sym (new_stays i is_new)) x.seen

      g : (g : Entry) × (slice_get (entries_at t s before) (number o) ≡ Some g) × (depth g < depth itself)
      g = deeper o refl

      l : (e : Entry) × IsLookup path sp (name_at u i) (entries_at u s before) (number o) e
      l = looked u path sp i before (number o) (told_u.uses (LookedUp sp i path before (Some (number o))) used).1

      y : (y : Declaration) × (slice_get (take before ds) (number o) ≡ Some y) × (entry t y ≡ g.0)
      y = mapped_get (entry t) (take before ds) (number o) g.0 g.1

      z : (z : Declaration) × (slice_get (take before ds) (number o) ≡ Some z) × (entry u z ≡ l.0)
      z = mapped_get (entry u) (take before ds) (number o) l.0 l.1.seen.there

      depths : depth l.0 ≡ depth g.0
      depths = ap depth (sym z.2) ∙ ap (λ (q : Declaration). length q.path) (one_got z.1 y.1) ∙ ap depth y.2

      own_depth : depth (entry u x.itself) ≡ depth itself
      own_depth = ap depth x.is

      by : (depth (entry u x.itself) < depth l.0) ⊎ ((depth (entry u x.itself) ≡ depth l.0) × (number d ≤ number o)) → ⊥
      by (inl w) = let v : depth g.0 < depth itself = g.2 in omega (arith, w, v, depths, own_depth)
      by (inr w) = let v : depth g.0 < depth itself = g.2 in let q : depth (entry u x.itself) ≡ depth l.0 = w.0 in omega (arith, q, v, depths, own_depth)
  not_captured path sp i before None d own itself used is_new see deeper at of_class = by (order_by (number d) before)
    where
      x : SeenAs path sp (before + 1) (number d) itself
      x = seen_as path sp old (before + 1) (number d) itself see

      own_tag : (q : Declaration) × (slice_get ds before ≡ Some q) × (q.token ≡ i)
      own_tag = tags sp i path before used

      none_seen : SeesNone path sp (name_at u i) (entries_at u s before)
      none_seen = looked_none u path sp i before (told_u.uses (LookedUp sp i path before None) used).1

      named : name_at u x.itself.token ≡ name_at u i
      named = class_new x.itself.token (in_class (number d) x.itself own x.at at of_class) ∙ sym (new_stays i is_new)

      by : (number d < before) ⊎ ((before < number d) ⊎ (number d ≡ before)) → ⊥
      by (inl w) = none_seen (number d) (entry u x.itself) (subst (λ n. Sees path sp n (entries_at u s before) (number d) (entry u x.itself)) named (seen_early path sp (before + 1) before (number d) x.itself x.seen x.at w))
      by (inr (inl w)) = let v : number d < before + 1 = x.early in omega (arith, w, v)
      by (inr (inr e)) =
          let one : x.itself ≡ own_tag.0 = one_got x.at (ap (λ n. slice_get ds n) e ∙ own_tag.1) in
          r.differ (sym (r.spelled x.itself.token (in_class (number d) x.itself own x.at at of_class)) ∙ ap (λ (q : Declaration). name_at t q.token) one ∙ ap (name_at t) own_tag.2 ∙ is_new)

  -- ---- (b) a mention of a declaration of the class, and new in its scope or a deeper one

  not_hidden : (path : List ℕ) (sp : Space) (i before : ℕ) (o other : DeclNo) (own : Declaration) (itself over : Entry)
      → Contains s.uses (LookedUp sp i path before (Some (number o)))
      → slice_get (entries_at t s before) (number o) ≡ Some itself
      → Sees path sp new (entries_at t s before) (number other) over
      → depth itself ≤ depth over
      → slice_get ds (number o) ≡ Some own → class own.token ≡ true → ⊥
  not_hidden path sp i before o other own itself over used there see inside at of_class = by (l.1.best (number other) (entry u x.itself) named)
    where
      x : SeenAs path sp before (number other) over
      x = seen_as path sp new before (number other) over see

      is_new : name_at t x.itself.token ≡ new
      is_new = ap (λ (e : Entry). e.decl.name) x.is ∙ see.named

      itself_new : name_at u i ≡ new
      itself_new = class_new i (ents.uses (LookedUp sp i path before (Some (number o))) used own at ∙ of_class)

      named : Sees path sp (name_at u i) (entries_at u s before) (number other) (entry u x.itself)
      named = subst (λ n. Sees path sp n (entries_at u s before) (number other) (entry u x.itself)) (new_stays x.itself.token is_new ∙ sym itself_new) x.seen

      l : (e : Entry) × IsLookup path sp (name_at u i) (entries_at u s before) (number o) e
      l = looked u path sp i before (number o) (told_u.uses (LookedUp sp i path before (Some (number o))) used).1

      y : (y : Declaration) × (slice_get (take before ds) (number o) ≡ Some y) × (entry t y ≡ itself)
      y = mapped_get (entry t) (take before ds) (number o) itself there

      z : (z : Declaration) × (slice_get (take before ds) (number o) ≡ Some z) × (entry u z ≡ l.0)
      z = mapped_get (entry u) (take before ds) (number o) l.0 l.1.seen.there

      at_z : slice_get ds (number o) ≡ Some z.0
      at_z = (taken_get before ds (number o) z.0 z.1).0

      depths : depth l.0 ≡ depth itself
      depths = ap depth (sym z.2) ∙ ap (λ (q : Declaration). length q.path) (one_got z.1 y.1) ∙ ap depth y.2

      over_depth : depth (entry u x.itself) ≡ depth over
      over_depth = ap depth x.is

      one_level : depth l.0 ≡ depth (entry u x.itself) → ⊥
      one_level e =
          no_neighbours (number o) (number other) z.0 x.itself at_z x.at (in_class (number o) z.0 own at_z at of_class) is_new
          (one_scope z.0.path x.itself.path path (ap (λ (q : Entry). is_prefix q.path path) z.2 ∙ l.1.seen.visible) x.seen.visible (ap depth z.2 ∙ e))
          (ap (λ (q : Entry). q.decl.space) z.2 ∙ l.1.seen.in_space ∙ sym x.seen.in_space)

      by : (depth (entry u x.itself) < depth l.0) ⊎ ((depth (entry u x.itself) ≡ depth l.0) × (number other ≤ number o)) → ⊥
      by (inl w) = let v : depth itself ≤ depth over = inside in omega (arith, w, v, depths, over_depth)
      by (inr w) = one_level (sym w.0)

  not_hidden_tag : (path : List ℕ) (sp : Space) (i before : ℕ) (d other : DeclNo) (own : Declaration) (over : Entry)
      → Contains s.uses (LookedUp sp i path before None)
      → name_at t i ≡ old
      → meaning t path sp i (take (before + 1) ds) ≡ Some (number d)
      → Sees path sp new (entries_at t s (before + 1)) (number other) over
      → slice_get ds (number d) ≡ Some own → class own.token ≡ true → ⊥
  not_hidden_tag path sp i before d other own over used is_old found see at of_class = by (order_by (number d) before)
    where
      x : SeenAs path sp (before + 1) (number other) over
      x = seen_as path sp new (before + 1) (number other) over see

      is_new : name_at t x.itself.token ≡ new
      is_new = ap (λ (e : Entry). e.decl.name) x.is ∙ see.named

      own_tag : (q : Declaration) × (slice_get ds before ≡ Some q) × (q.token ≡ i)
      own_tag = tags sp i path before used

      l : (e : Entry) × IsLookup path sp (name_at t i) (entries_at t s (before + 1)) (number d) e
      l = looked t path sp i (before + 1) (number d) found

      z : (z : Declaration) × (slice_get (take (before + 1) ds) (number d) ≡ Some z) × (entry t z ≡ l.0)
      z = mapped_get (entry t) (take (before + 1) ds) (number d) l.0 l.1.seen.there

      w : (slice_get ds (number d) ≡ Some z.0) × (number d < before + 1)
      w = taken_get (before + 1) ds (number d) z.0 z.1

      ends : number d ≡ before → ⊥
      ends e = at_other (order_by (number other) before)
        where
          one : z.0 ≡ own_tag.0
          one = one_got w.0 (ap (λ n. slice_get ds n) e ∙ own_tag.1)

          of_class_i : class i ≡ true
          of_class_i = ap class (sym own_tag.2) ∙ ap (λ (q : Declaration). class q.token) (sym one) ∙ in_class (number d) z.0 own w.0 at of_class

          none_seen : SeesNone path sp (name_at u i) (entries_at u s before)
          none_seen = looked_none u path sp i before (told_u.uses (LookedUp sp i path before None) used).1

          at_other : (number other < before) ⊎ ((before < number other) ⊎ (number other ≡ before)) → ⊥
          at_other (inl k) = none_seen (number other) (entry u x.itself) (subst (λ n. Sees path sp n (entries_at u s before) (number other) (entry u x.itself)) (new_stays x.itself.token is_new ∙ sym (class_new i of_class_i)) (seen_early path sp (before + 1) before (number other) x.itself x.seen x.at k))
          at_other (inr (inl k)) = let v : number other < before + 1 = x.early in omega (arith, k, v)
          at_other (inr (inr k)) =
              let same_one : x.itself ≡ own_tag.0 = one_got x.at (ap (λ n. slice_get ds n) k ∙ own_tag.1) in
              r.differ (sym is_old ∙ ap (name_at t) (sym own_tag.2) ∙ ap (λ (q : Declaration). name_at t q.token) (sym same_one) ∙ is_new)

      by : (number d < before) ⊎ ((before < number d) ⊎ (number d ≡ before)) → ⊥
      by (inl k) =
          looked_none t path sp i before (told_t.uses (LookedUp sp i path before None) used).1 (number d) (entry t z.0)
          (record { there = get_mapped (entry t) (take before ds) (number d) z.0 (get_taken before ds (number d) z.0 w.0 k); visible = ap (λ (q : Entry). is_prefix q.path path) z.2 ∙ l.1.seen.visible; in_space = ap (λ (q : Entry). q.decl.space) z.2 ∙ l.1.seen.in_space; named = ap (λ (q : Entry). q.decl.name) z.2 ∙ l.1.seen.named })
      by (inr (inl k)) = let v : number d < before + 1 = w.1 in omega (arith, k, v)
      by (inr (inr e)) = ends e

  -- ---- (c) and (d)

  not_colliding : (n : ℕ) (d : DeclNo) (own : Declaration) (token : ℕ) (f : Flat) (k : DeclNo) → f.entries ≡ entries_at t s n → Collides f old new k d token → slice_get ds (number d) ≡ Some own → class own.token ≡ true → ⊥
  not_colliding n d own token f k es x at of_class =
      no_neighbours (number d) (number x.other) a.0 b.0 at_a at_b (in_class (number d) a.0 own at_a at of_class)
      (ap (λ (e : Entry). e.decl.name) b.2 ∙ x.other_named) (ap (λ (e : Entry). e.path) a.2 ∙ x.one_scope ∙ sym (ap (λ (e : Entry). e.path) b.2)) (ap (λ (e : Entry). e.decl.space) a.2 ∙ x.one_space ∙ sym (ap (λ (e : Entry). e.decl.space) b.2))
    where
      a : (a : Declaration) × (slice_get (take n ds) (number d) ≡ Some a) × (entry t a ≡ x.itself)
      a = mapped_get (entry t) (take n ds) (number d) x.itself (ap (λ l. slice_get l (number d)) (sym es) ∙ x.there)

      b : (b : Declaration) × (slice_get (take n ds) (number x.other) ≡ Some b) × (entry t b ≡ x.beside)
      b = mapped_get (entry t) (take n ds) (number x.other) x.beside (ap (λ l. slice_get l (number x.other)) (sym es) ∙ x.other_there)

      at_a : slice_get ds (number d) ≡ Some a.0
      at_a = (taken_get n ds (number d) a.0 a.1).0

      at_b : slice_get ds (number x.other) ≡ Some b.0
      at_b = (taken_get n ds (number x.other) b.0 b.1).0

  not_both_linked : (n : ℕ) (d : DeclNo) (own : Declaration) (token : ℕ) (f : Flat) (k : DeclNo) → f.entries ≡ entries_at t s n → AreBothLinked f old new k d token → slice_get ds (number d) ≡ Some own → class own.token ≡ true → ⊥
  not_both_linked n d own token f k es x at of_class =
      apart a.0 b.0 (get_contains ds (number d) a.0 at_a) (get_contains ds (number x.other) b.0 at_b)
      (one_of u a.0 b.0 (class_new a.0.token of_class_a ∙ sym (new_stays b.0.token is_new)) (both_linked (ap (λ (e : Entry). has_linkage e.decl.linkage) a.2 ∙ linked_a.0) (ap (λ (e : Entry). has_linkage e.decl.linkage) b.2 ∙ linked_b.0)))
      (r.spelled a.0.token of_class_a) is_new
    where
      a : (a : Declaration) × (slice_get (take n ds) (number d) ≡ Some a) × (entry t a ≡ x.of_old)
      a = mapped_get (entry t) (take n ds) (number d) x.of_old (ap (λ l. slice_get l (number d)) (sym es) ∙ x.old_there)

      b : (b : Declaration) × (slice_get (take n ds) (number x.other) ≡ Some b) × (entry t b ≡ x.of_new)
      b = mapped_get (entry t) (take n ds) (number x.other) x.of_new (ap (λ l. slice_get l (number x.other)) (sym es) ∙ x.new_there)

      at_a : slice_get ds (number d) ≡ Some a.0
      at_a = (taken_get n ds (number d) a.0 a.1).0

      at_b : slice_get ds (number x.other) ≡ Some b.0
      at_b = (taken_get n ds (number x.other) b.0 b.1).0

      of_class_a : class a.0.token ≡ true
      of_class_a = in_class (number d) a.0 own at_a at of_class

      linked_a : (has_linkage x.of_old.decl.linkage ≡ true) × (same_name x.of_old.decl.name old ≡ true)
      linked_a = and_both (has_linkage x.of_old.decl.linkage) (same_name x.of_old.decl.name old) (positioned (λ (e : Entry). scopes.is_linked e && same_name e.decl.name old) f.entries (number d) x.of_old x.first_old x.old_there)

      linked_b : (has_linkage x.of_new.decl.linkage ≡ true) × (same_name x.of_new.decl.name new ≡ true)
      linked_b = and_both (has_linkage x.of_new.decl.linkage) (same_name x.of_new.decl.name new) (positioned (λ (e : Entry). scopes.is_linked e && same_name e.decl.name new) f.entries (number x.other) x.of_new x.first_new x.new_there)

      is_new : name_at t b.0.token ≡ new
      is_new = ap (λ (e : Entry). e.decl.name) b.2 ∙ names_one x.of_new.decl.name new linked_b.1

  -- ---- mentions

  at_path : (f : Flat) (path : List ℕ) (n : ℕ) (sp : Space) (name : Name) (d : DeclNo) (e : Entry) → f.present ≡ path → f.entries ≡ entries_at t s n → Shows f sp name d e → Sees path sp name (entries_at t s n) (number d) e
  at_path f path n sp name d e p es x = subst (λ l. Sees path sp name l (number d) e) es (subst (λ q. Sees q sp name f.entries (number d) e) p x)

  some_one : {A : Type 0} {x y : A} → Some x ≡ Some y → x ≡ y
  some_one e = cc

  no_mention : (f : Flat) (what : Mention) (x : Pair) (own : Declaration) → IsNoAsk what → Mentions t s f what → IsConflict f old new x what → declaration_of s x ≡ Some own → class own.token ≡ true → ⊥
  no_mention f (mention.Asked name i parameter) x own h m k at of_class = absurd h
  no_mention f (mention.Declared k) x own h m (d, token, e, inl y) at of_class = not_colliding (number k + 1) d own token f k m.1 y (subst (λ z. declaration_of s z ≡ Some own) e at) of_class
  no_mention f (mention.Declared k) x own h m (d, token, e, inr y) at of_class = not_both_linked (number k + 1) d own token f k m.1 y (subst (λ z. declaration_of s z ≡ Some own) e at) of_class
  no_mention f (mention.Named sp name i (Some o)) x own h (path, before, used, n, (p, es)) (d, e, inl y) at of_class =
      not_captured path sp i before (Some o) d own y.itself used (sym n ∙ y.mentions) (at_path f path before sp old d y.itself p es y.seen)
      (λ q z. (y.deeper.0, subst (λ q. slice_get (entries_at t s before) (number q) ≡ Some y.deeper.0) (some_one z) (ap (λ l. slice_get l (number o)) (sym es) ∙ y.deeper.1), y.deeper.2)) (subst (λ z. declaration_of s z ≡ Some own) e at) of_class
  no_mention f (mention.Named sp name i (Some o)) x own h (path, before, used, n, (p, es)) (d, e, inr y) at of_class =
      not_hidden path sp i before o y.other own y.itself y.over used (ap (λ l. slice_get l (number o)) (sym es) ∙ ap (λ (q : DeclNo). slice_get f.entries (number q)) (sym y.meant) ∙ y.there) (at_path f path before sp new y.other y.over p es y.seen) y.inside
      (ap (λ (q : DeclNo). slice_get ds (number q)) (sym y.meant) ∙ subst (λ z. declaration_of s z ≡ Some own) e at) of_class
  no_mention f (mention.Named sp name i None) x own h (path, before, used, n, (p, es)) (d, e, inl y) at of_class =
      not_captured path sp i before None d own y.itself used (sym n ∙ y.mentions) (at_path f path (before + 1) sp old d y.itself p es y.seen) (λ q z. cc) (subst (λ z. declaration_of s z ≡ Some own) e at) of_class
  no_mention f (mention.Named sp name i None) x own h (path, before, used, n, (p, es)) (d, e, inr y) at of_class =
      not_hidden_tag path sp i before d y.other own y.over used (sym n ∙ y.mentions)
      (ap (λ l. lookup path sp (name_at t i) l) (sym es) ∙ ap (λ q. lookup q sp (name_at t i) f.entries) (sym p) ∙ ap (λ q. lookup f.present sp q f.entries) (sym n) ∙ y.meant) (at_path f path (before + 1) sp new y.other y.over p es y.seen) (subst (λ z. declaration_of s z ≡ Some own) e at) of_class

  -- ---- members

  no_members : MeetNone class new t s.members
  no_members m n in_m in_n one of_class is_new =
      let e : m.token ≡ n.token = distinct_u m n in_m in_n one (class_new m.token of_class ∙ sym (new_stays n.token is_new)) in
      r.differ (sym (r.spelled m.token of_class) ∙ ap (name_at t) e ∙ is_new)

  -- ---- (e) asks

  answered_u : (i : ℕ) (path : List ℕ) (before : ℕ) → Contains s.uses (WasAsked i path before false) → false ≡ is_typedef_name u path i (take before ds)
  answered_u i path before c =
      subst (λ (x : State). AreAnswered u x) same.binding same.well_formed.answered i path before false c

  -- a typedef that is looked up in u is an answer yes
  yes : (path : List ℕ) (i before k : ℕ) (d : Declaration) → meaning u path space.Ordinary i (take before ds) ≡ Some k → slice_get (take before ds) k ≡ Some d → is_typedef d ≡ true → Contains s.uses (WasAsked i path before false) → ⊥
  yes path i before k d found at sort used =
      unlike (sym (ap (λ o. is_some_typedef (option_and_then (slice_get (take before ds)) o)) found ∙ ap is_some_typedef at ∙ sort) ∙ sym (answered_u i path before used))

  -- what is visible in u has a last declaration in the deepest scope
  some_lookup : (path : List ℕ) (i before k : ℕ) (e : Entry) → Sees path space.Ordinary (name_at u i) (entries_at u s before) k e → (n : ℕ) × (meaning u path space.Ordinary i (take before ds) ≡ Some n) × (g : Entry) × IsLookup path space.Ordinary (name_at u i) (entries_at u s before) n g
  some_lookup path i before k e see = by (meaning u path space.Ordinary i (take before ds)) refl (means path space.Ordinary (name_at u i) (entries_at u s before))
    where
      by : (o : Option ℕ) → meaning u path space.Ordinary i (take before ds) ≡ o → MatchOption o (SeesNone path space.Ordinary (name_at u i) (entries_at u s before)) (λ k. (e : Entry) × IsLookup path space.Ordinary (name_at u i) (entries_at u s before) k e) → (n : ℕ) × (meaning u path space.Ordinary i (take before ds) ≡ Some n) × (g : Entry) × IsLookup path space.Ordinary (name_at u i) (entries_at u s before) n g
      by None h m = absurd (m k e see)
      by (Some n) h m = (n, h, m.0, m.1)

  -- the declaration that a look-up in u gives, as t sees it
  record Found (path : List ℕ) (i before : ℕ) (name : Name) : Type 0 where
    at : ℕ
    itself : Declaration
    means_it : meaning u path space.Ordinary i (take before ds) ≡ Some at
    there : slice_get (take before ds) at ≡ Some itself
    named : name_at u itself.token ≡ name
    own : Sees path space.Ordinary (name_at t itself.token) (entries_at t s before) at (entry t itself)
    best : (j : ℕ) (d : Entry) → Sees path space.Ordinary name (entries_at u s before) j d → (depth d < length itself.path) ⊎ ((depth d ≡ length itself.path) × (j ≤ at))

  found_by : (path : List ℕ) (i before k : ℕ) (e : Entry) → Sees path space.Ordinary (name_at u i) (entries_at u s before) k e → Found path i before (name_at u i)
  found_by path i before k e see =
      let l = some_lookup path i before k e see in
      let d = mapped_get (entry u) (take before ds) l.0 l.2 l.3.seen.there in
      record {
        at = l.0;
        itself = d.0;
        means_it = l.1;
        there = d.1;
        named = ap (λ (x : Entry). x.decl.name) d.2 ∙ l.3.seen.named;
        own = record { there = get_mapped (entry t) (take before ds) l.0 d.0 d.1; visible = ap (λ (x : Entry). is_prefix x.path path) d.2 ∙ l.3.seen.visible; in_space = ap (λ (x : Entry). x.decl.space) d.2 ∙ l.3.seen.in_space; named = refl };
        best = λ j g x. subst (λ n. (depth g < n) ⊎ ((depth g ≡ n) × (j ≤ l.0))) (sym (ap depth d.2)) (l.3.best j g x);
      }

  typedef_of : (e : Entry) (d : Declaration) → entry t d ≡ e → IsTypedef e → is_typedef d ≡ true
  typedef_of e d is h = ap (λ (x : Entry). is_typedef_kind x.decl.kind) is ∙ ap is_typedef_kind h

  -- of the class: what shows in t, as a number
  shown : (f : Flat) (path : List ℕ) (before : ℕ) (name : Name) (k : ℕ) (d : Declaration) → f.present ≡ path → f.entries ≡ entries_at t s before → name_at t d.token ≡ name → Sees path space.Ordinary (name_at t d.token) (entries_at t s before) k (entry t d) → Shows f space.Ordinary name (record { 0 = k }) (entry t d)
  shown f path before name k d p es n x = subst (λ l. Sees f.present space.Ordinary name l k (entry t d)) (sym es) (subst (λ q. Sees q space.Ordinary name (entries_at t s before) k (entry t d)) (sym p) (subst (λ z. Sees path space.Ordinary z (entries_at t s before) k (entry t d)) n x))

  no_finds : (f : Flat) (i : ℕ) (path : List ℕ) (before : ℕ) (d : DeclNo) (e : Entry) → Contains s.uses (WasAsked i path before false) → f.present ≡ path → f.entries ≡ entries_at t s before → name_at t i ≡ new
      → IsTypedefOver f old new d → Shows f space.Ordinary old d e → IsOfClass class e → ((c : DeclNo) (g : Entry) → Shows f space.Ordinary old c g → IsOfClass class g → IsTypedef g) → ⊥
  no_finds f i path before d e used p es is_new over see of_class sorts = ends (class l.itself.token) refl
    where
      x : SeenAs path space.Ordinary before (number d) e
      x = seen_as path space.Ordinary old before (number d) e (at_path f path before space.Ordinary old d e p es see)

      own_class : class x.itself.token ≡ true
      own_class = ap (λ (z : Entry). class z.decl.token) x.is ∙ of_class

      named : Sees path space.Ordinary (name_at u i) (entries_at u s before) (number d) (entry u x.itself)
      named = subst (λ z. Sees path space.Ordinary z (entries_at u s before) (number d) (entry u x.itself)) (class_new x.itself.token own_class ∙ sym (new_stays i is_new)) x.seen

      l : Found path i before (name_at u i)
      l = found_by path i before (number d) (entry u x.itself) named

      over_entry : over.itself ≡ e
      over_entry = one_got over.seen.there see.there

      own_depth : depth (entry u x.itself) ≡ depth over.itself
      own_depth = ap depth x.is ∙ sym (ap depth over_entry)

      ends : (b : Bool) → class l.itself.token ≡ b → ⊥
      ends true h =
          yes path i before l.at l.itself l.means_it l.there
          (typedef_of (entry t l.itself) l.itself refl (sorts (record { 0 = l.at }) (entry t l.itself) (shown f path before old l.at l.itself p es (r.spelled l.itself.token h) l.own) h)) used
      ends false h = by (l.best (number d) (entry u x.itself) named)
        where
          shallow : length l.itself.path < depth over.itself
          shallow = over.deeper (record { 0 = l.at }) (entry t l.itself) (shown f path before new l.at l.itself p es (sym (stays l.itself.token h) ∙ l.named ∙ new_stays i is_new) l.own)

          by : (depth (entry u x.itself) < length l.itself.path) ⊎ ((depth (entry u x.itself) ≡ length l.itself.path) × (number d ≤ l.at)) → ⊥
          by (inl w) = let v : length l.itself.path < depth over.itself = shallow in omega (arith, w, v, own_depth)
          by (inr w) = let v : length l.itself.path < depth over.itself = shallow in let q : depth (entry u x.itself) ≡ length l.itself.path = w.0 in omega (arith, q, v, own_depth)

  no_uncovers : (f : Flat) (i : ℕ) (path : List ℕ) (before : ℕ) (m : DeclNo) (e : Entry) → Contains s.uses (WasAsked i path before false) → f.present ≡ path → f.entries ≡ entries_at t s before → name_at t i ≡ old → class i ≡ false
      → IsLookupOutside class f old m e → IsTypedef e → ⊥
  no_uncovers f i path before m e used p es is_old itself outside sort = yes path i before l.at l.itself l.means_it l.there (typedef_of e l.itself same_entry sort) used
    where
      x : SeenAs path space.Ordinary before (number m) e
      x = seen_as path space.Ordinary old before (number m) e (at_path f path before space.Ordinary old m e p es outside.seen)

      is_out : class x.itself.token ≡ false
      is_out = ap (λ (z : Entry). class z.decl.token) x.is ∙ outside.outside

      old_u : name_at u i ≡ old
      old_u = stays i itself ∙ is_old

      named : Sees path space.Ordinary (name_at u i) (entries_at u s before) (number m) (entry u x.itself)
      named = subst (λ z. Sees path space.Ordinary z (entries_at u s before) (number m) (entry u x.itself)) (stays x.itself.token is_out ∙ ap (λ (z : Entry). z.decl.name) x.is ∙ outside.seen.named ∙ sym old_u) x.seen

      l : Found path i before (name_at u i)
      l = found_by path i before (number m) (entry u x.itself) named

      out : class l.itself.token ≡ false
      out = is_false (class l.itself.token) (λ h. r.differ (sym old_u ∙ sym l.named ∙ class_new l.itself.token h))

      shows : Shows f space.Ordinary old (record { 0 = l.at }) (entry t l.itself)
      shows = shown f path before old l.at l.itself p es (sym (stays l.itself.token out) ∙ l.named ∙ old_u) l.own

      depths : depth (entry u x.itself) ≡ depth e
      depths = ap depth x.is

      both : (depth (entry u x.itself) < length l.itself.path) ⊎ ((depth (entry u x.itself) ≡ length l.itself.path) × (number m ≤ l.at)) → IsNotBetter m e (record { 0 = l.at }) (entry t l.itself) → l.at ≡ number m
      both (inl w) (inl v) = let a : length l.itself.path < depth e = v in absurd (omega (arith, w, a, depths))
      both (inl w) (inr v) = let a : length l.itself.path ≡ depth e = v.0 in absurd (omega (arith, w, a, depths))
      both (inr w) (inl v) = let b : depth (entry u x.itself) ≡ length l.itself.path = w.0 in let a : length l.itself.path < depth e = v in absurd (omega (arith, b, a, depths))
      both (inr w) (inr v) = let a : number m ≤ l.at = w.1 in let b : l.at ≤ number m = v.1 in omega (arith, a, b)

      one : l.at ≡ number m
      one = both (l.best (number m) (entry u x.itself) named) (outside.best (record { 0 = l.at }) (entry t l.itself) shows out)

      same_entry : entry t l.itself ≡ e
      same_entry = ap (entry t) (one_got l.there (ap (slice_get (take before ds)) one ∙ x.taken)) ∙ x.is

  no_takes : (f : Flat) (i : ℕ) (path : List ℕ) (before : ℕ) → Contains s.uses (WasAsked i path before false) → f.present ≡ path → f.entries ≡ entries_at t s before → class i ≡ true
      → IsTypeName f new → ((c : DeclNo) (g : Entry) → Shows f space.Ordinary old c g → IsOfClass class g → ⊥) → ⊥
  no_takes f i path before used p es itself (m, e, k, sort) never = yes path i before l.at l.itself l.means_it l.there (typedef_of e l.itself same_entry sort) used
    where
      x : SeenAs path space.Ordinary before (number m) e
      x = seen_as path space.Ordinary new before (number m) e (at_path f path before space.Ordinary new m e p es k.seen)

      new_u : name_at u i ≡ new
      new_u = class_new i itself

      named : Sees path space.Ordinary (name_at u i) (entries_at u s before) (number m) (entry u x.itself)
      named = subst (λ z. Sees path space.Ordinary z (entries_at u s before) (number m) (entry u x.itself)) (new_stays x.itself.token (ap (λ (z : Entry). z.decl.name) x.is ∙ k.seen.named) ∙ sym new_u) x.seen

      l : Found path i before (name_at u i)
      l = found_by path i before (number m) (entry u x.itself) named

      out : class l.itself.token ≡ false
      out = is_false (class l.itself.token) (λ h. never (record { 0 = l.at }) (entry t l.itself) (shown f path before old l.at l.itself p es (r.spelled l.itself.token h) l.own) h)

      shows : Shows f space.Ordinary new (record { 0 = l.at }) (entry t l.itself)
      shows = shown f path before new l.at l.itself p es (sym (stays l.itself.token out) ∙ l.named ∙ new_u) l.own

      depths : depth (entry u x.itself) ≡ depth e
      depths = ap depth x.is

      both : (depth (entry u x.itself) < length l.itself.path) ⊎ ((depth (entry u x.itself) ≡ length l.itself.path) × (number m ≤ l.at)) → (length l.itself.path < depth e) ⊎ ((length l.itself.path ≡ depth e) × (l.at ≤ number m)) → l.at ≡ number m
      both (inl w) (inl v) = absurd (omega (arith, w, v, depths))
      both (inl w) (inr v) = let a : length l.itself.path ≡ depth e = v.0 in absurd (omega (arith, w, a, depths))
      both (inr w) (inl v) = let b : depth (entry u x.itself) ≡ length l.itself.path = w.0 in absurd (omega (arith, b, v, depths))
      both (inr w) (inr v) = let a : number m ≤ l.at = w.1 in let b : l.at ≤ number m = v.1 in omega (arith, a, b)

      one : l.at ≡ number m
      one = both (l.best (number m) (entry u x.itself) named) (k.best l.at (entry t l.itself) shows)

      same_entry : entry t l.itself ≡ e
      same_entry = ap (entry t) (one_got l.there (ap (slice_get (take before ds)) one ∙ x.taken)) ∙ x.is

  no_ask : (f : Flat) (name : Name) (i : ℕ) (parameter : Bool) → Mentions t s f (mention.Asked name i parameter) → ChangesAnswer class old new f name i → ⊥
  no_ask f name i parameter (path, before, used, n, (p, es), of_ask) (finds is_new d e over see of_class sorts) = no_finds f i path before d e used p es (sym n ∙ is_new) over see of_class sorts
  no_ask f name i parameter (path, before, used, n, (p, es), of_ask) (uncovers is_old itself m e outside sort) = no_uncovers f i path before m e used p es (sym n ∙ is_old) itself outside sort
  no_ask f name i parameter (path, before, used, n, (p, es), of_ask) (takes is_old itself type_name never) = no_takes f i path before used p es itself type_name never

  none_needed : HasNoNeededConflict class old new t s
  none_needed = record { mentions = no_mention; asks = no_ask; members = no_members }

pub same_meanings_are_free : LookupMeans → UnitsAreConsistent → UnitsDeclareTags → SameMeaningsAreFree
same_meanings_are_free means consistent declare_tags class old new t u tree r well ents same =
    none_needed means consistent class old new t u tree r well ents same (declare_tags t tree well.sound)
