-- Flat lists of declarations, and one declaration more.
use Rattle.std.proofs.Common.{◌≡◌, ◌⊎◌, inl, inr, ℕ, ◌+◌, ◌<◌, Bool, true, false, not, ◌&&◌, ◌||◌, List, [], ◌∷◌, ◌++◌, Option, Some, None, refl, sym, ap, ◌∙◌, subst, arith, cond}
use Rattle.std.specs.Prelude.{if◌then◌else◌, bytes_eq}
use Rattle.std.specs.List.{list_any, find}
use Rattle.std.specs.Option.{option_or}
use Rattle.std.proofs.lemmas.Slice.Eq.{bytes_eq-Decides}
use Rattle.cr_small.specs.Declarations.{Entry, is_in, last_in, is_linked, both_or_neither, clashes, is_redeclared}
use Rattle.cr_small.specs.Resolution.{is_file_scope}
use Rattle.cr_small.specs.Holding.{IsOpened, AllOpened, other_kind}

pub bytes_eq-refl : (xs : List ℕ) → bytes_eq xs xs ≡ true
bytes_eq-refl xs = (bytes_eq-Decides xs xs).1 refl

pub bytes_eq-true : (xs ys : List ℕ) → bytes_eq xs ys ≡ true → xs ≡ ys
bytes_eq-true xs ys h = (bytes_eq-Decides xs ys).0 h

pub bool_cases : (b : Bool) → (b ≡ true) ⊎ (b ≡ false)
bool_cases true = inl refl
bool_cases false = inr refl

pub both : (a b : Bool) → (a && b) ≡ true → (a ≡ true) × (b ≡ true)
both true b h = (refl, h)
both false b h = let no : ⊥ = cc in absurd no

pub agreed : (a b : Bool) → both_or_neither a b ≡ true → a ≡ b
agreed true b e = sym e
agreed false true e = let no : ⊥ = cc in absurd no
agreed false false e = refl

pub or-false : (a b : Bool) → a ≡ false → b ≡ false → (a || b) ≡ false
or-false true b h k = let no : ⊥ = cc in absurd no
or-false false b h k = k

pub list_any-push : {X : Type 0} (t : X → Bool) (xs : List X) (x : X) → list_any t (xs ++ x ∷ []) ≡ (list_any t xs || t x)
list_any-push t [] x = or-nothing (t x)
  where
    or-nothing : (b : Bool) → (b || false) ≡ b
    or-nothing true = refl
    or-nothing false = refl
list_any-push t (y ∷ ys) x = ap (λ b. t y || b) (list_any-push t ys x) ∙ or-assoc (t y) (list_any t ys) (t x)
  where
    or-assoc : (a b c : Bool) → (a || (b || c)) ≡ (a || b || c)
    or-assoc true b c = refl
    or-assoc false b c = refl

pub last_in-push : (path name : List ℕ) (es : List Entry) (e : Entry) → last_in path name (es ++ e ∷ []) ≡ (if is_in path name e then Some e else last_in path name es)
last_in-push path name [] e = refl
last_in-push path name (x ∷ xs) e =
    ap (λ o. option_or o (if is_in path name x then Some x else None)) (last_in-push path name xs e) ∙ by (is_in path name e)
  where
    by : (b : Bool) → option_or (if b then Some e else last_in path name xs) (if is_in path name x then Some x else None) ≡ (if b then Some e else last_in path name (x ∷ xs))
    by true = refl
    by false = refl

pub find-push : {X : Type 0} (t : X → Bool) (xs : List X) (x : X) → find t (xs ++ x ∷ []) ≡ option_or (find t xs) (if t x then Some x else None)
find-push t [] x = refl
find-push t (y ∷ ys) x = by (t y) (find-push t ys x)
  where
    by : (b : Bool) → find t (ys ++ x ∷ []) ≡ option_or (find t ys) (if t x then Some x else None)
        → cond b (Some y) (find t (ys ++ x ∷ [])) ≡ option_or (cond b (Some y) (find t ys)) (if t x then Some x else None)
    by true h = refl
    by false h = h

-- what `find` finds passes the test, and so some element passes each test that it passes
pub find-Some : {X : Type 0} (t : X → Bool) (xs : List X) (x : X) → find t xs ≡ Some x → t x ≡ true
find-Some t [] x h = let no : ⊥ = cc in absurd no
find-Some t (y ∷ ys) x h = by (t y) refl h (find-Some t ys x)
  where
    by : (b : Bool) → t y ≡ b → cond b (Some y) (find t ys) ≡ Some x → (find t ys ≡ Some x → t x ≡ true) → t x ≡ true
    by true e h rest = let same : y ≡ x = cc in subst (λ z. t z ≡ true) same e
    by false e h rest = rest h

pub find-any : {X : Type 0} (t u : X → Bool) (xs : List X) (x : X) → find t xs ≡ Some x → u x ≡ true → list_any u xs ≡ true
find-any t u [] x h k = let no : ⊥ = cc in absurd no
find-any t u (y ∷ ys) x h k = by (t y) h (λ g. find-any t u ys x g k)
  where
    or-true : (b : Bool) → (b || true) ≡ true
    or-true true = refl
    or-true false = refl

    by : (b : Bool) → cond b (Some y) (find t ys) ≡ Some x → (find t ys ≡ Some x → list_any u ys ≡ true) → (u y || list_any u ys) ≡ true
    by true g rest = let same : y ≡ x = cc in ap (λ z. u z || list_any u ys) same ∙ ap (λ b. b || list_any u ys) k
    by false g rest = ap (λ b. u y || b) (rest g) ∙ or-true (u y)

pub find-None : {X : Type 0} (t : X → Bool) (xs : List X) → find t xs ≡ None → list_any t xs ≡ false
find-None t [] h = refl
find-None t (y ∷ ys) h = by (t y) h (find-None t ys)
  where
    by : (b : Bool) → cond b (Some y) (find t ys) ≡ None → (find t ys ≡ None → list_any t ys ≡ false) → (b || list_any t ys) ≡ false
    by true g rest = let no : ⊥ = cc in absurd no
    by false g rest = rest g

-- a test that implies another
pub list_any-none : {X : Type 0} (t u : X → Bool) (xs : List X) → ((x : X) → u x ≡ true → t x ≡ true) → list_any t xs ≡ false → list_any u xs ≡ false
list_any-none t u [] implies h = refl
list_any-none t u (y ∷ ys) implies h = by (t y) (u y) (implies y) h (list_any-none t u ys implies)
  where
    by : (a b : Bool) → (b ≡ true → a ≡ true) → (a || list_any t ys) ≡ false → (list_any t ys ≡ false → list_any u ys ≡ false) → (b || list_any u ys) ≡ false
    by true b i g rest = let no : ⊥ = cc in absurd no
    by false true i g rest = let no : false ≡ true = i refl in let bad : ⊥ = cc in absurd bad
    by false false i g rest = rest g

pub IsOpened-more : (path : List ℕ) (next : ℕ) → IsOpened next path → IsOpened (next + 1) path
IsOpened-more [] next h = tt
IsOpened-more (k ∷ []) next h = omega arith
IsOpened-more (k ∷ j ∷ rest) next h = h

pub AllOpened-more : (es : List Entry) (next : ℕ) → AllOpened next es → AllOpened (next + 1) es
AllOpened-more [] next h = tt
AllOpened-more (e ∷ es) next h = (IsOpened-more e.path next h.0, h.1, AllOpened-more es next h.2)

pub AllOpened-push : (es : List Entry) (next : ℕ) (e : Entry) → AllOpened next es → IsOpened next e.path → e.linked ≡ is_file_scope e.path → AllOpened next (es ++ e ∷ [])
AllOpened-push [] next e h o x = (o, x, tt)
AllOpened-push (y ∷ ys) next e h o x = (h.0, h.1, AllOpened-push ys next e h.2 o x)

-- a scope that wasn't opened yet declares nothing
pub unopened : (es : List Entry) (next : ℕ) (name : List ℕ) → AllOpened next es → last_in (next ∷ []) name es ≡ None
unopened [] next name h = refl
unopened (e ∷ es) next name h =
    ap (λ o. option_or o (if is_in (next ∷ []) name e then Some e else None)) (unopened es next name h.2)
    ∙ ap (λ b. if (b && bytes_eq e.name name) then Some e else None) (elsewhere e.path h.0)
  where
    elsewhere : (path : List ℕ) → IsOpened next path → bytes_eq path (next ∷ []) ≡ false
    elsewhere path o = elim (bool_cases (bytes_eq path (next ∷ []))) [
      | inl same ↦ (let at : path ≡ next ∷ [] = bytes_eq-true path (next ∷ []) same in let no : next < next = subst (IsOpened next) at o in absurd (omega arith))
      | inr other ↦ other
    ]

-- what a look-up finds is of the scope and name
pub last_in-Some : (path name : List ℕ) (es : List Entry) (next : ℕ) (e : Entry) → AllOpened next es → last_in path name es ≡ Some e → (e.path ≡ path) × (e.name ≡ name) × (e.linked ≡ is_file_scope path)
last_in-Some path name [] next e h f = let no : ⊥ = cc in absurd no
last_in-Some path name (x ∷ xs) next e h f = by (last_in path name xs) refl (λ y g. last_in-Some path name xs next y h.2 g) f
  where
    at : (b : Bool) → is_in path name x ≡ b → (if b then Some x else None) ≡ Some e → (e.path ≡ path) × (e.name ≡ name) × (e.linked ≡ is_file_scope path)
    at true t g =
        let same : x ≡ e = cc in
        let w = both (bytes_eq x.path path) (bytes_eq x.name name) t in
        let p : x.path ≡ path = bytes_eq-true x.path path w.0 in
        subst (λ y. (y.path ≡ path) × (y.name ≡ name) × (y.linked ≡ is_file_scope path)) same (p, bytes_eq-true x.name name w.1, h.1 ∙ ap is_file_scope p)
    at false t g = let no : ⊥ = cc in absurd no

    by : (o : Option Entry) → last_in path name xs ≡ o → ((y : Entry) → last_in path name xs ≡ Some y → (y.path ≡ path) × (y.name ≡ name) × (y.linked ≡ is_file_scope path))
        → option_or o (if is_in path name x then Some x else None) ≡ Some e → (e.path ≡ path) × (e.name ≡ name) × (e.linked ≡ is_file_scope path)
    by None l rest g = at (is_in path name x) refl g
    by (Some y) l rest g = let same : y ≡ e = cc in subst (λ y. (y.path ≡ path) × (y.name ≡ name) × (y.linked ≡ is_file_scope path)) same (rest y l)

-- what fails for each entry fails for the one that a look-up finds
pub last_in-none : (t : Entry → Bool) (path name : List ℕ) (es : List Entry) (e : Entry) → last_in path name es ≡ Some e → list_any t es ≡ false → t e ≡ false
last_in-none t path name [] e h none = let no : ⊥ = cc in absurd no
last_in-none t path name (x ∷ xs) e h none = by (last_in path name xs) h (λ y g. last_in-none t path name xs y g (neither (t x) (list_any t xs) none).1)
  where
    neither : (a b : Bool) → (a || b) ≡ false → (a ≡ false) × (b ≡ false)
    neither true b g = let no : ⊥ = cc in absurd no
    neither false b g = (refl, g)

    at : (b : Bool) → (if b then Some x else None) ≡ Some e → t e ≡ false
    at true g = let same : x ≡ e = cc in subst (λ y. t y ≡ false) same (neither (t x) (list_any t xs) none).0
    at false g = let no : ⊥ = cc in absurd no

    by : (o : Option Entry) → option_or o (if is_in path name x then Some x else None) ≡ Some e → ((y : Entry) → o ≡ Some y → t y ≡ false) → t e ≡ false
    by None g rest = at (is_in path name x) g
    by (Some y) g rest = let same : y ≡ e = cc in subst (λ y. t y ≡ false) same (rest y refl)

pub last_in-any : (path name : List ℕ) (es : List Entry) → (last_in path name es ≡ None → list_any (is_in path name) es ≡ false) × ((e : Entry) → last_in path name es ≡ Some e → list_any (is_in path name) es ≡ true)
last_in-any path name [] = (λ h. refl, λ e h. let no : ⊥ = cc in absurd no)
last_in-any path name (x ∷ xs) = by (last_in path name xs) refl (last_in-any path name xs)
  where
    or-true : (b : Bool) → (b || true) ≡ true
    or-true true = refl
    or-true false = refl

    at : (b : Bool) → list_any (is_in path name) xs ≡ false → ((if b then Some x else None) ≡ None → (b || list_any (is_in path name) xs) ≡ false) × ((e : Entry) → (if b then Some x else None) ≡ Some e → (b || list_any (is_in path name) xs) ≡ true)
    at true n = (λ g. (let no : ⊥ = cc in absurd no), λ e g. refl)
    at false n = (λ g. n, λ e g. let no : ⊥ = cc in absurd no)

    by : (o : Option Entry) → last_in path name xs ≡ o
        → (last_in path name xs ≡ None → list_any (is_in path name) xs ≡ false) × ((e : Entry) → last_in path name xs ≡ Some e → list_any (is_in path name) xs ≡ true)
        → (option_or o (if is_in path name x then Some x else None) ≡ None → list_any (is_in path name) (x ∷ xs) ≡ false) × ((e : Entry) → option_or o (if is_in path name x then Some x else None) ≡ Some e → list_any (is_in path name) (x ∷ xs) ≡ true)
    by None l rest = at (is_in path name x) (rest.0 l)
    by (Some y) l rest = (λ g. (let no : ⊥ = cc in absurd no), λ e g. ap (λ b. is_in path name x || b) (rest.1 y l) ∙ or-true (is_in path name x))

-- at file scope just the declarations with linkage stand:
path_linked : (e : Entry) → e.linked ≡ is_file_scope e.path → bytes_eq e.path [] ≡ e.linked
path_linked e x = by e.path x
  where
    by : (path : List ℕ) → e.linked ≡ is_file_scope path → bytes_eq path [] ≡ e.linked
    by [] x = sym x
    by (k ∷ rest) x = sym x

pub at_file : (e : Entry) (next : ℕ) (name : List ℕ) → IsOpened next e.path → e.linked ≡ is_file_scope e.path → is_in [] name e ≡ is_linked name e
at_file e next name o x = ap (λ b. b && bytes_eq e.name name) (path_linked e x)

pub any_at_file : (es : List Entry) (next : ℕ) (name : List ℕ) → AllOpened next es → list_any (is_in [] name) es ≡ list_any (is_linked name) es
any_at_file [] next name h = refl
any_at_file (e ∷ es) next name h =
    ap (λ b. b || list_any (is_in [] name) es) (at_file e next name h.0 h.1) ∙ ap (λ b. is_linked name e || b) (any_at_file es next name h.2)

-- the clashes of a declaration at file scope
pub file_clashes : (es : List Entry) (next : ℕ) (new : Entry) → AllOpened next es → new.path ≡ [] → new.linked ≡ true → is_redeclared es new ≡ list_any (other_kind new.function new.internal new.name) es
file_clashes [] next new h p x = refl
file_clashes (e ∷ es) next new h p x =
    ap (λ b. b || is_redeclared es new) (one e h.0 h.1) ∙ ap (λ b. other_kind new.function new.internal new.name e || b) (file_clashes es next new h.2 p x)
  where
    flags : (a n k l : Bool) → (n && ((a && not (a && k)) || (a && not l))) ≡ ((a && n) && not (k && l))
    flags true true true true = refl
    flags true true true false = refl
    flags true true false l = refl
    flags true false k l = refl
    flags false true k l = refl
    flags false false k l = refl

    one : (e : Entry) → IsOpened next e.path → e.linked ≡ is_file_scope e.path → clashes new e ≡ other_kind new.function new.internal new.name e
    one e o y = rw (p, x, path_linked e y) (flags e.linked (bytes_eq e.name new.name) (both_or_neither new.function e.function) (both_or_neither new.internal e.internal))

-- the clashes of a declaration without linkage
pub body_clashes : (es : List Entry) (new : Entry) → new.linked ≡ false → is_redeclared es new ≡ list_any (is_in new.path new.name) es
body_clashes [] new x = refl
body_clashes (e ∷ es) new x = ap (λ b. b || is_redeclared es new) (one e) ∙ ap (λ b. is_in new.path new.name e || b) (body_clashes es new x)
  where
    flags : (p n : Bool) → (n && ((p && true) || false)) ≡ (p && n)
    flags true true = refl
    flags true false = refl
    flags false true = refl
    flags false false = refl

    one : (e : Entry) → clashes new e ≡ is_in new.path new.name e
    one e = rw x (flags (bytes_eq e.path new.path) (bytes_eq e.name new.name))
