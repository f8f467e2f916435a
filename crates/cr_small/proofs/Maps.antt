-- The maps of the code, and the flat list that they hold.
use Rattle.std.proofs.Common.{◌≡◌, ◌⊎◌, inl, inr, ℕ, ◌+◌, Bool, true, false, not, ◌&&◌, ◌||◌, List, [], ◌∷◌, ◌++◌, Option, Some, None, refl, sym, ap, ◌∙◌, subst, arith}
use Rattle.std.specs.Prelude.{if◌then◌else◌, bytes_eq}
use Rattle.std.specs.Borrow.{Bor}
use Rattle.std.specs.List.{list_any}
use Rattle.std.specs.Option.{option_map, option_or, is_some}
use Rattle.cr_small.specs.Declarations.{Entry, is_in, last_in, lookup, is_linked, first_linked, is_internal, is_seen_internal, token_or, entity_of, both_or_neither, is_redeclared}
use Rattle.cr_small.specs.Resolution.{Bindings, is_file_scope, denotation, declared, mentioned, entry_at}
use Rattle.cr_small.specs.declared.binder.Denotation.{Denotation}
use Rattle.cr_small.specs.Holding.{symbol_of, symbol_in, answer, linked_answer, again_answer, is_internal_symbol, IsOpened, AllOpened, other_kind, IsOneKind, IsPresent, HoldsBody, Holds, Answers}
use Rattle.cr_small.specs.declared.grammar.Storage.{Storage}
use Rattle.cr_small.specs.declared.scopes.Symbol.{Symbol}
use Rattle.cr_small.specs.declared.scopes.Scopes.{Scopes}
use Rattle.cr_small.specs.declared.binder.Binding.{Binding}
use Rattle.cr_small.proofs.Flat.{agreed, bytes_eq-refl, bytes_eq-true, bool_cases, both, list_any-push, last_in-push, find-push, find-Some, find-any, find-None, list_any-none, AllOpened-more, AllOpened-push, unopened, last_in-Some, last_in-none, last_in-any, any_at_file, file_clashes, body_clashes}

-- a map with one name more
abbrev pub Inserts : List ℕ → Symbol → List (Bor (List ℕ) × Symbol) → List (Bor (List ℕ) × Symbol) → Type 0
Inserts name symbol before after = (n : List ℕ) → symbol_in n after ≡ (if bytes_eq name n then Some symbol else symbol_in n before)

-- the first declaration of a name with linkage after one declaration more
pub first-push : (es : List Entry) (e : Entry) (n : List ℕ) → first_linked n (es ++ e ∷ []) ≡ option_or (first_linked n es) (if is_linked n e then Some e else None)
first-push es e n = find-push (is_linked n) es e

-- a declaration without linkage changes no first one with linkage
pub first-unlinked : (es : List Entry) (e : Entry) (n : List ℕ) → e.linked ≡ false → first_linked n (es ++ e ∷ []) ≡ first_linked n es
first-unlinked es e n x = first-push es e n ∙ ap (λ b. option_or (first_linked n es) (if (b && bytes_eq e.name n) then Some e else None)) x ∙ same (first_linked n es)
  where
    same : (o : Option Entry) → option_or o None ≡ o
    same None = refl
    same (Some y) = refl

-- nor does one where the name has linkage already
pub first-known : (es : List Entry) (e f : Entry) (n : List ℕ) → first_linked n es ≡ Some f → first_linked n (es ++ e ∷ []) ≡ Some f
first-known es e f n h = first-push es e n ∙ ap (λ o. option_or o (if is_linked n e then Some e else None)) h

pub first-other : (es : List Entry) (e : Entry) (n : List ℕ) → bytes_eq e.name n ≡ false → first_linked n (es ++ e ∷ []) ≡ first_linked n es
first-other es e n h = first-push es e n ∙ ap (λ b. option_or (first_linked n es) (if (e.linked && b) then Some e else None)) h ∙ by e.linked (first_linked n es)
  where
    by : (b : Bool) (o : Option Entry) → option_or o (if (b && false) then Some e else None) ≡ o
    by true None = refl
    by true (Some y) = refl
    by false None = refl
    by false (Some y) = refl

pub first-new : (es : List Entry) (e : Entry) → e.linked ≡ true → first_linked e.name es ≡ None → first_linked e.name (es ++ e ∷ []) ≡ Some e
first-new es e x h =
    first-push es e e.name
    ∙ ap (λ o. option_or o (if is_linked e.name e then Some e else None)) h
    ∙ ap (λ b. if (b && bytes_eq e.name e.name) then Some e else None) x
    ∙ ap (λ b. if b then Some e else None) (bytes_eq-refl e.name)

-- one declaration more leaves each name of one kind
pub IsOneKind-push : (es : List Entry) (e : Entry) → IsOneKind es
    → ((first : Entry) → first_linked e.name (es ++ e ∷ []) ≡ Some first → list_any (other_kind first.function first.internal e.name) es ≡ false)
    → (e.linked ≡ true → (first : Entry) → first_linked e.name (es ++ e ∷ []) ≡ Some first → (first.function ≡ e.function) × (first.internal ≡ e.internal))
    → IsOneKind (es ++ e ∷ [])
IsOneKind-push es e kinds own agrees n first h =
    elim (bool_cases (bytes_eq e.name n)) [
      | inl same ↦ at n first h (bytes_eq-true e.name n same)
      | inr other ↦ list_any-push (other_kind first.function first.internal n) es e
          ∙ ap (λ b. b || other_kind first.function first.internal n e) (kinds n first (sym (first-other es e n other) ∙ h))
          ∙ ap (λ b. e.linked && b && not (both_or_neither first.function e.function && both_or_neither first.internal e.internal)) other
          ∙ none e.linked (both_or_neither first.function e.function && both_or_neither first.internal e.internal)
    ]
  where
    none : (a b : Bool) → (a && false && not b) ≡ false
    none true b = refl
    none false b = refl

    agree : (a b c d : Bool) → (a ≡ b) × (c ≡ d) → (both_or_neither a b && both_or_neither c d) ≡ true
    agree a b c d h = ap (λ x. x && both_or_neither c d) (equal a b h.0) ∙ equal c d h.1
      where
        equal : (a b : Bool) → a ≡ b → both_or_neither a b ≡ true
        equal true b h = sym h
        equal false b h = ap not (sym h)

    last : (x : Bool) → e.linked ≡ x → (first : Entry) → (e.linked ≡ true → (first.function ≡ e.function) × (first.internal ≡ e.internal)) → (x && bytes_eq e.name e.name && not (both_or_neither first.function e.function && both_or_neither first.internal e.internal)) ≡ false
    last true x first a = ap (λ b. true && bytes_eq e.name e.name && not b) (agree first.function e.function first.internal e.internal (a x)) ∙ no (bytes_eq e.name e.name)
      where
        no : (b : Bool) → (b && false) ≡ false
        no true = refl
        no false = refl
    last false x first a = refl

    at : (n : List ℕ) (first : Entry) → first_linked n (es ++ e ∷ []) ≡ Some first → e.name ≡ n → list_any (other_kind first.function first.internal n) (es ++ e ∷ []) ≡ false
    at n first h same =
        let g : first_linked e.name (es ++ e ∷ []) ≡ Some first = ap (λ m. first_linked m (es ++ e ∷ [])) same ∙ h in
        subst (λ m. list_any (other_kind first.function first.internal m) (es ++ e ∷ []) ≡ false) same
        (list_any-push (other_kind first.function first.internal e.name) es e
        ∙ ap (λ b. b || other_kind first.function first.internal e.name e) (own first g)
        ∙ last e.linked refl first (λ x. agrees x first g))

-- what a mention means, by the two maps
pub file_mention : (es : List Entry) (next : ℕ) (name : List ℕ) → AllOpened next es
    → ((last_in [] name es ≡ None) × (first_linked name es ≡ None)) ⊎ ((e : Entry) × (f : Entry) × (last_in [] name es ≡ Some e) × (first_linked name es ≡ Some f))
file_mention es next name h = by (last_in [] name es) refl (first_linked name es) refl (last_in-any [] name es)
  where
    by : (o : Option Entry) → last_in [] name es ≡ o → (p : Option Entry) → first_linked name es ≡ p
        → (last_in [] name es ≡ None → list_any (is_in [] name) es ≡ false) × ((e : Entry) → last_in [] name es ≡ Some e → list_any (is_in [] name) es ≡ true)
        → ((last_in [] name es ≡ None) × (first_linked name es ≡ None)) ⊎ ((e : Entry) × (f : Entry) × (last_in [] name es ≡ Some e) × (first_linked name es ≡ Some f))
    by None l None f any = inl (l, f)
    by None l (Some x) f any =
        let yes : list_any (is_linked name) es ≡ true = find-any (is_linked name) (is_linked name) es x f (find-Some (is_linked name) es x f) in
        let no : list_any (is_linked name) es ≡ false = sym (any_at_file es next name h) ∙ any.0 l in
        let bad : true ≡ false = sym yes ∙ no in
        let worse : ⊥ = cc in absurd worse
    by (Some e) l None f any =
        let no : list_any (is_linked name) es ≡ false = find-None (is_linked name) es f in
        let yes : list_any (is_linked name) es ≡ true = sym (any_at_file es next name h) ∙ any.1 e l in
        let bad : true ≡ false = sym yes ∙ no in
        let worse : ⊥ = cc in absurd worse
    by (Some e) l (Some x) f any = inr (e, x, l, f)

some-injective : {X : Type 0} {x y : X} → Some x ≡ Some y → x ≡ y
some-injective e = cc

-- the last declaration of a name with linkage is of the kind of the first, and has its linkage
same_kind : (es : List Entry) (next : ℕ) (name : List ℕ) (e f : Entry) → AllOpened next es → IsOneKind es → last_in [] name es ≡ Some e → first_linked name es ≡ Some f → (f.function ≡ e.function) × (f.internal ≡ e.internal)
same_kind es next name e f opened kinds last first =
    let is = last_in-Some [] name es next e opened last in
    let linked : is_linked name e ≡ true = ap (λ b. b && bytes_eq e.name name) is.2 ∙ ap (λ n. bytes_eq n name) is.1 ∙ bytes_eq-refl name in
    let none : other_kind f.function f.internal name e ≡ false = last_in-none (other_kind f.function f.internal name) [] name es e last (kinds name f first) in
    let two = by (both_or_neither f.function e.function) (both_or_neither f.internal e.internal) (sym (ap (λ b. b && not (both_or_neither f.function e.function && both_or_neither f.internal e.internal)) linked) ∙ none) in
    (agreed f.function e.function two.0, agreed f.internal e.internal two.1)
  where
    by : (k l : Bool) → not (k && l) ≡ false → (k ≡ true) × (l ≡ true)
    by true true h = (refl, refl)
    by true false h = let no : ⊥ = cc in absurd no
    by false l h = let no : ⊥ = cc in absurd no

-- a name of file scope
pub mention_file : (s : Scopes) (b : Bindings) (name : List ℕ) (r : Option Binding) → Holds s b → lookup b.entries name b.path ≡ last_in [] name b.entries
    → r ≡ linked_answer (symbol_in name s.file.entries) → Answers s (mentioned b (lookup b.entries name b.path)) r
mention_file s b name r h path e =
    elim (file_mention b.entries b.next name h.opened) [
      | inl none ↦ (
          let r' : r ≡ None = e ∙ ap (λ o. linked_answer o) (h.file name ∙ ap (option_map symbol_of) none.1) in
          let l : lookup b.entries name b.path ≡ None = path ∙ none.0 in
          rw (r', l) tt)
      | inr some ↦ (
          let is = last_in-Some [] name b.entries b.next some.0 h.opened some.2 in
          let r' : r ≡ Some (answer (symbol_of some.1) true false) = e ∙ ap (λ o. linked_answer o) (h.file name ∙ ap (option_map symbol_of) some.3) in
          let l : lookup b.entries name b.path ≡ Some some.0 = path ∙ some.2 in
          let t : entity_of b.entries some.0 ≡ some.1.token =
          ap (λ x. if x then token_or some.0.token (first_linked some.0.name b.entries) else some.0.token) is.2
          ∙ ap (λ n. token_or some.0.token (first_linked n b.entries)) is.1 ∙ ap (token_or some.0.token) some.3 in
          let kind = same_kind b.entries b.next name some.0 some.1 h.opened h.one_kind some.2 some.3 in
          let d : denotation b.entries some.0 false ≡ record { token = some.1.token; function = some.1.function; linked = true; internal = some.1.internal; declares = false } =
          ap (λ k. record { token = k; function = some.0.function; linked = some.0.linked; internal = some.0.internal; declares = false }) t
          ∙ ap (λ x. record { token = some.1.token; function = some.0.function; linked = x; internal = some.0.internal; declares = false }) is.2
          ∙ ap (λ x. record { token = some.1.token; function = x; linked = true; internal = some.0.internal; declares = false }) (sym kind.0)
          ∙ ap (λ x. record { token = some.1.token; function = some.1.function; linked = true; internal = x; declares = false }) (sym kind.1) in
          rw (r', l) (h, ap (λ x. Some x) (sym d)))
    ]

-- a name of the open body
pub mention_body : (s : Scopes) (b : Bindings) (name : List ℕ) (symbol : Symbol) → Holds s b → s.in_body ≡ true → symbol_in name s.body.entries ≡ Some symbol
    → Answers s (mentioned b (lookup b.entries name b.path)) (Some (answer symbol false false))
mention_body s b name symbol h inside f = at b.path refl (subst (λ x. IsPresent x b.next b.path) inside h.present)
  where
    holds : symbol_in name s.body.entries ≡ option_map symbol_of (last_in b.path name b.entries)
    holds = let P : Bool → Type 0 = λ x. HoldsBody x s.body.entries b.path b.entries in (subst P inside h.body) name

    at : (path : List ℕ) → b.path ≡ path → IsPresent true b.next path → Answers s (mentioned b (lookup b.entries name path)) (Some (answer symbol false false))
    at [] p present = elim present [ ]
    at (k ∷ j ∷ rest) p present = elim present [ ]
    at (k ∷ []) p present = by (last_in (k ∷ []) name b.entries) refl (sym f ∙ holds ∙ ap (λ q. option_map symbol_of (last_in q name b.entries)) p)
      where
        by : (o : Option Entry) → last_in (k ∷ []) name b.entries ≡ o → Some symbol ≡ option_map symbol_of o → Answers s (mentioned b (option_or o (last_in [] name b.entries))) (Some (answer symbol false false))
        by None l e = let no : ⊥ = cc in absurd no
        by (Some y) l e =
            let is = last_in-Some (k ∷ []) name b.entries b.next y h.opened l in
            let same : symbol ≡ symbol_of y = cc in
            let d : denotation b.entries y false ≡ record { token = symbol.token; function = symbol.function; linked = false; internal = symbol.internal; declares = false } =
            ap (λ x. record { token = if x then token_or y.token (first_linked y.name b.entries) else y.token; function = y.function; linked = x; internal = y.internal; declares = false }) is.2
            ∙ ap (λ (z : Symbol). record { token = z.token; function = z.function; linked = false; internal = z.internal; declares = false }) (sym same) in
            (h, ap (λ x. Some x) (sym d))

-- a name that the open body doesn't declare is one of file scope
pub lookup_out : (s : Scopes) (b : Bindings) (name : List ℕ) → Holds s b → (s.in_body ≡ true → symbol_in name s.body.entries ≡ None) → lookup b.entries name b.path ≡ last_in [] name b.entries
lookup_out s b name h none = by s.in_body refl
  where
    at : (path : List ℕ) → b.path ≡ path → IsPresent true b.next path → None ≡ option_map symbol_of (last_in b.path name b.entries) → lookup b.entries name path ≡ last_in [] name b.entries
    at [] p present e = elim present [ ]
    at (k ∷ j ∷ rest) p present e = elim present [ ]
    at (k ∷ []) p present e = one (last_in (k ∷ []) name b.entries) (e ∙ ap (λ q. option_map symbol_of (last_in q name b.entries)) p)
      where
        one : (o : Option Entry) → None ≡ option_map symbol_of o → option_or o (last_in [] name b.entries) ≡ last_in [] name b.entries
        one None e = refl
        one (Some y) e = let no : ⊥ = cc in absurd no

    by : (x : Bool) → s.in_body ≡ x → lookup b.entries name b.path ≡ last_in [] name b.entries
    by true inside =
        let P : Bool → Type 0 = λ x. HoldsBody x s.body.entries b.path b.entries in
        at b.path refl (subst (λ x. IsPresent x b.next b.path) inside h.present) (sym (none inside) ∙ (subst P inside h.body) name)
    by false shut = let p : b.path ≡ [] = subst (λ x. IsPresent x b.next b.path) shut h.present in ap (lookup b.entries name) p

pub mentions : (s : Scopes) (b : Bindings) (name : List ℕ) (here : Option Symbol) → Holds s b → here ≡ (if s.in_body then symbol_in name s.body.entries else None)
    → ((symbol : Symbol) → here ≡ Some symbol → Answers s (mentioned b (lookup b.entries name b.path)) (Some (answer symbol false false)))
    × (here ≡ None → Answers s (mentioned b (lookup b.entries name b.path)) (linked_answer (symbol_in name s.file.entries)))
mentions s b name here h e = (λ symbol some. by s.in_body refl symbol (sym e ∙ some), λ none. mention_file s b name _ h (lookup_out s b name h (λ inside. sym (e ∙ ap (λ x. if x then symbol_in name s.body.entries else None) inside) ∙ none)) refl)
  where
    by : (x : Bool) → s.in_body ≡ x → (symbol : Symbol) → (if x then symbol_in name s.body.entries else None) ≡ Some symbol → Answers s (mentioned b (lookup b.entries name b.path)) (Some (answer symbol false false))
    by true inside symbol f = mention_body s b name symbol h inside f
    by false outside symbol f = let no : ⊥ = cc in absurd no

-- the present scope is opened
present_opened : (in_body : Bool) (next : ℕ) (path : List ℕ) → IsPresent in_body next path → IsOpened next path
present_opened true next [] h = elim h [ ]
present_opened true next (k ∷ []) h = h
present_opened true next (k ∷ j ∷ rest) h = elim h [ ]
present_opened false next path h = subst (IsOpened next) (sym h) tt

inside_internal : (next : ℕ) (path : List ℕ) → IsPresent true next path → is_file_scope path ≡ false
inside_internal next [] h = elim h [ ]
inside_internal next (k ∷ rest) h = refl

map-None : (o : Option Entry) → option_map symbol_of o ≡ None → o ≡ None
map-None None e = refl
map-None (Some x) e = let no : ⊥ = cc in absurd no

turned : (a b : Bool) → both_or_neither b a ≡ both_or_neither a b
turned true true = refl
turned true false = refl
turned false true = refl
turned false false = refl

-- an entry that doesn't clash is added
added : (s : Scopes) (b : Bindings) (e : Entry) (r : Binding) → is_redeclared b.entries e ≡ false
    → Holds s (record { entries = b.entries ++ e ∷ []; path = b.path; next = b.next }) → r.denotes ≡ Some (denotation (b.entries ++ e ∷ []) e true)
    → Answers s (declared b e) (Some r)
added s b e r free h d =
    subst (λ x. Answers s (if x then None else Some (record { after = record { entries = b.entries ++ e ∷ []; path = b.path; next = b.next }; denotes = Some (denotation (b.entries ++ e ∷ []) e true) })) (Some r)) (sym free) (h, d)

refused : (s : Scopes) (b : Bindings) (e : Entry) → is_redeclared b.entries e ≡ true → Answers s (declared b e) None
refused s b e clash =
    subst (λ x. Answers s (if x then None else Some (record { after = record { entries = b.entries ++ e ∷ []; path = b.path; next = b.next }; denotes = Some (denotation (b.entries ++ e ∷ []) e true) })) None) (sym clash) tt

module _ (s : Scopes) (b : Bindings) (function : Bool) (word : Option Storage) (name : List ℕ) (token : ℕ) (h : Holds s b) where
  -- the declaration, as a map holds it
  abbrev own : Symbol
  own = symbol_of (entry_at b function word name token)

  body_holds : s.in_body ≡ true → (n : List ℕ) → symbol_in n s.body.entries ≡ option_map symbol_of (last_in b.path n b.entries)
  body_holds inside = let P : Bool → Type 0 = λ x. HoldsBody x s.body.entries b.path b.entries in subst P inside h.body

  pub clash_in_body : s.in_body ≡ true → (symbol : Symbol) → symbol_in name s.body.entries ≡ Some symbol → Answers s (declared b (entry_at b function word name token)) None
  clash_in_body inside symbol f = by (last_in b.path name b.entries) refl (sym f ∙ body_holds inside name)
    where
      by : (o : Option Entry) → last_in b.path name b.entries ≡ o → Some symbol ≡ option_map symbol_of o → Answers s (declared b (entry_at b function word name token)) None
      by None l e = let no : ⊥ = cc in absurd no
      by (Some y) l e =
          refused s b (entry_at b function word name token)
          (body_clashes b.entries (entry_at b function word name token) (inside_internal b.next b.path (subst (λ x. IsPresent x b.next b.path) inside h.present))
          ∙ (last_in-any b.path name b.entries).1 y l)

  -- the list is that of the maps after a declaration in the open body
  body_grown : (grown : Scopes) → s.in_body ≡ true → grown.in_body ≡ true → grown.file.entries ≡ s.file.entries
      → Inserts name own s.body.entries grown.body.entries → is_file_scope b.path ≡ false
      → Holds grown (record { entries = b.entries ++ entry_at b function word name token ∷ []; path = b.path; next = b.next })
  body_grown grown inside inside' files inserts p = record {
    file = λ n. ap (symbol_in n) files ∙ h.file n ∙ ap (option_map symbol_of) (sym (first-unlinked b.entries (entry_at b function word name token) n p));
    body = subst (λ x. HoldsBody x grown.body.entries b.path (b.entries ++ entry_at b function word name token ∷ [])) (sym inside') (λ n. inserts n ∙ at n (bytes_eq name n) ∙ sym (ap (option_map symbol_of) (last_in-push b.path n b.entries (entry_at b function word name token) ∙ ap (λ x. if (x && bytes_eq name n) then Some (entry_at b function word name token) else last_in b.path n b.entries) (bytes_eq-refl b.path))));
    present = subst (λ x. IsPresent x b.next b.path) (inside ∙ sym inside') h.present;
    opened = AllOpened-push b.entries b.next (entry_at b function word name token) h.opened (present_opened s.in_body b.next b.path h.present) refl;
    one_kind = IsOneKind-push b.entries (entry_at b function word name token) h.one_kind
        (λ first g. h.one_kind name first (sym (first-unlinked b.entries (entry_at b function word name token) name p) ∙ g))
        (λ x first g. let bad : false ≡ true = sym p ∙ x in let no : ⊥ = cc in absurd no);
  }
    where
      at : (n : List ℕ) (x : Bool) → (if x then Some own else symbol_in n s.body.entries) ≡ option_map symbol_of (if x then Some (entry_at b function word name token) else last_in b.path n b.entries)
      at n true = refl
      at n false = body_holds inside n

  declared_by_own : (grown : Scopes) → s.in_body ≡ true → grown.in_body ≡ true → grown.file.entries ≡ s.file.entries
      → Inserts name own s.body.entries grown.body.entries → symbol_in name s.body.entries ≡ None
      → Answers grown (declared b (entry_at b function word name token)) (Some (answer own false true))
  declared_by_own grown inside inside' files inserts none =
      let p : is_file_scope b.path ≡ false = inside_internal b.next b.path (subst (λ x. IsPresent x b.next b.path) inside h.present) in
      let free : last_in b.path name b.entries ≡ None = map-None (last_in b.path name b.entries) (sym (body_holds inside name) ∙ none) in
      added grown b (entry_at b function word name token) (answer own false true)
      (body_clashes b.entries (entry_at b function word name token) p ∙ (last_in-any b.path name b.entries).0 free)
      (body_grown grown inside inside' files inserts p)
      (sym (ap (λ x. Some (record { token = if x then token_or token (first_linked name (b.entries ++ entry_at b function word name token ∷ [])) else token; function = function; linked = x; internal = own.internal; declares = true })) p))

  -- inside braces a declaration has no linkage, whatever its storage word
  inside_own : s.in_body ≡ true → (record { function = function; token = token; internal = false }) ≡ own
  inside_own inside =
      ap (λ x. record { function = function; token = token; internal = x && is_internal function (is_seen_internal (lookup b.entries name b.path)) word })
      (sym (inside_internal b.next b.path (subst (λ x. IsPresent x b.next b.path) inside h.present)))

  pub declared_in_body : (grown : Scopes) → s.in_body ≡ true → grown.in_body ≡ true → grown.file.entries ≡ s.file.entries
      → Inserts name (record { function = function; token = token; internal = false }) s.body.entries grown.body.entries → symbol_in name s.body.entries ≡ None
      → Answers grown (declared b (entry_at b function word name token)) (Some (answer (record { function = function; token = token; internal = false }) false true))
  declared_in_body grown inside inside' files inserts none =
      subst (λ (z : Symbol). Answers grown (declared b (entry_at b function word name token)) (Some (answer z false true))) (sym (inside_own inside))
      (declared_by_own grown inside inside' files (λ n. inserts n ∙ ap (λ (z : Symbol). if bytes_eq name n then Some z else symbol_in n s.body.entries) (inside_own inside)) none)

  at_file_scope : s.in_body ≡ false → b.path ≡ []
  at_file_scope outside = subst (λ x. IsPresent x b.next b.path) outside h.present

  -- the list is that of the maps after a declaration at file scope
  file_grown : (grown : Scopes) (first : Entry) → s.in_body ≡ false → grown.in_body ≡ false
      → first_linked name (b.entries ++ entry_at b function word name token ∷ []) ≡ Some first → (first.function ≡ function) × (first.internal ≡ own.internal)
      → ((n : List ℕ) → symbol_in n grown.file.entries ≡ option_map symbol_of (first_linked n (b.entries ++ entry_at b function word name token ∷ [])))
      → list_any (other_kind function own.internal name) b.entries ≡ false
      → Holds grown (record { entries = b.entries ++ entry_at b function word name token ∷ []; path = b.path; next = b.next })
  file_grown grown first outside outside' found same files kinds = record {
    file = files;
    body = subst (λ x. HoldsBody x grown.body.entries b.path (b.entries ++ entry_at b function word name token ∷ [])) (sym outside') tt;
    present = subst (λ x. IsPresent x b.next b.path) (outside ∙ sym outside') h.present;
    opened = AllOpened-push b.entries b.next (entry_at b function word name token) h.opened (present_opened s.in_body b.next b.path h.present) refl;
    one_kind = IsOneKind-push b.entries (entry_at b function word name token) h.one_kind
        (λ other g. (let is : first ≡ other = some-injective (sym found ∙ g) in
        subst (λ x. list_any (other_kind x other.internal name) b.entries ≡ false) (sym same.0 ∙ ap (λ e. e.function) is)
        (subst (λ x. list_any (other_kind function x name) b.entries ≡ false) (sym same.1 ∙ ap (λ e. e.internal) is) kinds)))
        (λ x other g. (let is : first ≡ other = some-injective (sym found ∙ g) in (sym (ap (λ e. e.function) is) ∙ same.0, sym (ap (λ e. e.internal) is) ∙ same.1)));
  }

  same_or_other : (n : List ℕ) → ((name ≡ n) ⊎ (bytes_eq name n ≡ false))
  same_or_other n = elim (bool_cases (bytes_eq name n)) [ inl same ↦ inl (bytes_eq-true name n same) | inr other ↦ inr other ]

  -- what a declaration of a first one denotes
  abbrev by_first : Entry → Denotation
  by_first first = record { token = first.token; function = first.function; linked = true; internal = first.internal; declares = true }

  denoted : (first : Entry) → is_file_scope b.path ≡ true → first_linked name (b.entries ++ entry_at b function word name token ∷ []) ≡ Some first → (first.function ≡ function) × (first.internal ≡ own.internal)
      → Some (by_first first) ≡ Some (denotation (b.entries ++ entry_at b function word name token ∷ []) (entry_at b function word name token) true)
  denoted first p found same =
      ap (λ k. Some (record { token = first.token; function = k; linked = true; internal = first.internal; declares = true })) same.0
      ∙ ap (λ i. Some (record { token = first.token; function = function; linked = true; internal = i; declares = true })) same.1
      ∙ sym (ap (λ x. Some (record { token = if x then token_or token (first_linked name (b.entries ++ entry_at b function word name token ∷ [])) else token; function = function; linked = x; internal = own.internal; declares = true })) p
      ∙ ap (λ o. Some (record { token = token_or token o; function = function; linked = true; internal = own.internal; declares = true })) found)

  again_at : (first : Symbol) (y : Entry) (same : Bool) → s.in_body ≡ false → first_linked name b.entries ≡ Some y → first ≡ symbol_of y → (both_or_neither first.function function && both_or_neither first.internal own.internal) ≡ same
      → Answers s (declared b (entry_at b function word name token)) (if same then Some (answer first true true) else None)
  again_at first y true outside f is agree =
      let path = at_file_scope outside in
      let p : is_file_scope b.path ≡ true = ap is_file_scope path in
      let two = both (both_or_neither first.function function) (both_or_neither first.internal own.internal) agree in
      let alike : y.function ≡ function = sym (ap (λ z. z.function) is) ∙ agreed first.function function two.0 in
      let linkage : y.internal ≡ own.internal = sym (ap (λ z. z.internal) is) ∙ agreed first.internal own.internal two.1 in
      let kinds : list_any (other_kind function own.internal name) b.entries ≡ false =
      subst (λ x. list_any (other_kind x own.internal name) b.entries ≡ false) alike (subst (λ x. list_any (other_kind y.function x name) b.entries ≡ false) linkage (h.one_kind name y f)) in
      let known : first_linked name (b.entries ++ entry_at b function word name token ∷ []) ≡ Some y = first-known b.entries (entry_at b function word name token) y name f in
      added s b (entry_at b function word name token) (answer first true true)
      (file_clashes b.entries b.next (entry_at b function word name token) h.opened path p ∙ kinds)
      (file_grown s y outside outside known (alike, linkage) (λ n. h.file n ∙ ap (option_map symbol_of) (elim (same_or_other n) [
        | inl same ↦ subst (λ m. first_linked m b.entries ≡ first_linked m (b.entries ++ entry_at b function word name token ∷ [])) same (f ∙ sym known)
        | inr other ↦ sym (first-other b.entries (entry_at b function word name token) n other)
      ])) kinds)
      (ap (λ (z : Symbol). Some (record { token = z.token; function = z.function; linked = true; internal = z.internal; declares = true })) is ∙ denoted y p known (alike, linkage))
  again_at first y false outside f is agree =
      let path = at_file_scope outside in
      let p : is_file_scope b.path ≡ true = ap is_file_scope path in
      let named : is_linked name y ≡ true = find-Some (is_linked name) b.entries y f in
      let apart : (both_or_neither function y.function && both_or_neither own.internal y.internal) ≡ false =
      ap (λ x. x && both_or_neither own.internal y.internal) (turned y.function function) ∙ ap (λ x. both_or_neither y.function function && x) (turned y.internal own.internal)
      ∙ ap (λ (z : Symbol). both_or_neither z.function function && both_or_neither z.internal own.internal) (sym is) ∙ agree in
      let clash : other_kind function own.internal name y ≡ true = rw (named, apart) refl in
      refused s b (entry_at b function word name token)
      (file_clashes b.entries b.next (entry_at b function word name token) h.opened path p ∙ find-any (is_linked name) (other_kind function own.internal name) b.entries y f clash)

  -- the linkage that the map gives is that of the declaration
  pub linkage_seen : s.in_body ≡ false → (seen : Option Symbol) → seen ≡ symbol_in name s.file.entries → is_internal function (is_internal_symbol seen) word ≡ own.internal
  linkage_seen outside seen e =
      ap (λ o. is_internal function (is_internal_symbol o) word) (e ∙ h.file name)
      ∙ ap (λ x. is_internal function x word) one
      ∙ sym (ap (λ p. is_file_scope p && is_internal function (is_seen_internal (lookup b.entries name p)) word) (at_file_scope outside))
    where
      one : is_internal_symbol (option_map symbol_of (first_linked name b.entries)) ≡ is_seen_internal (last_in [] name b.entries)
      one = elim (file_mention b.entries b.next name h.opened) [
        | inl none ↦ ap (λ o. is_internal_symbol (option_map symbol_of o)) none.1 ∙ sym (ap is_seen_internal none.0)
        | inr some ↦ ap (λ o. is_internal_symbol (option_map symbol_of o)) some.3 ∙ (same_kind b.entries b.next name some.0 some.1 h.opened h.one_kind some.2 some.3).1 ∙ sym (ap is_seen_internal some.2)
      ]

  pub again_in_file : s.in_body ≡ false → (first : Symbol) (internal : Bool) → symbol_in name s.file.entries ≡ Some first → internal ≡ own.internal → Answers s (declared b (entry_at b function word name token)) (again_answer first function internal)
  again_in_file outside first internal f is = subst (λ i. Answers s (declared b (entry_at b function word name token)) (again_answer first function i)) (sym is) (by (first_linked name b.entries) refl (sym f ∙ h.file name))
    where
      by : (o : Option Entry) → first_linked name b.entries ≡ o → Some first ≡ option_map symbol_of o → Answers s (declared b (entry_at b function word name token)) (again_answer first function own.internal)
      by None e k = let no : ⊥ = cc in absurd no
      by (Some y) e k = again_at first y (both_or_neither first.function function && both_or_neither first.internal own.internal) outside e (some-injective k) refl

  pub declared_in_file : (grown : Scopes) (symbol : Symbol) → symbol ≡ own → s.in_body ≡ false → grown.in_body ≡ false
      → Inserts name symbol s.file.entries grown.file.entries → symbol_in name s.file.entries ≡ None
      → Answers grown (declared b (entry_at b function word name token)) (Some (answer symbol true true))
  declared_in_file grown symbol is outside outside' inserts none =
      let path = at_file_scope outside in
      let p : is_file_scope b.path ≡ true = ap is_file_scope path in
      let free : first_linked name b.entries ≡ None = map-None (first_linked name b.entries) (sym (h.file name) ∙ none) in
      let new : first_linked name (b.entries ++ entry_at b function word name token ∷ []) ≡ Some (entry_at b function word name token) = first-new b.entries (entry_at b function word name token) p free in
      let kinds : list_any (other_kind function own.internal name) b.entries ≡ false = list_any-none (is_linked name) (other_kind function own.internal name) b.entries (λ x t. (both (is_linked name x) (not (both_or_neither function x.function && both_or_neither own.internal x.internal)) t).0) (find-None (is_linked name) b.entries free) in
      added grown b (entry_at b function word name token) (answer symbol true true)
      (file_clashes b.entries b.next (entry_at b function word name token) h.opened path p ∙ kinds)
      (file_grown grown (entry_at b function word name token) outside outside' new (refl, refl) (λ n. inserts n ∙ ap (λ (z : Symbol). if bytes_eq name n then Some z else symbol_in n s.file.entries) is ∙ elim (same_or_other n) [
        | inl same ↦ subst (λ m. (if bytes_eq name m then Some own else symbol_in m s.file.entries) ≡ option_map symbol_of (first_linked m (b.entries ++ entry_at b function word name token ∷ []))) same
            (ap (λ x. if x then Some own else symbol_in name s.file.entries) (bytes_eq-refl name) ∙ sym (ap (option_map symbol_of) new))
        | inr other ↦ ap (λ x. if x then Some own else symbol_in n s.file.entries) other ∙ h.file n ∙ sym (ap (option_map symbol_of) (first-other b.entries (entry_at b function word name token) n other))
      ]) kinds)
      (ap (λ (z : Symbol). Some (record { token = z.token; function = z.function; linked = true; internal = z.internal; declares = true })) is ∙ denoted (entry_at b function word name token) p new (refl, refl))

-- a body is opened at file scope, with no names of its own yet
pub opened_body : (s grown : Scopes) (b : Bindings) → Holds s b → s.in_body ≡ false → grown.in_body ≡ true → grown.file.entries ≡ s.file.entries → grown.body.entries ≡ []
    → Holds grown (record { entries = b.entries; path = b.next ∷ b.path; next = b.next + 1 })
opened_body s grown b h outside inside files none =
    let path : b.path ≡ [] = subst (λ x. IsPresent x b.next b.path) outside h.present in
    record {
      file = λ n. ap (symbol_in n) files ∙ h.file n;
      body = subst (λ x. HoldsBody x grown.body.entries (b.next ∷ b.path) b.entries) (sym inside)
          (λ n. ap (symbol_in n) none ∙ sym (ap (λ p. option_map symbol_of (last_in (b.next ∷ p) n b.entries)) path ∙ ap (option_map symbol_of) (unopened b.entries b.next n h.opened)));
      present = subst (λ x. IsPresent x (b.next + 1) (b.next ∷ b.path)) (sym inside) (subst (λ p. IsPresent true (b.next + 1) (b.next ∷ p)) (sym path) (omega arith));
      opened = AllOpened-more b.entries b.next h.opened;
      one_kind = h.one_kind;
    }

pub clash_where_some : (s : Scopes) (b : Bindings) (function : Bool) (word : Option Storage) (name : List ℕ) (token : ℕ) (o : Option Symbol) → Holds s b → s.in_body ≡ true → symbol_in name s.body.entries ≡ o → is_some o ≡ true
    → Answers s (declared b (entry_at b function word name token)) None
clash_where_some s b function word name token None h inside f e = let no : ⊥ = cc in absurd no
clash_where_some s b function word name token (Some symbol) h inside f e = clash_in_body s b function word name token h inside symbol f

pub none_where_not : (o : Option Symbol) → is_some o ≡ false → o ≡ None
none_where_not None e = refl
none_where_not (Some symbol) e = let no : ⊥ = cc in absurd no
