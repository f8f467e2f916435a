-- The walk over a text with a new name meets what the walk over the text met.
use Rattle.std.proofs.Common.{◌≡◌, ℕ, ◌+◌, Bool, true, false, ◌&&◌, ◌||◌, List, [], ◌∷◌, ◌++◌, map, Option, Some, None, refl, sym, ap, ◌∙◌, subst, cond, eqb-true}
use Rattle.std.specs.Prelude.{if◌then◌else◌, bytes_eq, ◌==◌}
use Rattle.std.specs.List.{list_any, find}
use Rattle.std.specs.Option.{option_map, option_or, option_and_then, is_some}
use Rattle.cr_lex.specs.Lexing.{Token}
use Rattle.cr_small.specs.Declarations.{Entry, is_in, last_in, lookup, is_linked, first_linked, token_or, entity_of, is_internal, is_seen_internal, is_second, are_opposite, clashes, is_redeclared}
use Rattle.cr_small.specs.Resolution.{Bindings, Bound, bound, resolved, declared, mentioned, denotation, entry_at, is_file_scope}
use Rattle.cr_small.proofs.Entities.{denotes_entity}
use Rattle.cr_small.specs.declared.grammar.Storage.{Storage}
use Rattle.cr_small.specs.declared.grammar.Part.{Part}
use Rattle.cr_small.specs.declared.grammar.Part.TheVariants as part
use Rattle.cr_small.specs.declared.binder.Denotation.{Denotation}
use Rattle.cr_small.proofs.Flat.{both, bytes_eq-true, bytes_eq-refl, find-push, last_in-any}
use Rattle.cr_small.proofs.Names.{All, All-push, All-last_in, All-lookup, IsNamed, entity-named, TextsFrom}

pub All-map : (P Q : Entry → Type 0) (es : List Entry) → ((e : Entry) → P e → Q e) → All P es → All Q es
All-map P Q [] h a = tt
All-map P Q (e ∷ es) h a = (h e a.0, All-map P Q es h a.1)

pub All-both : (P Q : Entry → Type 0) (es : List Entry) → All P es → All Q es → All (λ e. P e × Q e) es
All-both P Q [] p q = tt
All-both P Q (e ∷ es) p q = ((p.0, q.0), All-both P Q es p.1 q.1)

map-all : (g k : Entry → Entry) (es : List Entry) → All (λ e. g e ≡ k e) es → map g es ≡ map k es
map-all g k [] a = refl
map-all g k (e ∷ es) a = ap (λ x. x ∷ map g es) a.0 ∙ ap (λ l. k e ∷ l) (map-all g k es a.1)

map-push : (g : Entry → Entry) (es : List Entry) (e : Entry) → map g (es ++ e ∷ []) ≡ map g es ++ g e ∷ []
map-push g [] e = refl
map-push g (x ∷ xs) e = ap (λ l. g x ∷ l) (map-push g xs e)

find-map : (t u : Entry → Bool) (r : Entry → Entry) (es : List Entry) → All (λ e. u (r e) ≡ t e) es → find u (map r es) ≡ option_map r (find t es)
find-map t u r [] a = refl
find-map t u r (e ∷ es) a = ap (λ b. cond b (Some (r e)) (find u (map r es))) a.0 ∙ by (t e) (find-map t u r es a.1)
  where
    by : (b : Bool) → find u (map r es) ≡ option_map r (find t es) → cond b (Some (r e)) (find u (map r es)) ≡ option_map r (cond b (Some e) (find t es))
    by true h = refl
    by false h = h

list_any-map-none : (t u : Entry → Bool) (r : Entry → Entry) (es : List Entry) → All (λ e. u (r e) ≡ true → t e ≡ true) es → list_any t es ≡ false → list_any u (map r es) ≡ false
list_any-map-none t u r [] a h = refl
list_any-map-none t u r (e ∷ es) a h = by (t e) (u (r e)) a.0 h (list_any-map-none t u r es a.1)
  where
    by : (x y : Bool) → (y ≡ true → x ≡ true) → (x || list_any t es) ≡ false → (list_any t es ≡ false → list_any u (map r es) ≡ false) → (y || list_any u (map r es)) ≡ false
    by true y i g rest = let bad : ⊥ = cc in absurd bad
    by false true i g rest = let e : false ≡ true = i refl in let bad : ⊥ = cc in absurd bad
    by false false i g rest = rest g

none-in : (path name : List ℕ) (es : List Entry) → list_any (is_in path name) es ≡ false → last_in path name es ≡ None
none-in path name es h = by (last_in path name es) refl
  where
    by : (o : Option Entry) → last_in path name es ≡ o → last_in path name es ≡ None
    by None e = e
    by (Some y) e = let no : true ≡ false = sym ((last_in-any path name es).1 y e) ∙ h in let bad : ⊥ = cc in absurd bad

-- a renaming of entries that leaves all but the name, and brings no other name to this one
abbrev IsApart : (Entry → Entry) → List ℕ → List ℕ → Entry → Type 0
IsApart r name name' e = ((r e).path ≡ e.path) × (bytes_eq (r e).name name' ≡ true → bytes_eq e.name name ≡ true)

in-apart : (r : Entry → Entry) (path name name' : List ℕ) (e : Entry) → IsApart r name name' e → is_in path name' (r e) ≡ true → is_in path name e ≡ true
in-apart r path name name' e a h =
    let w = both (bytes_eq (r e).path path) (bytes_eq (r e).name name') h in
    ap (λ b. b && bytes_eq e.name name) (ap (λ p. bytes_eq p path) (sym a.0) ∙ w.0) ∙ a.1 w.1

last_in-none : (r : Entry → Entry) (path name name' : List ℕ) (es : List Entry) → All (IsApart r name name') es → last_in path name es ≡ None → last_in path name' (map r es) ≡ None
last_in-none r path name name' es a h =
    none-in path name' (map r es)
    (list_any-map-none (is_in path name) (is_in path name') r es (All-map (IsApart r name name') (λ e. is_in path name' (r e) ≡ true → is_in path name e ≡ true) es (λ e k. in-apart r path name name' e k) a)
    ((last_in-any path name es).0 h))

last_in-some : (r : Entry → Entry) (path name name' : List ℕ) (es : List Entry) (e : Entry) → All (IsApart r name name') es → last_in path name es ≡ Some e → (r e).name ≡ name' → last_in path name' (map r es) ≡ Some (r e)
last_in-some r path name name' [] e a h n = let bad : ⊥ = cc in absurd bad
last_in-some r path name name' (x ∷ xs) e a h n = by (last_in path name xs) refl h (λ g. last_in-some r path name name' xs e a.1 g n)
  where
    at : (b : Bool) → is_in path name x ≡ b → (if b then Some x else None) ≡ Some e → is_in path name' (r x) ≡ true
    at true t g =
        let same : x ≡ e = cc in
        let w = both (bytes_eq x.path path) (bytes_eq x.name name) t in
        ap (λ b. b && bytes_eq (r x).name name') (ap (λ p. bytes_eq p path) a.0.0 ∙ w.0) ∙ ap (λ m. bytes_eq m name') (ap (λ y. (r y).name) same ∙ n) ∙ bytes_eq-refl name'
    at false t g = let bad : ⊥ = cc in absurd bad

    is-x : (b : Bool) → (if b then Some x else None) ≡ Some e → x ≡ e
    is-x true g = cc
    is-x false g = let bad : ⊥ = cc in absurd bad

    by : (o : Option Entry) → last_in path name xs ≡ o → option_or o (if is_in path name x then Some x else None) ≡ Some e → (last_in path name xs ≡ Some e → last_in path name' (map r xs) ≡ Some (r e)) → last_in path name' (map r (x ∷ xs)) ≡ Some (r e)
    by None l g rest =
        ap (λ o. option_or o (if is_in path name' (r x) then Some (r x) else None)) (last_in-none r path name name' xs a.1 l)
        ∙ ap (λ b. if b then Some (r x) else None) (at (is_in path name x) refl g)
        ∙ ap (λ y. Some (r y)) (is-x (is_in path name x) g)
    by (Some y) l g rest = ap (λ o. option_or o (if is_in path name' (r x) then Some (r x) else None)) (rest (l ∙ g))

lookup-some : (r : Entry → Entry) (path name name' : List ℕ) (es : List Entry) (e : Entry) → All (IsApart r name name') es → lookup es name path ≡ Some e → (r e).name ≡ name' → lookup (map r es) name' path ≡ Some (r e)
lookup-some r [] name name' es e a h n = last_in-some r [] name name' es e a h n
lookup-some r (scope ∷ out) name name' es e a h n = by (last_in (scope ∷ out) name es) refl h (λ g. lookup-some r out name name' es e a g n)
  where
    by : (o : Option Entry) → last_in (scope ∷ out) name es ≡ o → option_or o (lookup es name out) ≡ Some e → (lookup es name out ≡ Some e → lookup (map r es) name' out ≡ Some (r e)) → lookup (map r es) name' (scope ∷ out) ≡ Some (r e)
    by None l g rest = ap (λ o. option_or o (lookup (map r es) name' out)) (last_in-none r (scope ∷ out) name name' es a l) ∙ rest g
    by (Some y) l g rest = ap (λ o. option_or o (lookup (map r es) name' out)) (last_in-some r (scope ∷ out) name name' es e a (l ∙ g) n)

module _ (f : ℕ → List ℕ) (entity : ℕ) (new : List ℕ) where
  -- an entry with the new name, if it declares the entity
  abbrev pub rename : List Entry → Entry → Entry
  rename es e = record { path = e.path; name = if entity_of es e == entity then new else e.name; token = e.token; function = e.function; linked = e.linked; internal = e.internal }

  -- what is known of each entry: it is named as its token is spelled, not by the new name, is known by its name if it has linkage, and has it at file scope
  abbrev pub IsFresh : List ℕ → Type 0
  IsFresh name = bytes_eq name new ≡ false

  abbrev pub IsKnown : List Entry → Entry → Type 0
  IsKnown es e = IsNamed f e × IsFresh e.name × (e.linked ≡ true → is_some (first_linked e.name es) ≡ true) × (e.path ≡ [] → e.linked ≡ true)

  abbrev pub renamed : Bindings → Bindings
  renamed b = record { entries = map (rename b.entries) b.entries; path = b.path; next = b.next }

  named : (es : List Entry) (e : Entry) → All (IsKnown es) es → IsKnown es e → (entity_of es e == entity) ≡ true → f entity ≡ e.name
  named es e all own h = ap f (sym (eqb-true (entity_of es e) entity h)) ∙ entity-named f es e (All-map (IsKnown es) (IsNamed f) es (λ x k. k.0) all) own.0

  -- the new names are apart as the old ones were
  apart : (es : List Entry) (name : List ℕ) (c : Bool) → All (IsKnown es) es → IsFresh name → (c ≡ true → f entity ≡ name) → (e : Entry) → IsKnown es e → IsApart (rename es) name (if c then new else name) e
  apart es name c all fresh own e k = (refl, by (entity_of es e == entity) refl c refl)
    where
      by : (x : Bool) → (entity_of es e == entity) ≡ x → (y : Bool) → c ≡ y → bytes_eq (if x then new else e.name) (if y then new else name) ≡ true → bytes_eq e.name name ≡ true
      by true h true g t = ap (λ n. bytes_eq n name) (sym (named es e all k h) ∙ own g) ∙ bytes_eq-refl name
      by true h false g t = let no : true ≡ false = sym (bytes_eq-refl new) ∙ ap (λ n. bytes_eq n new) (bytes_eq-true new name t) ∙ fresh in let bad : ⊥ = cc in absurd bad
      by false h true g t = let no : true ≡ false = sym t ∙ k.1 in let bad : ⊥ = cc in absurd bad
      by false h false g t = t

  -- declarations of one name with linkage are one entity
  one-entity : (es : List Entry) (e y : Entry) → IsKnown es e → IsKnown es y → e.linked ≡ true → y.linked ≡ true → y.name ≡ e.name → entity_of es y ≡ entity_of es e
  one-entity es e y k l x z same =
      ap (λ b. if b then token_or y.token (first_linked y.name es) else y.token) z
      ∙ ap (λ n. token_or y.token (first_linked n es)) same
      ∙ default (first_linked e.name es) (k.2 x)
      ∙ sym (ap (λ b. if b then token_or e.token (first_linked e.name es) else e.token) x)
    where
      default : (o : Option Entry) → is_some o ≡ true → token_or y.token o ≡ token_or e.token o
      default None h = let bad : ⊥ = cc in absurd bad
      default (Some w) h = refl

  linked-kept : (es : List Entry) (e : Entry) → All (IsKnown es) es → IsKnown es e → e.linked ≡ true → (y : Entry) → IsKnown es y → is_linked (rename es e).name (rename es y) ≡ is_linked e.name y
  linked-kept es e all k x y l = by y.linked refl (bytes_eq y.name e.name) refl (bytes_eq (rename es y).name (rename es e).name) refl
    where
      by : (z : Bool) → y.linked ≡ z → (s : Bool) → bytes_eq y.name e.name ≡ s → (t : Bool) → bytes_eq (rename es y).name (rename es e).name ≡ t → (z && t) ≡ (z && s)
      by false z s h t g = refl
      by true z true h t g =
          let n : y.name ≡ e.name = bytes_eq-true y.name e.name h in
          let c : entity_of es y ≡ entity_of es e = one-entity es e y k l x z n in
          let m : (rename es y).name ≡ (rename es e).name = ap (λ w. if w == entity then new else y.name) c ∙ ap (λ w. if entity_of es e == entity then new else w) n in
          sym g ∙ ap (λ w. bytes_eq w (rename es e).name) m ∙ bytes_eq-refl (rename es e).name
      by true z false h true g =
          let p = (apart es e.name (entity_of es e == entity) all k.1 (λ c. named es e all k c) y l).1 g in
          sym p ∙ h
      by true z false h false g = refl

  -- each entry declares the entity that it declared
  entity-kept : (es : List Entry) (e : Entry) → All (IsKnown es) es → IsKnown es e → entity_of (map (rename es) es) (rename es e) ≡ entity_of es e
  entity-kept es e all k = by e.linked refl
    where
      tokens : (o : Option Entry) → token_or e.token (option_map (rename es) o) ≡ token_or e.token o
      tokens None = refl
      tokens (Some w) = refl

      by : (z : Bool) → e.linked ≡ z → (if z then token_or e.token (first_linked (rename es e).name (map (rename es) es)) else e.token) ≡ (if z then token_or e.token (first_linked e.name es) else e.token)
      by false x = refl
      by true x =
          ap (token_or e.token) (find-map (is_linked e.name) (is_linked (rename es e).name) (rename es) es (All-map (IsKnown es) (λ y. is_linked (rename es e).name (rename es y) ≡ is_linked e.name y) es (λ y l. linked-kept es e all k x y l) all))
          ∙ tokens (first_linked e.name es)

  denotation-kept : (es : List Entry) (e : Entry) → All (IsKnown es) es → IsKnown es e → (declares : Bool) → denotation (map (rename es) es) (rename es e) declares ≡ denotation es e declares
  denotation-kept es e all k declares = ap {B = Denotation} (λ t. record { token = t; function = e.function; linked = e.linked; internal = e.internal; declares = declares }) (entity-kept es e all k)

  -- one declaration more leaves the entities of the others
  some-push : (es : List Entry) (new_one : Entry) (name : List ℕ) → is_some (first_linked name es) ≡ true → first_linked name (es ++ new_one ∷ []) ≡ first_linked name es
  some-push es new_one name h = find-push (is_linked name) es new_one ∙ by (first_linked name es) h
    where
      by : (o : Option Entry) → is_some o ≡ true → option_or o (if is_linked name new_one then Some new_one else None) ≡ o
      by None g = let bad : ⊥ = cc in absurd bad
      by (Some w) g = refl

  entity-push : (es : List Entry) (new_one e : Entry) → IsKnown es e → entity_of (es ++ new_one ∷ []) e ≡ entity_of es e
  entity-push es new_one e k = by e.linked refl
    where
      by : (z : Bool) → e.linked ≡ z → (if z then token_or e.token (first_linked e.name (es ++ new_one ∷ [])) else e.token) ≡ (if z then token_or e.token (first_linked e.name es) else e.token)
      by false x = refl
      by true x = ap (token_or e.token) (some-push es new_one e.name (k.2 x))

  rename-push : (es : List Entry) (new_one e : Entry) → IsKnown es e → rename (es ++ new_one ∷ []) e ≡ rename es e
  rename-push es new_one e k = ap {B = Entry} (λ t. record { path = e.path; name = if t == entity then new else e.name; token = e.token; function = e.function; linked = e.linked; internal = e.internal }) (entity-push es new_one e k)

  renamed-push : (es : List Entry) (e : Entry) → All (IsKnown es) es → map (rename (es ++ e ∷ [])) (es ++ e ∷ []) ≡ map (rename es) es ++ rename (es ++ e ∷ []) e ∷ []
  renamed-push es e all =
      map-push (rename (es ++ e ∷ [])) es e
      ∙ ap (λ l. l ++ rename (es ++ e ∷ []) e ∷ []) (map-all (rename (es ++ e ∷ [])) (rename es) es (All-map (IsKnown es) (λ y. rename (es ++ e ∷ []) y ≡ rename es y) es (λ y k. rename-push es e y k) all))

  -- a new entry is known among the others
  pub known-self : (es : List Entry) (e : Entry) → IsNamed f e → IsFresh e.name → (e.path ≡ [] → e.linked ≡ true) → IsKnown (es ++ e ∷ []) e
  known-self es e own fresh at_file = (own, fresh, λ x. ap is_some (find-push (is_linked e.name) es e) ∙ by (first_linked e.name es) (ap (λ b. b && bytes_eq e.name e.name) x ∙ bytes_eq-refl e.name), at_file)
    where
      by : (o : Option Entry) → is_linked e.name e ≡ true → is_some (option_or o (if is_linked e.name e then Some e else None)) ≡ true
      by None h = ap (λ b. is_some (if b then Some e else None)) h
      by (Some w) h = refl

  still-known : (es : List Entry) (new_one e : Entry) → IsKnown es e → IsKnown (es ++ new_one ∷ []) e
  still-known es new_one e k = (k.0, k.1, λ x. ap is_some (some-push es new_one e.name (k.2 x)) ∙ k.2 x, k.3)

  pub known-push : (es : List Entry) (e : Entry) → All (IsKnown es) es → IsNamed f e → IsFresh e.name → (e.path ≡ [] → e.linked ≡ true) → All (IsKnown (es ++ e ∷ [])) (es ++ e ∷ [])
  known-push es e all own fresh at_file =
      All-push (IsKnown (es ++ e ∷ [])) es e
      (All-map (IsKnown es) (IsKnown (es ++ e ∷ [])) es (λ y k. still-known es e y k) all)
      (known-self es e own fresh at_file)

  abbrev pub text_behind : List ℕ → Option Denotation → List ℕ
  text_behind text d = if denotes_entity entity d then new else text

  -- what one token leaves, and the same with the new name
  abbrev pub Follows : Bindings → ℕ → List ℕ → Part → Option Bound → Type 0
  Follows b n text p None = Unit {0}
  Follows b n text p (Some d) =
      (bound (renamed b) n (text_behind text d.denotes) p ≡ Some (record { after = renamed d.after; denotes = d.denotes })) × All (IsKnown d.after.entries) d.after.entries

  mention-follows : (b : Bindings) (n : ℕ) (text : List ℕ) (o : Option Entry) → All (IsKnown b.entries) b.entries → IsFresh text → lookup b.entries text b.path ≡ o → Follows b n text part.Mentions (mentioned b o)
  mention-follows b n text None all fresh h = tt
  mention-follows b n text (Some e) all fresh h =
      let k = All-lookup (IsKnown b.entries) b.path text b.entries e all h in
      let c = entity_of b.entries e == entity in
      let own : c ≡ true → f entity ≡ text = λ g. named b.entries e all k.0 g ∙ k.1 in
      let a = All-map (IsKnown b.entries) (IsApart (rename b.entries) text (if c then new else text)) b.entries (λ y l. apart b.entries text c all fresh own y l) all in
      let found = lookup-some (rename b.entries) b.path text (if c then new else text) b.entries e a h (ap (λ m. if c then new else m) k.1) in
      (ap (mentioned (renamed b)) found ∙ ap (λ d. Some (record { after = renamed b; denotes = Some d })) (denotation-kept b.entries e all k.0 false), all)

  clash-apart : (b : Bindings) (e : Entry) (es : List Entry) (y : Entry) → IsApart (rename b.entries) e.name (rename es e).name y
      → clashes (rename es e) (rename b.entries y) ≡ true → clashes e y ≡ true
  clash-apart b e es y a h =
      let flags = is_second e y || are_opposite e y in
      let w = both (bytes_eq (rename b.entries y).name (rename es e).name) flags h in
      ap (λ z. z && flags) (a.1 w.0) ∙ w.1

  -- the declaration with the new name sees the linkage that the declaration saw
  seen-kept : (b : Bindings) (e : Entry) → All (IsKnown b.entries) b.entries → All (IsKnown (b.entries ++ e ∷ [])) (b.entries ++ e ∷ []) → IsKnown (b.entries ++ e ∷ []) e → e.linked ≡ true
      → is_seen_internal (last_in [] (rename (b.entries ++ e ∷ []) e).name (map (rename b.entries) b.entries)) ≡ is_seen_internal (last_in [] e.name b.entries)
  seen-kept b e all known k x = by (last_in [] e.name b.entries) refl
    where
      es : List Entry
      es = b.entries ++ e ∷ []

      c : Bool
      c = entity_of es e == entity

      apart_all : All (IsApart (rename b.entries) e.name (rename es e).name) b.entries
      apart_all = All-map (IsKnown b.entries) (IsApart (rename b.entries) e.name (rename es e).name) b.entries (λ y l. apart b.entries e.name c all k.1 (λ g. named es e known k g) y l) all

      own : (y : Entry) → last_in [] e.name b.entries ≡ Some y → (rename b.entries y).name ≡ (rename es e).name
      own y h =
          let l = All-last_in (IsKnown b.entries) [] e.name b.entries y all h in
          let one : entity_of b.entries y ≡ entity_of es e = sym (entity-push b.entries e y l.0) ∙ one-entity es e y k (still-known b.entries e y l.0) x (l.0.3 l.2) l.1 in
          ap (λ w. if w == entity then new else y.name) one ∙ ap (λ m. if entity_of es e == entity then new else m) l.1

      by : (o : Option Entry) → last_in [] e.name b.entries ≡ o → is_seen_internal (last_in [] (rename es e).name (map (rename b.entries) b.entries)) ≡ is_seen_internal o
      by None h = ap is_seen_internal (last_in-none (rename b.entries) [] e.name (rename es e).name b.entries apart_all h)
      by (Some y) h = ap is_seen_internal (last_in-some (rename b.entries) [] e.name (rename es e).name b.entries y apart_all h (own y h))

  -- so it is the declaration with the new name
  declares-renamed : (b : Bindings) (n : ℕ) (text : List ℕ) (function : Bool) (word : Option Storage) → All (IsKnown b.entries) b.entries
      → (let e = entry_at b function word text n in All (IsKnown (b.entries ++ e ∷ [])) (b.entries ++ e ∷ []) → IsKnown (b.entries ++ e ∷ []) e
      → entry_at (renamed b) function word (rename (b.entries ++ e ∷ []) e).name n ≡ rename (b.entries ++ e ∷ []) e)
  declares-renamed b n text function word all known k = ap (λ i. record { path = b.path; name = name'; token = n; function = function; linked = is_file_scope b.path; internal = i }) (by b.path refl)
    where
      e : Entry
      e = entry_at b function word text n

      name' : List ℕ
      name' = (rename (b.entries ++ e ∷ []) e).name

      by : (path : List ℕ) → b.path ≡ path
          → (is_file_scope path && is_internal function (is_seen_internal (lookup (map (rename b.entries) b.entries) name' path)) word) ≡ (is_file_scope path && is_internal function (is_seen_internal (lookup b.entries text path)) word)
      by [] h = ap (λ s. is_internal function s word) (seen-kept b e all known k (ap is_file_scope h))
      by (scope ∷ out) h = refl

  declared-free : (b : Bindings) (e : Entry) → is_redeclared b.entries e ≡ false
      → declared b e ≡ Some (record { after = record { entries = b.entries ++ e ∷ []; path = b.path; next = b.next }; denotes = Some (denotation (b.entries ++ e ∷ []) e true) })
  declared-free b e free = ap (λ x. if x then None else Some (record { after = record { entries = b.entries ++ e ∷ []; path = b.path; next = b.next }; denotes = Some (denotation (b.entries ++ e ∷ []) e true) })) free

  abbrev FollowsDeclared : Bindings → ℕ → List ℕ → Bool → Option Storage → Option Bound → Type 0
  FollowsDeclared b n text function word None = Unit {0}
  FollowsDeclared b n text function word (Some d) =
      (declared (renamed b) (entry_at (renamed b) function word (text_behind text d.denotes) n) ≡ Some (record { after = renamed d.after; denotes = d.denotes })) × All (IsKnown d.after.entries) d.after.entries

  declare-follows : (b : Bindings) (n : ℕ) (text : List ℕ) (function : Bool) (word : Option Storage) → All (IsKnown b.entries) b.entries → IsFresh text → f n ≡ text
      → (x : Bool) → is_redeclared b.entries (entry_at b function word text n) ≡ x
      → (d : Bound) → (if x then None else Some (record { after = record { entries = b.entries ++ entry_at b function word text n ∷ []; path = b.path; next = b.next }; denotes = Some (denotation (b.entries ++ entry_at b function word text n ∷ []) (entry_at b function word text n) true) })) ≡ Some d
      → (declared (renamed b) (entry_at (renamed b) function word (text_behind text d.denotes) n) ≡ Some (record { after = renamed d.after; denotes = d.denotes })) × All (IsKnown d.after.entries) d.after.entries
  declare-follows b n text function word all fresh own true r d h = let bad : ⊥ = cc in absurd bad
  declare-follows b n text function word all fresh own false r d h =
      let e = entry_at b function word text n in
      let es = b.entries ++ e ∷ [] in
      let known = known-push b.entries e all own fresh (λ p. ap is_file_scope p) in
      let k : IsKnown es e = known-self b.entries e own fresh (λ p. ap is_file_scope p) in
      let c = entity_of es e == entity in
      let mine : c ≡ true → f entity ≡ text = λ g. named es e known k g in
      let a = All-map (IsKnown b.entries) (λ y. clashes (rename es e) (rename b.entries y) ≡ true → clashes e y ≡ true) b.entries
      (λ y l. clash-apart b e es y (apart b.entries text c all fresh mine y l)) all in
      let free : is_redeclared (map (rename b.entries) b.entries) (rename es e) ≡ false =
      list_any-map-none (clashes e) (clashes (rename es e)) (rename b.entries) b.entries a r in
      let grown : map (rename b.entries) b.entries ++ rename es e ∷ [] ≡ map (rename es) es = sym (renamed-push b.entries e all) in
      let same : (record { after = record { entries = es; path = b.path; next = b.next }; denotes = Some (denotation es e true) }) ≡ d = cc in
      subst (λ d. (declared (renamed b) (entry_at (renamed b) function word (text_behind text d.denotes) n) ≡ Some (record { after = renamed d.after; denotes = d.denotes })) × All (IsKnown d.after.entries) d.after.entries) same (
        ap (declared (renamed b)) (declares-renamed b n text function word all known k)
            ∙ declared-free (renamed b) (rename es e) free
            ∙ ap (λ l. Some (record { after = record { entries = l; path = b.path; next = b.next }; denotes = Some (denotation l (rename es e) true) })) grown
            ∙ ap (λ x. Some (record { after = record { entries = map (rename es) es; path = b.path; next = b.next }; denotes = Some x })) (denotation-kept es e known k true),
        known,
      )

  declared-follows : (b : Bindings) (n : ℕ) (text : List ℕ) (function : Bool) (word : Option Storage) → All (IsKnown b.entries) b.entries → IsFresh text → f n ≡ text → (o : Option Bound) → declared b (entry_at b function word text n) ≡ o
      → FollowsDeclared b n text function word o
  declared-follows b n text function word all fresh own None h = tt
  declared-follows b n text function word all fresh own (Some d) h = declare-follows b n text function word all fresh own (is_redeclared b.entries (entry_at b function word text n)) refl d h

  pub bound-follows : (b : Bindings) (n : ℕ) (text : List ℕ) (p : Part) → All (IsKnown b.entries) b.entries → IsFresh text → f n ≡ text → Follows b n text p (bound b n text p)
  bound-follows b n text part.Plain all fresh own = (refl, all)
  bound-follows b n text part.Opens all fresh own = (refl, all)
  bound-follows b n text part.Closes all fresh own = (refl, all)
  bound-follows b n text (part.DeclaresObject word) all fresh own = as_object (declared b (entry_at b false word text n)) (declared-follows b n text false word all fresh own (declared b (entry_at b false word text n)) refl)
    where
      as_object : (o : Option Bound) → FollowsDeclared b n text false word o → Follows b n text (part.DeclaresObject word) o
      as_object None h = tt
      as_object (Some d) h = h
  bound-follows b n text (part.DeclaresFunction word) all fresh own = as_function (declared b (entry_at b true word text n)) (declared-follows b n text true word all fresh own (declared b (entry_at b true word text n)) refl)
    where
      as_function : (o : Option Bound) → FollowsDeclared b n text true word o → Follows b n text (part.DeclaresFunction word) o
      as_function None h = tt
      as_function (Some d) h = h
  bound-follows b n text part.Mentions all fresh own = mention-follows b n text (lookup b.entries text b.path) all fresh refl

  -- tokens with the new name where they denote the entity
  abbrev pub AreRenamed : List (Token × Part) → List (Option Denotation) → List (Token × Part) → Type 0
  AreRenamed xs [] ys = ys ≡ []
  AreRenamed [] (d ∷ ds) ys = Unit {0}
  AreRenamed (x ∷ xs) (d ∷ ds) [] = ⊥
  AreRenamed (x ∷ xs) (d ∷ ds) (y ∷ ys) = (y.0.text ≡ text_behind x.0.text d) × (y.1 ≡ x.1) × AreRenamed xs ds ys

  abbrev pub AllFresh : List (Token × Part) → Type 0
  AllFresh [] = Unit {0}
  AllFresh (x ∷ xs) = IsFresh x.0.text × AllFresh xs

  -- the walk over the renamed tokens denotes the same
  pub walk-follows : (xs : List (Token × Part)) (n : ℕ) (b : Bindings) (ds : List (Option Denotation)) (ys : List (Token × Part)) → All (IsKnown b.entries) b.entries → AllFresh xs → TextsFrom f n xs
      → AreRenamed xs ds ys → resolved n b xs ≡ Some ds → resolved n (renamed b) ys ≡ Some ds
  walk-follows [] n b [] ys all fresh texts are h = ap (resolved n (renamed b)) are
  walk-follows [] n b (d ∷ ds) ys all fresh texts are h = let bad : ⊥ = cc in absurd bad
  walk-follows (x ∷ xs) n b [] ys all fresh texts are h = absurd (nothing (bound b n x.0.text x.1) h)
    where
      more : (e : Bound) (o : Option (List (Option Denotation))) → option_map (λ l. e.denotes ∷ l) o ≡ Some [] → ⊥
      more e None g = cc
      more e (Some l) g = let k : e.denotes ∷ l ≡ [] = cc in cc

      nothing : (o : Option Bound) → option_and_then (λ e. option_map (λ l. e.denotes ∷ l) (resolved (n + 1) e.after xs)) o ≡ Some [] → ⊥
      nothing None g = cc
      nothing (Some e) g = more e (resolved (n + 1) e.after xs) g
  walk-follows (x ∷ xs) n b (d ∷ ds) [] all fresh texts are h = elim are [ ]
  walk-follows (x ∷ xs) n b (d ∷ ds) (y ∷ ys) all fresh texts are h =
      by (bound b n x.0.text x.1) (bound-follows b n x.0.text x.1 all fresh.0 texts.0) (λ c k g. walk-follows xs (n + 1) c ds ys k fresh.1 texts.1 are.2 g) h
    where
      tail : (e : Bound) (o : Option (List (Option Denotation))) → option_map (λ l. e.denotes ∷ l) o ≡ Some (d ∷ ds) → (e.denotes ≡ d) × (o ≡ Some ds)
      tail e None g = let bad : ⊥ = cc in absurd bad
      tail e (Some l) g = (cc, ap (λ z. Some z) (let k : l ≡ ds = cc in k))

      by : (o : Option Bound) → Follows b n x.0.text x.1 o → ((c : Bindings) → All (IsKnown c.entries) c.entries → resolved (n + 1) c xs ≡ Some ds → resolved (n + 1) (renamed c) ys ≡ Some ds)
          → option_and_then (λ e. option_map (λ l. e.denotes ∷ l) (resolved (n + 1) e.after xs)) o ≡ Some (d ∷ ds) → resolved n (renamed b) (y ∷ ys) ≡ Some (d ∷ ds)
      by None k rest g = let bad : ⊥ = cc in absurd bad
      by (Some e) k rest g =
          let t = tail e (resolved (n + 1) e.after xs) g in
          let same : bound (renamed b) n y.0.text y.1 ≡ Some (record { after = renamed e.after; denotes = e.denotes }) =
          ap (λ w. bound (renamed b) n w y.1) (are.0 ∙ ap (text_behind x.0.text) (sym t.0)) ∙ ap (bound (renamed b) n (text_behind x.0.text e.denotes)) are.1 ∙ k.0 in
          ap (option_and_then (λ e. option_map (λ l. e.denotes ∷ l) (resolved (n + 1) e.after ys))) same
          ∙ ap (option_map (λ l. e.denotes ∷ l)) (rest e.after k.1 t.1)
          ∙ ap (λ z. Some (z ∷ ds)) t.0
