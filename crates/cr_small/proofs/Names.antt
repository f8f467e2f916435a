-- Tokens that denote one entity are spelled alike, and stand one behind another.
use Rattle.std.proofs.lemmas.List.{length-map}
use Rattle.std.proofs.Common.{eqb-true, eq-eqb, ◌≡◌, ℕ, ◌+◌, ◌≤◌, Bool, true, false, List, [], ◌∷◌, ◌++◌, length, map, Option, Some, None, refl, sym, ap, ◌∙◌, subst, arith, cond, zero, suc}
use Rattle.std.specs.Prelude.{if◌then◌else◌, bytes_eq, ◌==◌}
use Rattle.std.specs.List.{find, zip, filter}
use Rattle.std.specs.Option.{option_map, option_or, option_and_then}
use Rattle.cr_base.specs.Substitution.{Rise}
use Rattle.cr_lex.specs.Lexing.{Token}
use Rattle.cr_small.specs.Terminals.{terminal_of}
use Rattle.cr_small.specs.Tree.{External, leaves, parts, Derives}
use Rattle.cr_small.specs.Declarations.{Entry, is_in, last_in, lookup, is_linked, first_linked, token_or, entity_of, is_redeclared}
use Rattle.cr_small.specs.Resolution.{Bindings, Bound, bound, resolved, file_scope, declared, mentioned, denotation, entry_at}
use Rattle.cr_small.specs.SmallForm.{IsWellFormed}
use Rattle.cr_small.proofs.Entities.{denotes_entity, places_of}
use Rattle.cr_small.specs.declared.grammar.Part.{Part}
use Rattle.cr_small.specs.declared.grammar.Part.TheVariants as part
use Rattle.cr_small.specs.declared.binder.Denotation.{Denotation}
use Rattle.cr_small.proofs.Flat.{both, bytes_eq-true, find-Some}
use Rattle.cr_small.proofs.Cuts.{InOrder, rise_down}

-- a fact of each entry
abbrev pub All : (Entry → Type 0) → List Entry → Type 0
All P [] = Unit {0}
All P (e ∷ es) = P e × All P es

pub All-push : (P : Entry → Type 0) (es : List Entry) (e : Entry) → All P es → P e → All P (es ++ e ∷ [])
All-push P [] e h p = (p, tt)
All-push P (x ∷ xs) e h p = (h.0, All-push P xs e h.1 p)

pub All-find : (P : Entry → Type 0) (t : Entry → Bool) (es : List Entry) (e : Entry) → All P es → find t es ≡ Some e → P e
All-find P t [] e h f = let no : ⊥ = cc in absurd no
All-find P t (x ∷ xs) e h f = by (t x) f (All-find P t xs e h.1)
  where
    by : (b : Bool) → cond b (Some x) (find t xs) ≡ Some e → (find t xs ≡ Some e → P e) → P e
    by true g rest = let same : x ≡ e = cc in subst P same h.0
    by false g rest = rest g

pub All-last_in : (P : Entry → Type 0) (path name : List ℕ) (es : List Entry) (e : Entry) → All P es → last_in path name es ≡ Some e → P e × (e.name ≡ name) × (e.path ≡ path)
All-last_in P path name [] e h f = let no : ⊥ = cc in absurd no
All-last_in P path name (x ∷ xs) e h f = by (last_in path name xs) f (All-last_in P path name xs e h.1)
  where
    at : (b : Bool) → is_in path name x ≡ b → (if b then Some x else None) ≡ Some e → P e × (e.name ≡ name) × (e.path ≡ path)
    at true t g =
        let same : x ≡ e = cc in
        let w = both (bytes_eq x.path path) (bytes_eq x.name name) t in
        subst (λ y. P y × (y.name ≡ name) × (y.path ≡ path)) same (h.0, bytes_eq-true x.name name w.1, bytes_eq-true x.path path w.0)
    at false t g = let no : ⊥ = cc in absurd no

    by : (o : Option Entry) → option_or o (if is_in path name x then Some x else None) ≡ Some e → (o ≡ Some e → P e × (e.name ≡ name) × (e.path ≡ path)) → P e × (e.name ≡ name) × (e.path ≡ path)
    by None g rest = at (is_in path name x) refl g
    by (Some y) g rest = rest g

pub All-lookup : (P : Entry → Type 0) (path name : List ℕ) (es : List Entry) (e : Entry) → All P es → lookup es name path ≡ Some e → P e × (e.name ≡ name)
All-lookup P [] name es e h f = let k = All-last_in P [] name es e h f in (k.0, k.1)
All-lookup P (scope ∷ out) name es e h f = by (last_in (scope ∷ out) name es) refl f (All-lookup P out name es e h)
  where
    by : (o : Option Entry) → last_in (scope ∷ out) name es ≡ o → option_or o (lookup es name out) ≡ Some e → (lookup es name out ≡ Some e → P e × (e.name ≡ name)) → P e × (e.name ≡ name)
    by None l g rest = rest g
    by (Some y) l g rest = let k = All-last_in P (scope ∷ out) name es e h (l ∙ g) in (k.0, k.1)

module _ (text_at : ℕ → List ℕ) where
  -- an entry is named as its token is spelled
  abbrev pub IsNamed : Entry → Type 0
  IsNamed e = text_at e.token ≡ e.name

  -- the tokens from a number on are spelled so
  abbrev pub TextsFrom : ℕ → List (Token × Part) → Type 0
  TextsFrom n [] = Unit {0}
  TextsFrom n (x ∷ xs) = (text_at n ≡ x.0.text) × TextsFrom (n + 1) xs

  -- the first declaring token is spelled as the one that denotes its entity
  abbrev pub SpelledOne : List ℕ → Option Denotation → Type 0
  SpelledOne text None = Unit {0}
  SpelledOne text (Some d) = text_at d.token ≡ text

  abbrev pub Spelled : List (Token × Part) → List (Option Denotation) → Type 0
  Spelled [] ds = Unit {0}
  Spelled (x ∷ xs) [] = Unit {0}
  Spelled (x ∷ xs) (d ∷ ds) = SpelledOne x.0.text d × Spelled xs ds

  pub entity-named : (es : List Entry) (e : Entry) → All IsNamed es → IsNamed e → text_at (entity_of es e) ≡ e.name
  entity-named es e all own = by e.linked (first_linked e.name es) refl
    where
      by : (x : Bool) (o : Option Entry) → first_linked e.name es ≡ o → text_at (if x then token_or e.token o else e.token) ≡ e.name
      by false o f = own
      by true None f = own
      by true (Some y) f =
          let t = both y.linked (bytes_eq y.name e.name) (find-Some (is_linked e.name) es y f) in
          All-find IsNamed (is_linked e.name) es y all f ∙ bytes_eq-true y.name e.name t.1

  -- what one token leaves is named, and what it denotes is spelled so
  abbrev BoundNamed : List ℕ → Option Bound → Type 0
  BoundNamed text None = Unit {0}
  BoundNamed text (Some d) = All IsNamed d.after.entries × SpelledOne text d.denotes

  declared-named : (b : Bindings) (e : Entry) → All IsNamed b.entries → IsNamed e → BoundNamed e.name (declared b e)
  declared-named b e all own = by (is_redeclared b.entries e)
    where
      grown : All IsNamed (b.entries ++ e ∷ [])
      grown = All-push IsNamed b.entries e all own

      by : (x : Bool) → BoundNamed e.name (if x then None else Some (record { after = record { entries = b.entries ++ e ∷ []; path = b.path; next = b.next }; denotes = Some (denotation (b.entries ++ e ∷ []) e true) }))
      by true = tt
      by false = (grown, entity-named (b.entries ++ e ∷ []) e grown own)

  mentioned-named : (b : Bindings) (name : List ℕ) (o : Option Entry) → lookup b.entries name b.path ≡ o → All IsNamed b.entries → BoundNamed name (mentioned b o)
  mentioned-named b name None f all = tt
  mentioned-named b name (Some e) f all =
      let k = All-lookup IsNamed b.path name b.entries e all f in
      (all, entity-named b.entries e all k.0 ∙ k.1)

  bound-named : (b : Bindings) (n : ℕ) (name : List ℕ) (p : Part) → All IsNamed b.entries → text_at n ≡ name → BoundNamed name (bound b n name p)
  bound-named b n name part.Plain all own = (all, tt)
  bound-named b n name part.Opens all own = (all, tt)
  bound-named b n name part.Closes all own = (all, tt)
  bound-named b n name (part.DeclaresObject word) all own = declared-named b (entry_at b false word name n) all own
  bound-named b n name (part.DeclaresFunction word) all own = declared-named b (entry_at b true word name n) all own
  bound-named b n name part.Mentions all own = mentioned-named b name (lookup b.entries name b.path) refl all

  -- each token that denotes an entity is spelled as the entity's first declaring token
  pub spelled : (xs : List (Token × Part)) (n : ℕ) (b : Bindings) (ds : List (Option Denotation)) → All IsNamed b.entries → TextsFrom n xs → resolved n b xs ≡ Some ds → Spelled xs ds
  spelled [] n b ds all texts h = tt
  spelled (x ∷ xs) n b [] all texts h = tt
  spelled (x ∷ xs) n b (d ∷ ds) all texts h =
      by (bound b n x.0.text x.1) (bound-named b n x.0.text x.1 all texts.0) (λ c named g. spelled xs (n + 1) c ds named texts.1 g) h
    where
      rest : (e : Bound) (o : Option (List (Option Denotation))) → (o ≡ Some ds → Spelled xs ds) → SpelledOne x.0.text e.denotes → option_map (λ l. e.denotes ∷ l) o ≡ Some (d ∷ ds) → SpelledOne x.0.text d × Spelled xs ds
      rest e None more own g = let no : ⊥ = cc in absurd no
      rest e (Some l) more own g =
          let same : e.denotes ≡ d = cc in
          let tail : l ≡ ds = cc in
          (subst (SpelledOne x.0.text) same own, more (ap (λ y. Some y) tail))

      by : (o : Option Bound) → BoundNamed x.0.text o → ((c : Bindings) → All IsNamed c.entries → resolved (n + 1) c xs ≡ Some ds → Spelled xs ds)
          → option_and_then (λ e. option_map (λ l. e.denotes ∷ l) (resolved (n + 1) e.after xs)) o ≡ Some (d ∷ ds) → SpelledOne x.0.text d × Spelled xs ds
      by None named more g = let no : ⊥ = cc in absurd no
      by (Some e) named more g = rest e (resolved (n + 1) e.after xs) (more e.after named.0) named.1 g

-- the walk gives one answer for each token
pub resolved-length : (xs : List (Token × Part)) (n : ℕ) (b : Bindings) (ds : List (Option Denotation)) → resolved n b xs ≡ Some ds → length ds ≡ length xs
resolved-length [] n b ds h = let same : [] ≡ ds = cc in ap length (sym same)
resolved-length (x ∷ xs) n b ds h = by (bound b n x.0.text x.1) (λ c l g. resolved-length xs (n + 1) c l g) h
  where
    rest : (e : Bound) (o : Option (List (Option Denotation))) → ((l : List (Option Denotation)) → o ≡ Some l → length l ≡ length xs) → option_map (λ l. e.denotes ∷ l) o ≡ Some ds → length ds ≡ length (x ∷ xs)
    rest e None more g = let no : ⊥ = cc in absurd no
    rest e (Some l) more g = let same : e.denotes ∷ l ≡ ds = cc in ap length (sym same) ∙ ap suc (more l refl)

    by : (o : Option Bound) → ((c : Bindings) (l : List (Option Denotation)) → resolved (n + 1) c xs ≡ Some l → length l ≡ length xs)
        → option_and_then (λ e. option_map (λ l. e.denotes ∷ l) (resolved (n + 1) e.after xs)) o ≡ Some ds → length ds ≡ length (x ∷ xs)
    by None more g = let no : ⊥ = cc in absurd no
    by (Some e) more g = rest e (resolved (n + 1) e.after xs) (more e.after) g

-- the spelling of a token by its number
abbrev pub text_of : List Token → ℕ → List ℕ
text_of [] k = []
text_of (t ∷ ts) zero = t.text
text_of (t ∷ ts) (suc k) = text_of ts k

pub texts-from : (ts : List Token) (ps : List Part) (f : ℕ → List ℕ) (n : ℕ) → ((k : ℕ) → f (n + k) ≡ text_of ts k) → TextsFrom f n (zip ts ps)
texts-from [] ps f n h = tt
texts-from (t ∷ ts) [] f n h = tt
texts-from (t ∷ ts) (p ∷ ps) f n h =
    (ap f (let e : n ≡ n + 0 = omega arith in e) ∙ h 0, texts-from ts ps f (n + 1) (λ k. ap f (let e : n + 1 + k ≡ n + suc k = omega arith in e) ∙ h (suc k)))

-- each token that denotes an entity is spelled as its first declaring token
abbrev pub AllSpelled : (ℕ → List ℕ) → List (Token × Option Denotation) → Type 0
AllSpelled f [] = Unit {0}
AllSpelled f (x ∷ xs) = SpelledOne f x.0.text x.1 × AllSpelled f xs

all-spelled : (f : ℕ → List ℕ) (ts : List Token) (ps : List Part) (ds : List (Option Denotation)) → length ps ≡ length ts → Spelled f (zip ts ps) ds → AllSpelled f (zip ts ds)
all-spelled f [] ps ds e h = tt
all-spelled f (t ∷ ts) [] ds e h = absurd (omega arith)
all-spelled f (t ∷ ts) (p ∷ ps) [] e h = tt
all-spelled f (t ∷ ts) (p ∷ ps) (d ∷ ds) e h = (h.0, all-spelled f ts ps ds (omega arith) h.1)

pub derived-length : (ts : List Token) (tree : List External) → Derives ts tree → length (parts tree) ≡ length ts
derived-length ts tree d = length-map (leaves tree) (λ l. l.part) ∙ sym (length-map (leaves tree) (λ l. l.terminal)) ∙ ap length (sym d) ∙ length-map ts (λ t. terminal_of t.text)

-- so it is in each text of the small form
pub well-spelled : (ts : List Token) (tree : List External) (ds : List (Option Denotation)) → IsWellFormed ts tree ds → AllSpelled (text_of ts) (zip ts ds)
well-spelled ts tree ds w =
    all-spelled (text_of ts) ts (parts tree) ds (derived-length ts tree w.0)
    (spelled (text_of ts) (zip ts (parts tree)) 0 file_scope ds tt (texts-from ts (parts tree) (text_of ts) 0 (λ k. ap (text_of ts) (let e : 0 + k ≡ k = omega arith in e))) w.1)

eq-true : (n : ℕ) → (n == n) ≡ true
eq-true n = eq-eqb n n refl

pub InOrder-end : (ts : List Token) (from end : ℕ) → InOrder from ts end → from ≤ end
InOrder-end [] from end h = h
InOrder-end (t ∷ ts) from end h = let k = InOrder-end ts (t.at + length t.text) end h.1 in omega (arith, h.0)

-- a token that denotes an entity is as long as its name
pub same-length : (f : ℕ → List ℕ) (entity : ℕ) (t : Token) (d : Option Denotation) → SpelledOne f t.text d → denotes_entity entity d ≡ true → t.text ≡ f entity
same-length f entity t None own h = let no : ⊥ = cc in absurd no
same-length f entity t (Some d) own h = let same : d.token ≡ entity = eqb-true d.token entity h in sym own ∙ ap f same

pub rise-places : (f : ℕ → List ℕ) (entity : ℕ) (ts : List Token) (ds : List (Option Denotation)) (from end : ℕ) → InOrder from ts end → AllSpelled f (zip ts ds) → Rise from (places_of entity (zip ts ds)) (length (f entity)) end
rise-places f entity [] ds from end h all = h
rise-places f entity (t ∷ ts) [] from end h all = InOrder-end (t ∷ ts) from end h
rise-places f entity (t ∷ ts) (d ∷ ds) from end h all =
    by (denotes_entity entity d) refl (rise-places f entity ts ds (t.at + length t.text) end h.1 all.1)
  where
    places : List ℕ
    places = places_of entity (zip ts ds)

    by : (b : Bool) → denotes_entity entity d ≡ b → Rise (t.at + length t.text) (places_of entity (zip ts ds)) (length (f entity)) end
        → Rise from (map (λ one. one.0.at) (if b then (t, d) ∷ filter (λ one. denotes_entity entity one.1) (zip ts ds) else filter (λ one. denotes_entity entity one.1) (zip ts ds))) (length (f entity)) end
    by true e rest = (h.0, subst (λ n. Rise (t.at + n) (places_of entity (zip ts ds)) (length (f entity)) end) (ap length (same-length f entity t d all.0 e)) rest)
    by false e rest = rise_down (places_of entity (zip ts ds)) (t.at + length t.text) from (length (f entity)) end (omega (arith, h.0)) rest
