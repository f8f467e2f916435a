-- Entities with linkage are told apart by their names.
use Rattle.std.proofs.Common.{◌≡◌, ℕ, ◌+◌, Bool, true, false, List, [], ◌∷◌, ◌++◌, Option, Some, None, refl, sym, ap, ◌∙◌, subst, zero, suc, slice_get}
use Rattle.std.specs.Prelude.{if◌then◌else◌}
use Rattle.std.specs.Option.{option_map, option_or, option_and_then, is_some}
use Rattle.cr_lex.specs.Lexing.{Token}
use Rattle.cr_small.specs.Declarations.{Entry, lookup, is_linked, first_linked, token_or, entity_of, is_redeclared}
use Rattle.cr_small.specs.Resolution.{Bindings, Bound, is_file_scope, bound, resolved, declared, denotation, entry_at, mentioned}
use Rattle.cr_small.specs.declared.grammar.Storage.{Storage}
use Rattle.cr_small.specs.declared.grammar.Part.{Part}
use Rattle.cr_small.specs.declared.grammar.Part.TheVariants as part
use Rattle.cr_small.specs.declared.binder.Denotation.{Denotation}
use Rattle.cr_small.proofs.Flat.{find-push}
use Rattle.cr_small.proofs.Names.{All, All-lookup, IsNamed, entity-named, TextsFrom}
use Rattle.cr_small.proofs.Renames.{All-map, IsFresh, IsKnown, AllFresh, Follows, bound-follows, known-push, known-self}

module _ (f : ℕ → List ℕ) (entity : ℕ) (new : List ℕ) where
  -- the entity's name has it as its first declaration with linkage
  abbrev pub IsSettled : List Entry → Denotation → Type 0
  IsSettled es d = d.linked ≡ true → (w : Entry) × (first_linked (f d.token) es ≡ Some w) × (w.token ≡ d.token)

  abbrev SettledIf : List Entry → Option Denotation → Type 0
  SettledIf es None = Unit {0}
  SettledIf es (Some d) = IsSettled es d

  first-stays : (es : List Entry) (e w : Entry) (name : List ℕ) → first_linked name es ≡ Some w → first_linked name (es ++ e ∷ []) ≡ Some w
  first-stays es e w name h = find-push (is_linked name) es e ∙ ap (λ o. option_or o (if is_linked name e then Some e else None)) h

  settled-push : (es : List Entry) (e : Entry) (d : Denotation) → IsSettled es d → IsSettled (es ++ e ∷ []) d
  settled-push es e d h x = let k = h x in (k.0, first-stays es e k.0 (f d.token) k.1, k.2)

  denotation-settled : (es : List Entry) (e : Entry) → All (IsKnown f entity new es) es → IsKnown f entity new es e → (declares : Bool) → IsSettled es (denotation es e declares)
  denotation-settled es e all k declares x = by (first_linked e.name es) refl (k.2 x)
    where
      by : (o : Option Entry) → first_linked e.name es ≡ o → is_some (first_linked e.name es) ≡ true → (w : Entry) × (first_linked (f (entity_of es e)) es ≡ Some w) × (w.token ≡ entity_of es e)
      by None h g = let no : false ≡ true = ap is_some (sym h) ∙ g in let bad : ⊥ = cc in absurd bad
      by (Some w) h g =
          let named = entity-named f es e (All-map (IsKnown f entity new es) (IsNamed f) es (λ y l. l.0) all) k.0 in
          (w, ap (λ n. first_linked n es) named ∙ h, sym (ap (λ b. if b then token_or e.token (first_linked e.name es) else e.token) x ∙ ap (token_or e.token) h))

  -- what one token leaves: what was settled stays so, and what it denotes is settled
  abbrev Settles : Bindings → Option Bound → Type 0
  Settles b None = Unit {0}
  Settles b (Some e) = ((d : Denotation) → IsSettled b.entries d → IsSettled e.after.entries d) × SettledIf e.after.entries e.denotes

  declared-settles : (b : Bindings) (n : ℕ) (text : List ℕ) (function : Bool) (word : Option Storage) → All (IsKnown f entity new b.entries) b.entries → IsFresh f entity new text → f n ≡ text → Settles b (declared b (entry_at b function word text n))
  declared-settles b n text function word all fresh own = by (is_redeclared b.entries (entry_at b function word text n))
    where
      by : (x : Bool) → Settles b (if x then None else Some (record { after = record { entries = b.entries ++ entry_at b function word text n ∷ []; path = b.path; next = b.next }; denotes = Some (denotation (b.entries ++ entry_at b function word text n ∷ []) (entry_at b function word text n) true) }))
      by true = tt
      by false = (λ d h. settled-push b.entries (entry_at b function word text n) d h, denotation-settled (b.entries ++ entry_at b function word text n ∷ []) (entry_at b function word text n) (known-push f entity new b.entries (entry_at b function word text n) all own fresh (λ p. ap is_file_scope p)) (known-self f entity new b.entries (entry_at b function word text n) own fresh (λ p. ap is_file_scope p)) true)

  mentioned-settles : (b : Bindings) (text : List ℕ) (o : Option Entry) → All (IsKnown f entity new b.entries) b.entries → lookup b.entries text b.path ≡ o → Settles b (mentioned b o)
  mentioned-settles b text None all h = tt
  mentioned-settles b text (Some e) all h = (λ d k. k, denotation-settled b.entries e all (All-lookup (IsKnown f entity new b.entries) b.path text b.entries e all h).0 false)

  bound-settles : (b : Bindings) (n : ℕ) (text : List ℕ) (p : Part) → All (IsKnown f entity new b.entries) b.entries → IsFresh f entity new text → f n ≡ text → Settles b (bound b n text p)
  bound-settles b n text part.Plain all fresh own = (λ d k. k, tt)
  bound-settles b n text part.Opens all fresh own = (λ d k. k, tt)
  bound-settles b n text part.Closes all fresh own = (λ d k. k, tt)
  bound-settles b n text (part.DeclaresObject word) all fresh own = declared-settles b n text false word all fresh own
  bound-settles b n text (part.DeclaresFunction word) all fresh own = declared-settles b n text true word all fresh own
  bound-settles b n text part.Mentions all fresh own = mentioned-settles b text (lookup b.entries text b.path) all refl

  -- entities with linkage of one name are one
  abbrev pub AreAlike : Denotation → Denotation → Type 0
  AreAlike d e = d.linked ≡ true → e.linked ≡ true → f d.token ≡ f e.token → d.token ≡ e.token

  abbrev AlikeIf : Denotation → Option Denotation → Type 0
  AlikeIf d None = Unit {0}
  AlikeIf d (Some e) = AreAlike d e

  abbrev AllAlike : Denotation → List (Option Denotation) → Type 0
  AllAlike d [] = Unit {0}
  AllAlike d (e ∷ es) = AlikeIf d e × AllAlike d es

  abbrev AlikeBehind : Option Denotation → List (Option Denotation) → Type 0
  AlikeBehind None es = Unit {0}
  AlikeBehind (Some d) es = AllAlike d es

  abbrev pub PairsAlike : List (Option Denotation) → Type 0
  PairsAlike [] = Unit {0}
  PairsAlike (d ∷ ds) = AlikeBehind d ds × PairsAlike ds

  settled-alike : (es : List Entry) (d : Denotation) (o : Option Denotation) → IsSettled es d → SettledIf es o → AlikeIf d o
  settled-alike es d None h k = tt
  settled-alike es d (Some e) h k = λ x y same.
      let a = h x in
      let b = k y in
      let w : Some a.0 ≡ Some b.0 = sym a.1 ∙ ap (λ n. first_linked n es) same ∙ b.1 in
      let v : a.0 ≡ b.0 = cc in
      sym a.2 ∙ ap (λ z. z.token) v ∙ b.2

  tail : (e : Bound) (d : Option Denotation) (ds : List (Option Denotation)) (o : Option (List (Option Denotation))) → option_map (λ l. e.denotes ∷ l) o ≡ Some (d ∷ ds) → (e.denotes ≡ d) × (o ≡ Some ds)
  tail e d ds None g = let bad : ⊥ = cc in absurd bad
  tail e d ds (Some l) g = (cc, ap (λ z. Some z) (let k : l ≡ ds = cc in k))

  all-alike : (xs : List (Token × Part)) (n : ℕ) (b : Bindings) (ds : List (Option Denotation)) (d : Denotation) → All (IsKnown f entity new b.entries) b.entries → AllFresh f entity new xs → TextsFrom f n xs
      → IsSettled b.entries d → resolved n b xs ≡ Some ds → AllAlike d ds
  all-alike xs n b [] d all fresh texts h r = tt
  all-alike [] n b (e ∷ ds) d all fresh texts h r = let bad : ⊥ = cc in absurd bad
  all-alike (x ∷ xs) n b (e ∷ ds) d all fresh texts h r =
      by (bound b n x.0.text x.1) (bound-settles b n x.0.text x.1 all fresh.0 texts.0) (bound-follows f entity new b n x.0.text x.1 all fresh.0 texts.0) (λ c k s g. all-alike xs (n + 1) c ds d k fresh.1 texts.1 s g) r
    where
      by : (o : Option Bound) → Settles b o → Follows f entity new b n x.0.text x.1 o → ((c : Bindings) → All (IsKnown f entity new c.entries) c.entries → IsSettled c.entries d → resolved (n + 1) c xs ≡ Some ds → AllAlike d ds)
          → option_and_then (λ e. option_map (λ l. e.denotes ∷ l) (resolved (n + 1) e.after xs)) o ≡ Some (e ∷ ds) → AlikeIf d e × AllAlike d ds
      by None s k rest g = let bad : ⊥ = cc in absurd bad
      by (Some m) s k rest g =
          let t = tail m e ds (resolved (n + 1) m.after xs) g in
          (settled-alike m.after.entries d e (s.0 d h) (subst (SettledIf m.after.entries) t.0 s.1), rest m.after k.1 (s.0 d h) t.1)

  pub pairs-alike : (xs : List (Token × Part)) (n : ℕ) (b : Bindings) (ds : List (Option Denotation)) → All (IsKnown f entity new b.entries) b.entries → AllFresh f entity new xs → TextsFrom f n xs → resolved n b xs ≡ Some ds → PairsAlike ds
  pairs-alike xs n b [] all fresh texts r = tt
  pairs-alike [] n b (e ∷ ds) all fresh texts r = let bad : ⊥ = cc in absurd bad
  pairs-alike (x ∷ xs) n b (e ∷ ds) all fresh texts r =
      by (bound b n x.0.text x.1) (bound-settles b n x.0.text x.1 all fresh.0 texts.0) (bound-follows f entity new b n x.0.text x.1 all fresh.0 texts.0) (λ c k g. pairs-alike xs (n + 1) c ds k fresh.1 texts.1 g) r
    where
      behind : (o : Option Denotation) (c : Bindings) → All (IsKnown f entity new c.entries) c.entries → SettledIf c.entries o → resolved (n + 1) c xs ≡ Some ds → AlikeBehind o ds
      behind None c k s g = tt
      behind (Some d) c k s g = all-alike xs (n + 1) c ds d k fresh.1 texts.1 s g

      by : (o : Option Bound) → Settles b o → Follows f entity new b n x.0.text x.1 o → ((c : Bindings) → All (IsKnown f entity new c.entries) c.entries → resolved (n + 1) c xs ≡ Some ds → PairsAlike ds)
          → option_and_then (λ e. option_map (λ l. e.denotes ∷ l) (resolved (n + 1) e.after xs)) o ≡ Some (e ∷ ds) → AlikeBehind e ds × PairsAlike ds
      by None s k rest g = let bad : ⊥ = cc in absurd bad
      by (Some m) s k rest g =
          let t = tail m e ds (resolved (n + 1) m.after xs) g in
          (behind e m.after k.1 (subst (SettledIf m.after.entries) t.0 s.1) t.1, rest m.after k.1 t.1)

  alike-get : (d : Denotation) (ds : List (Option Denotation)) (j : ℕ) (e : Denotation) → AllAlike d ds → slice_get ds j ≡ Some (Some e) → AreAlike d e
  alike-get d [] j e a h = let bad : ⊥ = cc in absurd bad
  alike-get d (x ∷ ds) zero e a h = let same : x ≡ Some e = cc in subst (AlikeIf d) same a.0
  alike-get d (x ∷ ds) (suc j) e a h = alike-get d ds j e a.1 h

  pub alike-at : (ds : List (Option Denotation)) (i j : ℕ) (d e : Denotation) → PairsAlike ds → slice_get ds i ≡ Some (Some d) → slice_get ds j ≡ Some (Some e) → AreAlike d e
  alike-at [] i j d e a h k = let bad : ⊥ = cc in absurd bad
  alike-at (x ∷ ds) zero zero d e a h k = λ p q same. let v : d ≡ e = cc in ap (λ z. z.token) v
  alike-at (x ∷ ds) zero (suc j) d e a h k = let same : x ≡ Some d = cc in alike-get d ds j e (subst (λ o. AlikeBehind o ds) same a.0) k
  alike-at (x ∷ ds) (suc i) zero d e a h k = let same : x ≡ Some e = cc in (λ p q g. sym (alike-get e ds i d (subst (λ o. AlikeBehind o ds) same a.0) h q p (sym g)))
  alike-at (x ∷ ds) (suc i) (suc j) d e a h k = alike-at ds i j d e a.1 h k
