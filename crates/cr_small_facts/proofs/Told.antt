-- What the facts of a text tell of places.
use Rattle.std.proofs.Common.{◌≡◌, ℕ, ◌<◌, Bool, true, false, ◌&&◌, ◌||◌, List, [], ◌∷◌, ◌++◌, length, map, Option, Some, None, refl, sym, ap, ◌∙◌, subst, arith, suc, slice_get, eq-eqb, eqb-true}
use Rattle.std.specs.Prelude.{◌==◌, if◌then◌else◌, bytes_eq}
use Rattle.std.specs.List.{list_any, zip, filter}
use Rattle.std.specs.Ordering.{eq_by_cmp, is_eq}
use Rattle.std.specs.Cmp.{both_ways, tied_itself}
use Rattle.std.specs.FinSet.{contains-from_list}
use Rattle.std.proofs.lemmas.List.Folds.{list_any-append}
use Rattle.std.proofs.lemmas.Slice.Eq.{bytes_eq-Decides}
use Rattle.cr_base.specs.Substitution.{Rise}
use Rattle.cr_base.specs.declared.token.Place.{Place}
use Rattle.cr_base.specs.declared.key.Key.{Key}
use Rattle.cr_base.specs.declared.key.Key.TheVariants as key
use Rattle.cr_base.specs.declared.cause.Role.TheVariants as role
use Rattle.cr_lex.specs.Lexing.{Token, lexed}
use Rattle.cr_small.specs.Keys as small
use Rattle.cr_small.specs.Terminals.{is_name}
use Rattle.cr_small.specs.Renaming.{has_key, denotes_key, places_among, places_of}
use Rattle.cr_small.specs.Laws.{PlacesRise, HaveOneName}
use Rattle.cr_small.specs.declared.binder.Denotation.{Denotation}
use Rattle.cr_facts.specs.FactOrder.{fact_cmp, FactsAreOrdered}
use Rattle.cr_facts.specs.declared.fact.Fact.{Fact}
use Rattle.cr_facts.specs.declared.fact.Fact.TheVariants as fact
use Rattle.cr_small_facts.specs.TextFacts.{place, key_over, kind_of, fact_if, facts_at, facts_of_key, facts_of_token, facts_among}
use Rattle.cr_small_facts.specs.Places.{Rising}
use Rattle.cr_small_facts.specs.Laws.{TellsPlaces, TellsOwn}
use Rattle.cr_small_facts.proofs.Rising.{among, rising_by}
use Rattle.cr_small_facts.proofs.Listed.{same_fact}

same_small : (a b : small.Key) → small.is_key a b ≡ true → a ≡ b
same_small (small.external n) (small.external m) h = ap small.external ((bytes_eq-Decides n m).0 h)
same_small (small.external n) (small.at o) h = let bad : ⊥ = cc in absurd bad
same_small (small.at o) (small.external n) h = let bad : ⊥ = cc in absurd bad
same_small (small.at o) (small.at p) h = ap small.at (eqb-true o p h)

own_small : (a : small.Key) → small.is_key a a ≡ true
own_small (small.external n) = (bytes_eq-Decides n n).1 refl
own_small (small.at o) = eq-eqb o o refl

-- entities of one file have the keys over all files that tell them apart
over_one : (file : ℕ) (a b : small.Key) → key_over file a ≡ key_over file b → a ≡ b
over_one file (small.external n) (small.external m) h = let same : n ≡ m = cc in ap small.external same
over_one file (small.external n) (small.at o) h = let bad : ⊥ = cc in absurd bad
over_one file (small.at o) (small.external n) h = let bad : ⊥ = cc in absurd bad
over_one file (small.at o) (small.at p) h = let same : place file o ≡ place file p = cc in ap (λ (z : Place). small.at z.offset) same

both : (a b : Bool) → (a && b) ≡ true → (a ≡ true) × (b ≡ true)
both true b h = (refl, h)
both false b h = let bad : ⊥ = cc in absurd bad

or_none : (b : Bool) → (b || false) ≡ b
or_none true = refl
or_none false = refl

nothing : (test : Fact → Bool) (b : Bool) → list_any test (if b then [] else []) ≡ false
nothing test true = refl
nothing test false = refl

name_length : (w : List ℕ) → is_name w ≡ true → 0 < length w
unfolding is_name
name_length [] h = let no : false ≡ true = h in let bad : ⊥ = cc in absurd bad
name_length (b ∷ w) h = omega arith

module _ (law : FactsAreOrdered) where
  -- of the facts of an identifier one tells what it denotes
  denotes_first : (p q : Place) (k l : Key) (d : Denotation) → list_any (eq_by_cmp fact_cmp (fact.Denotes p k)) (facts_at q l d) ≡ eq_by_cmp fact_cmp (fact.Denotes p k) (fact.Denotes q l)
  denotes_first p q k l d = by d.declares d.linked
    where
      by : (a b : Bool) → list_any (eq_by_cmp fact_cmp (fact.Denotes p k)) (fact.Denotes q l ∷ fact.HasRole q role.Final ∷ fact.OfKind l (kind_of d) ∷ fact_if a (fact.Declares l q) ++ fact_if b (fact.FileScope l)) ≡ eq_by_cmp fact_cmp (fact.Denotes p k) (fact.Denotes q l)
      by true true = or_none (eq_by_cmp fact_cmp (fact.Denotes p k) (fact.Denotes q l))
      by true false = or_none (eq_by_cmp fact_cmp (fact.Denotes p k) (fact.Denotes q l))
      by false true = or_none (eq_by_cmp fact_cmp (fact.Denotes p k) (fact.Denotes q l))
      by false false = or_none (eq_by_cmp fact_cmp (fact.Denotes p k) (fact.Denotes q l))

  module _ (file : ℕ) (old : List ℕ) (all : List Token) where
    abbrev told : small.Key → ℕ → Fact
    told k n = fact.Denotes (place file n) (key_over file k)

    told_same : (k l : small.Key) (n m : ℕ) → eq_by_cmp fact_cmp (told k n) (told l m) ≡ (small.is_key k l && (n == m))
    told_same k l n m =
        both_ways (eq_by_cmp fact_cmp (told k n) (told l m)) (small.is_key k l && (n == m))
        (λ e.
        let same : told k n ≡ told l m = same_fact law (told k n) (told l m) e in
        let places : place file n ≡ place file m = cc in
        let keys : key_over file k ≡ key_over file l = cc in
        ap (λ x. small.is_key k x && (n == m)) (sym (over_one file k l keys)) ∙ ap (λ b. b && (n == m)) (own_small k) ∙ eq-eqb n m (ap (λ (z : Place). z.offset) places))
        (λ h.
        let two = both (small.is_key k l) (n == m) h in
        ap (λ x. eq_by_cmp fact_cmp (told k n) (told x m)) (sym (same_small k l two.0)) ∙ ap (λ x. eq_by_cmp fact_cmp (told k n) (told k x)) (sym (eqb-true n m two.1)) ∙ ap is_eq (tied_itself law.total (told k n)))

    told_one : (k : small.Key) (n : ℕ) (t : Token) (d : Option Denotation) → ((x : Denotation) → d ≡ Some x → small.key_of all x ≡ Some k → t.text ≡ old)
        → list_any (eq_by_cmp fact_cmp (told k n)) (facts_of_token file old all t d) ≡ (denotes_key all k d && (n == t.at))
    told_one k n t None named = nothing (eq_by_cmp fact_cmp (told k n)) (bytes_eq t.text old)
    told_one k n t (Some x) named = keyed (small.key_of all x) refl
      where
        spelled : (l : small.Key) (b : Bool) → small.key_of all x ≡ Some l → bytes_eq t.text old ≡ b
            → list_any (eq_by_cmp fact_cmp (told k n)) (if b then facts_at (place file t.at) (key_over file l) x else []) ≡ (small.is_key k l && (n == t.at))
        spelled l true e w = denotes_first (place file n) (place file t.at) (key_over file k) (key_over file l) x ∙ told_same k l n t.at
        spelled l false e w = by (small.is_key k l) refl
          where
            by : (c : Bool) → small.is_key k l ≡ c → false ≡ (c && (n == t.at))
            by true c =
                let text = named x refl (e ∙ ap (λ z. Some z) (sym (same_small k l c))) in
                let no : true ≡ false = sym ((bytes_eq-Decides t.text old).1 text) ∙ w in
                let bad : ⊥ = cc in absurd bad
            by false c = refl

        keyed : (o : Option small.Key) → small.key_of all x ≡ o → list_any (eq_by_cmp fact_cmp (told k n)) (if bytes_eq t.text old then facts_of_key file t x o else []) ≡ (has_key k o && (n == t.at))
        keyed None e = nothing (eq_by_cmp fact_cmp (told k n)) (bytes_eq t.text old)
        keyed (Some l) e = spelled l (bytes_eq t.text old) e refl

    members : (k : small.Key) (n : ℕ) (ts : List Token) (ds : List (Option Denotation))
        → ((i : ℕ) (t : Token) (x : Denotation) → slice_get ts i ≡ Some t → slice_get ds i ≡ Some (Some x) → small.key_of all x ≡ Some k → t.text ≡ old)
        → list_any (eq_by_cmp fact_cmp (told k n)) (facts_among file old all (zip ts ds)) ≡ among n (places_among all k (zip ts ds))
    members k n [] ds named = refl
    members k n (t ∷ ts) [] named = refl
    members k n (t ∷ ts) (d ∷ ds) named =
        list_any-append (eq_by_cmp fact_cmp (told k n)) (facts_of_token file old all t d) (facts_among file old all (zip ts ds))
        ∙ ap (λ b. b || list_any (eq_by_cmp fact_cmp (told k n)) (facts_among file old all (zip ts ds))) (told_one k n t d (λ x e. named 0 t x refl (ap (λ z. Some z) e)))
        ∙ ap (λ b. (denotes_key all k d && (n == t.at)) || b) (members k n ts ds (λ i. named (suc i)))
        ∙ by (denotes_key all k d)
      where
        by : (b : Bool) → ((b && (n == t.at)) || among n (places_among all k (zip ts ds))) ≡ among n (map (λ one. one.0.at) (if b then (t, d) ∷ filter (λ one. denotes_key all k one.1) (zip ts ds) else filter (λ one. denotes_key all k one.1) (zip ts ds)))
        by true = refl
        by false = refl

    -- a place is that of a token
    some_place : (k : small.Key) (ts : List Token) (ds : List (Option Denotation)) → 0 < length (places_among all k (zip ts ds))
        → (i : ℕ) × (t : Token) × (x : Denotation) × (slice_get ts i ≡ Some t) × (slice_get ds i ≡ Some (Some x)) × (small.key_of all x ≡ Some k)
    some_place k [] ds h = absurd (omega arith)
    some_place k (t ∷ ts) [] h = absurd (omega arith)
    some_place k (t ∷ ts) (d ∷ ds) h = by (denotes_key all k d) refl h (some_place k ts ds)
      where
        keyed : (x : Denotation) (o : Option small.Key) → small.key_of all x ≡ o → has_key k o ≡ true → small.key_of all x ≡ Some k
        keyed x None e g = let bad : ⊥ = cc in absurd bad
        keyed x (Some l) e g = e ∙ ap (λ z. Some z) (sym (same_small k l g))

        here : (d' : Option Denotation) → d ≡ d' → denotes_key all k d' ≡ true → (i : ℕ) × (u : Token) × (x : Denotation) × (slice_get (t ∷ ts) i ≡ Some u) × (slice_get (d ∷ ds) i ≡ Some (Some x)) × (small.key_of all x ≡ Some k)
        here None e g = let bad : ⊥ = cc in absurd bad
        here (Some x) e g = (0, t, x, refl, ap (λ z. Some z) e, keyed x (small.key_of all x) refl g)

        by : (b : Bool) → denotes_key all k d ≡ b → 0 < length (map (λ one. one.0.at) (if b then (t, d) ∷ filter (λ one. denotes_key all k one.1) (zip ts ds) else filter (λ one. denotes_key all k one.1) (zip ts ds)))
            → (0 < length (places_among all k (zip ts ds)) → (i : ℕ) × (u : Token) × (x : Denotation) × (slice_get ts i ≡ Some u) × (slice_get ds i ≡ Some (Some x)) × (small.key_of all x ≡ Some k))
            → (i : ℕ) × (u : Token) × (x : Denotation) × (slice_get (t ∷ ts) i ≡ Some u) × (slice_get (d ∷ ds) i ≡ Some (Some x)) × (small.key_of all x ≡ Some k)
        by true e g more = here d refl e
        by false e g more = let m = more g in (suc m.0, m.1, m.2, m.3, m.4, m.5)

    -- a fact that no token tells
    none_told : (p : Place) (l : Key) → ((n : ℕ) (k : small.Key) → fact.Denotes p l ≡ told k n → ⊥) → (pairs : List (Token × Option Denotation)) → list_any (eq_by_cmp fact_cmp (fact.Denotes p l)) (facts_among file old all pairs) ≡ false
    none_told p l apart [] = refl
    none_told p l apart (one ∷ pairs) =
        list_any-append (eq_by_cmp fact_cmp (fact.Denotes p l)) (facts_of_token file old all one.0 one.1) (facts_among file old all pairs)
        ∙ ap (λ b. b || list_any (eq_by_cmp fact_cmp (fact.Denotes p l)) (facts_among file old all pairs)) (token one.0 one.1)
        ∙ none_told p l apart pairs
      where
        other : (t : Token) (k : small.Key) (b : Bool) → eq_by_cmp fact_cmp (fact.Denotes p l) (told k t.at) ≡ b → b ≡ false
        other t k true e = absurd (apart t.at k (same_fact law (fact.Denotes p l) (told k t.at) e))
        other t k false e = refl

        keyed : (t : Token) (x : Denotation) (o : Option small.Key) (b : Bool) → list_any (eq_by_cmp fact_cmp (fact.Denotes p l)) (if b then facts_of_key file t x o else []) ≡ false
        keyed t x None b = nothing (eq_by_cmp fact_cmp (fact.Denotes p l)) b
        keyed t x (Some k) true = denotes_first p (place file t.at) l (key_over file k) x ∙ other t k (eq_by_cmp fact_cmp (fact.Denotes p l) (told k t.at)) refl
        keyed t x (Some k) false = refl

        token : (t : Token) (d : Option Denotation) → list_any (eq_by_cmp fact_cmp (fact.Denotes p l)) (facts_of_token file old all t d) ≡ false
        token t None = nothing (eq_by_cmp fact_cmp (fact.Denotes p l)) (bytes_eq t.text old)
        token t (Some x) = keyed t x (small.key_of all x) (bytes_eq t.text old)

  pub tells_places : PlacesRise → HaveOneName → TellsPlaces
  tells_places places one_name bytes old k denotes file small is = record {
    rise = by (places_of k (lexed bytes).tokens denotes) refl (places bytes old k denotes small is);
    each = λ n. contains-from_list law.total (facts_among file old (lexed bytes).tokens (zip (lexed bytes).tokens denotes)) (told file old (lexed bytes).tokens k n)
        ∙ members file old (lexed bytes).tokens k n (lexed bytes).tokens denotes (λ i t x at denoted keyed. (one_name bytes old k denotes small is i t x at denoted keyed).0);
  }
    where
      by : (ps : List ℕ) → places_of k (lexed bytes).tokens denotes ≡ ps → Rise 0 ps (length old) (length bytes) → Rising 0 ps
      by [] e r = tt
      by (p ∷ ps) e r =
          let some : 0 < length (places_of k (lexed bytes).tokens denotes) = subst (λ l. 0 < length l) (sym e) (omega arith) in
          let s = some_place file old (lexed bytes).tokens k (lexed bytes).tokens denotes some in
          rising_by 0 (length old) (length bytes) (p ∷ ps) (name_length old (one_name bytes old k denotes small is s.0 s.1 s.2 s.3 s.4 s.5).1) r

  pub tells_own : TellsOwn
  tells_own file old tokens denotes other apart = (
    λ offset k. contains-from_list law.total (facts_among file old tokens (zip tokens denotes)) (fact.Denotes (place other offset) k)
        ∙ none_told file old tokens (place other offset) k (λ n l e. let same : place other offset ≡ place file n = cc in apart (ap (λ (z : Place). z.path.0) same)) (zip tokens denotes),
    λ p offset. contains-from_list law.total (facts_among file old tokens (zip tokens denotes)) (fact.Denotes p (key.At (place other offset)))
        ∙ none_told file old tokens p (key.At (place other offset)) (λ n l e. let same : key.At (place other offset) ≡ key_over file l = cc in elsewhere l same) (zip tokens denotes),
  )
    where
      elsewhere : {offset : ℕ} (l : small.Key) → key.At (place other offset) ≡ key_over file l → ⊥
      elsewhere (small.external name) h = cc
      elsewhere {offset} (small.at o) h = let same : place other offset ≡ place file o = cc in apart (ap (λ (z : Place). z.path.0) same)
