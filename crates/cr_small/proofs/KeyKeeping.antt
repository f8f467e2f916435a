-- A rename of an entity by its key keeps the meaning of a text.
use Rattle.std.proofs.Common.{◌≡◌, inl, inr, ◌⊎◌, ℕ, ◌+◌, Bool, true, false, ◌&&◌, List, [], ◌∷◌, length, map, Option, Some, None, refl, sym, ap, ◌∙◌, subst, zero, suc, slice_get, arith, eq-eqb, eqb-true}
use Rattle.std.specs.Prelude.{if◌then◌else◌, ◌==◌}
use Rattle.std.specs.Option.{option_map}
use Rattle.std.specs.List.{zip, filter}
use Rattle.std.proofs.lemmas.Option.{slice_get-map}
use Rattle.cr_base.specs.Substitution.{substituted}
use Rattle.cr_lex.specs.Lexing.{Token, lexed}
use Rattle.cr_lex.specs.Order.{StandsInOrder}
use Rattle.cr_lex.specs.Renaming.{is_among, is_refused, renamed_token, KeepsLexing}
use Rattle.cr_small.specs.Terminals.{is_name}
use Rattle.cr_small.specs.Tree.{parts}
use Rattle.cr_small.specs.Resolution.{file_scope}
use Rattle.cr_small.specs.Keys.{Key, external, has_external_linkage, key_of_token, key_of, is_key}
use Rattle.cr_small.specs.Renaming.{has_key, denotes_key, places_of, unspellable_among, first_unspellable, has_text}
use Rattle.cr_small.specs.SmallForm.{IsSmallForm, IsWellFormed}
use Rattle.cr_small.specs.KeepsMeaning.{KeepsMeaning}
use Rattle.cr_small.specs.Laws.{IsNameOf, renamed, moved_key, RenamingKeepsMeaning, KeysMove}
use Rattle.cr_small.specs.declared.binder.Denotation.{Denotation}
use Rattle.cr_small.proofs.Entities.{denotes_entity, places_of as entity_places}
use Rattle.cr_small.proofs.Flags.{flag_at, all-flagged, flagged-get}
use Rattle.cr_small.proofs.Keeping.{distinct, text_of-get, fresh-each, all-fresh, keeping_entity, placed as placed_entity, linked-of}
use Rattle.cr_small.proofs.KeyLaws.{keyed, keyed_so, Keyed, keyed-at, named, order, texts, spelled-get}
use Rattle.cr_small.proofs.Links.{pairs-alike, alike-at}
use Rattle.cr_small.proofs.Placed.{PlacedAs}
use Rattle.cr_small.proofs.Names.{text_of, texts-from, well-spelled}

places-same : (p q : Option Denotation → Bool) (ts : List Token) (ds : List (Option Denotation)) → ((j : ℕ) (x : Option Denotation) → slice_get ds j ≡ Some x → p x ≡ q x)
    → map (λ (one : Token × Option Denotation). one.0.at) (filter (λ one. p one.1) (zip ts ds)) ≡ map (λ (one : Token × Option Denotation). one.0.at) (filter (λ one. q one.1) (zip ts ds))
places-same p q [] ds h = refl
places-same p q (t ∷ ts) [] h = refl
places-same p q (t ∷ ts) (d ∷ ds) h =
    ap (λ b. map (λ (one : Token × Option Denotation). one.0.at) (if b then (t, d) ∷ filter (λ one. p one.1) (zip ts ds) else filter (λ one. p one.1) (zip ts ds))) (h 0 d refl)
    ∙ by (q d) (places-same p q ts ds (λ j x. h (suc j) x))
  where
    by : (b : Bool) → map (λ (one : Token × Option Denotation). one.0.at) (filter (λ one. p one.1) (zip ts ds)) ≡ map (λ (one : Token × Option Denotation). one.0.at) (filter (λ one. q one.1) (zip ts ds))
        → map (λ (one : Token × Option Denotation). one.0.at) (if b then (t, d) ∷ filter (λ one. p one.1) (zip ts ds) else filter (λ one. p one.1) (zip ts ds)) ≡ map (λ (one : Token × Option Denotation). one.0.at) (if b then (t, d) ∷ filter (λ one. q one.1) (zip ts ds) else filter (λ one. q one.1) (zip ts ds))
    by true e = ap (λ l. t.at ∷ l) e
    by false e = e

no-places : (p : Option Denotation → Bool) (ts : List Token) (ds : List (Option Denotation)) → ((j : ℕ) (x : Option Denotation) → slice_get ds j ≡ Some x → p x ≡ false) → map (λ (one : Token × Option Denotation). one.0.at) (filter (λ one. p one.1) (zip ts ds)) ≡ []
no-places p [] ds h = refl
no-places p (t ∷ ts) [] h = refl
no-places p (t ∷ ts) (d ∷ ds) h = ap (λ b. map (λ (one : Token × Option Denotation). one.0.at) (if b then (t, d) ∷ filter (λ one. p one.1) (zip ts ds) else filter (λ one. p one.1) (zip ts ds))) (h 0 d refl) ∙ no-places p ts ds (λ j x. h (suc j) x)

placed-get : (f : ℕ → List ℕ) (entity : ℕ) (ps : List ℕ) (ts : List Token) (ds : List (Option Denotation)) (i : ℕ) (t : Token) (d : Option Denotation) → PlacedAs f entity ps ts ds → slice_get ts i ≡ Some t → slice_get ds i ≡ Some d → is_among ps t.at ≡ denotes_entity entity d
placed-get f entity ps [] ds i t d h a b = let no : None ≡ Some t = a in let bad : ⊥ = cc in absurd bad
placed-get f entity ps (x ∷ ts) [] i t d h a b = let no : None ≡ Some d = b in let bad : ⊥ = cc in absurd bad
placed-get f entity ps (x ∷ ts) (y ∷ ds) zero t d h a b =
    let p : x ≡ t = cc in
    let q : y ≡ d = cc in
    ap (λ (z : Token). is_among ps z.at) (sym p) ∙ h.0 ∙ ap (denotes_entity entity) q
placed-get f entity ps (x ∷ ts) (y ∷ ds) (suc i) t d h a b = placed-get f entity ps ts ds i t d h.1 a b

kept-tokens : (name new : List ℕ) (ts : List Token) → ts ≡ map (renamed_token [] name new) ts
kept-tokens name new [] = refl
kept-tokens name new (t ∷ ts) = ap (λ l. t ∷ l) (kept-tokens name new ts)

-- where no place is unspellable, none of the tokens is refused
all-spellable : (bytes new : List ℕ) (key : Key) (all ts : List Token) (ds : List (Option Denotation)) → unspellable_among bytes new all key (zip ts ds) ≡ None
    → (i : ℕ) (t : Token) (d : Option Denotation) → slice_get ts i ≡ Some t → slice_get ds i ≡ Some d → denotes_key all key d ≡ true → is_refused bytes new t ≡ false
all-spellable bytes new key all [] ds none i t d h k e = let no : None ≡ Some t = h in let bad : ⊥ = cc in absurd bad
all-spellable bytes new key all (x ∷ ts) [] none i t d h k e = let no : None ≡ Some d = k in let bad : ⊥ = cc in absurd bad
all-spellable bytes new key all (x ∷ ts) (y ∷ ds) none i t d h k e = by (denotes_key all key y) refl (is_refused bytes new x) refl none i h k (λ n j a b. all-spellable bytes new key all ts ds n j t d a b e)
  where
    by : (a : Bool) → denotes_key all key y ≡ a → (b : Bool) → is_refused bytes new x ≡ b → (if a && b then Some x.at else unspellable_among bytes new all key (zip ts ds)) ≡ None
        → (i : ℕ) → slice_get (x ∷ ts) i ≡ Some t → slice_get (y ∷ ds) i ≡ Some d → (unspellable_among bytes new all key (zip ts ds) ≡ None → (j : ℕ) → slice_get ts j ≡ Some t → slice_get ds j ≡ Some d → is_refused bytes new t ≡ false) → is_refused bytes new t ≡ false
    by true p true q none i h k more = let bad : ⊥ = cc in absurd bad
    by a p false q none zero h k more = let same : x ≡ t = cc in ap (is_refused bytes new) (sym same) ∙ q
    by false p true q none zero h k more = let same : y ≡ d = cc in let no : false ≡ true = sym p ∙ ap (denotes_key all key) same ∙ e in let bad : ⊥ = cc in absurd bad
    by true p false q none (suc i) h k more = more none i h k
    by false p b q none (suc i) h k more = more none i h k

module _ (lexes : KeepsLexing) (stands : StandsInOrder) (bytes name new : List ℕ) (key : Key) (ds : List (Option Denotation)) (small : IsSmallForm (lexed bytes) ds) (is : IsNameOf name key (lexed bytes).tokens ds) (new_name : is_name new ≡ true) (fresh : has_text new (lexed bytes).tokens ≡ false)
    (spellable : first_unspellable bytes new key (lexed bytes).tokens ds ≡ None) where
  abbrev ts : List Token
  ts = (lexed bytes).tokens

  -- a token that denotes an entity of the key
  abbrev Witness : Type 0
  Witness = (i : ℕ) × (d : Denotation) × (slice_get ds i ≡ Some (Some d)) × (denotes_key ts key (Some d) ≡ true)

  abbrev NoneOf : List (Option Denotation) → Type 0
  NoneOf xs = (i : ℕ) (d : Denotation) → slice_get xs i ≡ Some (Some d) → denotes_key ts key (Some d) ≡ false

  abbrev WitnessIn : List (Option Denotation) → Type 0
  WitnessIn xs = (i : ℕ) × (d : Denotation) × (slice_get xs i ≡ Some (Some d)) × (denotes_key ts key (Some d) ≡ true)

  look : (xs : List (Option Denotation)) → WitnessIn xs ⊎ NoneOf xs
  look [] = inr (λ i d h. let no : None ≡ Some (Some d) = h in let bad : ⊥ = cc in absurd bad)
  look (x ∷ xs) = by x refl (look xs)
    where
      more : WitnessIn xs ⊎ NoneOf xs → ((d : Denotation) → x ≡ Some d → denotes_key ts key (Some d) ≡ false) → WitnessIn (x ∷ xs) ⊎ NoneOf (x ∷ xs)
      more (inl w) first = inl (suc w.0, w.1, w.2, w.3)
      more (inr none) first = inr none_of
        where
          none_of : NoneOf (x ∷ xs)
          none_of zero d h = first d (let e : x ≡ Some d = cc in e)
          none_of (suc i) d h = none i d h

      here : (d : Denotation) → x ≡ Some d → (b : Bool) → denotes_key ts key (Some d) ≡ b → WitnessIn xs ⊎ NoneOf xs → WitnessIn (x ∷ xs) ⊎ NoneOf (x ∷ xs)
      here d e true h rest = inl (0, d, ap (λ z. Some z) e, h)
      here d e false h rest = more rest (λ d' e'. let s : Some d ≡ Some d' = sym e ∙ e' in let t : d ≡ d' = cc in ap (λ z. denotes_key ts key (Some z)) (sym t) ∙ h)

      by : (y : Option Denotation) → x ≡ y → WitnessIn xs ⊎ NoneOf xs → WitnessIn (x ∷ xs) ⊎ NoneOf (x ∷ xs)
      by None e rest = more rest (λ d e'. let no : None ≡ Some d = sym e ∙ e' in let bad : ⊥ = cc in absurd bad)
      by (Some d) e rest = here d e (denotes_key ts key (Some d)) refl rest

  abbrev Kept : List ℕ → List ℕ → Type 0
  Kept places old = (kept : KeepsMeaning (lexed bytes) (lexed (substituted places (length old) new bytes)) places old new) × (kept.denotes ≡ ds)

  module _ (w : Witness) where
    abbrev entity : ℕ
    entity = w.1.token

    abbrev one : Keyed ts w.0 w.1
    one = keyed-at (lexed bytes) ds w.0 w.1 small w.2

    own_key : key_of ts w.1 ≡ Some key
    own_key = keyed ts key w.1 w.3

    spelled : text_of ts entity ≡ name
    spelled = text_of-get ts entity one.first one.first_at ∙ one.alike ∙ named stands bytes ds small name key w.0 w.1 is w.2 own_key

    old_name : is_name (text_of ts entity) ≡ true
    old_name = ap is_name (text_of-get ts entity one.first one.first_at ∙ one.alike) ∙ one.name

    -- denotations of one key are of one entity
    same-entity : (j : ℕ) (e : Denotation) → slice_get ds j ≡ Some (Some e) → key_of ts e ≡ Some key → e.token ≡ entity
    same-entity j e h k =
        by (has_external_linkage e) (has_external_linkage w.1) refl refl (let eq : Some (key_of_token (has_external_linkage e) other.first) ≡ Some (key_of_token (has_external_linkage w.1) one.first) = sym other.key ∙ k ∙ sym own_key ∙ one.key in let keys : key_of_token (has_external_linkage e) other.first ≡ key_of_token (has_external_linkage w.1) one.first = cc in keys)
      where
        other : Keyed ts j e
        other = keyed-at (lexed bytes) ds j e small h

        f : ℕ → List ℕ
        f = text_of ts

        alike : has_external_linkage e ≡ true → has_external_linkage w.1 ≡ true → f e.token ≡ f entity → e.token ≡ entity
        alike p q g = alike-at (text_of ts) entity new ds j w.0 e w.1
            (pairs-alike (text_of ts) entity new (zip ts (parts small.2.0)) 0 file_scope ds tt
            (all-fresh (text_of ts) entity new [] ts (parts small.2.0) (fresh-each new ts fresh))
            (texts-from ts (parts small.2.0) (text_of ts) 0 (λ n. ap (text_of ts) (let q : 0 + n ≡ n = omega arith in q))) small.2.1.1)
            h w.2 (linked-of e p) (linked-of w.1 q) g

        by : (x y : Bool) → has_external_linkage e ≡ x → has_external_linkage w.1 ≡ y → key_of_token x other.first ≡ key_of_token y one.first → e.token ≡ entity
        by true true p q g = let names : other.first.text ≡ one.first.text = cc in alike p q (text_of-get ts e.token other.first other.first_at ∙ names ∙ sym (text_of-get ts entity one.first one.first_at))
        by true false p q g = let bad : ⊥ = cc in absurd bad
        by false true p q g = let bad : ⊥ = cc in absurd bad
        by false false p q g = let offsets : other.first.at ≡ one.first.at = cc in distinct ts 0 (length bytes) e.token entity other.first one.first (order stands bytes ds small) (texts stands bytes ds small) other.first_at one.first_at offsets

    same-key : (j : ℕ) (e : Denotation) → slice_get ds j ≡ Some (Some e) → e.token ≡ entity → key_of ts e ≡ Some key
    same-key j e h same =
        let flags = all-flagged (zip ts (parts small.2.0)) file_scope ds (tt, tt) small.2.1.1 in
        let linkage : has_external_linkage e ≡ has_external_linkage w.1 = sym (flagged-get (flag_at ds) ds j e flags h) ∙ ap (flag_at ds) same ∙ flagged-get (flag_at ds) ds w.0 w.1 flags w.2 in
        ap (λ x. option_map (key_of_token x) (slice_get ts e.token)) linkage ∙ ap (λ n. option_map (key_of_token (has_external_linkage w.1)) (slice_get ts n)) same ∙ own_key

    -- a token denotes an entity of the key just where it denotes that entity
    is-entity : (j : ℕ) (x : Option Denotation) → slice_get ds j ≡ Some x → denotes_key ts key x ≡ denotes_entity entity x
    is-entity j None h = refl
    is-entity j (Some e) h = by (denotes_key ts key (Some e)) (e.token == entity) refl refl
      where
        by : (b c : Bool) → denotes_key ts key (Some e) ≡ b → (e.token == entity) ≡ c → b ≡ c
        by true true p q = refl
        by true false p q = sym (eq-eqb e.token entity (same-entity j e h (keyed ts key e p))) ∙ q
        by false true p q = sym p ∙ keyed_so ts key e (same-key j e h (eqb-true e.token entity q))
        by false false p q = refl

    are : places_of key ts ds ≡ entity_places entity (zip ts ds)
    are = places-same (denotes_key ts key) (denotes_entity entity) ts ds is-entity

    spells : (i : ℕ) (t : Token) (d : Option Denotation) → slice_get ts i ≡ Some t → slice_get ds i ≡ Some d → denotes_entity entity d ≡ true → is_refused bytes new t ≡ false
    spells i t d h k e = all-spellable bytes new key ts ts ds spellable i t d h k (is-entity i d k ∙ e)

    kept-by : Kept (places_of key ts ds) name
    kept-by = subst (λ ps. Kept ps name) (sym are) (subst (λ old. Kept (entity_places entity (zip ts ds)) old) spelled (keeping_entity lexes stands bytes new ds entity small old_name new_name fresh spells))

    placed-by : (i : ℕ) (t : Token) (d : Denotation) → slice_get ts i ≡ Some t → slice_get ds i ≡ Some (Some d) → is_among (places_of key ts ds) t.at ≡ denotes_key ts key (Some d)
    placed-by i t d h k =
        ap (λ ps. is_among ps t.at) are
        ∙ placed-get (text_of ts) entity (entity_places entity (zip ts ds)) ts ds i t (Some d)
        (placed_entity lexes stands bytes new ds entity small old_name new_name fresh spells) h k
        ∙ sym (is-entity i (Some d) k)

  none-at : NoneOf ds → places_of key ts ds ≡ []
  none-at none = no-places (denotes_key ts key) ts ds by
    where
      by : (j : ℕ) (x : Option Denotation) → slice_get ds j ≡ Some x → denotes_key ts key x ≡ false
      by j None h = refl
      by j (Some d) h = none j d h

  kept-none : NoneOf ds → Kept (places_of key ts ds) name
  kept-none none = subst (λ ps. Kept ps name) (sym (none-at none)) (kept, refl)
    where
      kept : KeepsMeaning (lexed bytes) (lexed bytes) [] name new
      kept = record {
        was_whole = small.0;
        is_whole = small.0;
        tokens = kept-tokens name new ts;
        spelled = λ i t h p. let no : false ≡ true = p in let bad : ⊥ = cc in absurd bad;
        tree = small.2.0;
        denotes = ds;
        was_well_formed = small.2.1;
        is_well_formed = small.2.1;
        links = λ i j. (λ h. h, λ h. h);
      }

  pub kept : (k : KeepsMeaning (lexed bytes) (lexed (renamed bytes name key ds new)) (places_of key ts ds) name new) × (k.denotes ≡ ds)
  kept = by (look ds)
    where
      by : WitnessIn ds ⊎ NoneOf ds → (k : KeepsMeaning (lexed bytes) (lexed (renamed bytes name key ds new)) (places_of key ts ds) name new) × (k.denotes ≡ ds)
      by (inl w) = kept-by w
      by (inr none) = kept-none none

  placed : (i : ℕ) (t : Token) (d : Denotation) → slice_get ts i ≡ Some t → slice_get ds i ≡ Some (Some d) → is_among (places_of key ts ds) t.at ≡ denotes_key ts key (Some d)
  placed i t d h k = by (look ds)
    where
      by : WitnessIn ds ⊎ NoneOf ds → is_among (places_of key ts ds) t.at ≡ denotes_key ts key (Some d)
      by (inl w) = placed-by w i t d h k
      by (inr none) = ap (λ ps. is_among ps t.at) (none-at none) ∙ sym (none i d k)

  pub moved : (i : ℕ) (d : Denotation) → slice_get ds i ≡ Some (Some d) → key_of (lexed (renamed bytes name key ds new)).tokens d ≡ option_map (moved_key key (places_of key ts ds) name new) (key_of ts d)
  moved i d h =
      ap (λ l. option_map (key_of_token (has_external_linkage d)) (slice_get l d.token)) kept.0.tokens
      ∙ ap (option_map (key_of_token (has_external_linkage d))) (slice_get-map r ts d.token ∙ ap (option_map r) own.first_at)
      ∙ by (has_external_linkage d) refl
      ∙ sym (ap (option_map (moved_key key (places_of key ts ds) name new)) own.key)
    where
      r : Token → Token
      r = renamed_token (places_of key ts ds) name new

      own : Keyed ts i d
      own = keyed-at (lexed bytes) ds i d small h

      -- the first declaring token is spelled as the token afterwards too
      text : (r own.first).text ≡ (r own.own).text
      text =
          let after = map r ts in
          let well = subst (λ l. IsWellFormed l kept.0.tree ds) kept.0.tokens (subst (λ x. IsWellFormed (lexed (renamed bytes name key ds new)).tokens kept.0.tree x) kept.1 kept.0.is_well_formed) in
          let first : slice_get after d.token ≡ Some (r own.first) = slice_get-map r ts d.token ∙ ap (option_map r) own.first_at in
          let mine : slice_get after i ≡ Some (r own.own) = slice_get-map r ts i ∙ ap (option_map r) own.own_at in
          sym (text_of-get after d.token (r own.first) first) ∙ spelled-get (text_of after) after ds i (r own.own) d (well-spelled after kept.0.tree ds well) mine h

      at_place : denotes_key ts key (Some d) ≡ is_among (places_of key ts ds) own.own.at
      at_place = sym (placed i own.own d own.own_at h)

      by : (x : Bool) → has_external_linkage d ≡ x → Some (key_of_token x (r own.first)) ≡ Some (moved_key key (places_of key ts ds) name new (key_of_token x own.first))
      by false e = refl
      by true e = ap (λ n. Some (external n)) text ∙ go (is_among (places_of key ts ds) own.own.at) refl
        where
          test : is_key key (external own.first.text) ≡ is_among (places_of key ts ds) own.own.at
          test = sym (ap (has_key key) (own.key ∙ ap (λ x. Some (key_of_token x own.first)) e)) ∙ at_place

          go : (b : Bool) → is_among (places_of key ts ds) own.own.at ≡ b → Some (external (if is_among (places_of key ts ds) own.own.at then new else own.own.text)) ≡ Some (if is_key key (external own.first.text) then external new else external own.first.text)
          go true p = ap (λ b. Some (external (if b then new else own.own.text))) p ∙ sym (ap (λ b. Some (if b then external new else external own.first.text)) (test ∙ p))
          go false p = ap (λ b. Some (external (if b then new else own.own.text))) p ∙ ap (λ n. Some (external n)) (sym own.alike) ∙ sym (ap (λ b. Some (if b then external new else external own.first.text)) (test ∙ p))

pub renaming-keeps : KeepsLexing → StandsInOrder → RenamingKeepsMeaning
renaming-keeps lexes stands bytes name new key ds small is new_name fresh spellable = kept lexes stands bytes name new key ds small is new_name fresh spellable

pub keys-move : KeepsLexing → StandsInOrder → KeysMove
keys-move lexes stands bytes name new key ds small is new_name fresh spellable i d h = moved lexes stands bytes name new key ds small is new_name fresh spellable i d h
