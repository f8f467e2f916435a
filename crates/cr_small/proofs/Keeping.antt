-- A rename to a name that a text doesn't have keeps the meaning of the text.
use Rattle.std.proofs.Common.{◌≡◌, ℕ, ◌+◌, ◌≤◌, Bool, true, false, not, ◌||◌, List, [], ◌∷◌, length, map, slice_get, Option, Some, None, refl, sym, ap, ◌∙◌, subst, arith, zero, suc}
use Rattle.std.specs.Prelude.{if◌then◌else◌, bytes_eq}
use Rattle.std.specs.List.{zip, Contains}
use Rattle.std.specs.Option.{option_map}
use Rattle.std.proofs.lemmas.Option.{slice_get-map, slice_get_within, get_or_from_slice_get}
use Rattle.std.proofs.lemmas.List.Elements.{Contains-get_or}
use Rattle.cr_base.specs.Names.{is_identifier}
use Rattle.cr_base.specs.Substitution.{shifted, substituted}
use Rattle.cr_lex.specs.Lexing.{Token, lexed}
use Rattle.cr_lex.specs.Order.{AreInOrder, StandsInOrder}
use Rattle.cr_lex.specs.Renaming.{is_among, is_refused, IsPlace, renamed_token, renamed, shifted_fault, KeepsLexing}
use Rattle.cr_small.specs.Terminals.{is_name, terminal_of}
use Rattle.cr_small.specs.Tree.{parts}
use Rattle.cr_small.specs.Resolution.{file_scope, resolved}
use Rattle.cr_small.specs.Renaming.{has_text}
use Rattle.cr_small.proofs.Entities.{places_of, denotes_entity}
use Rattle.cr_small.specs.Keys.{Key, external, at, has_external_linkage, key_of_token, key_of}
use Rattle.cr_small.specs.SmallForm.{IsSmallForm}
use Rattle.cr_small.specs.KeepsMeaning.{AreLinked, KeepsMeaning}
use Rattle.cr_small.specs.declared.grammar.Part.{Part}
use Rattle.cr_small.specs.declared.binder.Denotation.{Denotation}
use Rattle.cr_small.proofs.Flat.{both, bytes_eq-refl}
use Rattle.cr_small.proofs.Cuts.{InOrder, in_order}
use Rattle.cr_small.proofs.Sound.{Each, Each-get, HasText, IsSound, sound, texts}
use Rattle.cr_small.proofs.Names.{AllSpelled, TextsFrom, text_of, texts-from, well-spelled, same-length, derived-length, rise-places}
use Rattle.cr_small.proofs.Pairs.{resolves-length}
use Rattle.cr_small.proofs.Placed.{PlacedAs, order-from, placed-as, all-at}
use Rattle.cr_small.proofs.Renames.{AreRenamed, AllFresh, walk-follows}
use Rattle.cr_small.proofs.Links.{AreAlike, PairsAlike, pairs-alike, alike-at}
use Rattle.cr_small.proofs.Naming.{NameIf, NamesAt, well-named, ident-of-name, terminal-of-name}

-- tokens at one offset are one
pub distinct : (ts : List Token) (from end : ℕ) (i j : ℕ) (t u : Token) → InOrder from ts end → Each HasText ts → slice_get ts i ≡ Some t → slice_get ts j ≡ Some u → t.at ≡ u.at → i ≡ j
distinct [] from end i j t u order texts h k e = let no : ⊥ = cc in absurd no
distinct (x ∷ xs) from end zero zero t u order texts h k e = refl
distinct (x ∷ xs) from end zero (suc j) t u order texts h k e =
    let same : x ≡ t = cc in
    let behind = Each-get (λ v. x.at + length x.text ≤ v.at) xs j u (order-from xs (x.at + length x.text) end order.1) k in
    absurd (omega (arith, ap (λ z. z.at) same, texts.0))
distinct (x ∷ xs) from end (suc i) zero t u order texts h k e =
    let same : x ≡ u = cc in
    let behind = Each-get (λ v. x.at + length x.text ≤ v.at) xs i t (order-from xs (x.at + length x.text) end order.1) h in
    absurd (omega (arith, ap (λ z. z.at) same, texts.0))
distinct (x ∷ xs) from end (suc i) (suc j) t u order texts h k e = ap suc (distinct xs (x.at + length x.text) end i j t u order.1 texts.1 h k e)

pub text_of-get : (ts : List Token) (i : ℕ) (t : Token) → slice_get ts i ≡ Some t → text_of ts i ≡ t.text
text_of-get [] i t h = let no : ⊥ = cc in absurd no
text_of-get (x ∷ xs) zero t h = let same : x ≡ t = cc in ap (λ z. z.text) same
text_of-get (x ∷ xs) (suc i) t h = text_of-get xs i t h

pub fresh-each : (new : List ℕ) (ts : List Token) → has_text new ts ≡ false → Each (λ t. bytes_eq t.text new ≡ false) ts
fresh-each new [] h = tt
fresh-each new (t ∷ ts) h = by (bytes_eq t.text new) refl h (fresh-each new ts)
  where
    by : (b : Bool) → bytes_eq t.text new ≡ b → (b || has_text new ts) ≡ false → (has_text new ts ≡ false → Each (λ t. bytes_eq t.text new ≡ false) ts) → Each (λ t. bytes_eq t.text new ≡ false) (t ∷ ts)
    by true e g rest = let no : ⊥ = cc in absurd no
    by false e g rest = (e, rest g)

-- external linkage is a linkage
pub linked-of : (d : Denotation) → has_external_linkage d ≡ true → d.linked ≡ true
linked-of d h = (both d.linked (not d.internal) h).0

module _ (f : ℕ → List ℕ) (entity : ℕ) (new : List ℕ) (places : List ℕ) where
  abbrev after : List Token → List Token
  after ts = map (renamed_token places (f entity) new) ts

  abbrev Placed : List Token → List (Option Denotation) → Type 0
  Placed ts ds = PlacedAs f entity places ts ds

  spelled-each : (ts : List Token) (ds : List (Option Denotation)) → length ds ≡ length ts → Placed ts ds → AllSpelled f (zip ts ds) → Each (λ t. is_among places t.at ≡ true → t.text ≡ f entity) ts
  spelled-each [] ds n p all = tt
  spelled-each (t ∷ ts) [] n p all = absurd (omega arith)
  spelled-each (t ∷ ts) (d ∷ ds) n p all = (λ h. same-length f entity t d all.0 (sym p.0 ∙ h), spelled-each ts ds (omega arith) p.1 all.1)

  -- a renamed token is what it was in the grammar
  terminals-kept : (ts : List Token) (ds : List (Option Denotation)) → length ds ≡ length ts → Placed ts ds → NamesAt ts ds → is_name new ≡ true → map (λ t. terminal_of t.text) (after ts) ≡ map (λ t. terminal_of t.text) ts
  terminals-kept [] ds n p names new_name = refl
  terminals-kept (t ∷ ts) [] n p names new_name = absurd (omega arith)
  terminals-kept (t ∷ ts) (d ∷ ds) n p names new_name =
      ap (λ x. x ∷ map (λ t. terminal_of t.text) (after ts)) (by (is_among places t.at) refl d names.0 p.0)
      ∙ ap (λ l. terminal_of t.text ∷ l) (terminals-kept ts ds (omega arith) p.1 names.1 new_name)
    where
      by : (b : Bool) → is_among places t.at ≡ b → (d : Option Denotation) → NameIf t d → is_among places t.at ≡ denotes_entity entity d → terminal_of (if is_among places t.at then new else t.text) ≡ terminal_of t.text
      by false e d name h = ap (λ b. terminal_of (if b then new else t.text)) e
      by true e None name h = let no : true ≡ false = sym e ∙ h in let bad : ⊥ = cc in absurd bad
      by true e (Some d) name h = ap (λ b. terminal_of (if b then new else t.text)) e ∙ terminal-of-name new new_name ∙ sym name

  are-renamed : (ts : List Token) (ps : List Part) (ds : List (Option Denotation)) → length ds ≡ length ts → length ps ≡ length ts → Placed ts ds → AreRenamed f entity new (zip ts ps) ds (zip (after ts) ps)
  are-renamed [] ps [] n m p = refl
  are-renamed [] ps (d ∷ ds) n m p = absurd (omega arith)
  are-renamed (t ∷ ts) ps [] n m p = absurd (omega arith)
  are-renamed (t ∷ ts) [] (d ∷ ds) n m p = absurd (omega arith)
  are-renamed (t ∷ ts) (q ∷ ps) (d ∷ ds) n m p = (ap (λ b. if b then new else t.text) p.0, refl, are-renamed ts ps ds (omega arith) (omega arith) p.1)

  pub all-fresh : (ts : List Token) (ps : List Part) → Each (λ t. bytes_eq t.text new ≡ false) ts → AllFresh f entity new (zip ts ps)
  all-fresh [] ps e = tt
  all-fresh (t ∷ ts) [] e = tt
  all-fresh (t ∷ ts) (p ∷ ps) e = (e.0, all-fresh ts ps e.1)

  -- the key of an entity before and after
  key-found : (ts : List Token) (d : Denotation) (k : Key) → key_of ts d ≡ Some k → (t : Token) × (slice_get ts d.token ≡ Some t) × (k ≡ key_of_token (has_external_linkage d) t)
  key-found ts d k h = by (slice_get ts d.token) refl h
    where
      by : (o : Option Token) → slice_get ts d.token ≡ o → option_map (key_of_token (has_external_linkage d)) o ≡ Some k → (t : Token) × (slice_get ts d.token ≡ Some t) × (k ≡ key_of_token (has_external_linkage d) t)
      by None e g = let no : ⊥ = cc in absurd no
      by (Some t) e g = (t, e, let same : key_of_token (has_external_linkage d) t ≡ k = cc in sym same)

  key-after : (ts : List Token) (d : Denotation) (t : Token) → slice_get ts d.token ≡ Some t → key_of (after ts) d ≡ Some (key_of_token (has_external_linkage d) (renamed_token places (f entity) new t))
  key-after ts d t h = ap (option_map (key_of_token (has_external_linkage d))) (slice_get-map (renamed_token places (f entity) new) ts d.token ∙ ap (option_map (renamed_token places (f entity) new)) h)

  key-before : (ts : List Token) (d : Denotation) (u : Token) → slice_get (after ts) d.token ≡ Some u → (t : Token) × (slice_get ts d.token ≡ Some t) × (renamed_token places (f entity) new t ≡ u)
  key-before ts d u h = by (slice_get ts d.token) refl (sym (slice_get-map (renamed_token places (f entity) new) ts d.token) ∙ h)
    where
      by : (o : Option Token) → slice_get ts d.token ≡ o → option_map (renamed_token places (f entity) new) o ≡ Some u → (t : Token) × (slice_get ts d.token ≡ Some t) × (renamed_token places (f entity) new t ≡ u)
      by None e g = let no : ⊥ = cc in absurd no
      by (Some t) e g = (t, e, cc)

  -- entities of one key have one key afterwards
  keys-follow : (ts : List Token) (d e : Denotation) (t u : Token) (x y : Bool) → has_external_linkage d ≡ x → has_external_linkage e ≡ y → AreAlike f entity new d e → (f d.token ≡ t.text) → (f e.token ≡ u.text)
      → slice_get ts d.token ≡ Some t → slice_get ts e.token ≡ Some u → key_of_token x t ≡ key_of_token y u → key_of_token x (renamed_token places (f entity) new t) ≡ key_of_token y (renamed_token places (f entity) new u)
  keys-follow ts d e t u true true p q alike m n h k same =
      let names : t.text ≡ u.text = cc in
      let one = alike (linked-of d p) (linked-of e q) (m ∙ names ∙ sym n) in
      let v : Some t ≡ Some u = sym h ∙ ap (slice_get ts) one ∙ k in
      let w : t ≡ u = cc in
      ap (λ z. key_of_token true (renamed_token places (f entity) new z)) w
  keys-follow ts d e t u true false p q alike m n h k same = let no : ⊥ = cc in absurd no
  keys-follow ts d e t u false true p q alike m n h k same = let no : ⊥ = cc in absurd no
  keys-follow ts d e t u false false p q alike m n h k same =
      let offsets : t.at ≡ u.at = cc in
      ap (λ o. at (shifted places (length (f entity)) (length new) o)) offsets

  text-back : (t u : Token) → (is_among places t.at ≡ true → t.text ≡ f entity) → (is_among places u.at ≡ true → u.text ≡ f entity) → bytes_eq t.text new ≡ false → bytes_eq u.text new ≡ false
      → (renamed_token places (f entity) new t).text ≡ (renamed_token places (f entity) new u).text → t.text ≡ u.text
  text-back t u p q m n same = by (is_among places t.at) refl (is_among places u.at) refl same
    where
      by : (a : Bool) → is_among places t.at ≡ a → (b : Bool) → is_among places u.at ≡ b → (if a then new else t.text) ≡ (if b then new else u.text) → t.text ≡ u.text
      by true e true g s = p e ∙ sym (q g)
      by true e false g s = let no : true ≡ false = sym (bytes_eq-refl new) ∙ ap (λ z. bytes_eq z new) s ∙ n in let bad : ⊥ = cc in absurd bad
      by false e true g s = let no : true ≡ false = sym (bytes_eq-refl new) ∙ ap (λ z. bytes_eq z new) (sym s) ∙ m in let bad : ⊥ = cc in absurd bad
      by false e false g s = s

  keys-back : (ts : List Token) (end : ℕ) (d e : Denotation) (t u : Token) (x y : Bool) → InOrder 0 (after ts) end → Each HasText (after ts)
      → (is_among places t.at ≡ true → t.text ≡ f entity) → (is_among places u.at ≡ true → u.text ≡ f entity) → bytes_eq t.text new ≡ false → bytes_eq u.text new ≡ false
      → slice_get ts d.token ≡ Some t → slice_get ts e.token ≡ Some u
      → key_of_token x (renamed_token places (f entity) new t) ≡ key_of_token y (renamed_token places (f entity) new u) → key_of_token x t ≡ key_of_token y u
  keys-back ts end d e t u true true order texts p q m n h k same =
      let names : (renamed_token places (f entity) new t).text ≡ (renamed_token places (f entity) new u).text = cc in
      ap external (text-back t u p q m n names)
  keys-back ts end d e t u true false order texts p q m n h k same = let no : ⊥ = cc in absurd no
  keys-back ts end d e t u false true order texts p q m n h k same = let no : ⊥ = cc in absurd no
  keys-back ts end d e t u false false order texts p q m n h k same =
      let offsets : (renamed_token places (f entity) new t).at ≡ (renamed_token places (f entity) new u).at = cc in
      let one = distinct (after ts) 0 end d.token e.token _ _ order texts (slice_get-map (renamed_token places (f entity) new) ts d.token ∙ ap (option_map (renamed_token places (f entity) new)) h) (slice_get-map (renamed_token places (f entity) new) ts e.token ∙ ap (option_map (renamed_token places (f entity) new)) k) offsets in
      let v : Some t ≡ Some u = sym h ∙ ap (slice_get ts) one ∙ k in
      let w : t ≡ u = cc in
      ap (λ z. at z.at) w

  links-follow : (ts : List Token) (ds : List (Option Denotation)) (i j : ℕ) → f ≡ text_of ts → PairsAlike f entity new ds → AreLinked ts ds i j → AreLinked (after ts) ds i j
  links-follow ts ds i j is pairs (d, e, at_i, at_j, k, one, other) =
      let t = key-found ts d k one in
      let u = key-found ts e k other in
      let alike = alike-at f entity new ds i j d e pairs at_i at_j in
      let same = keys-follow ts d e t.0 u.0 (has_external_linkage d) (has_external_linkage e) refl refl alike (ap (λ g. g d.token) is ∙ text_of-get ts d.token t.0 t.1) (ap (λ g. g e.token) is ∙ text_of-get ts e.token u.0 u.1) t.1 u.1 (sym t.2 ∙ u.2) in
      (d, e, at_i, at_j, key_of_token (has_external_linkage d) (renamed_token places (f entity) new t.0), key-after ts d t.0 t.1, key-after ts e u.0 u.1 ∙ ap (λ z. Some z) (sym same))

  links-back : (ts : List Token) (ds : List (Option Denotation)) (i j end : ℕ) → InOrder 0 (after ts) end → Each HasText (after ts) → Each (λ t. is_among places t.at ≡ true → t.text ≡ f entity) ts → Each (λ t. bytes_eq t.text new ≡ false) ts
      → AreLinked (after ts) ds i j → AreLinked ts ds i j
  links-back ts ds i j end order texts spelled fresh (d, e, at_i, at_j, k, one, other) =
      let v = key-found (after ts) d k one in
      let w = key-found (after ts) e k other in
      let t = key-before ts d v.0 v.1 in
      let u = key-before ts e w.0 w.1 in
      let now : key_of_token (has_external_linkage d) (renamed_token places (f entity) new t.0) ≡ key_of_token (has_external_linkage e) (renamed_token places (f entity) new u.0) =
      ap (key_of_token (has_external_linkage d)) t.2 ∙ sym v.2 ∙ w.2 ∙ ap (key_of_token (has_external_linkage e)) (sym u.2) in
      let same = keys-back ts end d e t.0 u.0 (has_external_linkage d) (has_external_linkage e) order texts
      (Each-get (λ t. is_among places t.at ≡ true → t.text ≡ f entity) ts d.token t.0 spelled t.1) (Each-get (λ t. is_among places t.at ≡ true → t.text ≡ f entity) ts e.token u.0 spelled u.1)
      (Each-get (λ t. bytes_eq t.text new ≡ false) ts d.token t.0 fresh t.1) (Each-get (λ t. bytes_eq t.text new ≡ false) ts e.token u.0 fresh u.1) t.1 u.1 now in
      (d, e, at_i, at_j, key_of_token (has_external_linkage d) t.0, ap (option_map (key_of_token (has_external_linkage d))) t.1, ap (option_map (key_of_token (has_external_linkage e))) u.1 ∙ ap (λ z. Some z) (sym same))

-- the places of an entity can be renamed
module _ (lexes : KeepsLexing) (stands : StandsInOrder) (bytes new : List ℕ) (denotes : List (Option Denotation)) (entity : ℕ) (small : IsSmallForm (lexed bytes) denotes)
    (old_name : is_name (text_of (lexed bytes).tokens entity) ≡ true) (new_name : is_name new ≡ true) (fresh_name : has_text new (lexed bytes).tokens ≡ false)
    (spells : (i : ℕ) (t : Token) (d : Option Denotation) → slice_get (lexed bytes).tokens i ≡ Some t → slice_get denotes i ≡ Some d → denotes_entity entity d ≡ true → is_refused bytes new t ≡ false) where
  abbrev ts : List Token
  ts = (lexed bytes).tokens

  abbrev f : ℕ → List ℕ
  f = text_of ts

  abbrev places : List ℕ
  places = places_of entity (zip ts denotes)

  abbrev edited : List ℕ
  edited = substituted places (length (f entity)) new bytes

  abbrev news : List Token
  news = map (renamed_token places (f entity) new) ts

  spelled_all : AllSpelled f (zip ts denotes)
  spelled_all = well-spelled ts small.2.0 denotes small.2.1

  stood : InOrder 0 ts (length bytes)
  stood = in_order ts 0 (length bytes) (stands bytes)

  old_ident : is_identifier (f entity) ≡ true
  old_ident = ident-of-name (f entity) old_name

  at_place : (i : ℕ) (t : Token) (d : Option Denotation) → slice_get ts i ≡ Some t → slice_get denotes i ≡ Some d → denotes_entity entity d ≡ true → t.text ≡ f entity → IsPlace bytes (f entity) new t.at
  at_place i t d h k e same = (
    t,
    subst (Contains ts) (get_or_from_slice_get ts i t t h) (Contains-get_or ts i t (slice_get_within ts i t h)),
    refl,
    record { kind = (Each-get IsSound ts i t (sound bytes) h).1 (ap is_identifier same ∙ old_ident); text = same; spelling = spells i t d h k e },
  )

  pub cuts : lexed edited ≡ renamed places (f entity) new (lexed bytes)
  cuts =
      lexes bytes (f entity) new places old_ident (ident-of-name new new_name)
      (rise-places f entity ts denotes 0 (length bytes) stood spelled_all)
      (all-at f entity (IsPlace bytes (f entity) new) ts denotes spelled_all at_place)

  count : length denotes ≡ length ts
  count = resolves-length (lexed bytes) denotes small

  pub placed : PlacedAs f entity places ts denotes
  placed = placed-as f entity ts denotes 0 (length bytes) count stood (texts bytes) spelled_all

  fresh : Each (λ t. bytes_eq t.text new ≡ false) ts
  fresh = fresh-each new ts fresh_name

  spelled : Each (λ t. is_among places t.at ≡ true → t.text ≡ f entity) ts
  spelled = spelled-each f entity new places ts denotes count placed spelled_all

  numbered : TextsFrom f 0 (zip ts (parts small.2.0))
  numbered = texts-from ts (parts small.2.0) f 0 (λ k. ap f (let e : 0 + k ≡ k = omega arith in e))

  order : InOrder 0 news (length edited)
  order = in_order news 0 (length edited) (subst (λ l. AreInOrder 0 l.tokens (length edited)) cuts (stands edited))

  has : Each HasText news
  has = subst (λ l. Each HasText l.tokens) cuts (texts edited)

  all_new : AllFresh f entity new (zip ts (parts small.2.0))
  all_new = all-fresh f entity new places ts (parts small.2.0) fresh

  walk : resolved 0 file_scope (zip news (parts small.2.0)) ≡ Some denotes
  walk =
      walk-follows f entity new (zip ts (parts small.2.0)) 0 file_scope denotes (zip news (parts small.2.0)) tt all_new numbered
      (are-renamed f entity new places ts (parts small.2.0) denotes count (derived-length ts small.2.0 small.2.1.0) placed) small.2.1.1

  pairs : PairsAlike f entity new denotes
  pairs = pairs-alike f entity new (zip ts (parts small.2.0)) 0 file_scope denotes tt all_new numbered small.2.1.1

  kept : KeepsMeaning (lexed bytes) (renamed places (f entity) new (lexed bytes)) places (f entity) new
  kept = record {
    was_whole = small.0;
    is_whole = ap (option_map (shifted_fault (shifted places (length (f entity)) (length new)))) small.0;
    tokens = refl;
    spelled = λ i t h p. Each-get (λ t. is_among places t.at ≡ true → t.text ≡ f entity) ts i t spelled h p;
    tree = small.2.0;
    denotes = denotes;
    was_well_formed = small.2.1;
    is_well_formed = (terminals-kept f entity new places ts denotes count placed (well-named ts small.2.0 denotes small.2.1) new_name ∙ small.2.1.0, walk);
    links = λ i j. (links-follow f entity new places ts denotes i j refl pairs, links-back f entity new places ts denotes i j (length edited) order has spelled fresh);
  }

  pub keeping_entity : (kept : KeepsMeaning (lexed bytes) (lexed edited) places (f entity) new) × (kept.denotes ≡ denotes)
  unfolding kept
  keeping_entity = subst (λ l. (k : KeepsMeaning (lexed bytes) l places (f entity) new) × (k.denotes ≡ denotes)) (sym cuts) (kept, refl)
