-- Entities by their keys.
use Rattle.std.proofs.Common.{◌≡◌, inl, inr, ℕ, ◌+◌, ◌<◌, Bool, true, false, List, [], ◌∷◌, length, map, Option, Some, None, refl, sym, ap, ◌∙◌, subst, zero, suc, slice_get, arith, eq-eqb, eqb-true}
use Rattle.std.specs.Prelude.{if◌then◌else◌}
use Rattle.std.specs.Option.{option_map}
use Rattle.std.specs.List.{zip, filter}
use Rattle.std.proofs.lemmas.Slice.Eq.{bytes_eq-Decides}
use Rattle.cr_base.specs.Substitution.{Rise}
use Rattle.cr_lex.specs.Lexing.{Token, Fault, Lexed, lexed}
use Rattle.cr_lex.specs.Order.{StandsInOrder}
use Rattle.cr_small.specs.Terminals.{is_name, has_plain_names, terminal_of}
use Rattle.cr_small.specs.Resolution.{file_scope, resolved}
use Rattle.cr_small.specs.Keys.{Key, external, at, has_external_linkage, key_of_token, key_of, is_key}
use Rattle.cr_small.specs.Renaming.{Target, target_of, target_among, target_at, covers, has_key, denotes_key, places_among}
use Rattle.cr_small.specs.SmallForm.{IsSmallForm, Resolves}
use Rattle.cr_small.specs.Laws.{IsNameOf, PlacesRise, HasPlace, NamesItsKey, HaveOneName, Decided}
use Rattle.cr_small.specs.declared.grammar.Level.TheVariants as level
use Rattle.cr_small.specs.declared.grammar.State.TheVariants as state
use Rattle.cr_small.specs.declared.grammar.Part.{Part}
use Rattle.cr_small.specs.declared.binder.Denotation.{Denotation}
use Rattle.cr_small.proofs.Braces.{resolves}
use Rattle.cr_small.proofs.Cuts.{InOrder, rise_down, in_order}
use Rattle.cr_small.proofs.Keeping.{distinct, text_of-get}
use Rattle.cr_small.proofs.Sound.{Each, HasText, texts as file-texts}
use Rattle.cr_small.proofs.Names.{AllSpelled, SpelledOne, InOrder-end, text_of, well-spelled}
use Rattle.cr_small.proofs.Pairs.{resolves-length}
use Rattle.cr_small.proofs.Parts.{read, has_parts}
use Rattle.cr_small.proofs.Naming.{NameIf, NamesAt, name-of-terminal, well-named}

pub same_key : (a b : Key) → is_key a b ≡ true → a ≡ b
same_key (external n) (external m) h = ap external ((bytes_eq-Decides n m).0 h)
same_key (external n) (at o) h = let no : false ≡ true = h in let bad : ⊥ = cc in absurd bad
same_key (at o) (external n) h = let no : false ≡ true = h in let bad : ⊥ = cc in absurd bad
same_key (at o) (at p) h = ap at (eqb-true o p h)

pub own_key : (a : Key) → is_key a a ≡ true
own_key (external n) = (bytes_eq-Decides n n).1 refl
own_key (at o) = eq-eqb o o refl

-- a token denotes an entity of a key just where that is its key
pub keyed : (ts : List Token) (key : Key) (d : Denotation) → denotes_key ts key (Some d) ≡ true → key_of ts d ≡ Some key
keyed ts key d h = by (key_of ts d) h
  where
    by : (o : Option Key) → has_key key o ≡ true → o ≡ Some key
    by None h = let no : false ≡ true = h in let bad : ⊥ = cc in absurd bad
    by (Some other) h = ap (λ k. Some k) (sym (same_key key other h))

pub keyed_so : (ts : List Token) (key : Key) (d : Denotation) → key_of ts d ≡ Some key → denotes_key ts key (Some d) ≡ true
keyed_so ts key d h = ap (has_key key) h ∙ own_key key

pub spelled-get : (f : ℕ → List ℕ) (ts : List Token) (ds : List (Option Denotation)) (i : ℕ) (t : Token) (d : Denotation) → AllSpelled f (zip ts ds) → slice_get ts i ≡ Some t → slice_get ds i ≡ Some (Some d) → f d.token ≡ t.text
spelled-get f [] ds i t d all h k = let no : None ≡ Some t = h in let bad : ⊥ = cc in absurd bad
spelled-get f (x ∷ ts) [] i t d all h k = let no : None ≡ Some (Some d) = k in let bad : ⊥ = cc in absurd bad
spelled-get f (x ∷ ts) (y ∷ ds) zero t d all h k =
    let one : x ≡ t = cc in
    let two : y ≡ Some d = cc in
    subst (SpelledOne f x.text) two all.0 ∙ ap (λ z. z.text) one
spelled-get f (x ∷ ts) (y ∷ ds) (suc i) t d all h k = spelled-get f ts ds i t d all.1 h k

name-get : (ts : List Token) (ds : List (Option Denotation)) (i : ℕ) (t : Token) (d : Denotation) → NamesAt ts ds → slice_get ts i ≡ Some t → slice_get ds i ≡ Some (Some d) → is_name t.text ≡ true
name-get [] ds i t d all h k = let no : None ≡ Some t = h in let bad : ⊥ = cc in absurd bad
name-get (x ∷ ts) [] i t d all h k = let no : None ≡ Some (Some d) = k in let bad : ⊥ = cc in absurd bad
name-get (x ∷ ts) (y ∷ ds) zero t d all h k =
    let one : x ≡ t = cc in
    let two : y ≡ Some d = cc in
    name-of-terminal t.text (ap (λ (z : Token). terminal_of z.text) (sym one) ∙ subst (NameIf x) two all.0)
name-get (x ∷ ts) (y ∷ ds) (suc i) t d all h k = name-get ts ds i t d all.1 h k

token-at : (ts : List Token) (ds : List (Option Denotation)) (i : ℕ) (d : Option Denotation) → length ds ≡ length ts → slice_get ds i ≡ Some d → (t : Token) × (slice_get ts i ≡ Some t)
token-at ts [] i d n h = let no : None ≡ Some d = h in let bad : ⊥ = cc in absurd bad
token-at [] (y ∷ ds) i d n h = absurd (omega arith)
token-at (x ∷ ts) (y ∷ ds) zero d n h = (x, refl)
token-at (x ∷ ts) (y ∷ ds) (suc i) d n h = token-at ts ds i d (omega arith) h

text-none : (ts : List Token) (k : ℕ) → slice_get ts k ≡ None → text_of ts k ≡ []
text-none [] k h = refl
text-none (x ∷ ts) zero h = let no : Some x ≡ None = h in let bad : ⊥ = cc in absurd bad
text-none (x ∷ ts) (suc k) h = text-none ts k h

no-name : is_name [] ≡ false
unfolding is_name
no-name = refl

first-token : (ts : List Token) (k : ℕ) (w : List ℕ) → text_of ts k ≡ w → is_name w ≡ true → (u : Token) × (slice_get ts k ≡ Some u) × (u.text ≡ w)
first-token ts k w h name = by (slice_get ts k) refl
  where
    by : (o : Option Token) → slice_get ts k ≡ o → (u : Token) × (slice_get ts k ≡ Some u) × (u.text ≡ w)
    by None e = let no : false ≡ true = sym no-name ∙ ap is_name (sym (text-none ts k e) ∙ h) ∙ name in let bad : ⊥ = cc in absurd bad
    by (Some u) e = (u, e, sym (text_of-get ts k u e) ∙ h)

-- a token that denotes an entity, and the entity's first declaring token
pub record Keyed (ts : List Token) (i : ℕ) (d : Denotation) : Type 0 where
  pub own : Token
  pub own_at : slice_get ts i ≡ Some own
  pub name : is_name own.text ≡ true
  pub first : Token
  pub first_at : slice_get ts d.token ≡ Some first
  pub alike : first.text ≡ own.text
  pub key : key_of ts d ≡ Some (key_of_token (has_external_linkage d) first)

pub keyed-at : (text : Lexed) (ds : List (Option Denotation)) (i : ℕ) (d : Denotation) → IsSmallForm text ds → slice_get ds i ≡ Some (Some d) → Keyed text.tokens i d
keyed-at text ds i d small h =
    let ts = text.tokens in
    let t = token-at ts ds i (Some d) (resolves-length text ds small) h in
    let name = name-get ts ds i t.0 d (well-named ts small.2.0 ds small.2.1) t.1 h in
    let u = first-token ts d.token t.0.text (spelled-get (text_of ts) ts ds i t.0 d (well-spelled ts small.2.0 ds small.2.1) t.1 h) name in
    record { own = t.0; own_at = t.1; name = name; first = u.0; first_at = u.1; alike = u.2; key = ap (option_map (key_of_token (has_external_linkage d))) u.1 }

-- what stands at an offset is one of the tokens
pub record Found (ts : List Token) (ds : List (Option Denotation)) (target : Target) : Type 0 where
  pub index : ℕ
  pub token : Token
  pub denotes : Denotation
  pub token_at : slice_get ts index ≡ Some token
  pub denotes_at : slice_get ds index ≡ Some (Some denotes)
  pub name : target.name ≡ token.text

found-among : (all : List Token) (offset : ℕ) (target : Target) (ts : List Token) (ds : List (Option Denotation)) → target_among all offset (zip ts ds) ≡ Some target
    → (f : Found ts ds target) × (key_of all f.denotes ≡ Some target.key)
found-among all offset target [] ds h = let no : None ≡ Some target = h in let bad : ⊥ = cc in absurd bad
found-among all offset target (t ∷ ts) [] h = let no : None ≡ Some target = h in let bad : ⊥ = cc in absurd bad
found-among all offset target (t ∷ ts) (d ∷ ds) h = by (covers offset t) h (found-among all offset target ts ds)
  where
    here : (d' : Option Denotation) → d ≡ d' → target_of all t d' ≡ Some target → (f : Found (t ∷ ts) (d ∷ ds) target) × (key_of all f.denotes ≡ Some target.key)
    here None e g = let no : None ≡ Some target = g in let bad : ⊥ = cc in absurd bad
    here (Some x) e g = key (key_of all x) refl g
      where
        key : (o : Option Key) → key_of all x ≡ o → option_map (λ k. record { name = t.text; key = k; at_file_scope = x.linked }) o ≡ Some target → (f : Found (t ∷ ts) (d ∷ ds) target) × (key_of all f.denotes ≡ Some target.key)
        key None k g = let no : None ≡ Some target = g in let bad : ⊥ = cc in absurd bad
        key (Some y) k g =
            let same : (record { name = t.text; key = y; at_file_scope = x.linked }) ≡ target = cc in
            (record { index = 0; token = t; denotes = x; token_at = refl; denotes_at = ap (λ z. Some z) e; name = sym (ap (λ (z : Target). z.name) same) }, k ∙ ap (λ (z : Target). Some z.key) same)

    by : (b : Bool) → (if b then target_of all t d else target_among all offset (zip ts ds)) ≡ Some target → (target_among all offset (zip ts ds) ≡ Some target → (f : Found ts ds target) × (key_of all f.denotes ≡ Some target.key))
        → (f : Found (t ∷ ts) (d ∷ ds) target) × (key_of all f.denotes ≡ Some target.key)
    by true g rest = here d refl g
    by false g rest =
        let r = rest g in
        (record { index = suc r.0.index; token = r.0.token; denotes = r.0.denotes; token_at = r.0.token_at; denotes_at = r.0.denotes_at; name = r.0.name }, r.1)

pub found-at : (ts : List Token) (ds : List (Option Denotation)) (offset : ℕ) (target : Target) → target_at offset ts ds ≡ Some target → (f : Found ts ds target) × (key_of ts f.denotes ≡ Some target.key)
found-at ts ds offset target h = found-among ts offset target ts ds h

-- two tokens of one key are spelled alike
same-text : (ts : List Token) (i j end : ℕ) (d e : Denotation) → InOrder 0 ts end → Each HasText ts → (k : Keyed ts i d) (l : Keyed ts j e) → key_of ts d ≡ key_of ts e → k.own.text ≡ l.own.text
same-text ts i j end d e order texts k l same = by (has_external_linkage d) (has_external_linkage e) (let eq : Some (key_of_token (has_external_linkage d) k.first) ≡ Some (key_of_token (has_external_linkage e) l.first) = sym k.key ∙ same ∙ l.key in let keys : key_of_token (has_external_linkage d) k.first ≡ key_of_token (has_external_linkage e) l.first = cc in keys)
  where
    by : (x y : Bool) → key_of_token x k.first ≡ key_of_token y l.first → k.own.text ≡ l.own.text
    by true true h = let names : k.first.text ≡ l.first.text = cc in sym k.alike ∙ names ∙ l.alike
    by true false h = let bad : ⊥ = cc in absurd bad
    by false true h = let bad : ⊥ = cc in absurd bad
    by false false h =
        let offsets : k.first.at ≡ l.first.at = cc in
        let one = distinct ts 0 end d.token e.token k.first l.first order texts k.first_at l.first_at offsets in
        let v : Some k.first ≡ Some l.first = sym k.first_at ∙ ap (slice_get ts) one ∙ l.first_at in
        let w : k.first ≡ l.first = cc in
        sym k.alike ∙ ap (λ (z : Token). z.text) w ∙ l.alike

module _ (stands : StandsInOrder) (bytes : List ℕ) (ds : List (Option Denotation)) (small : IsSmallForm (lexed bytes) ds) where
  abbrev pub ts : List Token
  ts = (lexed bytes).tokens

  pub order : InOrder 0 ts (length bytes)
  order = in_order ts 0 (length bytes) (stands bytes)

  pub texts : Each HasText ts
  texts = file-texts bytes

  -- the name of a key is that of each token which denotes its entity
  pub named : (name : List ℕ) (key : Key) (i : ℕ) (d : Denotation) → IsNameOf name key ts ds → (h : slice_get ds i ≡ Some (Some d)) → key_of ts d ≡ Some key → (keyed-at (lexed bytes) ds i d small h).own.text ≡ name
  named name key i d (inl is) h k = by (has_external_linkage d) (let eq : Some (key_of_token (has_external_linkage d) one.first) ≡ Some key = sym one.key ∙ k in let keys : key_of_token (has_external_linkage d) one.first ≡ key = cc in keys ∙ is)
    where
      one : Keyed ts i d
      one = keyed-at (lexed bytes) ds i d small h

      by : (x : Bool) → key_of_token x one.first ≡ external name → one.own.text ≡ name
      by true e = let names : one.first.text ≡ name = cc in sym one.alike ∙ names
      by false e = let bad : ⊥ = cc in absurd bad
  named name key i d (inr (offset, target, there, names, keys)) h k =
      let f = found-at ts ds offset target there in
      let other = keyed-at (lexed bytes) ds f.0.index f.0.denotes small f.0.denotes_at in
      let text = same-text ts i f.0.index (length bytes) d f.0.denotes order texts (keyed-at (lexed bytes) ds i d small h) other (k ∙ ap (λ z. Some z) (sym keys) ∙ sym f.1) in
      let own : Some other.own ≡ Some f.0.token = sym other.own_at ∙ f.0.token_at in
      let same : other.own ≡ f.0.token = cc in
      text ∙ ap (λ (z : Token). z.text) same ∙ sym f.0.name ∙ names

-- the places of tokens that pass a test rise
rise-all : (p : Option Denotation → Bool) (len : ℕ) (ts : List Token) (ds : List (Option Denotation)) (from end : ℕ) → InOrder from ts end
    → ((i : ℕ) (t : Token) (d : Option Denotation) → slice_get ts i ≡ Some t → slice_get ds i ≡ Some d → p d ≡ true → length t.text ≡ len)
    → Rise from (map (λ one. one.0.at) (filter (λ one. p one.1) (zip ts ds))) len end
rise-all p len [] ds from end h each = h
rise-all p len (t ∷ ts) [] from end h each = InOrder-end (t ∷ ts) from end h
rise-all p len (t ∷ ts) (d ∷ ds) from end h each =
    by (p d) refl (rise-all p len ts ds (t.at + length t.text) end h.1 (λ i u e. each (suc i) u e))
  where
    by : (b : Bool) → p d ≡ b → Rise (t.at + length t.text) (map (λ one. one.0.at) (filter (λ one. p one.1) (zip ts ds))) len end
        → Rise from (map (λ one. one.0.at) (if b then (t, d) ∷ filter (λ one. p one.1) (zip ts ds) else filter (λ one. p one.1) (zip ts ds))) len end
    by true e rest = (h.0, subst (λ n. Rise (t.at + n) (map (λ one. one.0.at) (filter (λ one. p one.1) (zip ts ds))) len end) (each 0 t d refl refl e) rest)
    by false e rest = rise_down (map (λ one. one.0.at) (filter (λ one. p one.1) (zip ts ds))) (t.at + length t.text) from len end (omega (arith, h.0)) rest

pub places-rise : StandsInOrder → PlacesRise
places-rise stands bytes name key ds small is =
    rise-all (denotes_key (lexed bytes).tokens key) (length name) (lexed bytes).tokens ds 0 (length bytes) (order stands bytes ds small) each
  where
    each : (i : ℕ) (t : Token) (d : Option Denotation) → slice_get (lexed bytes).tokens i ≡ Some t → slice_get ds i ≡ Some d → denotes_key (lexed bytes).tokens key d ≡ true → length t.text ≡ length name
    each i t None h k e = let no : false ≡ true = e in let bad : ⊥ = cc in absurd bad
    each i t (Some d) h k e =
        let one = keyed-at (lexed bytes) ds i d small k in
        let own : Some one.own ≡ Some t = sym one.own_at ∙ h in
        let same : one.own ≡ t = cc in
        ap (λ (z : Token). length z.text) (sym same) ∙ ap length (named stands bytes ds small name key i d is k (keyed (lexed bytes).tokens key d e))

longer-places : (all : List Token) (key : Key) (ts : List Token) (ds : List (Option Denotation)) (i : ℕ) (t : Token) (d : Option Denotation) → slice_get ts i ≡ Some t → slice_get ds i ≡ Some d → denotes_key all key d ≡ true → 0 < length (places_among all key (zip ts ds))
longer-places all key [] ds i t d h k e = let no : None ≡ Some t = h in let bad : ⊥ = cc in absurd bad
longer-places all key (x ∷ ts) [] i t d h k e = let no : None ≡ Some d = k in let bad : ⊥ = cc in absurd bad
longer-places all key (x ∷ ts) (y ∷ ds) zero t d h k e =
    let two : y ≡ d = cc in
    let here : denotes_key all key y ≡ true = ap (denotes_key all key) two ∙ e in
    rw here (omega arith)
longer-places all key (x ∷ ts) (y ∷ ds) (suc i) t d h k e = by (denotes_key all key y) (longer-places all key ts ds i t d h k e)
  where
    by : (b : Bool) → 0 < length (places_among all key (zip ts ds)) → 0 < length (map (λ one. one.0.at) (if b then (x, y) ∷ filter (λ one. denotes_key all key one.1) (zip ts ds) else filter (λ one. denotes_key all key one.1) (zip ts ds)))
    by true lt = omega arith
    by false lt = lt

pub has-place : HasPlace
has-place ts ds offset target h =
    let f = found-at ts ds offset target h in
    longer-places ts target.key ts ds f.0.index f.0.token (Some f.0.denotes) f.0.token_at f.0.denotes_at (keyed_so ts target.key f.0.denotes f.1)

pub names-its-key : StandsInOrder → NamesItsKey
names-its-key stands bytes name ds offset target small h is =
    let f = found-at (lexed bytes).tokens ds offset target h in
    let one = keyed-at (lexed bytes) ds f.0.index f.0.denotes small f.0.denotes_at in
    let own : Some one.own ≡ Some f.0.token = sym one.own_at ∙ f.0.token_at in
    let same : one.own ≡ f.0.token = cc in
    sym (named stands bytes ds small name target.key f.0.index f.0.denotes (inl is) f.0.denotes_at f.1) ∙ ap (λ (z : Token). z.text) same ∙ sym f.0.name

pub one-name : StandsInOrder → HaveOneName
one-name stands bytes name key ds small is i t d h k e =
    let one = keyed-at (lexed bytes) ds i d small k in
    let own : Some one.own ≡ Some t = sym one.own_at ∙ h in
    let same : one.own ≡ t = cc in
    let text = named stands bytes ds small name key i d is k e in
    (ap (λ (z : Token). z.text) (sym same) ∙ text, ap is_name (sym text) ∙ one.name)

-- what tokens denote, by their one derivation
abbrev meaning-of : List Token → Option (List Part) → Bool → Option (List (Option Denotation))
meaning-of tokens None b = None
meaning-of tokens (Some ps) true = resolved 0 file_scope (zip tokens ps)
meaning-of tokens (Some ps) false = None

abbrev meaning-by : List Token → Option Fault → Option (List Part) → Bool → Option (List (Option Denotation))
meaning-by tokens (Some fault) o b = None
meaning-by tokens None o b = meaning-of tokens o b

pub decided : Decided
decided = (
  λ text. meaning-by text.tokens text.fault (read (state.Start level.File) text.tokens) (has_plain_names text.tokens),
  λ text. by text text.fault refl (read (state.Start level.File) text.tokens) refl (has_plain_names text.tokens) refl,
)
  where
    by : (text : Lexed) (f : Option Fault) → text.fault ≡ f → (o : Option (List Part)) → read (state.Start level.File) text.tokens ≡ o → (b : Bool) → has_plain_names text.tokens ≡ b → Resolves text (meaning-by text.tokens f o b)
    by text (Some fault) g o e b h = λ denotes small. let no : Some fault ≡ None = sym g ∙ small.0 in let bad : ⊥ = cc in bad
    by text None g None e b h = λ denotes small. has_parts text.tokens None e small.2.0 small.2.1.0
    by text None g (Some ps) e true h = resolves text ps (resolved 0 file_scope (zip text.tokens ps)) g h (has_parts text.tokens (Some ps) e) refl
    by text None g (Some ps) e false h = λ denotes small. let no : false ≡ true = sym h ∙ small.1 in let bad : ⊥ = cc in bad
