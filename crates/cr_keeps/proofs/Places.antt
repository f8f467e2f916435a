-- Tokens of two units that come from one place are spelled alike.
use Rattle.std.specs.Prelude.{◌≡◌, ◌⊎◌, true, false, ℕ, zero, suc, ◌<◌, ◌≤◌, Some, Ok, List, [], ◌∷◌, ◌++◌, length, map, slice_get, slice_index_or, Contains}
use Rattle.std.specs.List.{AllByRecursion}
use Rattle.std.proofs.Common.{refl, sym, ◌∙◌, ap, subst, inl, inr, arith}
use Rattle.cr_base.specs.declared.token.Name.{Name}
use Rattle.cr_base.specs.declared.token.Place.{Place}
use Rattle.cr_base.specs.declared.token.Origin.TheVariants.{At, Made}
use Rattle.cr_base.specs.declared.token.PpTok.{PpTok}
use Rattle.cr_base.specs.declared.token.Tok.{Tok}
use Rattle.cr_base.specs.declared.unit.Unit.{Unit}
use Rattle.cr_lex.specs.Lexing as lexing
use Rattle.cr_lex.specs.Lexing.{lexed}
use Rattle.cr_lex.specs.Order.{AreInOrder, StandsInOrder}
use Rattle.cr_snapshot.specs.declared.known.KnownFile.{KnownFile}
use Rattle.cr_snapshot.specs.Files.{finding, Present, NumbersItsPath}
use Rattle.cr_macros.specs.Tokens.{Text, Token, is_ident}
use Rattle.cr_phase4.specs.Lines.{place_in}
use Rattle.cr_phase4.specs.Search.{world_of}
use Rattle.cr_phase7.specs.Tokens.{text_of, word_kind, is_word, kind_by, end_token, tokens_of}
use Rattle.cr_phase7_law.specs.TokensStay.{IsReadAs, AllTwo, Pairs, firsts, seconds, Become, KeepsTokens}
use Rattle.cr_preproc_law.specs.Standing.{StandsIn, FinalsStand}
use Rattle.cr_base.specs.NameTable.{IsDistinct}
use Rattle.cr_base.specs.Names.{is_identifier as is_identifier_text}
use Rattle.cr_base.specs.declared.token.PpKind.{PpKind}
use Rattle.cr_base.specs.declared.token.PpKind.TheVariants.{Ident, Number, Char, Str, Punct, Stray}
use Rattle.cr_base.specs.declared.key.Key.{Key}
use Rattle.cr_facts.specs.declared.fact.Fact.TheVariants as fact
use Rattle.cr_class.specs.RenameClass.{Has, InClass}
use Rattle.cr_ll.specs.Guards.{is_name as is_name_kind}
use Rattle.cr_binding.specs.Source.{token_of, name_at, is_identifier, no_token}
use Rattle.cr_binding_law.specs.Renaming.{text_of as spelled_as}
use Rattle.cr_keys_law.proofs.Spelled.{in_tail, head_or_tail}
use Rattle.cr_keeps.specs.UnitMeaning.{Names, Tables, number_of, numbered, Meaning, finals, source}
use Rattle.cr_keeps.specs.UnitFacts.{UnitTells}
use Rattle.cr_keeps.proofs.Chain.{PlacesHaveOneName, NamesAreIdentifiers}
use Rattle.cr_keeps.proofs.PlacesStated.{OneSpellingAPlace, OldNamesAreIdentifiers, PlacedFinals}
use Rattle.cr_keeps.proofs.Premises.{number_at, text_at_number}
use Rattle.cr_keeps.proofs.Cutting.{IsCut, identifiers_are_cut}
use Rattle.cr_keeps.proofs.Texts.{HasText, tokens_have_text}

-- ---- tokens of a file

-- they stand at different offsets
module _ (at : ℕ) where
  pub behind : (from : ℕ) (ts : List lexing.Token) (end : ℕ) (t : lexing.Token) → AreInOrder from ts end → Contains ts t → from ≤ t.at
  behind from [] end t o c = absurd (omega (arith, c.1))
  behind from (x ∷ ts) end t o c = by (head_or_tail x t ts c) (λ d. behind x.end ts end t o.2 d)
    where
      by : (x ≡ t) ⊎ Contains ts t → (Contains ts t → x.end ≤ t.at) → from ≤ t.at
      by (inl e) more = subst (λ (z : lexing.Token). from ≤ z.at) e o.0
      by (inr d) more = let w : x.end ≤ t.at = more d in omega (arith, o.0, o.1, w)

  pub ends_before : (from : ℕ) (ts : List lexing.Token) (end : ℕ) → AreInOrder from ts end → from ≤ end
  ends_before from [] end o = o
  ends_before from (x ∷ ts) end o = let w : x.end ≤ end = ends_before x.end ts end o.2 in omega (arith, o.0, o.1, w)

  pub within : (from : ℕ) (ts : List lexing.Token) (end : ℕ) (t : lexing.Token) → AreInOrder from ts end → AllByRecursion HasText ts → Contains ts t → t.at < end
  within from [] end t o h c = absurd (omega (arith, c.1))
  within from (x ∷ ts) end t o h c = by (head_or_tail x t ts c) (λ d. within x.end ts end t o.2 h.1 d)
    where
      by : (x ≡ t) ⊎ Contains ts t → (Contains ts t → t.at < end) → t.at < end
      by (inl e) more = let w : x.end ≤ end = ends_before x.end ts end o.2 in subst (λ (z : lexing.Token). z.at < end) e (omega (arith, o.1, h.0, w))
      by (inr d) more = more d

  one_at : (from : ℕ) (ts : List lexing.Token) (end : ℕ) (t u : lexing.Token) → AreInOrder from ts end → AllByRecursion HasText ts → Contains ts t → Contains ts u → t.at ≡ u.at → t ≡ u
  one_at from [] end t u o h c d e = absurd (omega (arith, c.1))
  one_at from (x ∷ ts) end t u o h c d e = by (head_or_tail x t ts c) (head_or_tail x u ts d) (λ a b. one_at x.end ts end t u o.2 h.1 a b e)
    where
      later : (y : lexing.Token) → Contains ts y → x.at < y.at
      later y k = let w : x.end ≤ y.at = behind x.end ts end y o.2 k in omega (arith, o.1, h.0, w)

      by : (x ≡ t) ⊎ Contains ts t → (x ≡ u) ⊎ Contains ts u → (Contains ts t → Contains ts u → t ≡ u) → t ≡ u
      by (inl a) (inl b) more = sym a ∙ b
      by (inr a) (inr b) more = more a b
      by (inl a) (inr b) more = let w : x.at < u.at = later u b in let v : x.at ≡ u.at = ap (λ (z : lexing.Token). z.at) a ∙ e in absurd (omega (arith, w, v))
      by (inr a) (inl b) more = let w : x.at < t.at = later t a in let v : x.at ≡ t.at = ap (λ (z : lexing.Token). z.at) b ∙ sym e in absurd (omega (arith, w, v))

-- ---- tokens of a unit

module _ (keeps : KeepsTokens) (names : Names) where
  abbrev pairs_of : List Token → Pairs
  pairs_of = map {A = Token} (λ t. (numbered names t, numbered names t))

  firsts_of : (ts : List Token) → firsts (pairs_of ts) ≡ map (numbered names) ts
  firsts_of [] = refl
  firsts_of (t ∷ ts) = ap (λ l. numbered names t ∷ l) (firsts_of ts)

  seconds_of : (ts : List Token) → seconds (pairs_of ts) ≡ map (numbered names) ts
  seconds_of [] = refl
  seconds_of (t ∷ ts) = ap (λ l. numbered names t ∷ l) (seconds_of ts)

  paired_from : (ts : List Token) (x y : PpTok) → Contains (pairs_of ts) (x, y) → (t : Token) × Contains ts t × (x ≡ numbered names t) × (y ≡ numbered names t)
  paired_from [] x y c = absurd (omega (arith, c.1))
  paired_from (t ∷ ts) x y c = by (head_or_tail (numbered names t, numbered names t) (x, y) (pairs_of ts) c) (λ d. paired_from ts x y d)
    where
      by : (◌≡◌ {A = PpTok × PpTok} (numbered names t, numbered names t) (x, y)) ⊎ Contains (pairs_of ts) (x, y) → (Contains (pairs_of ts) (x, y) → (z : Token) × Contains ts z × (x ≡ numbered names z) × (y ≡ numbered names z)) → (z : Token) × Contains (t ∷ ts) z × (x ≡ numbered names z) × (y ≡ numbered names z)
      by (inl e) more = (t, (0, omega arith, refl), ap (λ (p : PpTok × PpTok). p.0) (sym e), ap (λ (p : PpTok × PpTok). p.1) (sym e))
      by (inr d) more = let m : (z : Token) × Contains ts z × (x ≡ numbered names z) × (y ≡ numbered names z) = more d in (m.0, in_tail t m.0 ts m.1, m.2, m.3)

  -- a token that a final token becomes
  record Comes (ts : List Token) (x : Tok) : Type 0 where
    from : Token
    among : Contains ts from
    name : x.text ≡ number_of names from.text
    sort : kind_by (text_of names (numbered names from)) from.kind ≡ Some x.kind
    origin : x.origin ≡ from.origin

  comes_of : (ts : List Token) (xs ys : List Tok) → AllTwo (Become names (pairs_of ts)) xs ys → (x : Tok) → Contains xs x → Comes ts x
  comes_of ts [] ys h x c = absurd (omega (arith, c.1))
  comes_of ts (z ∷ xs) [] h x c = absurd h
  comes_of ts (z ∷ xs) (y ∷ ys) h x c = by (head_or_tail z x xs c) (λ d. comes_of ts xs ys h.1 x d)
    where
      by : (z ≡ x) ⊎ Contains xs x → (Contains xs x → Comes ts x) → Comes ts x
      by (inl e) more =
          let m = paired_from ts h.0.from h.0.other h.0.paired in
          record {
            from = m.0;
            among = m.1;
            name = ap (λ (q : Tok). q.text) (sym e ∙ h.0.own) ∙ ap (λ (q : PpTok). q.text) m.2;
            sort = ap (λ (q : PpTok). kind_by (text_of names q) q.kind) (sym m.2) ∙ h.0.sort ∙ ap Some (sym (ap (λ (q : Tok). q.kind) (sym e ∙ h.0.own)));
            origin = ap (λ (q : Tok). q.origin) (sym e ∙ h.0.own) ∙ ap (λ (q : PpTok). q.origin) m.2;
          }
      by (inr d) more = more d

  comes : (ts : List Token) (before : List Tok) → tokens_of names (map (numbered names) ts) ≡ Ok before → (x : Tok) → Contains before x → Comes ts x
  comes ts before e x c =
      let k = keeps names (pairs_of ts) before (λ y z d. reads y z (paired_from ts y z d)) (ap (tokens_of names) (firsts_of ts) ∙ e) in comes_of ts before k.0 k.2 x c
    where
      reads : (y z : PpTok) → ((t : Token) × Contains ts t × (y ≡ numbered names t) × (z ≡ numbered names t)) → IsReadAs names y z
      reads y z m = record { kind = ap (λ (q : PpTok). q.kind) (m.3 ∙ sym m.2); text = inl (ap (λ (q : PpTok). q.text) (m.3 ∙ sym m.2)) }

-- a token of a unit is one of the list, the end, or behind it
which : (before : List Tok) (end : Tok) (i : ℕ) → Contains before (slice_index_or (before ++ end ∷ []) i no_token) ⊎ ((slice_index_or (before ++ end ∷ []) i no_token ≡ end) ⊎ (slice_index_or (before ++ end ∷ []) i no_token ≡ no_token))
which [] end zero = inr (inl refl)
which [] end (suc i) = inr (inr refl)
which (x ∷ before) end zero = inl (0, omega arith, refl)
which (x ∷ before) end (suc i) = elim (which before end i) [
  | inl c ↦ inl (in_tail x (slice_index_or (before ++ end ∷ []) i no_token) before c)
  | inr o ↦ inr o
]

contained : (names : Names) (ts : List Token) (t : Token) → AllByRecursion (λ (x : Token). Contains names x.text) ts → Contains ts t → Contains names t.text
contained names [] t h c = absurd (omega (arith, c.1))
contained names (x ∷ ts) t h c = elim (head_or_tail x t ts c) [ inl e ↦ subst (λ (z : Token). Contains names z.text) e h.0 | inr d ↦ contained names ts t h.1 d ]

module _ (numbers : NumbersItsPath) (order : StandsInOrder) (stand : FinalsStand) (keeps : KeepsTokens) (names : Tables) (files : List KnownFile) where
  -- where a token of a unit comes from
  pub data ComesFrom {u : Unit} (m : Meaning names (world_of files) u) (i : ℕ) (p : Place) : Type 0 where
    final : (t : Token) → Contains (finals m) t → (t.origin ≡ At p) × StandsIn files p t → name_at (source m) i ≡ number_of (names u) t.text → kind_by (text_of (names u) (numbered (names u) t)) t.kind ≡ Some (token_of (source m) i).kind → ComesFrom m i p
    ends : p ≡ place_in m.number (length m.bytes) → name_at (source m) i ≡ number_of (names u) [] → ComesFrom m i p

  pub from_place : {u : Unit} (m : Meaning names (world_of files) u) (i : ℕ) (p : Place) → (token_of (source m) i).origin ≡ At p → ComesFrom m i p
  from_place {u} m i p e = by (which m.before (end_token (number_of (names u) []) (place_in m.number (length m.bytes))) i)
    where
      at_end : {a b : Place} → At a ≡ At b → a ≡ b
      at_end h = cc

      nowhere : Made ≡ At p → ComesFrom m i p
      nowhere h = cc

      by : Contains m.before (token_of (source m) i) ⊎ ((token_of (source m) i ≡ end_token (number_of (names u) []) (place_in m.number (length m.bytes))) ⊎ (token_of (source m) i ≡ no_token)) → ComesFrom m i p
      by (inl c) =
          let x : Comes keeps (names u) (finals m) (token_of (source m) i) = comes keeps (names u) (finals m) m.before m.become (token_of (source m) i) c in
          final x.from x.among (sym x.origin ∙ e, stand files u m.left m.events x.from p m.whole x.among (sym x.origin ∙ e)) x.name x.sort
      by (inr (inl h)) = ends (at_end (sym e ∙ ap (λ (x : Tok). x.origin) h)) (ap (λ (x : Tok). x.text) h)
      by (inr (inr h)) = nowhere (sym (ap (λ (x : Tok). x.origin) h) ∙ e)

  pub one_file : (q r : Text) (n : ℕ) (bytes more : List ℕ) → finding q files ≡ Present n bytes → finding r files ≡ Present n more → bytes ≡ more
  one_file q r n bytes more h g = bytes_one (ap (λ (x : KnownFile). x.found) (file_one (sym (numbers q files n bytes h).1 ∙ (numbers r files n more g).1)))
    where
      file_one : {a b : KnownFile} → Some a ≡ Some b → a ≡ b
      file_one h = cc

      bytes_one : {a b : List ℕ} → Some a ≡ Some b → a ≡ b
      bytes_one h = cc

  one_text : (p : Place) (t x : Token) → StandsIn files p t → StandsIn files p x → t.text ≡ x.text
  one_text p t x a b =
      let same : b.bytes ≡ a.bytes = one_file b.path a.path p.path.0 b.bytes a.bytes b.found a.found in
      let other : Contains (lexed a.bytes).tokens b.token = subst (λ l. Contains (lexed l).tokens b.token) same b.among in
      let one : a.token ≡ b.token = one_at 0 0 (lexed a.bytes).tokens (length a.bytes) a.token b.token (order a.bytes) (tokens_have_text a.bytes) a.among other (a.at ∙ sym b.at) in
      sym a.text ∙ ap (λ (z : lexing.Token). z.text) one ∙ b.text

  pub no_end : {u : Unit} (m : Meaning names (world_of files) u) (p : Place) (t : Token) → StandsIn files p t → p ≡ place_in m.number (length m.bytes) → ⊥
  no_end {u} m p t a e =
      let n : p.path.0 ≡ m.number = ap (λ (z : Place). z.path.0) e in
      let same : a.bytes ≡ m.bytes = one_file a.path u.main m.number a.bytes m.bytes (a.found ∙ ap (λ i. Present i a.bytes) n) m.main in
      let w : a.token.at < length a.bytes = within 0 0 (lexed a.bytes).tokens (length a.bytes) a.token (order a.bytes) (tokens_have_text a.bytes) a.among in
      let at : a.token.at ≡ length m.bytes = a.at ∙ ap (λ (z : Place). z.offset) e in
      let l : length a.bytes ≡ length m.bytes = ap length same in
      omega (arith, w, at, l)

  pub places_have_one_name : ((u : Unit) → IsDistinct (names u)) → PlacesHaveOneName names files
  places_have_one_name distinct u v m k i j p e g = by (from_place m i p e) (from_place k j p g)
    where
      reads : (w : Unit) (l : Meaning names (world_of files) w) (n : ℕ) (text : Text) → Contains (names w) text → name_at (source l) n ≡ number_of (names w) text → spelled_as (source l) (name_at (source l) n) ≡ text
      reads w l n text c h = ap (spelled_as (source l)) h ∙ text_at_number (names w) (distinct w) text c

      by : ComesFrom m i p → ComesFrom k j p → spelled_as (source m) (name_at (source m) i) ≡ spelled_as (source k) (name_at (source k) j)
      by (final t c a n q) (final x d b o r) =
          reads u m i t.text (contained (names u) (finals m) t m.held.spellings c) n ∙ one_text p t x a.1 b.1 ∙ sym (reads v k j x.text (contained (names v) (finals k) x k.held.spellings d) o)
      by (ends q n) (ends r o) = reads u m i [] m.held.empty n ∙ sym (reads v k j [] k.held.empty o)
      by (final t c a n q) (ends r o) = absurd (no_end k p t a.1 r)
      by (ends q n) (final x d b o r) = absurd (no_end m p x b.1 q)

  -- ---- identifiers of the old name

  module _ (old : Text) (distinct : (u : Unit) → IsDistinct (names u)) (has_old : (u : Unit) → Contains (names u) old) (is_name : is_identifier_text old ≡ true) where
    pub same_text : (u : Unit) (a : Text) → Contains (names u) a → number_of (names u) a ≡ number_of (names u) old → a ≡ old
    same_text u a ca e =
        let f : Some a ≡ Some old = sym (number_at (names u) (distinct u) a ca) ∙ ap (λ (n : Name). slice_get (names u) n.0) e ∙ number_at (names u) (distinct u) old (has_old u) in cc

    pub cut_there : (ts : List lexing.Token) (t : lexing.Token) → AllByRecursion IsCut ts → Contains ts t → IsCut t
    cut_there [] t h c = absurd (omega (arith, c.1))
    cut_there (x ∷ ts) t h c = elim (head_or_tail x t ts c) [ inl e ↦ subst IsCut e h.0 | inr d ↦ cut_there ts t h.1 d ]

    -- where the old name stands is an identifier
    pub ident_there : (p : Place) (t : Token) → StandsIn files p t → t.text ≡ old → is_ident t.kind ≡ true
    ident_there p t a e = sym a.ident ∙ ap is_ident (cut_there (lexed a.bytes).tokens a.token (identifiers_are_cut a.bytes) a.among (ap is_identifier_text (a.text ∙ e) ∙ is_name))

    pub ident_is : (kind : PpKind) → is_ident kind ≡ true → kind ≡ Ident
    ident_is Ident h = refl
    ident_is Number h = cc
    ident_is Char h = cc
    ident_is Str h = cc
    ident_is Punct h = cc
    ident_is Stray h = cc

    pub names_are_identifiers : is_word old ≡ false → NamesAreIdentifiers names files old
    names_are_identifiers plain u m i p e n = by (from_place m i p e)
      where
        is_first : {P : Type 0} → [] ≡ old → P
        is_first h = let no : false ≡ true = ap is_identifier_text h ∙ is_name in cc

        by : ComesFrom m i p → is_identifier (source m) i ≡ true
        by (final t c a o q) =
            let text : t.text ≡ old = same_text u t.text (contained (names u) (finals m) t m.held.spellings c) (sym o ∙ n) in
            let kind : t.kind ≡ Ident = ident_is t.kind (ident_there p t a.1 text) in
            let read : text_of (names u) (numbered (names u) t) ≡ old = text_at_number (names u) (distinct u) t.text (contained (names u) (finals m) t m.held.spellings c) ∙ text in
            let own : Some (word_kind (is_word old)) ≡ Some (token_of (source m) i).kind = ap (λ w. kind_by w Ident) (sym read) ∙ ap (kind_by (text_of (names u) (numbered (names u) t))) (sym kind) ∙ q in
            let sort : word_kind (is_word old) ≡ (token_of (source m) i).kind = cc in
            ap is_name_kind (sym sort) ∙ ap (λ b. is_name_kind (word_kind b)) plain
        by (ends r o) = is_first (same_text u [] m.held.empty (sym o ∙ n))

    -- a final token where one of the units has the old name
    pub old_final : (u v : Unit) (m : Meaning names (world_of files) u) (k : Meaning names (world_of files) v) (t : Token) (j : ℕ) (p : Place) → Contains (finals m) t → t.origin ≡ At p → (token_of (source k) j).origin ≡ At p → name_at (source k) j ≡ number_of (names v) old → (is_ident t.kind ≡ true) × (t.text ≡ old)
    old_final u v m k t j p c e g n = by (from_place k j p g)
      where
        a : StandsIn files p t
        a = stand files u m.left m.events t p m.whole c e

        by : ComesFrom k j p → (is_ident t.kind ≡ true) × (t.text ≡ old)
        by (final x d b o r) =
            let text : t.text ≡ old = one_text p t x a b.1 ∙ same_text v x.text (contained (names v) (finals k) x k.held.spellings d) (sym o ∙ n) in (ident_there p t a text, text)
        by (ends r o) = absurd (no_end k p t a r)

pub one_spelling_a_place : OneSpellingAPlace
one_spelling_a_place numbers order stand keeps names files distinct = places_have_one_name numbers order stand keeps names files distinct

pub old_names_are_identifiers : OldNamesAreIdentifiers
old_names_are_identifiers numbers order stand keeps names files old distinct has_old is_name only = names_are_identifiers numbers order stand keeps names files old distinct has_old is_name only.plain.no_word

pub placed_finals_are_old : PlacedFinals
placed_finals_are_old numbers order stand keeps names files units old new target facts class means j u m t c p e in_p = by ((j.of_target.places p).0 in_p)
  where
    of_told : (k : Key) → ((v : Unit) × (in_v : Contains units v) × UnitTells (means v in_v) old new (fact.Denotes p k)) → (is_ident t.kind ≡ true) × (t.text ≡ old)
    of_told k (v, in_v, inl none) = absurd none
    of_told k (v, in_v, inr (x, d)) = old_final numbers order stand keeps names files old j.distinct j.has_old j.may.was u v m (means v in_v) t x.0 p c e d.placed.comes d.placed.spelled

    by : ((k : Key) × InClass files facts old target k × Has facts (fact.Denotes p k)) → (is_ident t.kind ≡ true) × (t.text ≡ old)
    by (k, inside, has) = of_told k ((j.table (fact.Denotes p k)).0 has)
