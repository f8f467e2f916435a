-- The tokens that the renamed final tokens become are those of the unit, renamed at the places of the class.
use Rattle.std.specs.Prelude.{◌≡◌, ◌⊎◌, ℕ, zero, suc, Bool, true, false, not, ◌&&◌, cond, if◌then◌else◌, Some, Ok, List, [], ◌∷◌, ◌++◌, length, map, bytes_eq, slice_get, slice_index_or, Contains}
use Rattle.std.specs.List.{AllByRecursion}
use Rattle.std.proofs.Common.{refl, sym, ◌∙◌, ap, subst, inl, inr, arith}
use Rattle.std.proofs.lemmas.Slice.Eq.{bytes_eq-Decides}
use Rattle.cr_base.specs.declared.token.Name.{Name}
use Rattle.cr_base.specs.declared.token.Place.{Place}
use Rattle.cr_base.specs.declared.token.Origin.{Origin}
use Rattle.cr_base.specs.declared.token.Origin.TheVariants.{At, Made}
use Rattle.cr_base.specs.declared.token.PpKind.{PpKind}
use Rattle.cr_base.specs.declared.token.PpKind.TheVariants as p
use Rattle.cr_base.specs.declared.token.PpTok.{PpTok}
use Rattle.cr_base.specs.declared.token.TokKind.{TokKind}
use Rattle.cr_base.specs.declared.token.TokKind.TheVariants as k
use Rattle.cr_base.specs.declared.token.Tok.{Tok}
use Rattle.cr_base.specs.declared.unit.Unit.{Unit}
use Rattle.cr_snapshot.specs.declared.known.KnownFile.{KnownFile}
use Rattle.cr_macros.specs.Tokens.{Text, Token, is_ident}
use Rattle.cr_expand_law.specs.Renaming.{Renaming, is_old, is_renamed, shifted_origin, renamed, all_renamed}
use Rattle.cr_phase4.specs.Lines.{place_in}
use Rattle.cr_phase4.specs.Search.{world_of}
use Rattle.cr_phase7.specs.Tokens.{text_of, only_if, hashes, kind_by, token, end_token, tokens_of}
use Rattle.cr_phase7.specs.Numbers.{is_number, is_among}
use Rattle.cr_phase7_law.specs.TokensStay.{IsPlainName, IsReadAs, AllTwo, Pairs, firsts, seconds, Become, KeepsTokens}
use Rattle.cr_facts.specs.FactOrder.{Facts}
use Rattle.cr_ll.specs.Guards.{is_name}
use Rattle.cr_binding.specs.Source.{Source, token_of, name_at, is_identifier, no_token}
use Rattle.cr_binding_law.specs.Renaming.{HasNoOwnMeaning}
use Rattle.cr_keys_law.specs.KeysMove.{moved_origin}
use Rattle.cr_keys_law.specs.Spelled.{IdentifiersAreSpelled}
use Rattle.cr_keys_law.specs.SpelledAlike.{KeysTellNames}
use Rattle.cr_keys_law.proofs.Spelled.{in_tail, head_or_tail}
use Rattle.cr_class.specs.declared.class.Class.{Class}
use Rattle.cr_class.specs.declared.target.Target.{Target}
use Rattle.cr_keeps.specs.UnitMeaning.{Names, Tables, number_of, numbered, Meaning, finals, source, source_of}
use Rattle.cr_keeps.specs.UnitFacts.{Meanings}
use Rattle.cr_keeps.specs.Keeps.{is_place_of}
use Rattle.cr_keeps.proofs.Chain.{PlacesHaveOneName, NamesAreIdentifiers, renaming_of, is_class_token}
use Rattle.cr_keeps.specs.AcceptedRenames.{IsAcceptedRename}
use Rattle.cr_class.specs.Accepted.{ClassTestsTell}
use Rattle.cr_binding_law.specs.RenamingKeys.{EntitiesHaveOneKey}
use Rattle.cr_keeps.specs.OnlyNames.{IsOnlyName}
use Rattle.cr_keeps.proofs.RenamedStated.{IsAfter, TokensAreRenamed}
use Rattle.cr_keeps.proofs.Premises.{number_at, text_at_number, place_in_class, old_there}

-- ---- lists

pub contained : {A : Type 0} (P : A → Type 0) (xs : List A) (x : A) → AllByRecursion P xs → Contains xs x → P x
contained P [] x h c = absurd (omega (arith, c.1))
contained P (y ∷ xs) x h c = elim (head_or_tail y x xs c) [ inl e ↦ subst P e h.0 | inr d ↦ contained P xs x h.1 d ]

-- two tokens at one index of two lists with ends behind them
pub data Both (names : Names) (pairs : Pairs) (end last : Tok) (x y : Tok) : Type 0 where
  becomes : Become names pairs x y → Both names pairs end last x y
  ends : x ≡ end → y ≡ last → Both names pairs end last x y
  nothing : x ≡ no_token → y ≡ no_token → Both names pairs end last x y

pub both_at : (names : Names) (pairs : Pairs) (end last : Tok) (xs ys : List Tok) (i : ℕ) → AllTwo (Become names pairs) xs ys → Both names pairs end last (slice_index_or (xs ++ end ∷ []) i no_token) (slice_index_or (ys ++ last ∷ []) i no_token)
both_at names pairs end last [] [] zero h = ends refl refl
both_at names pairs end last [] [] (suc i) h = nothing refl refl
both_at names pairs end last [] (y ∷ ys) i h = absurd h
both_at names pairs end last (x ∷ xs) [] i h = absurd h
both_at names pairs end last (x ∷ xs) (y ∷ ys) zero h = becomes h.0
both_at names pairs end last (x ∷ xs) (y ∷ ys) (suc i) h = both_at names pairs end last xs ys i h.1

and_false : (a : Bool) → (a && false) ≡ false
and_false true = refl
and_false false = refl

-- ---- kinds

ident_of : (text : Text) (kind : PpKind) → kind_by text kind ≡ Some k.Ident → is_ident kind ≡ true
ident_of text p.Ident h = refl
ident_of text p.Number h = by (is_number text) h
  where
    by : (b : Bool) → only_if b k.Constant ≡ Some k.Ident → false ≡ true
    by true h = cc
    by false h = cc
ident_of text p.Char h = cc
ident_of text p.Str h = cc
ident_of text p.Punct h = by (is_among text hashes) h
  where
    by : (b : Bool) → only_if (not b) k.Punct ≡ Some k.Ident → false ≡ true
    by true h = cc
    by false h = cc
ident_of text p.Stray h = cc

pub is_ident_kind : (kind : PpKind) → is_ident kind ≡ true → kind ≡ p.Ident
is_ident_kind p.Ident h = refl
is_ident_kind p.Number h = cc
is_ident_kind p.Char h = cc
is_ident_kind p.Str h = cc
is_ident_kind p.Punct h = cc
is_ident_kind p.Stray h = cc

named_kind : (kind : TokKind) → is_name kind ≡ true → kind ≡ k.Ident
named_kind k.Ident h = refl
named_kind k.Keyword h = cc
named_kind k.Constant h = cc
named_kind k.Str h = cc
named_kind k.Punct h = cc
named_kind k.End h = cc

module _ (names : Tables) (files : List KnownFile) (units : List Unit) (old new : Text) (target : Target) (facts : Facts) (class : Class) (means : Meanings names (world_of files) units)
    (named : IdentifiersAreSpelled) (tell : KeysTellNames) (one_key : EntitiesHaveOneKey) (tests : ClassTestsTell) (places : PlacesHaveOneName names files) (identifiers : NamesAreIdentifiers names files old)
    (j : IsAcceptedRename names files units old new target facts class means)
    (keeps : KeepsTokens) (only_old : IsOnlyName old) (only_new : IsOnlyName new) (u : Unit) (there : Contains units u) (end : Place)
    (moves : end ≡ (renaming_of class old new).shift (place_in (means u there).number (length (means u there).bytes))) where
  abbrev r : Renaming
  r = renaming_of class old new

  abbrev m : Meaning names (world_of files) u
  m = means u there

  abbrev pairs_of : List Token → Pairs
  pairs_of = map {A = Token} (λ t. (numbered (names u) t, numbered (names u) (renamed r t)))

  firsts_of : (ts : List Token) → firsts (pairs_of ts) ≡ map (numbered (names u)) ts
  firsts_of [] = refl
  firsts_of (t ∷ ts) = ap (λ l. numbered (names u) t ∷ l) (firsts_of ts)

  seconds_of : (ts : List Token) → seconds (pairs_of ts) ≡ map (numbered (names u)) (all_renamed r ts)
  seconds_of [] = refl
  seconds_of (t ∷ ts) = ap (λ l. numbered (names u) (renamed r t) ∷ l) (seconds_of ts)

  record Pair (ts : List Token) (x y : PpTok) : Type 0 where
    of : Token
    among : Contains ts of
    first : x ≡ numbered (names u) of
    second : y ≡ numbered (names u) (renamed r of)

  paired_from : (ts : List Token) (x y : PpTok) → Contains (pairs_of ts) (x, y) → Pair ts x y
  paired_from [] x y c = absurd (omega (arith, c.1))
  paired_from (t ∷ ts) x y c = by (head_or_tail (numbered (names u) t, numbered (names u) (renamed r t)) (x, y) (pairs_of ts) c) (λ d. paired_from ts x y d)
    where
      by : (◌≡◌ {A = PpTok × PpTok} (numbered (names u) t, numbered (names u) (renamed r t)) (x, y)) ⊎ Contains (pairs_of ts) (x, y) → (Contains (pairs_of ts) (x, y) → Pair ts x y) → Pair (t ∷ ts) x y
      by (inl e) more = record { of = t; among = (0, omega arith, refl); first = ap (λ (q : PpTok × PpTok). q.0) (sym e); second = ap (λ (q : PpTok × PpTok). q.1) (sym e) }
      by (inr d) more = let w : Pair ts x y = more d in record { of = w.of; among = in_tail t w.of ts w.among; first = w.first; second = w.second }

  held_text : (t : Token) → Contains (finals m) t → text_of (names u) (numbered (names u) t) ≡ t.text
  held_text t c = text_at_number (names u) (j.distinct u) t.text (contained (λ (x : Token). Contains (names u) x.text) (finals m) t m.held.spellings c)

  old_kind : (kind : PpKind) (text : Text) (o : Origin) → is_old r kind text o ≡ true → (is_ident kind ≡ true) × (text ≡ old)
  old_kind kind text Made h = cc
  old_kind kind text (At q) h = by (is_ident kind) (r.is_place q) (bytes_eq text old) refl refl h
    where
      by : (a b c : Bool) → is_ident kind ≡ a → bytes_eq text old ≡ c → (a && (b && c)) ≡ true → (is_ident kind ≡ true) × (text ≡ old)
      by true true true e f h = (e, (bytes_eq-Decides text old).0 f)
      by true true false e f h = cc
      by true false c e f h = cc
      by false b c e f h = cc

  reads : (x y : PpTok) → Contains (pairs_of (finals m)) (x, y) → IsReadAs (names u) x y
  reads x y c = by (is_renamed r w.of) refl
    where
      w : Pair (finals m) x y
      w = paired_from (finals m) x y c

      kind : y.kind ≡ x.kind
      kind = ap (λ (q : PpTok). q.kind) w.second ∙ ap (λ (q : PpTok). q.kind) (sym w.first)

      by : (b : Bool) → is_renamed r w.of ≡ b → IsReadAs (names u) x y
      by false h = record { kind = kind; text = inl (ap (λ (q : PpTok). q.text) w.second ∙ ap (λ b. number_of (names u) (if b then new else w.of.text)) h ∙ ap (λ (q : PpTok). q.text) (sym w.first)) }
      by true h =
          let o = old_kind w.of.kind w.of.text w.of.origin h in
          let before : text_of (names u) x ≡ old = ap (text_of (names u)) w.first ∙ held_text w.of w.among ∙ o.1 in
          let after : text_of (names u) y ≡ new = ap (text_of (names u)) w.second ∙ ap (λ b. slice_index_or (names u) (number_of (names u) (if b then new else w.of.text)).0 []) h ∙ text_at_number (names u) (j.distinct u) new (j.has_new u) in
          record { kind = kind; text = inr (ap (λ (q : PpTok). q.kind) w.first ∙ is_ident_kind w.of.kind o.0, subst IsPlainName (sym before) only_old.plain, subst IsPlainName (sym after) only_new.plain) }

  stay : (us : List Tok) × (tokens_of (names u) (seconds (pairs_of (finals m))) ≡ Ok us) × AllTwo (Become (names u) (pairs_of (finals m))) m.before us
  stay = keeps (names u) (pairs_of (finals m)) m.before reads (ap (tokens_of (names u)) (firsts_of (finals m)) ∙ m.become)

  abbrev t : Source
  t = source m

  abbrev v : Source
  v = source_of (names u) stay.0 end

  abbrev ending : Place → Tok
  ending q = end_token (number_of (names u) []) q

  at_index : (i : ℕ) → Both (names u) (pairs_of (finals m)) (ending (place_in m.number (length m.bytes))) (ending end) (token_of t i) (token_of v i)
  at_index i = both_at (names u) (pairs_of (finals m)) (ending (place_in m.number (length m.bytes))) (ending end) m.before stay.0 i stay.2

  abbrev is_class : ℕ → Bool
  is_class i = is_class_token class old new t i

  same_text : (a b : Text) → Contains (names u) a → Contains (names u) b → number_of (names u) a ≡ number_of (names u) b → a ≡ b
  same_text a b ca cb e =
      let f : Some a ≡ Some b = sym (number_at (names u) (j.distinct u) a ca) ∙ ap (λ (n : Name). slice_get (names u) n.0) e ∙ number_at (names u) (j.distinct u) b cb in cc

  -- a final token is renamed just where the token that it becomes is of the class
  class_is : (i : ℕ) (x : Token) (kind : TokKind) → Contains (finals m) x → kind_by (text_of (names u) (numbered (names u) x)) x.kind ≡ Some kind → token_of t i ≡ token (numbered (names u) x) kind → is_class i ≡ is_renamed r x
  class_is i x kind c sort e = ap (λ o. is_identifier t i && is_place_of r o) origin ∙ by x.origin refl
    where
      origin : (token_of t i).origin ≡ x.origin
      origin = ap (λ (q : Tok). q.origin) e

      by : (o : Origin) → x.origin ≡ o → (is_identifier t i && is_place_of r o) ≡ is_old r x.kind x.text o
      by Made h = and_false (is_identifier t i)
      by (At q) h = at (r.is_place q) refl
        where
          at : (b : Bool) → r.is_place q ≡ b → (is_identifier t i && r.is_place q) ≡ (is_ident x.kind && (r.is_place q && bytes_eq x.text old))
          at false g = ap (λ b. is_identifier t i && b) g ∙ and_false (is_identifier t i) ∙ sym (ap (λ b. is_ident x.kind && (b && bytes_eq x.text old)) g ∙ and_false (is_ident x.kind))
          at true g =
              let in_p : Contains class.places q = place_in_class class old new q g in
              let n : name_at t i ≡ number_of (names u) old = old_there names files units old new target facts class means named tell one_key tests places identifiers j u there i q (origin ∙ h) in_p in
              let text : x.text ≡ old = same_text x.text old (contained (λ (y : Token). Contains (names u) y.text) (finals m) x m.held.spellings c) (j.has_old u) (sym (ap (λ (y : Tok). y.text) e) ∙ n) in
              let ident : is_identifier t i ≡ true = identifiers u m i q (origin ∙ h) n in
              let kinds : kind ≡ k.Ident = named_kind kind (ap is_name (sym (ap (λ (y : Tok). y.kind) e)) ∙ ident) in
              let sorts : is_ident x.kind ≡ true = ident_of (text_of (names u) (numbered (names u) x)) x.kind (sort ∙ ap Some kinds) in
              ap (λ a. a && r.is_place q) ident ∙ g ∙ sym (ap (λ a. a && (r.is_place q && bytes_eq x.text old)) sorts ∙ ap (λ a. a && bytes_eq x.text old) g ∙ (bytes_eq-Decides x.text old).1 text)

  kinds_stay : (i : ℕ) → (token_of v i).kind ≡ (token_of t i).kind
  kinds_stay i = by (at_index i)
    where
      by : Both (names u) (pairs_of (finals m)) (ending (place_in m.number (length m.bytes))) (ending end) (token_of t i) (token_of v i) → (token_of v i).kind ≡ (token_of t i).kind
      by (becomes b) = ap (λ (y : Tok). y.kind) b.others ∙ sym (ap (λ (y : Tok). y.kind) b.own)
      by (ends a b) = ap (λ (y : Tok). y.kind) b ∙ sym (ap (λ (y : Tok). y.kind) a)
      by (nothing a b) = ap (λ (y : Tok). y.kind) b ∙ sym (ap (λ (y : Tok). y.kind) a)

  origins_move : (i : ℕ) → (token_of v i).origin ≡ moved_origin r.shift (token_of t i).origin
  origins_move i = by (at_index i)
    where
      shifted_is : (o : Origin) → shifted_origin r o ≡ moved_origin r.shift o
      shifted_is (At q) = refl
      shifted_is Made = refl

      by : Both (names u) (pairs_of (finals m)) (ending (place_in m.number (length m.bytes))) (ending end) (token_of t i) (token_of v i) → (token_of v i).origin ≡ moved_origin r.shift (token_of t i).origin
      by (becomes b) =
          let w : Pair (finals m) b.from b.other = paired_from (finals m) b.from b.other b.paired in
          ap (λ (y : Tok). y.origin) b.others ∙ ap (λ (y : PpTok). y.origin) w.second ∙ shifted_is w.of.origin ∙ ap (moved_origin r.shift) (sym (ap (λ (y : Tok). y.origin) b.own ∙ ap (λ (y : PpTok). y.origin) w.first))
      by (ends a b) = ap (λ (y : Tok). y.origin) b ∙ ap At moves ∙ ap (moved_origin r.shift) (sym (ap (λ (y : Tok). y.origin) a))
      by (nothing a b) = ap (λ (y : Tok). y.origin) b ∙ ap (moved_origin r.shift) (sym (ap (λ (y : Tok). y.origin) a))

  names_change : (i : ℕ) → name_at v i ≡ cond (is_class i) (number_of (names u) new) (name_at t i)
  names_change i = by (at_index i)
    where
      by : Both (names u) (pairs_of (finals m)) (ending (place_in m.number (length m.bytes))) (ending end) (token_of t i) (token_of v i) → name_at v i ≡ cond (is_class i) (number_of (names u) new) (name_at t i)
      by (becomes b) = at (is_renamed r w.of) (class_is i w.of b.kind w.among sort own)
        where
          w : Pair (finals m) b.from b.other
          w = paired_from (finals m) b.from b.other b.paired

          own : token_of t i ≡ token (numbered (names u) w.of) b.kind
          own = b.own ∙ ap (λ (y : PpTok). token y b.kind) w.first

          sort : kind_by (text_of (names u) (numbered (names u) w.of)) w.of.kind ≡ Some b.kind
          sort = ap (λ (y : PpTok). kind_by (text_of (names u) y) y.kind) (sym w.first) ∙ b.sort

          after : name_at v i ≡ number_of (names u) (if is_renamed r w.of then new else w.of.text)
          after = ap (λ (y : Tok). y.text) b.others ∙ ap (λ (y : PpTok). y.text) w.second

          at : (c : Bool) → is_class i ≡ is_renamed r w.of → name_at v i ≡ cond (is_class i) (number_of (names u) new) (name_at t i)
          at c h = after ∙ choose (is_renamed r w.of) ∙ sym (ap (λ b. cond b (number_of (names u) new) (name_at t i)) h)
            where
              choose : (d : Bool) → number_of (names u) (if d then new else w.of.text) ≡ cond d (number_of (names u) new) (name_at t i)
              choose true = refl
              choose false = sym (ap (λ (y : Tok). y.text) own)
      by (ends a b) = ap (λ (y : Tok). y.text) b ∙ sym (ap (λ (y : Tok). y.text) a) ∙ sym (none (is_identifier t i) (ap (λ (y : Tok). is_name y.kind) a))
        where
          none : (d : Bool) → d ≡ false → cond (d && is_place_of r (token_of t i).origin) (number_of (names u) new) (name_at t i) ≡ name_at t i
          none false h = refl
          none true h = cc
      by (nothing a b) = ap (λ (y : Tok). y.text) b ∙ sym (ap (λ (y : Tok). y.text) a) ∙ sym (none (is_identifier t i) (ap (λ (y : Tok). is_name y.kind) a))
        where
          none : (d : Bool) → d ≡ false → cond (d && is_place_of r (token_of t i).origin) (number_of (names u) new) (name_at t i) ≡ name_at t i
          none false h = refl
          none true h = cc

  and_parts : (a b : Bool) → (a && b) ≡ true → (a ≡ true) × (b ≡ true)
  and_parts true true h = (refl, refl)
  and_parts true false h = cc
  and_parts false b h = cc

  spelled : (i : ℕ) → is_class i ≡ true → name_at t i ≡ number_of (names u) old
  spelled i h = by (token_of t i).origin refl (and_parts (is_identifier t i) (is_place_of r (token_of t i).origin) h).1
    where
      by : (o : Origin) → (token_of t i).origin ≡ o → is_place_of r (token_of t i).origin ≡ true → name_at t i ≡ number_of (names u) old
      by Made e g = let no : false ≡ true = sym (ap (is_place_of r) e) ∙ g in cc
      by (At q) e g = old_there names files units old new target facts class means named tell one_key tests places identifiers j u there i q e (place_in_class class old new q (sym (ap (is_place_of r) e) ∙ g))

  is_after : IsAfter names files class old new u m end
  is_after =
      record {
        tokens = stay.0;
        become = ap (tokens_of (names u)) (sym (seconds_of (finals m))) ∙ stay.1;
        renamed = record {
          differ = λ e. j.may.differ (same_text old new (j.has_old u) (j.has_new u) e);
          texts = refl;
          kinds = kinds_stay;
          names = names_change;
          spelled = spelled;
          sort = λ i h. (and_parts (is_identifier t i) (is_place_of r (token_of t i).origin) h).0;
          plain_old = subst HasNoOwnMeaning (sym (text_at_number (names u) (j.distinct u) old (j.has_old u))) only_old.binds;
          plain_new = subst HasNoOwnMeaning (sym (text_at_number (names u) (j.distinct u) new (j.has_new u))) only_new.binds;
        };
        moved = record { origins = origins_move };
      }

pub tokens_are_renamed : TokensAreRenamed
tokens_are_renamed named tell one_key tests keeps names files units old new target facts class means places identifiers j only_old only_new u there end moves =
    is_after names files units old new target facts class means named tell one_key tests places identifiers j keeps only_old only_new u there end moves
