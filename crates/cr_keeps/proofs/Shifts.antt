-- No two places of tokens come together when the files are edited.
use Rattle.std.specs.Prelude.{◌≡◌, ◌⊎◌, ℕ, ◌<◌, ◌≤◌, List, [], ◌∷◌, length, map, Contains}
use Rattle.std.specs.List.{AllByRecursion}
use Rattle.std.proofs.Common.{sym, ◌∙◌, ap, subst, inl, inr, arith}
use Rattle.cr_base.specs.Substitution.{substituted, shifted}
use Rattle.cr_base.specs.declared.token.Place.{Place}
use Rattle.cr_base.specs.declared.unit.Unit.{Unit}
use Rattle.cr_lex.specs.Lexing as lexing
use Rattle.cr_lex.specs.Lexing.{lexed}
use Rattle.cr_lex.specs.Order.{AreInOrder, StandsInOrder}
use Rattle.cr_lex.specs.Renaming.{renamed_token, KeepsLexing}
use Rattle.cr_snapshot.specs.declared.known.KnownFile.{KnownFile}
use Rattle.cr_snapshot.specs.Files.{Present, finding, NumbersItsPath}
use Rattle.cr_macros.specs.Tokens.{Text, Token}
use Rattle.cr_phase4.specs.Lines.{place_in}
use Rattle.cr_phase4.specs.Search.{world_of}
use Rattle.cr_phase7_law.specs.TokensStay.{KeepsTokens}
use Rattle.cr_preproc_law.specs.Standing.{StandsIn, FinalsStand}
use Rattle.cr_facts.specs.FactOrder.{Facts}
use Rattle.cr_preproc_law.specs.Renaming.{MayBeEdited, MayEdit}
use Rattle.cr_class.specs.declared.class.Class.{Class}
use Rattle.cr_class.specs.declared.target.Target.{Target}
use Rattle.cr_keys_law.proofs.Spelled.{head_or_tail}
use Rattle.cr_keys_law.proofs.Moving.{mapped_there}
use Rattle.cr_keeps.specs.UnitMeaning.{Tables, Meaning}
use Rattle.cr_keeps.specs.UnitFacts.{Meanings}
use Rattle.cr_keeps.specs.Keeps.{offsets_by_file}
use Rattle.cr_keeps.proofs.Chain.{FilesMayBeEdited, renaming_of}
use Rattle.cr_keeps.specs.AcceptedRenames.{IsAcceptedRename}
use Rattle.cr_keeps.proofs.LinksStated.{ShiftsApart}
use Rattle.cr_keeps.proofs.JoinedStated.{LengthsShift}
use Rattle.cr_keeps.proofs.EditingStated.{ShiftsKeepApart}
use Rattle.cr_keeps.proofs.Texts.{HasText, tokens_have_text}
use Rattle.cr_keeps.proofs.Premises.{same_place}
use Rattle.cr_keeps.proofs.Joined.{longer}
use Rattle.cr_keeps.proofs.Places.{behind, within, ComesFrom, final, ends, from_place, one_file}

-- tokens that stand in order before and after stand at one offset only where they did
apart_by : (f : lexing.Token → lexing.Token) (ts : List lexing.Token) (from end from' end' : ℕ) (t u : lexing.Token)
    → AreInOrder from ts end → AllByRecursion HasText ts → AreInOrder from' (map f ts) end' → AllByRecursion HasText (map f ts)
    → Contains ts t → Contains ts u → (f t).at ≡ (f u).at → t.at ≡ u.at
apart_by f [] from end from' end' t u o h o' h' c d e = absurd (omega (arith, c.1))
apart_by f (x ∷ ts) from end from' end' t u o h o' h' c d e =
    by (head_or_tail x t ts c) (head_or_tail x u ts d) (λ a b. apart_by f ts x.end end (f x).end end' t u o.2 h.1 o'.2 h'.1 a b e)
  where
    later : (y : lexing.Token) → Contains ts y → (f x).at < (f y).at
    later y k = let w : (f x).end ≤ (f y).at = behind 0 (f x).end (map f ts) end' (f y) o'.2 (mapped_there f ts y k) in omega (arith, w, o'.1, h'.0)

    by : (x ≡ t) ⊎ Contains ts t → (x ≡ u) ⊎ Contains ts u → (Contains ts t → Contains ts u → t.at ≡ u.at) → t.at ≡ u.at
    by (inl a) (inl b) more = ap (λ (z : lexing.Token). z.at) (sym a ∙ b)
    by (inr a) (inr b) more = more a b
    by (inl a) (inr b) more = let w : (f x).at < (f u).at = later u b in let v : (f x).at ≡ (f u).at = ap (λ z. (f z).at) a ∙ e in absurd (omega (arith, w, v))
    by (inr a) (inl b) more = let w : (f x).at < (f t).at = later t a in let v : (f x).at ≡ (f t).at = ap (λ z. (f z).at) b ∙ sym e in absurd (omega (arith, w, v))

module _ (numbers : NumbersItsPath) (order : StandsInOrder) (stand : FinalsStand) (keeps : KeepsTokens) (lexing_keeps : KeepsLexing) (lengths : LengthsShift) (names : Tables) (files : List KnownFile) (units : List Unit) (old new : Text) (target : Target) (facts : Facts) (class : Class) (means : Meanings names (world_of files) units)
    (editable : FilesMayBeEdited names files units old new target facts class means) (j : IsAcceptedRename names files units old new target facts class means) where
  abbrev offsets : ℕ → List ℕ
  offsets n = offsets_by_file class.places n

  abbrev goes : ℕ → ℕ → ℕ
  goes n at = shifted (offsets n) (length old) (length new) at

  module _ (path : Text) (n : ℕ) (bytes : List ℕ) (known : finding path files ≡ Present n bytes) where
    may : MayBeEdited (world_of files) (offsets_by_file class.places) old new n bytes
    may = subst (MayEdit (world_of files) (offsets_by_file class.places) old new) known (editable j path)

    abbrev after : List ℕ
    after = substituted (offsets n) (length old) new bytes

    abbrev moved : lexing.Token → lexing.Token
    moved = renamed_token (offsets n) old new

    tokens_after : (lexed after).tokens ≡ map moved (lexed bytes).tokens
    tokens_after = ap (λ (l : lexing.Lexed). l.tokens) (lexing_keeps bytes old new (offsets n) j.may.was j.may.is may.rise may.spelled)

    order_after : AreInOrder 0 (map moved (lexed bytes).tokens) (length after)
    order_after = subst (λ ts. AreInOrder 0 ts (length after)) tokens_after (order after)

    text_after : AllByRecursion HasText (map moved (lexed bytes).tokens)
    text_after = subst (AllByRecursion HasText) tokens_after (tokens_have_text after)

    length_after : length after ≡ goes n (length bytes)
    length_after = lengths (offsets n) (length old) new bytes (longer old j.may.was) may.rise

    tokens_apart : (t u : lexing.Token) → Contains (lexed bytes).tokens t → Contains (lexed bytes).tokens u → goes n t.at ≡ goes n u.at → t.at ≡ u.at
    tokens_apart t u c d e = apart_by moved (lexed bytes).tokens 0 (length bytes) 0 (length after) t u (order bytes) (tokens_have_text bytes) order_after text_after c d e

    before_end : (t : lexing.Token) → Contains (lexed bytes).tokens t → goes n t.at < goes n (length bytes)
    before_end t c = subst (λ k. goes n t.at < k) length_after (within 0 0 (map moved (lexed bytes).tokens) (length after) (moved t) order_after text_after (mapped_there moved (lexed bytes).tokens t c))

  finals_apart : (p q : Place) (t x : Token) → StandsIn files p t → StandsIn files q x → p.path.0 ≡ q.path.0 → goes p.path.0 p.offset ≡ goes q.path.0 q.offset → p ≡ q
  finals_apart p q t x a b f e =
      let same : b.bytes ≡ a.bytes = one_file numbers order stand keeps names files b.path a.path p.path.0 b.bytes a.bytes (b.found ∙ ap (λ i. Present i b.bytes) (sym f)) a.found in
      let other : Contains (lexed a.bytes).tokens b.token = subst (λ l. Contains (lexed l).tokens b.token) same b.among in
      let at : a.token.at ≡ b.token.at = tokens_apart a.path p.path.0 a.bytes a.found a.token b.token a.among other (ap (goes p.path.0) a.at ∙ e ∙ ap (λ i. goes i q.offset) (sym f) ∙ ap (goes p.path.0) (sym b.at)) in
      same_place p q f (sym a.at ∙ at ∙ b.at)

  end_apart : {u : Unit} (m : Meaning names (world_of files) u) (p q : Place) (t : Token) → StandsIn files p t → q ≡ place_in m.number (length m.bytes) → p.path.0 ≡ q.path.0 → goes p.path.0 p.offset ≡ goes q.path.0 q.offset → ⊥
  end_apart {u} m p q t a h f e =
      let number : q.path.0 ≡ m.number = ap (λ (z : Place). z.path.0) h in
      let same : m.bytes ≡ a.bytes = one_file numbers order stand keeps names files u.main a.path p.path.0 m.bytes a.bytes (m.main ∙ ap (λ i. Present i m.bytes) (sym (f ∙ number))) a.found in
      let w : goes p.path.0 a.token.at < goes p.path.0 (length a.bytes) = before_end a.path p.path.0 a.bytes a.found a.token a.among in
      let x : goes p.path.0 a.token.at ≡ goes p.path.0 p.offset = ap (goes p.path.0) a.at in
      let y : goes q.path.0 q.offset ≡ goes p.path.0 (length a.bytes) = ap (λ i. goes i q.offset) (sym f) ∙ ap (goes p.path.0) (ap (λ (z : Place). z.offset) h ∙ ap length same) in
      let z : goes p.path.0 a.token.at ≡ goes p.path.0 (length a.bytes) = x ∙ e ∙ y in
      omega (arith, w, z)

  shifts : ShiftsApart names files units means (renaming_of class old new).shift
  shifts p q (u, in_u, i, a) (v, in_v, k, b) e = by (from_place numbers order stand keeps names files (means u in_u) i p a) (from_place numbers order stand keeps names files (means v in_v) k q b)
    where
      file : p.path.0 ≡ q.path.0
      file = ap (λ (z : Place). z.path.0) e

      offset : goes p.path.0 p.offset ≡ goes q.path.0 q.offset
      offset = ap (λ (z : Place). z.offset) e

      by : ComesFrom numbers order stand keeps names files (means u in_u) i p → ComesFrom numbers order stand keeps names files (means v in_v) k q → p ≡ q
      by (final t c s n o) (final x d r l w) = finals_apart p q t x s.1 r.1 file offset
      by (final t c s n o) (ends h l) = absurd (end_apart (means v in_v) p q t s.1 h file offset)
      by (ends g n) (final x d r l w) = absurd (end_apart (means u in_u) q p x r.1 g (sym file) (sym offset))
      by (ends g n) (ends h l) =
          let number : (means u in_u).number ≡ (means v in_v).number = ap (λ (z : Place). z.path.0) (sym g) ∙ file ∙ ap (λ (z : Place). z.path.0) h in
          let same : (means u in_u).bytes ≡ (means v in_v).bytes = one_file numbers order stand keeps names files u.main v.main (means v in_v).number (means u in_u).bytes (means v in_v).bytes ((means u in_u).main ∙ ap (λ i. Present i (means u in_u).bytes) number) (means v in_v).main in
          g ∙ ap (λ i. place_in i (length (means u in_u).bytes)) number ∙ ap (λ l. place_in (means v in_v).number (length l)) same ∙ sym h

pub shifts_keep_apart : ShiftsKeepApart
shifts_keep_apart numbers order stand keeps lexing_keeps lengths names files units old new target facts class means editable j =
    shifts numbers order stand keeps lexing_keeps lengths names files units old new target facts class means editable j
