-- How a unit ends, from what its parts answer.
use Rattle.std.proofs.Common.{◌≡◌, ◌<◌, ◌≤◌, ◌+◌, ℕ, zero, suc, Bool, true, false, Some, List, [], ◌∷◌, ◌++◌, length, slice_get, if◌then◌else◌, sym, ap, subst, ◌∙◌, inl, inr, arith, length-append}
use Rattle.std.specs.Prelude.{bytes_eq}
use Rattle.std.specs.List.{AllByRecursion, list_any}
use Rattle.std.proofs.lemmas.Option.{slice_get_within}
use Rattle.cr_base.specs.NameTable.{with_text}
use Rattle.cr_base.specs.declared.token.Place.{Place}
use Rattle.cr_base.specs.declared.token.PpTok.{PpTok}
use Rattle.cr_base.specs.declared.token.Tok.{Tok}
use Rattle.cr_base.specs.declared.unit.Unit.{Unit}
use Rattle.cr_base.specs.declared.cause.IllCause.TheVariants as cause
use Rattle.cr_snapshot.specs.declared.known.KnownFile.{KnownFile}
use Rattle.cr_macros.specs.Tokens.{Text}
use Rattle.cr_phase7.specs.Tokens.{end_token}
use Rattle.cr_ll.specs.Derivation.{Trees}
use Rattle.cr_binding.specs.State.{start}
use Rattle.cr_binding.specs.WellFormed.{IsWellFormed}
use Rattle.cr_groups.specs.Rows.{source_of}
use Rattle.cr_operands.specs.Operands.{with_operands}
use Rattle.cr_unit.specs.Converting.{end_place, AreUnitTokens, IsConverted}
use Rattle.cr_unit.specs.declared.converting.Converted.{Converted}
use Rattle.cr_unit.specs.declared.converting.Converted.TheVariants as converted
use Rattle.cr_unit.specs.Preprocessing.{IsPreprocessed}
use Rattle.cr_unit.specs.declared.preprocessing.Preprocessed.{Preprocessed}
use Rattle.cr_unit.specs.declared.preprocessing.Preprocessed.TheVariants as preprocessed
use Rattle.cr_unit.specs.declared.preprocessing.Whole.{Whole}
use Rattle.cr_unit.specs.declared.converting.UnitTokens.{UnitTokens}
use Rattle.cr_bound.specs.declared.bound.Bound.{Bound}
use Rattle.cr_bound_facts.specs.Bound.{HaveTexts, IsKeptOf}
use Rattle.cr_sema.specs.declared.sema.Sema.{Sema}
use Rattle.cr_reading.specs.Reading.{IsBound}
use Rattle.cr_unit_end.specs.declared.unit.UnitEnd.{UnitEnd}
use Rattle.cr_unit_end.specs.declared.unit.UnitEnd.TheVariants as ended
use Rattle.cr_unit_end.specs.UnitEnds.{source, IsTokensEnd, IsBehind, IsUnitEnd}
use Rattle.cr_unit_end.proofs.Counting.{IsBelow, tokens_few}

-- ---- tables of texts

more_by : (b : Bool) (texts : List Text) (text : Text) → length texts ≤ length (if b then texts else texts ++ text ∷ [])
more_by true texts text = grind arith
more_by false texts text = (let e : length (texts ++ text ∷ []) ≡ length texts + length (text ∷ []) = length-append texts (text ∷ []) in omega (arith, e))

more_texts : (texts : List Text) (text : Text) → length texts ≤ length (with_text texts text)
more_texts texts text = more_by (list_any (bytes_eq text) texts) texts text

-- ---- tokens

below_all : (n m : ℕ) (ts : List Tok) → n ≤ m → AllByRecursion (IsBelow n) ts → (t : Tok) → t.text.0 < m → AllByRecursion (IsBelow m) (ts ++ t ∷ [])
below_all n m [] le h t k = (k, tt)
below_all n m (x ∷ ts) le h t k = ((let y = h.0 in omega (arith, y, le)), below_all n m ts le h.1 t k)

all_at : (n : ℕ) (ts : List Tok) → AllByRecursion (IsBelow n) ts → (i : ℕ) (x : Tok) → slice_get ts i ≡ Some x → x.text.0 < n
all_at n [] h i x is = cc
all_at n (t ∷ ts) h zero x is = subst (λ (z : Tok). z.text.0 < n) (let e : t ≡ x = cc in e) h.0
all_at n (t ∷ ts) h (suc i) x is = all_at n ts h.1 i x is

-- what is so of the tokens of a unit: their texts have numbers, and they are few
pub record AreRead (texts : List Text) (tokens : List Tok) : Type 0 where
  pub have : HaveTexts texts tokens
  pub short : length tokens ≤ 1048577

module _ (names : List Text) (from : List PpTok) (end : Place) (old new : Text) (t : UnitTokens) (made : AreUnitTokens names from end old new t)
    (named : AllByRecursion (λ (x : PpTok). x.text.0 < length names) from) (within : length from ≤ 1048576) where
  abbrev with_end : List Text
  with_end = with_text names []

  texts_grow : length with_end ≤ length t.names
  texts_grow =
      let a = more_texts with_end old in
      let b = more_texts (with_text with_end old) new in
      let e : length t.names ≡ length (with_text (with_text with_end old) new) = ap length made.names in
      omega (arith, a, b, e)

  pub are_read : AreRead t.names t.tokens.items
  are_read =
      let k = made.tokens in
      let few = tokens_few names (length names) from k.1 named k.2 in
      let grown = more_texts names [] in
      let last : k.0.0 < length with_end = slice_get_within with_end k.0.0 [] k.4 in
      let more : length names ≤ length t.names = (let g = texts_grow in omega (arith, grown, g)) in
      let below : k.0.0 < length t.names = (let g = texts_grow in omega (arith, last, g)) in
      let all = below_all (length names) (length t.names) k.1 more few.texts (end_token k.0 end) below in
      let len : length t.tokens.items ≡ length (k.1 ++ end_token k.0 end ∷ []) = ap length k.3 in
      let sum : length (k.1 ++ end_token k.0 end ∷ []) ≡ length k.1 + length (end_token k.0 end ∷ []) = length-append k.1 (end_token k.0 end ∷ []) in
      let f = few.few in
      record {
        have = λ i x is. all_at (length t.names) (k.1 ++ end_token k.0 end ∷ []) all i x (ap (λ (zs : List Tok). slice_get zs i) (sym k.3) ∙ is);
        short = omega (arith, len, sum, f, within);
      }

-- ---- facts

-- what is kept of a well-formed unit
pub kept_of : (t : UnitTokens) (x : Sema) (b : Bound) → b ≡ x.walk.binder.binding.bound → (zs : List Tok) → zs ≡ t.tokens.items → IsBound (source t) x
    → (tree : Trees) × IsWellFormed (source_of t.names zs) tree × IsKeptOf (source_of t.names zs) b tree
kept_of t x b is zs same bound =
    let h = bound.1 in
    let k : IsKeptOf (source t) x.walk.binder.binding.bound h.tree = record {
      spelled = h.of.ready.spelled;
      types = x.walk.binder.binding.types;
      rest = with_operands x.walk.binder.binding.types x.walk.binder.binding.operands start;
      state = h.state;
    } in
    subst (λ ys. (tree : Trees) × IsWellFormed (source_of t.names ys) tree × IsKeptOf (source_of t.names ys) b tree) (sym same)
    (h.tree, h.well_formed, subst (λ z. IsKeptOf (source t) z h.tree) (sym is) k)

-- ---- a unit that is preprocessed whole

module _ (names : List Text) (from zs : List PpTok) (same : zs ≡ from) (end : Place) (old new : Text) (t : UnitTokens) (r : Converted)
    (is : r ≡ converted.Tokens t) (made : IsConverted names zs end old new r) where
  pub made_of : AreUnitTokens names from end old new t
  made_of = subst (λ ys. AreUnitTokens names ys end old new t) same (subst (IsConverted names zs end old new) is made)

  pub read_of : AllByRecursion (λ (x : PpTok). x.text.0 < length names) from → length from ≤ 1048576 → AreRead t.names t.tokens.items
  read_of named within = are_read names from end old new t made_of named within

-- its tokens end so
pub ends_so : (files : List KnownFile) (u : Unit) (old new : Text) (w : Whole) (end : Place) → end ≡ end_place files u.main → (t : UnitTokens)
    → AreUnitTokens w.names w.tokens.items end old new t → (e : UnitEnd) → IsTokensEnd u.number w.trace t e → IsBehind files u old new w e
ends_so files u old new w end is t made e ends = inl (t, subst (λ p. AreUnitTokens w.names w.tokens.items p old new t) is made, ends)

abbrev IsWanting : UnitEnd → Type 0
IsWanting (ended.Facts facts) = ⊥
IsWanting (ended.Wants paths) = Prim.Unit {0}
IsWanting (ended.Ill c p) = ⊥

-- no unit that is preprocessed whole wants files
wants_none : (p : Place) (e : UnitEnd) → e ≡ ended.Ill cause.BadToken p → IsWanting e → ⊥
wants_none p e is h = subst IsWanting is h

-- and so the unit ends
pub unit_ends : (files : List KnownFile) (u : Unit) (old new : Text) (w : Whole) (r : Preprocessed) → r ≡ preprocessed.Whole w → IsPreprocessed files u old new r
    → (e : UnitEnd) → IsBehind files u old new w e → IsUnitEnd files u old new e
unit_ends files u old new w r is pre (ended.Facts facts) h = (w, subst (IsPreprocessed files u old new) is pre, h)
unit_ends files u old new w r is pre (ended.Wants paths) (inl x) = absurd x.2
unit_ends files u old new w r is pre (ended.Wants paths) (inr x) = absurd (wants_none x.0 (ended.Wants paths) x.2 tt)
unit_ends files u old new w r is pre (ended.Ill c p) h = inr (w, subst (IsPreprocessed files u old new) is pre, h)
