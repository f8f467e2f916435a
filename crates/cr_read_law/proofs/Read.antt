-- A unit that is read whole means its tokens.
use Rattle.std.proofs.Common.{◌≡◌, ℕ, List, [], ◌∷◌, ◌++◌, length, map, slice_get, slice_index_or, Some, refl, sym, ap, subst, ◌∙◌}
use Rattle.std.specs.Prelude.{Ok, Contains}
use Rattle.std.specs.List.{AllByRecursion}
use Rattle.cr_base.specs.NameTable.{IsDistinct, with_text}
use Rattle.cr_base.specs.declared.token.Name.{Name}
use Rattle.cr_base.specs.declared.token.Place.{Place}
use Rattle.cr_base.specs.declared.token.PpTok.{PpTok}
use Rattle.cr_base.specs.declared.token.Tok.{Tok}
use Rattle.cr_base.specs.declared.unit.Unit.{Unit}
use Rattle.cr_macros.specs.Tokens.{Text, Token, token_of, tokens_of}
use Rattle.cr_expand.specs.Expanders.{plain}
use Rattle.cr_preproc.specs.Seen.{IsNamed, AreNamed}
use Rattle.cr_phase7.specs.Tokens as phase7
use Rattle.cr_phase7.specs.Tokens.{end_token}
use Rattle.cr_binding.specs.Source.{Source}
use Rattle.cr_binding.specs.WellFormed.{IsWellFormed}
use Rattle.cr_ll.specs.Derivation.{Trees}
use Rattle.cr_phase4.specs.Tasks.{Event, State, Goes, Done}
use Rattle.cr_phase4.specs.Lines.{place_in}
use Rattle.cr_phase4.specs.PreprocessingRun.{final_tokens}
use Rattle.cr_phase4.specs.Preprocessing.{preprocessed}
use Rattle.cr_phase4.specs.Search.{world_of}
use Rattle.cr_snapshot.specs.Files.{Present, finding}
use Rattle.cr_snapshot.specs.declared.known.KnownFile.{KnownFile}
use Rattle.cr_unit.specs.Preprocessing.{IsWhole}
use Rattle.cr_unit.specs.Converting.{AreUnitTokens, place_at}
use Rattle.cr_unit.specs.declared.preprocessing.Whole.{Whole}
use Rattle.cr_unit.specs.declared.converting.UnitTokens.{UnitTokens}
use Rattle.cr_keeps.specs.UnitMeaning.{Tables, Meaning, number_of, numbered, AreHeld, source_of}
use Rattle.cr_read_law.specs.ReadUnits.{ReadUnitsMean, MeansRead, source}
use Rattle.cr_read_law.proofs.Tables.{Extends, extends_text, extends_more, with_distinct}
use Rattle.cr_read_law.proofs.Numbers.{numbered_at, text_stays, stands, stays, among}
use Rattle.cr_read_law.proofs.Converted.{Alike, tokens_alike}

abbrev of_token : Token → Name → PpTok
of_token t number = record {
  kind = t.kind;
  text = number;
  origin = t.origin;
  site = t.site;
  line = t.line;
  end = t.end;
  space = t.space;
  first = t.first;
  joined = t.joined;
}

module _ (texts names : List Text) (more : Extends texts names) (distinct : IsDistinct names) where
  -- a named token has its number where more texts stand behind
  numbered_one : (x : PpTok) (f : Token) → IsNamed texts x → token_of texts [] x ≡ plain f → numbered names f ≡ x
  numbered_one x f named e = rebuilt
    where
      text_is : f.text ≡ slice_index_or texts x.text.0 []
      text_is = sym (ap (λ (t : Token). t.text) e)

      number : number_of names f.text ≡ x.text
      number = ap (number_of names) text_is ∙ numbered_at names x.text.0 (slice_index_or texts x.text.0 []) distinct (stands texts names x.text.0 more named)

      rebuilt : numbered names f ≡ x
      rebuilt = ap (of_token f) number ∙ ap (λ t. of_token t x.text) (sym e)

  pub numbered_all : (xs : List PpTok) (fs : List Token) → AreNamed texts xs → tokens_of texts xs ≡ map plain fs → map (numbered names) fs ≡ xs
  numbered_all [] [] named e = refl
  numbered_all [] (f ∷ fs) named e = let bad : ⊥ = cc in absurd bad
  numbered_all (x ∷ xs) [] named e = let bad : ⊥ = cc in absurd bad
  numbered_all (x ∷ xs) (f ∷ fs) (one, rest) e =
      let head : token_of texts [] x ≡ plain f = cc in
      let tail : tokens_of texts xs ≡ map plain fs = cc in
      ap (λ y. y ∷ map (numbered names) fs) (numbered_one x f one head) ∙ ap (λ l. x ∷ l) (numbered_all xs fs rest tail)

  pub held_all : (xs : List PpTok) (fs : List Token) → AreNamed texts xs → tokens_of texts xs ≡ map plain fs → AllByRecursion (λ (t : Token). Contains names t.text) fs
  held_all [] [] named e = tt
  held_all [] (f ∷ fs) named e = let bad : ⊥ = cc in absurd bad
  held_all (x ∷ xs) [] named e = let bad : ⊥ = cc in absurd bad
  held_all (x ∷ xs) (f ∷ fs) (one, rest) e =
      let head : token_of texts [] x ≡ plain f = cc in
      let tail : tokens_of texts xs ≡ map plain fs = cc in
      let text_is : slice_index_or texts x.text.0 [] ≡ f.text = ap (λ (t : Token). t.text) head in
      (among names x.text.0 f.text (stands texts names x.text.0 more one ∙ ap (λ t. Some t) text_is), held_all xs fs rest tail)

  pub alike_all : (xs : List PpTok) → AreNamed texts xs → AllByRecursion (Alike names texts) xs
  alike_all [] named = tt
  alike_all (x ∷ xs) (one, rest) = (text_stays texts names x.text.0 more one, alike_all xs rest)

module _
    (files : List KnownFile) (u : Unit) (old new : Text) (w : Whole) (t : UnitTokens) (number : ℕ) (bytes : List ℕ)
    (main : finding u.main files ≡ Present number bytes)
    (s : State) (events : List Event) (gone : preprocessed (world_of files) u ≡ Goes Done s events)
    (iw : IsWhole old new events w)
    (ut : AreUnitTokens w.names w.tokens.items (place_at number (length bytes)) old new t)
  where
    abbrev with_empty : List Text
    with_empty = with_text w.names []

    more_behind : Extends with_empty t.names
    more_behind = subst (Extends with_empty) (sym ut.names) (extends_more with_empty (with_text with_empty old) (with_text (with_text with_empty old) new) (extends_text with_empty old) (extends_text (with_text with_empty old) new))

    more : Extends w.names t.names
    more = extends_more w.names with_empty t.names (extends_text w.names []) more_behind

    distinct : IsDistinct t.names
    distinct = subst IsDistinct (sym ut.names) (with_distinct (with_text with_empty old) new (with_distinct with_empty old (with_distinct w.names [] iw.distinct)))

    abbrev finals : List Token
    finals = final_tokens events

    abbrev before : List Tok
    before = ut.tokens.1

    abbrev end : Place
    end = place_in number (length bytes)

    empty_at : slice_get t.names ut.tokens.0.0 ≡ Some []
    empty_at = stays with_empty t.names ut.tokens.0.0 [] more_behind ut.tokens.4

    held : AreHeld t.names finals
    held = record {
      spellings = held_all w.names t.names more distinct w.tokens.items finals iw.named iw.tokens;
      empty = among t.names ut.tokens.0.0 [] empty_at;
    }

    become : phase7.tokens_of t.names (map (numbered t.names) finals) ≡ Ok before
    become =
        ap (phase7.tokens_of t.names) (numbered_all w.names t.names more distinct w.tokens.items finals iw.named iw.tokens)
        ∙ tokens_alike t.names w.names w.tokens.items (alike_all w.names t.names more distinct w.tokens.items iw.named)
        ∙ ut.tokens.2

    tokens_is : t.tokens.items ≡ before ++ end_token (number_of t.names []) end ∷ []
    tokens_is = ut.tokens.3 ∙ ap (λ (n : Name). before ++ end_token n end ∷ []) (sym (numbered_at t.names ut.tokens.0.0 [] distinct empty_at))

    abbrev of_tokens : List Tok → Source
    of_tokens ts = record { texts = t.names; tokens = ts }

    source_is : source t ≡ source_of t.names before end
    source_is = ap of_tokens tokens_is

    module _ (tree : Trees) (well : IsWellFormed (source t) tree) (names : Tables) (e : names u ≡ t.names) where
      abbrev meant : Meaning names (world_of files) u
      meant = record {
        number = number;
        bytes = bytes;
        main = main;
        left = s;
        events = events;
        whole = gone;
        held = subst (λ ns. AreHeld ns finals) (sym e) held;
        before = before;
        become = subst (λ ns. phase7.tokens_of ns (map (numbered ns) finals) ≡ Ok before) (sym e) become;
        tree = tree;
        well_formed = subst (λ ns. IsWellFormed (source_of ns before end) tree) (sym e) (subst (λ (one : Source). IsWellFormed one tree) source_is well);
      }

      pub means : (m : Meaning names (world_of files) u) × MeansRead m old new w t tree
      means = (
        meant,
        record {
          tokens = ap (λ ns. source_of ns before end) e ∙ sym source_is;
          tree_is = refl;
          old_is = ap (λ ns. number_of ns old) e ∙ numbered_at t.names t.old.0 old distinct ut.old_is;
          new_is = ap (λ ns. number_of ns new) e ∙ numbered_at t.names t.new.0 new distinct ut.new_is;
          trace = sym iw.trace;
        },
      )

pub read_units_mean : ReadUnitsMean
read_units_mean files u old new w t r tree well names e =
    means files u old new w t r.number r.bytes r.main r.whole.0 r.whole.1 r.whole.2 r.whole.3 r.tokens tree well names e
