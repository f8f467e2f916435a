-- A unit has one meaning in a world.
use Rattle.std.specs.Prelude.{◌≡◌, ℕ, List, length, map}
use Rattle.std.proofs.Common.{sym, ◌∙◌, ap, subst}
use Rattle.cr_base.specs.declared.token.Tok.{Tok}
use Rattle.cr_base.specs.declared.unit.Unit.{Unit}
use Rattle.cr_phase4.specs.Lines.{place_in}
use Rattle.cr_phase4.specs.PreprocessingRun.{final_tokens}
use Rattle.cr_phase4.specs.Search.{World}
use Rattle.cr_phase4.specs.Tasks.{Event}
use Rattle.cr_phase7.specs.Tokens.{tokens_of}
use Rattle.cr_binding.specs.Source.{Source}
use Rattle.cr_binding.specs.WellFormed.{IsWellFormed}
use Rattle.cr_unit_law.specs.OneMeaning.{UnitsHaveOneTree}
use Rattle.cr_keeps.specs.UnitMeaning.{Tables, numbered, Meaning, source, source_of}
use Rattle.cr_keeps.specs.OneMeaning.{MeaningsAreOne}

module _ {names : Tables} {w : World} {u : Unit} (m k : Meaning names w u) where
  numbers : m.number ≡ k.number
  numbers = let e = sym m.main ∙ k.main in cc

  texts : m.bytes ≡ k.bytes
  texts = let e = sym m.main ∙ k.main in cc

  events : m.events ≡ k.events
  events = let e = sym m.whole ∙ k.whole in cc

  befores : m.before ≡ k.before
  befores =
      let e = sym m.become ∙ ap (λ (es : List Event). tokens_of (names u) (map (numbered (names u)) (final_tokens es))) events ∙ k.become in cc

  -- so the tokens are the same
  pub one_source : source m ≡ source k
  one_source =
      ap (λ (l : List Tok). source_of (names u) l (place_in m.number (length m.bytes))) befores
      ∙ ap (λ (n : ℕ). source_of (names u) k.before (place_in n (length m.bytes))) numbers
      ∙ ap (λ (l : List ℕ). source_of (names u) k.before (place_in k.number (length l))) texts

pub meanings_are_one : UnitsHaveOneTree → MeaningsAreOne
meanings_are_one one names w u m k =
    record {
      number = sym (numbers m k);
      bytes = sym (texts m k);
      events = sym (events m k);
      tokens = sym (befores m k);
      tree = sym (one (source k) m.tree k.tree (subst (λ (t : Source). IsWellFormed t m.tree) (one_source m k) m.well_formed) k.well_formed).0;
    }
