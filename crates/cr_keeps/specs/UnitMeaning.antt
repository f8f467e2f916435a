-- What a unit means where these files are known: its final tokens, its tree, and what each identifier of it denotes.
use Rattle.std.specs.Prelude.{ℕ, ◌≡◌, List, [], ◌∷◌, ◌++◌, length, map, bytes_eq, Ok, Contains}
use Rattle.std.specs.List.{AllByRecursion, position_or_len}
use Rattle.cr_base.specs.declared.token.Name.{Name}
use Rattle.cr_base.specs.declared.token.Place.{Place}
use Rattle.cr_base.specs.declared.token.PpTok.{PpTok}
use Rattle.cr_base.specs.declared.token.Tok.{Tok}
use Rattle.cr_base.specs.declared.unit.Unit.{Unit}
use Rattle.cr_snapshot.specs.Files.{Present}
use Rattle.cr_macros.specs.Tokens.{Text, Token}
use Rattle.cr_phase4.specs.Tasks.{Event, State as Preprocessed, Goes, Done}
use Rattle.cr_phase4.specs.Lines.{place_in}
use Rattle.cr_phase4.specs.Search.{World}
use Rattle.cr_phase4.specs.Preprocessing.{preprocessed}
use Rattle.cr_phase4.specs.PreprocessingRun.{final_tokens}
use Rattle.cr_phase7.specs.Tokens.{tokens_of, end_token}
use Rattle.cr_ll.specs.Derivation.{Trees}
use Rattle.cr_binding.specs.Source.{Source}
use Rattle.cr_binding.specs.State.{State}
use Rattle.cr_binding.specs.Binding.{bound}
use Rattle.cr_binding.specs.WellFormed.{IsWellFormed}

-- texts, each with its place in the list as its number
abbrev pub Names : Type 0
Names = List Text

-- each unit has its own list
abbrev pub Tables : Type 0
Tables = Unit → Names

abbrev pub number_of : Names → Text → Name
number_of names text = record { 0 = position_or_len (bytes_eq text) names }

-- a final token, with the number of its text
abbrev pub numbered : Names → Token → PpTok
numbered names t = record {
  kind = t.kind;
  text = number_of names t.text;
  origin = t.origin;
  site = t.site;
  line = t.line;
  end = t.end;
  space = t.space;
  first = t.first;
  joined = t.joined;
}

-- each spelling has a number, and so has the empty one of the end
pub record AreHeld (names : Names) (ts : List Token) : Type 0 where
  pub spellings : AllByRecursion (λ (t : Token). Contains names t.text) ts
  pub empty : Contains names []

-- tokens with the end behind them, at the place behind the last byte of the main file
abbrev pub source_of : Names → List Tok → Place → Source
source_of names before end = record { texts = names; tokens = before ++ end_token (number_of names []) end ∷ [] }

-- The unit is well-formed: its main file is there, it is preprocessed whole (C11 5.1.1.2, phases 1 to 4), each final token becomes a token (phases 5
-- to 7), they have this tree, and nothing is wrong with what its identifiers denote (6.5 to 6.9).
pub record Meaning (names : Tables) (w : World) (u : Unit) : Type 0 where
  pub number : ℕ
  pub bytes : List ℕ
  pub main : w.find u.main ≡ Present number bytes
  pub left : Preprocessed
  pub events : List Event
  pub whole : preprocessed w u ≡ Goes Done left events
  pub held : AreHeld (names u) (final_tokens events)
  pub before : List Tok
  pub become : tokens_of (names u) (map (numbered (names u)) (final_tokens events)) ≡ Ok before
  pub tree : Trees
  pub well_formed : IsWellFormed (source_of (names u) before (place_in number (length bytes))) tree

module _ {names : Tables} {w : World} {u : Unit} (m : Meaning names w u) where
  abbrev pub finals : List Token
  finals = final_tokens m.events

  abbrev pub source : Source
  source = source_of (names u) m.before (place_in m.number (length m.bytes))

  -- its declarations, and what its other identifiers denote
  abbrev pub binding : State
  binding = bound source m.tree
