-- The laws of the facts of texts of the small form.
use Rattle.std.specs.Prelude.{ℕ, ◌≡◌, ◌≢◌, false, List, Option}
use Rattle.std.specs.FinSet.{contains}
use Rattle.cr_base.specs.declared.token.Place.{Place}
use Rattle.cr_base.specs.declared.key.Key.{Key}
use Rattle.cr_base.specs.declared.key.Key.TheVariants as key
use Rattle.cr_lex.specs.Lexing.{Token, lexed}
use Rattle.cr_small.specs.Keys as small
use Rattle.cr_small.specs.SmallForm.{IsSmallForm}
use Rattle.cr_small.specs.Laws.{IsNameOf}
use Rattle.cr_small.specs.Renaming.{places_of}
use Rattle.cr_small.specs.declared.binder.Denotation.{Denotation}
use Rattle.cr_facts.specs.FactOrder.{Facts}
use Rattle.cr_facts.specs.declared.fact.Fact.TheVariants as fact
use Rattle.cr_small_facts.specs.TextFacts.{place, key_over, text_facts}
use Rattle.cr_small_facts.specs.Places.{ArePlaces}

-- Facts have one list of places of a key in a file.
abbrev pub PlacesAreOne : Type 0
PlacesAreOne = (facts : Facts) (file : ℕ) (k : Key) (one other : List ℕ) → ArePlaces facts file k one → ArePlaces facts file k other → one ≡ other

-- The facts of a text tell the places of each entity that has the old name,
abbrev pub TellsPlaces : Type 0
TellsPlaces =
    (bytes old : List ℕ) (k : small.Key) (denotes : List (Option Denotation)) (file : ℕ) → IsSmallForm (lexed bytes) denotes → IsNameOf old k (lexed bytes).tokens denotes
    → ArePlaces (text_facts file old (lexed bytes).tokens denotes) file (key_over file k) (places_of k (lexed bytes).tokens denotes)

-- and say nothing of places in another file, nor of entities without external linkage that another file declares.
abbrev pub TellsOwn : Type 0
TellsOwn =
    (file : ℕ) (old : List ℕ) (tokens : List Token) (denotes : List (Option Denotation)) (other : ℕ) → other ≢ file
    → ((offset : ℕ) (k : Key) → contains (text_facts file old tokens denotes) (fact.Denotes (place other offset) k) ≡ false)
    × ((p : Place) (offset : ℕ) → contains (text_facts file old tokens denotes) (fact.Denotes p (key.At (place other offset))) ≡ false)
