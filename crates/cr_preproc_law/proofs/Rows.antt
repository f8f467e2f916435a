-- A worked example, computed: `foo` is renamed `bars` in the definition `#define M foo` and behind a use of it.
use Rattle.std.specs.Prelude.{◌≡◌, ℕ, ◌==◌, if◌then◌else◌, List, [], ◌∷◌, ◌++◌, map, codes, bytes_eq, refl}
use Rattle.cr_base.specs.declared.token.Place.{Place}
use Rattle.cr_base.specs.declared.unit.Unit.{Unit}
use Rattle.cr_base.specs.declared.cause.Role.TheVariants.{Final}
use Rattle.cr_snapshot.specs.BuiltIns.{is_built_in}
use Rattle.cr_snapshot.specs.Files.{Finding, Present, Absent}
use Rattle.cr_snapshot.specs.IncludeSearch.{is_words}
use Rattle.cr_lex.specs.Joins.{cells}
use Rattle.cr_lex.specs.Lexing.{longest, cut, lexed}
use Rattle.cr_lex.specs.Spellings.{token_kind, part_of}
use Rattle.cr_macros.specs.OneToken as one
use Rattle.cr_macros.specs.Tokens.{Token}
use Rattle.cr_macros.specs.Expansion.{expand}
use Rattle.cr_phase4.specs.Tasks.{events_of}
use Rattle.cr_phase4.specs.Search.{World}
use Rattle.cr_phase4.specs.Preprocessing.{preprocessed}
use Rattle.cr_phase4.specs.PreprocessingRun.{final_tokens}
use Rattle.cr_phase4.specs.Traces.{trace_of}
use Rattle.cr_preproc_law.specs.Renaming.{Places, edited_world}

abbrev the_unit : Unit
the_unit = record { number = 0; main = codes "a.c"; directory = []; quote_dirs = []; dirs = []; system_dirs = []; words = [] }

abbrev found : List ℕ → Finding
found path =
    if is_words path then Present 0 []
    else if bytes_eq path (codes "a.c") then Present 1 (codes "#define M foo" ++ 10 ∷ codes "M foo" ++ 10 ∷ []) else Absent

abbrev world : World
world = record { find = found; number = λ path. 1 }

abbrev places : Places
places n = if n == 1 then 10 ∷ 16 ∷ [] else []

abbrev finals : World → List (List ℕ × ℕ)
unfolding preprocessed expand is_built_in lexed cells cut longest part_of token_kind one.is_punctuator one.punctuators
finals w = map {A = Token} (λ t. (t.text, t.site.offset)) (final_tokens (events_of (preprocessed w the_unit)))

before : finals world ≡ (codes "foo", 14) ∷ (codes "foo", 16) ∷ []
unfolding preprocessed expand is_built_in lexed cells cut longest part_of token_kind one.is_punctuator one.punctuators
before = refl

behind : finals (edited_world places (codes "foo") (codes "bars") world) ≡ (codes "bars", 15) ∷ (codes "bars", 17) ∷ []
unfolding preprocessed expand is_built_in lexed cells cut longest part_of token_kind one.is_punctuator one.punctuators
behind = refl

abbrev here : ℕ → Place
here n = record { path = record { 0 = 1 }; offset = n }

-- each is a final token, and nothing more
its_trace : trace_of (codes "foo") (codes "bars") (events_of (preprocessed world the_unit))
    ≡ record { seen = record { place = here 10; role = Final } ∷ record { place = here 16; role = Final } ∷ []; new_macros = []; body_params = []; opaque = [] }
unfolding preprocessed expand is_built_in lexed cells cut longest part_of token_kind one.is_punctuator one.punctuators
its_trace = refl
