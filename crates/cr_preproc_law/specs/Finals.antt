-- Where the final tokens of a unit come from.
use Rattle.std.specs.Prelude.{◌≡◌, ℕ, Bool, true, List, bytes_eq, codes}
use Rattle.std.specs.List.{AllByRecursion, Contains}
use Rattle.cr_base.specs.declared.token.Place.{Place}
use Rattle.cr_base.specs.declared.token.Origin.{Origin}
use Rattle.cr_base.specs.declared.token.Origin.TheVariants.{At, Made}
use Rattle.cr_base.specs.declared.unit.Unit.{Unit}
use Rattle.cr_snapshot.specs.Files.{Finding, Present, Absent, Unknown}
use Rattle.cr_macros.specs.Tokens.{Text, Token}
use Rattle.cr_expand_law.specs.Origins.{Test, MadePass, AllPass}
use Rattle.cr_phase4.specs.Tasks.{Event, State, Goes, Done}
use Rattle.cr_phase4.specs.Lines.{File, file_of, Line, Plain, Conditional, Directive, Empty, Wordless, line_of}
use Rattle.cr_snapshot.specs.declared.known.KnownFile.{KnownFile}
use Rattle.cr_phase4.specs.Search.{World, world_of}
use Rattle.cr_phase4.specs.Preprocessing.{preprocessed}
use Rattle.cr_phase4.specs.PreprocessingRun.{final_tokens}

-- the origins of a text line, and of what is behind the word of a `define`, pass
abbrev pub LinePasses : Test → List Token → Line → Type 0
LinePasses test tokens Plain = AllPass test tokens
LinePasses test tokens (Conditional hash t word ts) = Prim.Unit {0}
LinePasses test tokens (Directive hash t ts) = bytes_eq t.text (codes "define") ≡ true → AllPass test ts
LinePasses test tokens Empty = Prim.Unit {0}
LinePasses test tokens (Wordless hash) = Prim.Unit {0}

abbrev pub FilePasses : Test → File → Type 0
FilePasses test f = AllByRecursion (λ line. LinePasses test line (line_of line)) f.lines

abbrev pub FoundPasses : Test → Finding → Type 0
FoundPasses test (Present n bytes) = FilePasses test (file_of n bytes)
FoundPasses test Absent = Prim.Unit {0}
FoundPasses test Unknown = Prim.Unit {0}

-- Where the origins, kinds and spellings of all text lines and definitions pass a test, and so does that of a made token, the origins of the
-- final tokens pass it.
abbrev pub FinalsPass : Type 0
FinalsPass =
    (test : Test) (w : World) (u : Unit) (s : State) (events : List Event)
    → MadePass test → ((path : Text) → FoundPasses test (w.find path)) → preprocessed w u ≡ Goes Done s events → AllPass test (final_tokens events)

-- the place of a final token of some unit
abbrev pub IsFinalPlace : World → Place → Type 0
IsFinalPlace w place =
    (u : Unit) × (s : State) × (events : List Event) × (t : Token)
    × (preprocessed w u ≡ Goes Done s events) × Contains (final_tokens events) t × (t.origin ≡ At place)

-- a number is that of one file
abbrev pub IsNumbered : World → Type 0
IsNumbered w = (path other : Text) (n : ℕ) (bytes more : List ℕ) → w.find path ≡ Present n bytes → w.find other ≡ Present n more → bytes ≡ more

-- So is each number of a snapshot.
abbrev pub SnapshotsAreNumbered : Type 0
SnapshotsAreNumbered = (files : List KnownFile) → IsNumbered (world_of files)
