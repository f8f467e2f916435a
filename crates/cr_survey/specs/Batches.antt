-- The units go in batches of 64. What a batch wants is read, and then its first unit that is ill-formed or over a limit
-- refuses; else its units tell their facts. Our own rule.
use Rattle.std.specs.Prelude.{◌≡◌, ℕ, List, [], ◌∷◌, take, drop, Option, Some, None, Result, Ok, Err}
use Rattle.std.specs.Option.{option_and_then}
use Rattle.std.specs.List.{Contains}
use Rattle.std.specs.FinSet.{union}
use Rattle.cr_base.specs.declared.unit.Unit.{Unit as TranslationUnit}
use Rattle.cr_base.specs.declared.token.Place.{Place}
use Rattle.cr_base.specs.declared.cause.IllCause.{IllCause}
use Rattle.cr_facts.specs.FactOrder.{Facts}
use Rattle.cr_world.specs.Outside.{Files}
use Rattle.cr_snapshot.specs.Files.{Finding, Present, Absent, Unknown, finding}
use Rattle.cr_snapshot.specs.declared.known.KnownFile.{KnownFile}
use Rattle.cr_phase4.specs.Search.{words_path}
use Rattle.cr_growth.specs.Growth.{with_file, wanted, IsGrown}
use Rattle.cr_goal.specs.declared.refusal.Refused.{Refused}
use Rattle.cr_unit_end.specs.declared.unit.UnitEnd.TheVariants as ended
use Rattle.cr_unit_end.specs.UnitEnds.{IsUnitEnd}
use Rattle.cr_survey.specs.Refusals.{limit_files, bad_unit}

-- the text that a unit's command words make
abbrev pub words_file : TranslationUnit → KnownFile
words_file u = record { path = words_path u; found = Some u.words }

-- a file is made known, where its path isn't
abbrev pub unless_known : KnownFile → List KnownFile → Finding → Option (List KnownFile)
unless_known file files (Present n bytes) = Some files
unless_known file files Absent = Some files
unless_known file files Unknown = with_file file files

-- the texts of units' command words are made known, unless a limit on files is passed
abbrev pub with_words : List TranslationUnit → List KnownFile → Option (List KnownFile)
with_words [] files = Some files
with_words (u ∷ us) files = option_and_then (with_words us) (unless_known (words_file u) files (finding (words_path u) files))

-- what is known once a batch wants no more, if no limit is passed
abbrev pub knows_by : Files → List TranslationUnit → Option (List KnownFile) → Option (List KnownFile) → Type 0
knows_by tree batch None end = end ≡ None
knows_by tree batch (Some more) end = IsGrown tree batch more end

abbrev pub Knows : Files → List TranslationUnit → List KnownFile → Option (List KnownFile) → Type 0
Knows tree batch files end = knows_by tree batch (with_words batch files) end

-- some unit wants the path, over some files
abbrev pub LooksFor : List TranslationUnit → List ℕ → Type 0
LooksFor units path = (files : List KnownFile) × (u : TranslationUnit) × Contains units u × Contains (wanted files u) path

-- what is known, and what units tell
pub record Surveyed : Type 0 where
  pub files : List KnownFile
  pub facts : Facts

-- for the renaming of one name to another
module _ (old new : List ℕ) where
  -- What units tell over these files, with what was told before; or the refusal of the first that is ill-formed.
  pub data Tell (files : List KnownFile) : List TranslationUnit → Facts → Result Surveyed Refused → Type 0 where
    none : {facts : Facts} → Tell files [] facts (Ok (record { files = files; facts = facts }))
    tells : {u : TranslationUnit} {us : List TranslationUnit} {facts more : Facts} {end : Result Surveyed Refused}
        → IsUnitEnd files u old new (ended.Facts more) → Tell files us (union facts more) end → Tell files (u ∷ us) facts end
    refuses : {u : TranslationUnit} {us : List TranslationUnit} {facts : Facts} {c : IllCause} {p : Place}
        → IsUnitEnd files u old new (ended.Ill c p) → Tell files (u ∷ us) facts (Err (bad_unit files u.number p c))

  -- what comes of a batch
  pub data IsBatch (tree : Files) (batch : List TranslationUnit) : List KnownFile → Facts → Result Surveyed Refused → Type 0 where
    over : {files : List KnownFile} {facts : Facts} → Knows tree batch files None → IsBatch tree batch files facts (Err limit_files)
    ends : {files more : List KnownFile} {facts : Facts} {end : Result Surveyed Refused}
        → Knows tree batch files (Some more) → Tell more batch facts end → IsBatch tree batch files facts end

  -- what comes of units, by what is known and what was told before
  pub data AreSurveyed (tree : Files) : List TranslationUnit → List KnownFile → Facts → Result Surveyed Refused → Type 0 where
    done : {files : List KnownFile} {facts : Facts} → AreSurveyed tree [] files facts (Ok (record { files = files; facts = facts }))
    stops : {u : TranslationUnit} {us : List TranslationUnit} {files : List KnownFile} {facts : Facts} {r : Refused}
        → IsBatch tree (take 64 (u ∷ us)) files facts (Err r) → AreSurveyed tree (u ∷ us) files facts (Err r)
    goes_on : {u : TranslationUnit} {us : List TranslationUnit} {files : List KnownFile} {facts : Facts} {s : Surveyed} {end : Result Surveyed Refused}
        → IsBatch tree (take 64 (u ∷ us)) files facts (Ok s) → AreSurveyed tree (drop 64 (u ∷ us)) s.files s.facts end
        → AreSurveyed tree (u ∷ us) files facts end
