-- How a unit ends over files that are known, for the renaming of one name to another: with its facts, with files that it
-- wants, or with the first cause for which it is ill-formed.
use Rattle.std.specs.Prelude.{◌≡◌, ◌⊎◌, ◌↔◌, ℕ, true, Err, List}
use Rattle.std.specs.FinSet.{contains}
use Rattle.cr_base.specs.declared.cause.IllCause.TheVariants as cause
use Rattle.cr_base.specs.declared.token.Place.{Place}
use Rattle.cr_base.specs.declared.unit.Unit.{Unit}
use Rattle.cr_macros.specs.Tokens.{Text}
use Rattle.cr_snapshot.specs.declared.known.KnownFile.{KnownFile}
use Rattle.cr_preproc.specs.declared.trace.Trace.{Trace}
use Rattle.cr_preproc.specs.Progressing.{kept}
use Rattle.cr_phase7.specs.Tokens.{tokens_of}
use Rattle.cr_ll.specs.Derivation.{Trees}
use Rattle.cr_facts.specs.FactOrder.{Facts}
use Rattle.cr_facts.specs.declared.fact.Fact.{Fact}
use Rattle.cr_binding.specs.Source.{Source}
use Rattle.cr_binding.specs.Binding.{bound}
use Rattle.cr_binding.specs.WellFormed.{IsWellFormed}
use Rattle.cr_binding.specs.UnitFacts.{Tells}
use Rattle.cr_keeps.specs.UnitFacts.{TraceTells}
use Rattle.cr_unit.specs.Preprocessing.{IsPreprocessed}
use Rattle.cr_unit.specs.Converting.{end_place, AreUnitTokens}
use Rattle.cr_unit.specs.declared.preprocessing.Whole.{Whole}
use Rattle.cr_unit.specs.declared.preprocessing.Preprocessed.TheVariants as preprocessed
use Rattle.cr_unit.specs.declared.converting.UnitTokens.{UnitTokens}
use Rattle.cr_reading.specs.Reading.{IsFirstCause}
use Rattle.cr_unit_end.specs.declared.unit.UnitEnd.{UnitEnd}
use Rattle.cr_unit_end.specs.declared.unit.UnitEnd.TheVariants as ended

-- the tokens as binding reads them
abbrev pub source : UnitTokens → Source
source t = record { texts = t.names; tokens = t.tokens.items }

-- These are exactly what the trace of a unit and the binding of its tree tell.
abbrev pub AreFacts : ℕ → Trace → UnitTokens → Trees → Facts → Type 0
AreFacts number trace t tree facts =
    (f : Fact) → (contains facts f ≡ true)
    ↔ (Tells number (source t) (bound (source t) tree) t.old t.new f ⊎ TraceTells (kept trace) f)

-- how tokens end: they are well-formed, and tell these facts with the trace; or they have this first cause
abbrev pub IsTokensEnd : ℕ → Trace → UnitTokens → UnitEnd → Type 0
IsTokensEnd number trace t (ended.Facts facts) =
    (tree : Trees) × IsWellFormed (source t) tree × AreFacts number trace t tree facts
IsTokensEnd number trace t (ended.Wants paths) = ⊥
IsTokensEnd number trace t (ended.Ill c p) = IsFirstCause (source t) c p

-- The final tokens of a unit become tokens, which end so; or one of them, the first, becomes none.
abbrev pub IsBehind : List KnownFile → Unit → Text → Text → Whole → UnitEnd → Type 0
IsBehind files u old new w end =
    ((t : UnitTokens) × AreUnitTokens w.names w.tokens.items (end_place files u.main) old new t
    × IsTokensEnd u.number w.trace t end)
    ⊎ ((p : Place) × (tokens_of w.names w.tokens.items ≡ Err p) × (end ≡ ended.Ill cause.BadToken p))

abbrev pub IsWholeEnd : List KnownFile → Unit → Text → Text → UnitEnd → Type 0
IsWholeEnd files u old new end =
    (w : Whole) × IsPreprocessed files u old new (preprocessed.Whole w) × IsBehind files u old new w end

abbrev pub IsUnitEnd : List KnownFile → Unit → Text → Text → UnitEnd → Type 0
IsUnitEnd files u old new (ended.Facts facts) = IsWholeEnd files u old new (ended.Facts facts)
IsUnitEnd files u old new (ended.Wants paths) = IsPreprocessed files u old new (preprocessed.Wants paths)
IsUnitEnd files u old new (ended.Ill c p) =
    IsPreprocessed files u old new (preprocessed.Ill c p) ⊎ IsWholeEnd files u old new (ended.Ill c p)
