-- What the final tokens of a unit become (C11 5.1.1.2, phases 5 to 7).
use Rattle.std.specs.Prelude.{◌≡◌, ℕ, List, [], length, Some, slice_get, Err}
use Rattle.cr_base.specs.NameTable.{with_text}
use Rattle.cr_base.specs.declared.token.Place.{Place}
use Rattle.cr_base.specs.declared.token.PpTok.{PpTok}
use Rattle.cr_snapshot.specs.Files.{Finding, Present, Absent, Unknown, finding}
use Rattle.cr_snapshot.specs.declared.known.KnownFile.{KnownFile}
use Rattle.cr_phase7.specs.Tokens.{AreTokens, tokens_of}
use Rattle.cr_unit.specs.declared.converting.Converted.{Converted}
use Rattle.cr_unit.specs.declared.converting.Converted.TheVariants as converted
use Rattle.cr_unit.specs.declared.converting.UnitTokens.{UnitTokens}

abbrev pub place_at : ℕ → ℕ → Place
place_at path offset = record { path = record { 0 = path }; offset = offset }

abbrev pub end_by : Finding → Place
end_by (Present n bytes) = place_at n (length bytes)
end_by Absent = place_at 0 0
end_by Unknown = place_at 0 0

-- the place behind the main file's last byte, which the end of a unit has
abbrev pub end_place : List KnownFile → List ℕ → Place
end_place files main = end_by (finding main files)

-- Tokens with an end behind them, in a table that has the empty text and the two names behind those of the tokens.
pub record AreUnitTokens (texts : List (List ℕ)) (from : List PpTok) (end : Place) (old new : List ℕ) (t : UnitTokens) : Type 0 where
  pub tokens : AreTokens texts from end (with_text texts []) t.tokens.items
  pub names : t.names ≡ with_text (with_text (with_text texts []) old) new
  pub old_is : slice_get t.names t.old.0 ≡ Some old
  pub new_is : slice_get t.names t.new.0 ≡ Some new

abbrev pub IsConverted : List (List ℕ) → List PpTok → Place → (old new : List ℕ) → Converted → Type 0
IsConverted texts from end old new (converted.Tokens t) = AreUnitTokens texts from end old new t
IsConverted texts from end old new (converted.BadToken p) = tokens_of texts from ≡ Err p
