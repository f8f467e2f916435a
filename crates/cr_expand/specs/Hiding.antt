-- A hide set by number, with its texts.
use Rattle.std.specs.Prelude.{◌≡◌, ℕ, ◌<◌, List, length}
use Rattle.cr_macros.specs.Tokens.{Text}
use Rattle.cr_expand.specs.HideSets.{Sets, Grows}
use Rattle.cr_expand.specs.Held.{hidden, AreTables}

-- These texts are hidden by set n, and the sets before are kept.
pub record IsHidden (names : List Text) (old new : Sets) (n : ℕ) (hide : List Text) : Type 0 where
  pub grows : Grows old new
  pub tables : AreTables names new
  pub known : n < length new
  pub text : hidden names new n ≡ hide
