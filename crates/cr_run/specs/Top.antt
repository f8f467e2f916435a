-- What the top call answers.
use Rattle.std.specs.Prelude.{ℕ, ◌≡◌, ◌⊎◌, List, Option, Some, Ok, Err}
use Rattle.cr_world.specs.Outside.{Files, Counts, Rose}
use Rattle.cr_run.specs.Outcome.{Outcome}

-- files that are told, and these
abbrev pub Holds : Option Files → Files → Type 0
Holds now files = (told : Files) × (now ≡ Some told) × ((path : List ℕ) → told path ≡ files path)

-- a status of a refusal that the words and the files decide
abbrev pub IsDecided : ℕ → Type 0
IsDecided status = (status ≡ 2) ⊎ (status ≡ 3) ⊎ (status ≡ 6) ⊎ (status ≡ 7) ⊎ (status ≡ 12) ⊎ (status ≡ 19) ⊎ (status ≡ 20)

-- no count of failed calls rose
abbrev pub NoneRose : Counts → Counts → Type 0
NoneRose before now = (path : List ℕ) → Rose (before path) (now path) → ⊥

abbrev pub decided_status : Outcome → ℕ
decided_status (Ok r) = 0
decided_status (Err r) = r.status
