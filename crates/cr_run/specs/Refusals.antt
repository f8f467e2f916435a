-- The code's refusals as those that the words and the files decide.
use Rattle.std.specs.Prelude.{ℕ, ◌≡◌, List, [], ◌++◌, Result, Ok, Err, codes}
use Rattle.cr_run.specs.Goal.{Refused}
use Rattle.cr_run.specs.declared.refusal.Refusal.{Refusal}
use Rattle.cr_run.specs.declared.refusal.Refusal.TheVariants as refusal

abbrev pub status_of : Refusal → ℕ
status_of (refusal.Usage word) = 2
status_of (refusal.Database text) = 3
status_of (refusal.ReadFault path) = 4
status_of refusal.NoSymbol = 6
status_of (refusal.Reserved name) = 7
status_of (refusal.Spelling place) = 12
status_of refusal.OutOfMemory = 17
status_of refusal.LimitUnits = 19
status_of refusal.LimitFiles = 19
status_of (refusal.UnbuiltOption option) = 20
status_of (refusal.Unbuilt path) = 20

-- the words that a line begins with
abbrev pub lead_of : Refusal → List ℕ
lead_of (refusal.Usage word) = codes "usage: "
lead_of (refusal.Database text) = codes "database: "
lead_of (refusal.ReadFault path) = codes "read fault: "
lead_of refusal.NoSymbol = codes "no symbol"
lead_of (refusal.Reserved name) = codes "reserved: "
lead_of (refusal.Spelling place) = codes "spelling: "
lead_of refusal.OutOfMemory = codes "out of memory"
lead_of refusal.LimitUnits = codes "limit: units"
lead_of refusal.LimitFiles = codes "limit: files"
lead_of (refusal.UnbuiltOption option) = codes "unbuilt: "
lead_of (refusal.Unbuilt path) = codes "unbuilt: "

-- what a line names
abbrev pub rest_of : Refusal → List ℕ
rest_of (refusal.Usage word) = word.now
rest_of (refusal.Database text) = text
rest_of (refusal.ReadFault path) = path
rest_of refusal.NoSymbol = []
rest_of (refusal.Reserved name) = name.now
rest_of (refusal.Spelling place) = place
rest_of refusal.OutOfMemory = []
rest_of refusal.LimitUnits = []
rest_of refusal.LimitFiles = []
rest_of (refusal.UnbuiltOption option) = option.now
rest_of (refusal.Unbuilt path) = path

abbrev pub text_of : Refusal → List ℕ
text_of r = lead_of r ++ rest_of r

abbrev pub refused_of : Refusal → Refused
refused_of r = record { status = status_of r; text = text_of r }

-- a fact, unless the refusal is of the outside
abbrev pub IfDecided : Type 0 → Refusal → Type 0
IfDecided P (refusal.Usage word) = P
IfDecided P (refusal.Database text) = P
IfDecided P (refusal.ReadFault path) = Unit {0}
IfDecided P refusal.NoSymbol = P
IfDecided P (refusal.Reserved name) = P
IfDecided P (refusal.Spelling place) = P
IfDecided P refusal.OutOfMemory = Unit {0}
IfDecided P refusal.LimitUnits = P
IfDecided P refusal.LimitFiles = P
IfDecided P (refusal.UnbuiltOption option) = P
IfDecided P (refusal.Unbuilt path) = P

-- An answer is the defined one, unless a read or memory failed.
abbrev pub Answers : {V X : Type 0} → (V → X) → Result X Refused → Result V Refusal → Type 0
Answers view defined (Ok found) = defined ≡ Ok (view found)
Answers view defined (Err r) = IfDecided (defined ≡ Err (refused_of r)) r
