-- The refusals that words and files decide, with what their lines say. Our own rules.
use Rattle.std.specs.Prelude.{ℕ, ◌≡◌, ◌++◌, List, Result, Ok, Err, codes}
use Rattle.cr_goal.specs.declared.refusal.Status.{Status}
use Rattle.cr_goal.specs.declared.refusal.Status.TheVariants as status
use Rattle.cr_goal.specs.declared.refusal.Refused.{Refused}
use Rattle.cr_goal.specs.declared.refusal.Refusal.{Refusal}
use Rattle.cr_goal.specs.declared.refusal.Refusal.TheVariants as refusal

-- the status that the program ends with
abbrev pub code_of : Status → ℕ
code_of status.Usage = 2
code_of status.Database = 3
code_of status.IllFormed = 5
code_of status.NoSymbol = 6
code_of status.Reserved = 7
code_of status.Macro = 8
code_of status.Mixed = 9
code_of status.Made = 10
code_of status.Unwritable = 11
code_of status.Spelling = 12
code_of status.Opaque = 13
code_of status.Capture = 14
code_of status.Limit = 19
code_of status.Unbuilt = 20

-- a refusal, and what its line says
abbrev pub refused : {A : Type 0} → Status → List ℕ → Result A Refused
refused kind text = Err (record { status = kind; text = text })

abbrev pub usage : {A : Type 0} → List ℕ → Result A Refused
usage word = refused status.Usage (codes "usage: " ++ word)

abbrev pub bad_database : {A : Type 0} → List ℕ → Result A Refused
bad_database what = refused status.Database (codes "database: " ++ what)

abbrev pub no_symbol : {A : Type 0} → Result A Refused
no_symbol = refused status.NoSymbol (codes "no symbol")

abbrev pub reserved : {A : Type 0} → List ℕ → Result A Refused
reserved name = refused status.Reserved (codes "reserved: " ++ name)

abbrev pub limit : {A : Type 0} → List ℕ → Result A Refused
limit what = refused status.Limit (codes "limit: " ++ what)

-- what isn't built yet, with what wants it
abbrev pub unbuilt : {A : Type 0} → List ℕ → Result A Refused
unbuilt what = refused status.Unbuilt (codes "unbuilt: " ++ what)

-- ---- the refusals of the code

-- A fact of a decided refusal. Of a read that failed, and of want of memory, nothing is said.
abbrev pub IfDecided : (Refused → Type 0) → Refusal → Type 0
IfDecided P (refusal.Decided r) = P r
IfDecided P (refusal.ReadFault path) = Unit {0}
IfDecided P refusal.OutOfMemory = Unit {0}

-- An answer is the defined one, unless a read or memory failed.
abbrev pub Answers : {V X : Type 0} → (V → X) → Result X Refused → Result V Refusal → Type 0
Answers view defined (Ok found) = defined ≡ Ok (view found)
Answers view defined (Err r) = IfDecided (λ d. defined ≡ Err d) r

-- a refusal of a kind, with what its line says, unless memory failed
abbrev pub IsRefusal : Status → List ℕ → Refusal → Type 0
IsRefusal kind text (refusal.Decided r) = r ≡ record { status = kind; text = text }
IsRefusal kind text (refusal.ReadFault path) = ⊥
IsRefusal kind text refusal.OutOfMemory = Unit {0}

-- a read that failed has its cause
abbrev pub HasCause : (List ℕ → Type 0) → Refusal → Type 0
HasCause Caused (refusal.Decided r) = Unit {0}
HasCause Caused (refusal.ReadFault path) = Caused path
HasCause Caused refusal.OutOfMemory = Unit {0}

abbrev pub HasReadCause : {V : Type 0} → (List ℕ → Type 0) → Result V Refusal → Type 0
HasReadCause Caused (Ok found) = Unit {0}
HasReadCause Caused (Err r) = HasCause Caused r
