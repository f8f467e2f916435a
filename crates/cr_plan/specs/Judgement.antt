-- Whether what is meant may be renamed, over the facts of all units.
use Rattle.std.specs.Prelude.{◌↔◌, ℕ, List, ◌∷◌, ◌++◌, Option, Some, None, Result, Ok, Err, codes, if◌then◌else◌}
use Rattle.std.specs.List.{Contains}
use Rattle.std.specs.List.Sorted.{IsStrictlySortedBy}
use Rattle.cr_base.specs.Names.{is_identifier}
use Rattle.cr_base.specs.declared.cause.Role.{Role}
use Rattle.cr_base.specs.declared.cause.Role.TheVariants as role
use Rattle.cr_base.specs.declared.token.Place.{Place}
use Rattle.cr_base.specs.declared.key.Key.{Key}
use Rattle.cr_facts.specs.FactOrder.{Facts}
use Rattle.cr_snapshot.specs.declared.known.KnownFile.{KnownFile}
use Rattle.cr_class.specs.RenameClass.{IsTargetKey, InClass, IsRenamedPlace, key_cmp, place_cmp}
use Rattle.cr_class.specs.Accepted.{NothingRefuses}
use Rattle.cr_class.specs.Verdict.{IsFirstRefusal}
use Rattle.cr_class.specs.declared.class.Class.{Class}
use Rattle.cr_class.specs.declared.target.Target.{Target}
use Rattle.cr_class.specs.declared.refusal.Refusal.{Refusal}
use Rattle.cr_class.specs.declared.refusal.Refusal.TheVariants as refusal
use Rattle.cr_goal.specs.Refusals.{no_symbol}
use Rattle.cr_goal.specs.declared.refusal.Status.{Status}
use Rattle.cr_goal.specs.declared.refusal.Status.TheVariants as status
use Rattle.cr_goal.specs.declared.refusal.Refused.{Refused}
use Rattle.cr_survey.specs.Refusals.{place_text}
use Rattle.cr_plan.specs.declared.meaning.Meant.{Meant}

abbrev pub role_name : Role → List ℕ
role_name role.Final = codes "final"
role_name role.MacroName = codes "macro-name"
role_name role.Param = codes "param"
role_name role.Controlling = codes "controlling"
role_name role.Directive = codes "directive"
role_name role.Stringized = codes "stringized"
role_name role.Pasted = codes "pasted"
role_name role.Opaque = codes "opaque"
role_name role.Dropped = codes "dropped"

abbrev pub at_place : Status → List ℕ → List KnownFile → Place → Refused
at_place kind what files p = record { status = kind; text = what ++ place_text files p }

-- a verdict that refuses, with what its line says
abbrev pub refused_by : List KnownFile → List ℕ → Refusal → Refused
refused_by files new refusal.Reserved = record { status = status.Reserved; text = codes "reserved: " ++ new }
refused_by files new (refusal.NewIsMacro p) = at_place status.Macro (codes "macro: ") files p
refused_by files new (refusal.Mixed p r) =
    record { status = status.Mixed; text = codes "mixed: " ++ place_text files p ++ 32 ∷ role_name r }
refused_by files new (refusal.Made p) = at_place status.Made (codes "made: ") files p
refused_by files new (refusal.Unwritable p) = at_place status.Unwritable (codes "unwritable: ") files p
refused_by files new (refusal.Spelling p) = at_place status.Spelling (codes "spelling: ") files p
refused_by files new (refusal.Opaque p) = at_place status.Opaque (codes "opaque: ") files p
refused_by files new (refusal.Capture p) = at_place status.Capture (codes "capture: ") files p

-- The entities that a rename takes together, and where they stand; each once, in order.
pub record IsClass (files : List KnownFile) (facts : Facts) (old : List ℕ) (t : Target) (class : Class) : Type 0 where
  pub keys : (k : Key) → Contains class.keys k ↔ InClass files facts old t k
  pub keys_rise : IsStrictlySortedBy key_cmp class.keys
  pub places : (p : Place) → Contains class.places p ↔ IsRenamedPlace files facts old t p
  pub places_rise : IsStrictlySortedBy place_cmp class.places

-- it means something that can be renamed
abbrev pub HasSymbol : List KnownFile → Facts → List ℕ → Target → Type 0
HasSymbol files facts old t = (k : Key) × IsTargetKey files facts old t k

-- What is meant by a name that is an identifier (C11 6.4.2.1); any other names nothing.
abbrev pub named : Meant → Option Target
named m = if is_identifier m.old then m.target else None

-- There is nothing that can be renamed; or the first refusal of a verdict; or no refusal holds, and these are the places.
pub data IsJudged (files : List KnownFile) (facts : Facts) (root : Option (List ℕ)) (old new : List ℕ) : Option Target → Result (List Place) Refused → Type 0 where
  no_name : IsJudged files facts root old new None no_symbol
  nothing : {t : Target} → ((k : Key) → IsTargetKey files facts old t k → ⊥) → IsJudged files facts root old new (Some t) no_symbol
  refuses : {t : Target} (class : Class) (r : Refusal) → HasSymbol files facts old t → IsClass files facts old t class
      → IsFirstRefusal facts class files root old new r → IsJudged files facts root old new (Some t) (Err (refused_by files new r))
  accepts : {t : Target} (class : Class) → HasSymbol files facts old t → IsClass files facts old t class
      → NothingRefuses facts class files root old new → IsJudged files facts root old new (Some t) (Ok class.places)
