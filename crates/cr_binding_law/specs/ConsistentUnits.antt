-- What is so of the declarations and members of any unit, whatever its tree is.
use Rattle.std.specs.Prelude.{◌≡◌, List, ◌≤◌, true, false, length, map, Contains}
use Rattle.cr_ll.specs.Derivation.{Trees}
use Rattle.cr_scope.specs.declared.Space.TheVariants as space
use Rattle.cr_scope.specs.Linkage.{is_file_scope}
use Rattle.cr_capture.specs.Renaming.{AreAccepted}
use Rattle.cr_binding.specs.Source.{Source}
use Rattle.cr_binding.specs.State.{Declaration, Member, State}
use Rattle.cr_binding.specs.Entities.{entry, is_linked, is_typedef, is_typedef_kind}
use Rattle.cr_binding.specs.Binding.{bound}
use Rattle.cr_binding.specs.WellFormed.{IsWellFormed}
use Rattle.cr_binding.specs.MembersStay.{AreDistinct}

-- the member that is written in its record at the token of m, where m selects too
pub record IsWritten (ms : List Member) (m : Member) : Type 0 where
  pub itself : Member
  pub there : Contains ms itself
  pub own : itself.own ≡ itself.holder
  pub same_record : itself.own ≡ m.own
  pub same_token : itself.token ≡ m.token

pub record IsConsistent (t : Source) (s : State) : Type 0 where
  -- each declaration may stand beside those before it (C11 6.7p3, 6.2.2p7)
  pub accepted : AreAccepted (map (entry t) s.declarations)
  -- typedef names are ordinary identifiers (6.2.3)
  pub typedefs : (d : Declaration) → Contains s.declarations d → is_typedef d ≡ true → d.space ≡ space.Ordinary
  -- what has linkage is an object or a function (6.2.2p6)
  pub linked : (d : Declaration) → Contains s.declarations d → is_linked d ≡ true → (d.space ≡ space.Ordinary) × (is_typedef d ≡ false)
  -- a label belongs to a function, in the blocks of which it has no part of its own (6.2.1p3)
  pub labels : (d : Declaration) → Contains s.declarations d → d.space ≡ space.Label → length d.path ≤ 1
  -- a name selects one member of a record (6.7.2.1, 6.2.3)
  pub members : AreDistinct t s.members
  -- a member that an anonymous record brings in is written there (6.7.2.1p13)
  pub written : (m : Member) → Contains s.members m → IsWritten s.members m
  -- what a keyword announces is a tag
  pub keyword : is_typedef_kind s.keyword ≡ false

abbrev pub UnitsAreConsistent : Type 0
UnitsAreConsistent = (t : Source) (tree : Trees) → IsConsistent t (bound t tree)

-- no label stands at file scope (6.8)
abbrev pub LabelsAreInFunctions : State → Type 0
LabelsAreInFunctions s =
    (d : Declaration) → Contains s.declarations d → d.space ≡ space.Label → is_file_scope d.path ≡ false

-- The grammar has labels in functions alone (6.8.1, 6.9.1).
abbrev pub LabelsStandInFunctions : Type 0
LabelsStandInFunctions = (t : Source) (tree : Trees) → IsWellFormed t tree → LabelsAreInFunctions (bound t tree)
