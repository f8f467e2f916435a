-- Declarations by slots, a slot being a name in a name space of one scope.
use Rattle.std.specs.Prelude.{◌≡◌, ℕ, ◌<◌, Bool, true, false, ◌&&◌, eqb, Some, List, [], length, slice_get}
use Rattle.cr_base.specs.declared.token.Name.{Name}
use Rattle.cr_base.specs.declared.Kind.{Kind}
use Rattle.cr_base.specs.declared.Kind.TheVariants as kind
use Rattle.cr_scope.specs.declared.Space.{Space}
use Rattle.cr_scope.specs.declared.Space.TheVariants as space
use Rattle.cr_scope.specs.declared.Decl.{Decl}
use Rattle.cr_scope.specs.Declarations.{Entry, same_space, same_name}
use Rattle.cr_scope.specs.Linkage.{has_linkage}
use Rattle.cr_scope.specs.Redeclaration.{clashes}
use Rattle.cr_paths.specs.Paths.{path_at, AreDistinct}
use Rattle.cr_declared.specs.declared.rows.Row.{Row}
use Rattle.cr_declared.specs.declared.rows.Slot.{Slot}

abbrev pub slot : ℕ → Space → Name → Slot
slot path sp name = record { path = path; space = sp; name = name }

abbrev pub same_slot : Slot → Slot → Bool
same_slot a b = eqb a.path b.path && (same_space a.space b.space && same_name a.name b.name)

-- the slot of a row
abbrev pub slot_of : Row → Slot
slot_of x = slot x.path x.decl.space x.decl.name

abbrev pub is_in : Slot → Row → Bool
is_in s x = same_slot s (slot_of x)

-- a row as a declaration with its path
abbrev pub entry_of : List (List ℕ) → Row → Entry
entry_of ps x = record { path = path_at ps x.path; decl = x.decl }

-- ---- what holds of the declarations of a unit

-- no two clash (C11 6.7p3, 6.2.2p7)
abbrev pub AreApart : List Entry → Type 0
AreApart es =
    (i j : ℕ) (d e : Entry) → slice_get es i ≡ Some d → slice_get es j ≡ Some e → i < j → clashes e d ≡ false

abbrev pub is_tag_kind : Kind → Bool
is_tag_kind kind.Struct = true
is_tag_kind kind.Union = true
is_tag_kind kind.Enum = true
is_tag_kind _ = false

abbrev pub is_typedef_kind : Kind → Bool
is_typedef_kind kind.Typedef = true
is_typedef_kind _ = false

abbrev pub is_linked_kind : Kind → Bool
is_linked_kind kind.Function = true
is_linked_kind kind.Object = true
is_linked_kind _ = false

-- Tags have a name space of their own, typedef names stand among the ordinary identifiers (6.2.3), and nothing but objects
-- and functions has linkage (6.2.2p6).
pub record IsFormed (d : Decl) : Type 0 where
  pub tags : same_space d.space space.Tag ≡ is_tag_kind d.kind
  pub types : is_typedef_kind d.kind ≡ true → d.space ≡ space.Ordinary
  pub linked : has_linkage d.linkage ≡ true → is_linked_kind d.kind ≡ true

abbrev pub AreFormed : List Entry → Type 0
AreFormed es = (i : ℕ) (e : Entry) → slice_get es i ≡ Some e → IsFormed e.decl

-- Rows stand in scopes that have numbers, number 0 being file scope's, and equal scopes have one number.
pub record AreRows (ps : List (List ℕ)) (rows : List Row) : Type 0 where
  pub distinct : AreDistinct ps
  pub file_scope : path_at ps 0 ≡ []
  pub within : (i : ℕ) (x : Row) → slice_get rows i ≡ Some x → x.path < length ps
