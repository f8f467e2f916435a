-- The types that the binding of names tells apart, and the table that numbers them.
use Rattle.std.specs.Prelude.{◌≡◌, ◌⊎◌, ℕ, ◌<◌, Bool, Option, Some, List, [], ◌∷◌, ◌++◌, length, slice_get, slice_index_or, option_map, Contains}
use Rattle.cr_base.specs.declared.RecordKey.{RecordKey}
use Rattle.cr_types.specs.declared.TypeNo.{TypeNo}
use Rattle.cr_types.specs.declared.RecNo.{RecNo}
use Rattle.cr_types.specs.declared.Ty.{Ty}
use Rattle.cr_types.specs.declared.Ty.TheVariants as ty
use Rattle.cr_types.specs.declared.Part.{Part}
use Rattle.cr_types.specs.declared.Part.TheVariants as part
use Rattle.cr_types.specs.declared.Record.{Record}

-- A type of C11 6.2.5, as far as member names need it: void, the arithmetic types and enumerations as one,
-- pointers, arrays and functions by what they point to, hold and return, and a record by its number.
-- Mixed is our own: what a generic selection is whose results have different types.
pub data CType : Type 0 where
  Void : CType
  Arith : CType
  Mixed : CType
  Ptr : CType → CType
  Arr : CType → CType
  Fun : CType → CType
  Rec : ℕ → CType

-- The table: the types in order of their numbers, each of parts that have numbers, and the records in order of theirs.
pub record Table : Type 0 where
  pub types : List Ty
  pub records : List Record

abbrev pub no_types : Table
no_types = record { types = []; records = [] }

-- a number that the table gave
abbrev pub IsTypeNo : Table → TypeNo → Type 0
IsTypeNo t n = n.0 < length t.types

abbrev pub IsRecNo : Table → RecNo → Type 0
IsRecNo t r = r.0 < length t.records

-- the numbers in a type are below n, and its record's below m
abbrev pub IsBelow : ℕ → ℕ → Ty → Type 0
IsBelow n m ty.Void = Unit {0}
IsBelow n m ty.Arith = Unit {0}
IsBelow n m (ty.Ptr k) = k.0 < n
IsBelow n m (ty.Arr k) = k.0 < n
IsBelow n m (ty.Fun k) = k.0 < n
IsBelow n m (ty.Rec r) = r.0 < m
IsBelow n m ty.Mixed = Unit {0}

-- the numbers in a type are the table's
abbrev pub IsOfTable : Table → Ty → Type 0
IsOfTable t x = IsBelow (length t.types) (length t.records) x

-- what a type of numbered parts is, where cs are the types by number
abbrev pub meant : List CType → Ty → CType
meant cs ty.Void = Void
meant cs ty.Arith = Arith
meant cs (ty.Ptr n) = Ptr (slice_index_or cs n.0 Void)
meant cs (ty.Arr n) = Arr (slice_index_or cs n.0 Void)
meant cs (ty.Fun n) = Fun (slice_index_or cs n.0 Void)
meant cs (ty.Rec r) = Rec r.0
meant cs ty.Mixed = Mixed

-- the types of a list, each of parts before it, after the types cs
abbrev pub meant_after : List CType → List Ty → List CType
meant_after cs [] = cs
meant_after cs (x ∷ xs) = meant_after (cs ++ meant cs x ∷ []) xs

abbrev pub all_meant : Table → List CType
all_meant t = meant_after [] t.types

-- what a type of numbered parts is
abbrev pub type_of : Table → Ty → CType
type_of t x = meant (all_meant t) x

-- the type with a number
abbrev pub type_at : Table → TypeNo → CType
type_at t n = slice_index_or (all_meant t) n.0 Void

-- n is the number of x, and no other is
abbrev pub Numbers : Table → Ty → TypeNo → Type 0
Numbers t x n = (slice_get t.types n.0 ≡ Some x) × ((m : TypeNo) → slice_get t.types m.0 ≡ Some x → m ≡ n)

-- x is looked up among the types, and goes to their end where it isn't there
abbrev pub Adds : Table → Ty → Table → Type 0
Adds old x new =
    (Contains old.types x × (new ≡ old))
    ⊎ ((¬ Contains old.types x) × (new ≡ record { types = old.types ++ x ∷ []; records = old.records }))

-- each number that the old table gave is the new one's, for the same type or record
pub record Keeps (old new : Table) : Type 0 where
  pub types : (n : TypeNo) → IsTypeNo old n → IsTypeNo new n × (slice_get new.types n.0 ≡ slice_get old.types n.0) × (type_at new n ≡ type_at old n)
  pub records : (r : RecNo) → IsRecNo old r → IsRecNo new r × (slice_get new.records r.0 ≡ slice_get old.records r.0)

-- a type derived from another (C11 6.2.5p20)
abbrev pub derived : Part → CType → CType
derived part.Pointer c = Ptr c
derived part.Array c = Arr c
derived part.Function c = Fun c

-- the type derived from another by all parts, the outermost first
abbrev pub derived_by : List Part → CType → CType
derived_by [] c = c
derived_by (p ∷ ps) c = derived p (derived_by ps c)

abbrev pub key_at : Table → RecNo → Option RecordKey
key_at t r = option_map (λ x. x.key) (slice_get t.records r.0)

abbrev pub union_at : Table → RecNo → Option Bool
union_at t r = option_map (λ x. x.union) (slice_get t.records r.0)

abbrev pub with_record : Table → Record → Table
with_record t x = record { types = t.types; records = t.records ++ x ∷ [] }
