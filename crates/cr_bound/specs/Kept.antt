-- How what is bound of a unit is kept, and what binding sees of it.
use Rattle.std.specs.Prelude.{◌≡◌, ℕ, option_map, IfSome}
use Rattle.cr_base.specs.declared.Kind.{Kind}
use Rattle.cr_base.specs.declared.Kind.TheVariants as kind
use Rattle.cr_base.specs.declared.key.TagKind.{TagKind}
use Rattle.cr_base.specs.declared.key.TagKind.TheVariants as tag
use Rattle.cr_types.specs.declared.RecNo.{RecNo}
use Rattle.cr_types.specs.declared.TypeNo.{TypeNo}
use Rattle.cr_types.specs.Types.{CType, Void, Arith, Mixed, Fun, Table, IsTypeNo, IsRecNo, type_at}
use Rattle.cr_binding.specs.Source.{Source}
use Rattle.cr_binding.specs.State.{Pending, State}
use Rattle.cr_records.specs.Kept.{IsOf as AreOf}
use Rattle.cr_records.specs.Records.{with_records, AreSpelled as AreRecordsSpelled}
use Rattle.cr_names.specs.Kept.{IsOf, AreSpelled as AreNamesSpelled}
use Rattle.cr_names.specs.Names.{with_names}
use Rattle.cr_bound.specs.declared.pending.Pending.{Pending as Gathered}
use Rattle.cr_bound.specs.declared.place.Place.{Place}
use Rattle.cr_bound.specs.declared.bound.Basics.{Basics}
use Rattle.cr_bound.specs.declared.bound.Bound.{Bound}

-- ---- what is seen

-- what a declaration has gathered
abbrev pub pending_by : Table → Gathered → Pending
pending_by t p =
    record {
      specifiers = p.specifiers;
      last_basic = p.last_basic;
      base = option_map (type_at t) p.base;
      is_untagged = p.is_untagged;
      name = p.name;
      parameters = p.parameters;
    }

abbrev pub with_pending : Table → Gathered → State → State
with_pending t p s = record s { pending = pending_by t p }

abbrev pub kind_by : TagKind → Kind
kind_by tag.Struct = kind.Struct
kind_by tag.Union = kind.Union
kind_by tag.Enum = kind.Enum

abbrev pub number : RecNo → ℕ
number r = r.0

-- where the walk is
abbrev pub with_place : Place → State → State
with_place p s =
    record s {
      in_body = p.in_body;
      jumps = p.jumps.items;
      last = p.last;
      refused = p.refused;
      keyword = kind_by p.keyword;
      filled = option_map number p.filled;
    }

-- all that is bound, but for operands and the object of an initialiser
abbrev pub with_bound : Table → Bound → State → State
with_bound t b s = with_names t b.names (with_records t b.records (with_pending t b.pending (with_place b.place s)))

-- ---- what is true of it

-- the number of this type
abbrev pub Numbers : Table → TypeNo → CType → Type 0
Numbers t n c = IsTypeNo t n × (type_at t n ≡ c)

abbrev pub AreBasics : Table → Basics → Type 0
AreBasics t x = Numbers t x.void Void × Numbers t x.arith Arith × Numbers t x.mixed Mixed × Numbers t x.supplied (Fun Arith)

-- All types and records are the table's.
pub record IsTyped (t : Table) (b : Bound) : Type 0 where
  pub names : IsOf t b.names
  pub records : AreOf t b.records
  pub base : IfSome b.pending.base (IsTypeNo t)
  pub filled : IfSome b.place.filled (IsRecNo t)
  pub basics : AreBasics t b.basics

-- Declarations and members are spelled as their tokens.
abbrev pub AreSpelled : Source → Bound → Type 0
AreSpelled t b = AreNamesSpelled t b.names × AreRecordsSpelled t b.records
