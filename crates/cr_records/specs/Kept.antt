-- What is kept of records: the names that select in them are numbers of members.
use Rattle.std.specs.Prelude.{◌≡◌, ℕ, ◌<◌, Bool, true, not, eqb, if◌then◌else◌, ◌++◌, ◌≢◌, ◌==◌, ◌&&◌, Option, Some, None, unwrap_or, List, [], ◌∷◌, map, filter, length, slice_get, slice_index_or}
use Rattle.std.specs.List.{list_any}
use Rattle.cr_base.specs.declared.token.Name.{Name}
use Rattle.cr_types.specs.declared.RecNo.{RecNo}
use Rattle.cr_types.specs.Types.{Table}
use Rattle.cr_types.specs.declared.Record.{Record}
use Rattle.cr_typing.specs.declared.members.MemberData.{MemberData}
use Rattle.cr_typing.specs.declared.members.MemberNo.{MemberNo}
use Rattle.cr_typing.specs.declared.members.Named.{Named}
use Rattle.cr_typing.specs.declared.members.Placed.{Placed}
use Rattle.cr_typing.specs.Members.{Members, no_members, Listed, listed, is_empty, placed, next_member, AreOfTable}
use Rattle.cr_records.specs.declared.rows.RecordRow.{RecordRow}
use Rattle.cr_records.specs.declared.rows.Selector.{Selector}

-- All records in the order in which they are met, all members, what selects them in order, the first tokens of tags that
-- were completed, and the records whose members ended.
pub record RecordTable : Type 0 where
  pub records : List RecordRow
  pub typing : Members
  pub selectors : List Selector
  pub completed : List ℕ
  pub ended : List RecNo

abbrev pub no_records : RecordTable
no_records = record { records = []; typing = no_members; selectors = []; completed = []; ended = [] }

-- ---- members by their numbers

abbrev pub no_member : Placed
no_member =
    record {
      member = record { rec = record { 0 = 0 }; name = None; ty = record { 0 = 0 }; token = 0 };
      place = 0;
    }

abbrev pub placed_at : Members → MemberNo → Placed
placed_at m k = slice_index_or m.all k.0 no_member

abbrev pub no_name : Name
no_name = record { 0 = 0 }

abbrev pub spelling : Option Name → Name
spelling name = unwrap_or name no_name

abbrev pub name_of : Placed → Name
name_of p = spelling p.member.name

-- ---- what is true of every table

-- the name of a selector, with what it selects
abbrev pub named_by : Members → Selector → Name × Named
named_by m x = (name_of (placed_at m x.member), record { member = x.member; token = (placed_at m x.member).member.token })

abbrev pub selects_in : ℕ → Selector → Bool
selects_in r x = x.holder.0 == r

abbrev pub is_written_in : ℕ → Placed → Bool
is_written_in r p = p.member.rec.0 == r

abbrev pub is_ended : List RecNo → ℕ → Bool
is_ended ended r = list_any (λ (k : RecNo). eqb r k.0) ended

-- each selector's member is there
abbrev pub AreThere : Members → List Selector → Type 0
AreThere m [] = Unit {0}
AreThere m (x ∷ xs) = (x.member.0 < length m.all) × AreThere m xs

-- what record number r lists is what is written and selects in it
pub record Lists (x : RecordTable) (r : ℕ) : Type 0 where
  pub named : (listed x.typing r).named ≡ map (named_by x.typing) (filter (selects_in r) x.selectors)
  pub declared : map {A = MemberNo} (λ k. slice_get x.typing.all k.0) (listed x.typing r).declared ≡ map Some (filter (is_written_in r) x.typing.all)
  pub ended : (listed x.typing r).ended ≡ (is_ended x.ended r && not (is_empty (listed x.typing r).declared))
  pub unnamed : is_empty (listed x.typing r).declared ≡ true → (listed x.typing r).named ≡ []

pub record IsKept (x : RecordTable) : Type 0 where
  pub there : AreThere x.typing x.selectors
  pub lists : (r : ℕ) → Lists x r

-- the records whose list ended are those of a set
abbrev pub AreEnded : List RecNo → List RecNo → Type 0
AreEnded ended set = (r : ℕ) → is_ended set r ≡ is_ended ended r

-- ---- a member is written in a record

abbrev pub with_written : Bool → Listed → MemberNo → List (Name × Named) → Listed
with_written whole x k named =
    record { declared = x.declared ++ k ∷ []; named = x.named ++ named; ended = if whole then true else x.ended }

-- a member is added to its record, whose list may have ended, with these names
pub record Writes (whole : Bool) (old : Members) (member : MemberData) (named : List (Name × Named)) (new : Members) : Type 0 where
  pub all : new.all ≡ old.all ++ placed old member ∷ []
  pub this : listed new member.rec.0 ≡ with_written whole (listed old member.rec.0) (next_member old) named
  pub others : (q : ℕ) → q ≢ member.rec.0 → listed new q ≡ listed old q

-- what selects in a record by a name
abbrev pub selector_for : RecNo → Name × Named → Selector
selector_for r e = record { holder = r; member = e.1.member }

-- ---- over a table of types

-- its members' types are the table's, and its records are
pub record IsOf (t : Table) (x : RecordTable) : Type 0 where
  pub held : AreOfTable t x.typing
  pub unions : map {A = Record} (λ r. r.union) t.records ≡ map {A = RecordRow} (λ r. r.is_union) x.records
