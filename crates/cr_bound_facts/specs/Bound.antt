-- What is kept of a well-formed unit, and the facts that it tells.
use Rattle.std.specs.Prelude.{◌≡◌, ◌↔◌, ◌<◌, ℕ, true, Some, List, length, map, slice_get}
use Rattle.std.specs.FinSet.{contains}
use Rattle.cr_base.specs.declared.token.Name.{Name}
use Rattle.cr_base.specs.declared.token.Tok.{Tok}
use Rattle.cr_types.specs.Types.{Table}
use Rattle.cr_ll.specs.Derivation.{Trees}
use Rattle.cr_facts.specs.FactOrder.{Facts}
use Rattle.cr_facts.specs.declared.fact.Fact.{Fact}
use Rattle.cr_binding.specs.Source.{Source}
use Rattle.cr_binding.specs.State.{State}
use Rattle.cr_binding.specs.Binding.{bound}
use Rattle.cr_binding.specs.UnitFacts.{Tells}
use Rattle.cr_known.specs.Known.{unclosed}
use Rattle.cr_records.specs.Kept.{RecordTable}
use Rattle.cr_records.specs.Records.{members_by}
use Rattle.cr_records.specs.declared.rows.RecordRow.{RecordRow}
use Rattle.cr_conflicts.specs.declared.members.MemberRow.{MemberRow}
use Rattle.cr_conflicts.specs.Members.{row_of}
use Rattle.cr_bound.specs.declared.bound.Bound.{Bound}
use Rattle.cr_bound.specs.Kept.{with_bound, AreSpelled}

-- each token's text has a number in the table
abbrev pub HaveTexts : List (List ℕ) → List Tok → Type 0
HaveTexts texts tokens = (i : ℕ) (x : Tok) → slice_get tokens i ≡ Some x → x.text.0 < length texts

-- This is kept of a unit with this tree, whose declarations and members are spelled as their tokens.
pub record IsKeptOf (t : Source) (b : Bound) (tree : Trees) : Type 0 where
  pub spelled : AreSpelled t b
  pub types : Table
  pub rest : State
  pub state : with_bound types b rest ≡ unclosed (bound t tree)

-- These are exactly the facts that the binding of the unit tells.
abbrev pub AreFacts : ℕ → Source → Trees → (old new : Name) → Facts → Type 0
AreFacts unit t tree old new facts =
    (f : Fact) → (contains facts f ≡ true) ↔ Tells unit t (bound t tree) old new f

-- the members of some records by rows
abbrev pub member_rows : Table → RecordTable → List MemberRow
member_rows t x = map row_of (members_by t x)

-- the first tokens of records
abbrev pub record_tokens : List RecordRow → List ℕ
record_tokens = map {A = RecordRow} (λ r. r.token)
