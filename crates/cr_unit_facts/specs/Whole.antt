-- All that is told of a unit by its rows.
use Rattle.std.specs.Prelude.{◌≡◌, ◌⊎◌, ℕ, List, length}
use Rattle.cr_base.specs.declared.token.Name.{Name}
use Rattle.cr_base.specs.declared.token.Tok.{Tok}
use Rattle.cr_facts.specs.declared.fact.Fact.{Fact}
use Rattle.cr_declared.specs.declared.rows.Row.{Row}
use Rattle.cr_declared.specs.declared.rows.UseRow.{UseRow}
use Rattle.cr_groups.specs.Adding.{OfFirst}
use Rattle.cr_groups.specs.Built.{AreLinked, IsBuilt}
use Rattle.cr_groups.specs.Firsts.{AreFirsts}
use Rattle.cr_conflicts.specs.Members.{tag_token}
use Rattle.cr_conflicts.specs.declared.members.MemberRow.{MemberRow}
use Rattle.cr_unit_facts.specs.declared.facts.Tables.{Tables}
use Rattle.cr_unit_facts.specs.Occurring.{linked_nature}
use Rattle.cr_unit_facts.specs.Telling.{DeclaredTells, MemberTells, UseTells, TokensTell, is_noted, itself, own_token}

-- what is found of a unit before its facts are told
pub record AreTables (unit : ℕ) (texts : List (List ℕ)) (tokens : List Tok) (rows : List Row) (members : List MemberRow) (hidden : List ℕ) (old new : Name) (x : Tables) : Type 0 where
  pub linked : AreLinked rows old new x.linked
  pub natured : x.nature ≡ linked_nature old rows
  pub built : IsBuilt unit texts tokens rows old new x.groups.entries (length rows)
  pub tagged : AreFirsts tag_token rows x.tags.entries (length rows)
  pub owned : AreFirsts own_token members x.owns.entries (length members)
  pub noted : AreFirsts itself hidden x.hidden.entries (length hidden)

abbrev pub RowsTell : ℕ → List (List ℕ) → List Tok → List Row → List UseRow → List MemberRow → List ℕ → (old new : Name) → Tables → Fact → Type 0
RowsTell unit texts tokens rows uses members records old new x f =
    ((OfFirst (DeclaredTells tokens x.groups.entries old new x.nature) rows (length rows) f
    ⊎ OfFirst (MemberTells unit texts tokens rows records old new) members (length members) f)
    ⊎ OfFirst (UseTells unit texts tokens rows x.groups.entries records members old x.nature) uses (length uses) f)
    ⊎ TokensTell tokens old new (is_noted x.hidden.entries) (length tokens) f
