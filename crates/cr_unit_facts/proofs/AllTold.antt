-- What is added for a unit is what it tells.
use Rattle.std.proofs.Common.{◌≡◌, ◌⊎◌, inl, inr, ℕ, true, false, List, length, map, sym, subst, ◌∙◌, true≢false}
use Rattle.std.specs.Prelude.{◌↔◌}
use Rattle.std.specs.FinSet.{contains, empty, contains-empty}
use Rattle.cr_base.specs.declared.token.Name.{Name}
use Rattle.cr_facts.specs.FactOrder.{Facts, fact_cmp}
use Rattle.cr_facts.specs.declared.fact.Fact.{Fact}
use Rattle.cr_binding.specs.Source.{Source}
use Rattle.cr_binding.specs.State.{State}
use Rattle.cr_binding.specs.UnitFacts.{Tells}
use Rattle.cr_declared.specs.declared.rows.Row.{Row}
use Rattle.cr_declared.specs.declared.rows.UseRow.{UseRow}
use Rattle.cr_declared.specs.Rows.{entry_of, AreRows, AreApart, AreFormed}
use Rattle.cr_groups.specs.Adding.{Adds, OfFirst}
use Rattle.cr_groups.specs.Firsts.{AreFirsts}
use Rattle.cr_groups.specs.Rows.{AreGroups, AreSound, AreShown}
use Rattle.cr_groups.proofs.Added.{adds_same, adds_both}
use Rattle.cr_groups.proofs.Grouped.{are_groups}
use Rattle.cr_groups.proofs.Shown.{Views, AreWell, views, well}
use Rattle.cr_conflicts.specs.Meant.{IsOfUnit}
use Rattle.cr_conflicts.specs.Members.{AreMembers}
use Rattle.cr_conflicts.specs.declared.members.MemberRow.{MemberRow}
use Rattle.cr_unit_facts.specs.Meant.{declared_in, members_in, used_in, AnyTells}
use Rattle.cr_unit_facts.specs.Occurring.{linked_nature}
use Rattle.cr_unit_facts.specs.Whole.{AreTables, RowsTell}
use Rattle.cr_unit_facts.specs.declared.facts.Tables.{Tables}
use Rattle.cr_unit_facts.specs.declared.nature.Nature.{Nature}
use Rattle.cr_unit_facts.specs.Telling.{DeclaredTells, MemberTells, UseTells, TokensTell, is_noted, itself}
use Rattle.cr_unit_facts.proofs.Told.{declared_told, declared_untold, members_told, members_untold, uses_told, uses_untold}
use Rattle.cr_unit_facts.proofs.Joined.{InOrder, OfList, in_order, from_order}

-- a set that had nothing before has what was added
from_nothing : (P : Fact → Type 0) (end : Facts) → Adds empty end P → (f : Fact) → (contains end f ≡ true) ↔ P f
from_nothing P end h f = ((λ k. elim ((h f).0 k) [ inl m ↦ absurd (true≢false (sym m ∙ contains-empty fact_cmp f)) | inr m ↦ m ]), (λ k. (h f).1 (inr k)))

module _ (unit : ℕ) (t : Source) (old new : Name) (ps : List (List ℕ)) (rows : List Row) (uses : List UseRow) (members : List MemberRow) (records hidden : List ℕ) (x : Tables) where
  abbrev RowsAdd : Nature → Fact → Type 0
  RowsAdd n f =
      ((OfFirst (DeclaredTells t.tokens x.groups.entries old new n) rows (length rows) f
      ⊎ OfFirst (MemberTells unit t.texts t.tokens rows records old new) members (length members) f)
      ⊎ OfFirst (UseTells unit t.texts t.tokens rows x.groups.entries records members old n) uses (length uses) f)
      ⊎ TokensTell t.tokens old new (is_noted x.hidden.entries) (length t.tokens) f

  pub rows_tell : (start a b c end : Facts)
      → Adds start a (OfFirst (DeclaredTells t.tokens x.groups.entries old new x.nature) rows (length rows))
      → Adds a b (OfFirst (MemberTells unit t.texts t.tokens rows records old new) members (length members))
      → Adds b c (OfFirst (UseTells unit t.texts t.tokens rows x.groups.entries records members old x.nature) uses (length uses))
      → Adds c end (TokensTell t.tokens old new (is_noted x.hidden.entries) (length t.tokens))
      → Adds start end (RowsTell unit t.texts t.tokens rows uses members records old new x)
  rows_tell start a b c end h1 h2 h3 h4 =
      let first : Adds start b (λ f. OfFirst (DeclaredTells t.tokens x.groups.entries old new x.nature) rows (length rows) f ⊎ OfFirst (MemberTells unit t.texts t.tokens rows records old new) members (length members) f) =
      adds_both start a b (OfFirst (DeclaredTells t.tokens x.groups.entries old new x.nature) rows (length rows)) (OfFirst (MemberTells unit t.texts t.tokens rows records old new) members (length members)) h1 h2 in
      let second : Adds start c (λ f. (OfFirst (DeclaredTells t.tokens x.groups.entries old new x.nature) rows (length rows) f ⊎ OfFirst (MemberTells unit t.texts t.tokens rows records old new) members (length members) f) ⊎ OfFirst (UseTells unit t.texts t.tokens rows x.groups.entries records members old x.nature) uses (length uses) f) =
      adds_both start b c (λ f. OfFirst (DeclaredTells t.tokens x.groups.entries old new x.nature) rows (length rows) f ⊎ OfFirst (MemberTells unit t.texts t.tokens rows records old new) members (length members) f) (OfFirst (UseTells unit t.texts t.tokens rows x.groups.entries records members old x.nature) uses (length uses)) first h3 in
      adds_both start c end (λ f. (OfFirst (DeclaredTells t.tokens x.groups.entries old new x.nature) rows (length rows) f ⊎ OfFirst (MemberTells unit t.texts t.tokens rows records old new) members (length members) f) ⊎ OfFirst (UseTells unit t.texts t.tokens rows x.groups.entries records members old x.nature) uses (length uses) f) (TokensTell t.tokens old new (is_noted x.hidden.entries) (length t.tokens)) second h4

  abbrev Identifiers : (s : State) → AreFirsts itself s.hidden x.hidden.entries (length s.hidden) → Fact → Type 0
  Identifiers s marks f =
      ((OfList unit t s old new x.hidden.entries marks (declared_in s) f ⊎ OfList unit t s old new x.hidden.entries marks (members_in s) f)
      ⊎ AnyTells unit t s old false (used_in s) f)
      ⊎ TokensTell t.tokens old new (is_noted x.hidden.entries) (length t.tokens) f

  module _ (s : State) (view : Views t s ps rows uses) (kept : AreRows ps rows) (fine : AreWell t s.declarations) (groups : AreGroups unit t s old new rows x.groups.entries) (are : AreMembers s members records) (marks : AreFirsts itself s.hidden x.hidden.entries (length s.hidden)) where
    forth : (f : Fact) → RowsAdd (linked_nature old rows) f → Identifiers s marks f
    forth f (inl (inl (inl k))) = inl (inl (inl (declared_told unit t s old new ps rows uses members records x.groups.entries view kept fine groups are f k)))
    forth f (inl (inl (inr k))) = inl (inl (inr (members_told unit t s old new ps rows uses members records x.groups.entries view kept fine groups are f k)))
    forth f (inl (inr k)) = inl (inr (uses_told unit t s old new ps rows uses members records x.groups.entries view kept fine groups are f k))
    forth f (inr k) = inr k

    back : (f : Fact) → Identifiers s marks f → RowsAdd (linked_nature old rows) f
    back f (inl (inl (inl k))) = inl (inl (inl (declared_untold unit t s old new ps rows uses members records x.groups.entries view kept fine groups are f k)))
    back f (inl (inl (inr k))) = inl (inl (inr (members_untold unit t s old new ps rows uses members records x.groups.entries view kept fine groups are f k)))
    back f (inl (inr k)) = inl (inr (uses_untold unit t s old new ps rows uses members records x.groups.entries view kept fine groups are f k))
    back f (inr k) = inr k

  pub facts_told : (d end : Facts)
      → AreRows ps rows → AreApart (map (entry_of ps) rows) → AreFormed (map (entry_of ps) rows) → AreSound t.tokens ps rows uses
      → AreTables unit t.texts t.tokens rows members hidden old new x
      → Adds empty d (RowsTell unit t.texts t.tokens rows uses members records old new x)
      → ((s : State) → AreShown t s ps rows uses → AreMembers s members records → Adds d end (IsOfUnit unit t s old new))
      → (s : State) → AreShown t s ps rows uses → AreMembers s members records → hidden ≡ s.hidden → (f : Fact) → (contains end f ≡ true) ↔ Tells unit t s old new f
  facts_told d end kept apart formed sound tables h h5 s shown are same =
      let view : Views t s ps rows uses = views t s ps rows uses shown kept sound in
      let fine : AreWell t s.declarations = well t s ps rows uses shown apart formed in
      let groups : AreGroups unit t s old new rows x.groups.entries = are_groups unit t s old new ps rows uses view kept fine x.groups.entries tables.built in
      let marks : AreFirsts itself s.hidden x.hidden.entries (length s.hidden) = subst (λ z. AreFirsts itself z x.hidden.entries (length z)) same tables.noted in
      let told : Adds empty d (RowsAdd (linked_nature old rows)) = subst (λ z. Adds empty d (RowsAdd z)) tables.natured h in
      from_nothing (Tells unit t s old new) end
      (adds_same empty end (InOrder unit t s old new x.hidden.entries marks) (Tells unit t s old new)
      (from_order unit t s old new x.hidden.entries marks)
      (in_order unit t s old new x.hidden.entries marks)
      (adds_both empty d end (Identifiers s marks) (IsOfUnit unit t s old new)
      (adds_same empty d (RowsAdd (linked_nature old rows)) (Identifiers s marks) (forth s view kept fine groups are marks) (back s view kept fine groups are marks) told)
      (h5 s shown are)))
