-- Rows that are sound, as the declarations and uses of a unit.
use Rattle.std.proofs.Common.{◌≡◌, ℕ, ◌<◌, true, false, Some, List, length, map, refl, subst, ◌∙◌}
use Rattle.std.specs.Prelude.{slice_get}
use Rattle.cr_base.specs.declared.Kind.{Kind}
use Rattle.cr_base.specs.declared.Kind.TheVariants as kind
use Rattle.cr_scope.specs.declared.Space.TheVariants as space
use Rattle.cr_scope.specs.Redeclaration.{clashes}
use Rattle.cr_binding.specs.Source.{Source}
use Rattle.cr_binding.specs.State.{Declaration, State}
use Rattle.cr_binding.specs.Entities.{entry, is_linked, is_tag, is_typedef, is_typedef_kind}
use Rattle.cr_paths.specs.Paths.{AreDistinct}
use Rattle.cr_declared.specs.declared.rows.Row.{Row}
use Rattle.cr_declared.specs.declared.rows.UseRow.{UseRow}
use Rattle.cr_declared.specs.Rows.{entry_of, is_tag_kind, is_linked_kind, IsFormed, AreApart, AreFormed, AreRows}
use Rattle.cr_declared.specs.Rows as rows
use Rattle.cr_groups.specs.Rows.{use_of, IsSound, AreSound, AreShown}
use Rattle.cr_groups.proofs.Taken.{to_mapped}

pub record Views (t : Source) (s : State) (ps : List (List ℕ)) (rows : List Row) (uses : List UseRow) : Type 0 where
  pub entries : map (entry_of ps) rows ≡ map (entry t) s.declarations
  pub used : map (use_of ps) uses ≡ s.uses
  pub distinct : AreDistinct ps
  pub within : (j : ℕ) (x : Row) → slice_get rows j ≡ Some x → x.path < length ps
  pub sound : (j : ℕ) (u : UseRow) → slice_get uses j ≡ Some u → IsSound t.tokens ps rows u

pub views : (t : Source) (s : State) (ps : List (List ℕ)) (rows : List Row) (uses : List UseRow) → AreShown t s ps rows uses → AreRows ps rows → AreSound t.tokens ps rows uses → Views t s ps rows uses
views t s ps rows uses shown kept sound =
    record { entries = shown.entries; used = shown.used; distinct = kept.distinct; within = kept.within; sound = sound }

-- ---- declarations

pub record IsWell (d : Declaration) : Type 0 where
  pub tags : is_tag d ≡ is_tag_kind d.kind
  pub types : is_typedef d ≡ true → d.space ≡ space.Ordinary
  pub linked : is_linked d ≡ true → is_linked_kind d.kind ≡ true

pub record AreWell (t : Source) (ds : List Declaration) : Type 0 where
  pub apart : (i j : ℕ) (d e : Declaration) → slice_get ds i ≡ Some d → slice_get ds j ≡ Some e → i < j → clashes (entry t e) (entry t d) ≡ false
  pub formed : (i : ℕ) (d : Declaration) → slice_get ds i ≡ Some d → IsWell d

same_typedef : (k : Kind) → rows.is_typedef_kind k ≡ is_typedef_kind k
same_typedef kind.Typedef = refl
same_typedef _ = refl

are_well : (t : Source) (ds : List Declaration) → AreApart (map (entry t) ds) → AreFormed (map (entry t) ds) → AreWell t ds
are_well t ds apart formed = record {
  apart = λ i j d e at bt lt. apart i j (entry t d) (entry t e) (to_mapped (entry t) ds i d at) (to_mapped (entry t) ds j e bt) lt;
  formed = λ i d at.
      let f : IsFormed (entry t d).decl = formed i (entry t d) (to_mapped (entry t) ds i d at) in
      record { tags = f.tags; types = (λ h. f.types (same_typedef d.kind ∙ h)); linked = f.linked };
}

pub well : (t : Source) (s : State) (ps : List (List ℕ)) (rows : List Row) (uses : List UseRow) → AreShown t s ps rows uses → AreApart (map (entry_of ps) rows) → AreFormed (map (entry_of ps) rows) → AreWell t s.declarations
well t s ps rows uses shown apart formed =
    are_well t s.declarations (subst AreApart shown.entries apart) (subst AreFormed shown.entries formed)
