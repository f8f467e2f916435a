-- A declaration that is made, over all that is kept.
use Rattle.std.proofs.Common.{◌≡◌, ℕ, ◌<◌, Bool, false, ◌&&◌, ◌||◌, List, [], ◌∷◌, ◌++◌, length, map, sym, ap, subst, ◌∙◌}
use Rattle.std.specs.List.{list_any}
use Rattle.cr_base.specs.declared.token.Name.{Name}
use Rattle.cr_scope.specs.declared.Decl.{Decl}
use Rattle.cr_scope.specs.Declarations.{same_name}
use Rattle.cr_scope.specs.Linkage.{has_linkage}
use Rattle.cr_scope.specs.Redeclaration.{clashes}
use Rattle.cr_paths.specs.Paths.{path_at}
use Rattle.cr_declared.specs.declared.rows.Row.{Row}
use Rattle.cr_declared.specs.declared.rows.Slot.{Slot}
use Rattle.cr_declared.specs.declared.table.Ends.{Ends}
use Rattle.cr_declared.specs.Known.{Known, entry, is_redeclared}
use Rattle.cr_declared.specs.Rows.{slot, same_slot, entry_of, IsFormed}
use Rattle.cr_declared.specs.Kept.{find_slot, find_linked, number_for, behind, or_else, repeats_wrong, links_wrong, last_row, row_at, IsKept}
use Rattle.cr_declared.proofs.Placing.{number_is}
use Rattle.cr_declared.proofs.Declaring.{found_more, clash_is}

module _ (scopes : ℕ) (ps : List (List ℕ)) (place function : ℕ) (rows : List Row) (es : List (Slot × Ends)) (ls : List (Name × ℕ)) (kept : IsKept ps place function rows es ls)
    (d : Decl) (path : ℕ) (at : path ≡ number_for place function d.space) where
  abbrev row : Row
  row = record { path = path; decl = d }

  abbrev known : Known
  known = record { scopes = scopes; paths = ps; present = path_at ps place; entries = map (entry_of ps) rows }

  there : path < length ps
  there = subst (λ n. n < length ps) (sym at) (number_is ps place function kept.placed d.space).0

  same_entry : entry_of ps row ≡ entry known d
  same_entry =
      let e : path_at ps path ≡ (entry known d).path = ap (path_at ps) at ∙ (number_is ps place function kept.placed d.space).1 in
      λ j. record { path = e j; decl = d }

  pub clash_told : (rs : List Row) → rs ≡ rows → (b : Bool) → b ≡ (repeats_wrong d (last_row rs (find_slot (slot path d.space d.name) es)) || links_wrong d (row_at rs (find_linked d.name ls)))
      → is_redeclared known d ≡ b
  clash_told rs same b told =
      sym (ap (λ e. list_any (clashes e) (map (entry_of ps) rows)) same_entry)
      ∙ clash_is ps rows es ls kept.found kept.placed.distinct row there
      ∙ ap (λ z. repeats_wrong d (last_row z (find_slot (slot path d.space d.name) es)) || links_wrong d (row_at z (find_linked d.name ls))) (sym same)
      ∙ sym told

  pub kept_more : (rows' : List Row) (es₀ es' : List (Slot × Ends)) (ls₀ ls' : List (Name × ℕ)) (n : ℕ) → rows' ≡ rows ++ row ∷ [] → n ≡ length rows
      → is_redeclared known d ≡ false → IsFormed d → es₀ ≡ es → ls₀ ≡ ls
      → ((a : Slot) → find_slot a es' ≡ behind (same_slot (slot path d.space d.name) a) n (find_slot a es₀))
      → ((a : Name) → find_linked a ls' ≡ or_else (has_linkage d.linkage && same_name d.name a) n (find_linked a ls₀))
      → IsKept ps place function rows' es' ls'
  kept_more rows' es₀ es' ls₀ ls' n more count free formed same_slots same_names slots names =
      subst (λ z. IsKept ps place function z es' ls') (sym more)
      (record {
        placed = kept.placed;
        found = found_more ps rows es es' ls ls' row n kept.found there count (ap (λ e. list_any (clashes e) (map (entry_of ps) rows)) same_entry ∙ free) formed
            (λ a. slots a ∙ ap (λ z. behind (same_slot (slot path d.space d.name) a) n (find_slot a z)) same_slots)
            (λ a. names a ∙ ap (λ z. or_else (has_linkage d.linkage && same_name d.name a) n (find_linked a z)) same_names);
      })
