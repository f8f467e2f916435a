use Rattle.std.proofs.Common.{◌≡◌, ℕ, ◌<◌, ◌++◌, List, false, drop, map, length}
use Rattle.std.specs.Prelude.{slice_index_or}
use Rattle.std.specs.List.{list_any}
use Rattle.cr_expand.specs.declared.items.Item.{Item}
use Rattle.cr_macros.specs.Substitution as spec
use Rattle.cr_expand.specs.HideSets.{Sets}
use Rattle.cr_expand.specs.Held.{noted, watch_of, all_args}
use Rattle.cr_expand.specs.Items.{item_texts}
use Rattle.cr_expand.proofs.subst.note_dropped.Given as goal

abbrev pub invariant-loop-n : goal.invariant-loop-n
invariant-loop-n l = record {
  seen : (sets : Sets) (items : List Item) → ((n : ℕ) → n < length l.raw → slice_index_or l.used n false ≡ list_any (spec.is_use n) (item_texts l.names items))
      → l.notes.seen.items ++ noted (watch_of l.names l.fn.notes) (spec.dropped (item_texts l.names items) l.n (all_args l.names sets (drop l.n (map (λ v. v.items) l.raw))))
      ≡ l.fn.notes.seen.items ++ noted (watch_of l.names l.fn.notes) (spec.dropped (item_texts l.names items) 0 (all_args l.names sets (map (λ v. v.items) l.raw)));
  same : (l.notes.from ≡ l.fn.notes.from) × (l.notes.to ≡ l.fn.notes.to);
}
