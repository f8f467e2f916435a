use Rattle.std.proofs.Common.{◌≡◌, drop}
use Rattle.serde_json.specs.View.{items_view}
use Rattle.cr_compdb.specs.Database.{entries_from}
use Rattle.cr_compdb.proofs.Listing.{behind_entries}
use Rattle.cr_compdb.proofs.database.entries_of.Given as goal

abbrev pub invariant-loop-i : goal.invariant-loop-i
invariant-loop-i l = behind_entries l.entries.items (entries_from l.i (items_view (drop l.i l.items))) ≡ entries_from 0 (items_view l.items)
