use Rattle.std.proofs.Common.{◌≡◌, drop}
use Rattle.serde_json.specs.View.{items_view}
use Rattle.cr_compdb.specs.Database.{texts_of}
use Rattle.cr_compdb.proofs.Listing.{behind_texts}
use Rattle.cr_compdb.proofs.database.texts_of.Given as goal

abbrev pub invariant-loop-item : goal.invariant-loop-item
invariant-loop-item l = behind_texts l.texts.items (texts_of (items_view (drop l.item-index l.items))) ≡ texts_of (items_view l.items)
