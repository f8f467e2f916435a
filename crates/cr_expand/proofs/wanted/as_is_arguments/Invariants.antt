use Rattle.std.proofs.Common.{◌≡◌, ℕ, ◌<◌, List, false, vec_len, drop}
use Rattle.std.specs.Prelude.{slice_index_or, ◌||◌}
use Rattle.std.specs.List.{list_any}
use Rattle.cr_macros.specs.Tokens.{Text}
use Rattle.cr_expand.specs.Wanted.{is_as_is}
use Rattle.cr_expand.specs.Items.{item_texts}
use Rattle.cr_expand.proofs.wanted.as_is_arguments.Given as goal

abbrev pub invariant-loop-i : goal.invariant-loop-i
invariant-loop-i l =
    (vec_len l.wanted ≡ l.count)
    × ((names : List Text) (n : ℕ) → n < l.count
    → (slice_index_or l.wanted.items n false || list_any (is_as_is n) (item_texts names (drop l.i l.items))) ≡ list_any (is_as_is n) (item_texts names l.items))
