use Rattle.std.proofs.Common.{◌≡◌, ◌+◌, ◌≤◌, ◌++◌, map, take, length, vec_len, vec_capacity}
use Rattle.cr_records.specs.Kept.{selector_for}
use Rattle.cr_records.proofs.records.push_selectors.Given as goal

abbrev pub invariant-loop-named : goal.invariant-loop-named
invariant-loop-named l =
    (l.selectors.items ≡ l.fn.selectors.items ++ map (selector_for l.holder) (take l.named-index l.names))
    × (vec_len l.selectors + length l.names ≤ l.named-index + vec_capacity l.selectors)
