use Rattle.std.proofs.Common.{◌≡◌, ◌==◌, take}
use Rattle.indexmap.specs.IndexMap.{get}
use Rattle.cr_base.specs.declared.token.Name.{Name}
use Rattle.cr_expand.specs.Items.{number_of}
use Rattle.cr_expand.proofs.params.places.Given as goal

abbrev pub invariant-loop-i : goal.invariant-loop-i
invariant-loop-i l = (other : Name) → get (λ a b. a.0 == b.0) l.places other ≡ number_of (take l.i l.names) other
