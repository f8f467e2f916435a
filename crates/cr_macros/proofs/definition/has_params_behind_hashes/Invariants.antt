use Rattle.std.proofs.Common.{◌≡◌, drop}
use Rattle.cr_macros.specs.Definition.{has_params_behind_hashes}
use Rattle.cr_macros.proofs.definition.has_params_behind_hashes.Given as goal

abbrev pub invariant-loop-i : goal.invariant-loop-i
invariant-loop-i l =
    has_params_behind_hashes l.names l.list.names.keys l.list.variadic (drop l.i l.body)
    ≡ has_params_behind_hashes l.names l.list.names.keys l.list.variadic l.body
