use Rattle.std.proofs.Common.{◌≡◌, None}
use Rattle.std.specs.List.{filter_map}
use Rattle.cr_class.specs.ShownOrder.{shown_cmp}
use Rattle.cr_class.specs.Declarations.{least, file_scope_place}
use Rattle.cr_class.proofs.target.first_place.Given as goal

abbrev pub invariant-loop-fact : goal.invariant-loop-fact
invariant-loop-fact l = least (shown_cmp l.snapshot) l.best (filter_map (file_scope_place l.facts) l.fact-iterator) ≡ least (shown_cmp l.snapshot) None (filter_map (file_scope_place l.facts) l.initial.fact-iterator)
