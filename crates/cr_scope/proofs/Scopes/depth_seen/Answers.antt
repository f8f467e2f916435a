use Rattle.std.proofs.Common.{◌<◌, length, arith, refl}
use Rattle.std.proofs.lemmas.Option.{slice_get_read}
use Rattle.cr_scope.specs.Kept.{paths_of, entry_of}
use Rattle.cr_scope.proofs.Declared.{seen_from, length-map}
use Rattle.cr_scope.proofs.Scopes.depth_seen.Goals as goal

pub returns : goal.returns
returns c =
    let all = length-map (entry_of (paths_of c.self.inside.parents.items)) c.self.inside.entries.items in
    let within = rw (← c.self.view_is) at c.requires in
    let here : c.args.i < length c.self.inside.entries.items = omega arith in
    rw (← c.self.view_is)
    (seen_from _ _ _ _ _ c.self.invariant c.args.space c.args.name c.args.i c.index.result.now _ _ _
    (slice_get_read _ _ _ _ refl here c.index.ensures) c.deref.ensures.value c.deref-2.ensures.value c.found.ensures)
