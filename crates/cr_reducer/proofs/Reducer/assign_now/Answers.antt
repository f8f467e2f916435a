use Rattle.std.proofs.Common.{arith, [], ◌∷◌, ◌++◌, ap, ◌∙◌}
use Rattle.cr_core.specs.declared.Happened.{Happened}
use Rattle.cr_core.specs.Assignment.{asked}
use Rattle.cr_core.specs.Law.{ended_after}
use Rattle.cr_reducer.specs.Wave.{Wave, assign_stray}
use Rattle.cr_reducer.proofs.Entries.{has_room, kept, welcome}
use Rattle.cr_reducer.proofs.Reducer.assign_now.Goals as goal

pub push_reserved-requires : goal.push_reserved-requires
push_reserved-requires c =
    let v : Wave = record { state = c.self.inside.core; ended = c.self.inside.ended.items; history = c.self.inside.history.items; table = c.self.inside.table } in
    let w = c.args.worker in
    let in_time = welcome v w c.assign-grant.result (ap (λ (z : Wave). assign_stray z w) c.self.view_is ∙ c.requires.welcome) in
    let room = has_room c.every_list_is_lawful.ensures v (asked w c.assign-grant.result) c.assign-grant.new.self _ c.self.invariant c.assign-grant.ensures.step in_time in
    omega (arith, room, c.self.inside.history.ok.0)

pub invariant_of-self : goal.invariant_of-self
invariant_of-self c =
    let v : Wave = record { state = c.self.inside.core; ended = c.self.inside.ended.items; history = c.self.inside.history.items; table = c.self.inside.table } in
    let w = c.args.worker in
    let in_time = welcome v w c.assign-grant.result (ap (λ (z : Wave). assign_stray z w) c.self.view_is ∙ c.requires.welcome) in
    kept c.every_list_is_lawful.ensures v (asked w c.assign-grant.result) c.assign-grant.new.self c.mark.new.ended.items c.push_reserved.new.self.items _ _
    c.self.invariant c.assign-grant.ensures.step in_time
    (c.mark.ensures ∙ ap (ended_after v.ended) c.asked-entry.ensures)
    (c.push_reserved.ensures.items ∙ ap (λ (e : Happened). v.history ++ e ∷ []) c.asked-entry.ensures)
    c.push_reserved.ensures.capacity
