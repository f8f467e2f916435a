use Rattle.std.proofs.Common.{arith, refl}
use Rattle.cr_core.specs.declared.Happened.TheVariants.{Answered}
use Rattle.cr_reducer.specs.Wave.{Wave}
use Rattle.cr_reducer.proofs.Entries.{has_room, kept}
use Rattle.cr_reducer.proofs.Reducer.answer_now.Goals as goal

pub push_reserved-requires : goal.push_reserved-requires
push_reserved-requires c =
    let v : Wave = record { state = c.self.inside.core; ended = c.self.inside.ended.items; history = c.self.inside.history.items; table = c.self.inside.table } in
    let room = has_room c.every_list_is_lawful.ensures v (Answered c.args.worker c.args.unit c.answer-reply.result) c.answer-reply.new.self _ c.self.invariant c.answer-reply.ensures.step refl in
    omega (arith, room, c.self.inside.history.ok.0)

pub invariant_of-self : goal.invariant_of-self
invariant_of-self c =
    let v : Wave = record { state = c.self.inside.core; ended = c.self.inside.ended.items; history = c.self.inside.history.items; table = c.self.inside.table } in
    kept c.every_list_is_lawful.ensures v (Answered c.args.worker c.args.unit c.answer-reply.result) c.answer-reply.new.self c.self.inside.ended.items c.push_reserved.new.self.items _ _
    c.self.invariant c.answer-reply.ensures.step refl refl c.push_reserved.ensures.items c.push_reserved.ensures.capacity
