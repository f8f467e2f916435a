use Rattle.std.proofs.Common.{◌<◌, ◌++◌, ◌∷◌, [], map, drop, arith, sym, ap, subst, ◌∙◌, length}
use Rattle.std.proofs.lemmas.Result.{err_from_is_err_and}
use Rattle.cr_macros.specs.Tokens.{with_name, both}
use Rattle.cr_macros.specs.Definition.{text_of}
use Rattle.cr_expand.specs.Held.{hidden}
use Rattle.cr_expand.specs.Hiding.{IsHidden}
use Rattle.cr_expand.specs.Slots.{begun}
use Rattle.cr_expand.specs.Wanted.{is_marked_whole}
use Rattle.cr_expand.proofs.Entries.{closes_at, slot_known, entered}
use Rattle.cr_expand.proofs.machine.Machine.enter.Goals as goal

pub returns-in_err-raw-clause-faults : goal.returns-in_err-raw-clause-faults
returns-in_err-raw-clause-faults c = λ a b inside closes rest params e f p q.
    let r = err_from_is_err_and c.from_residual-in_err-raw.result c.from_residual-in_err-raw.ensures.1 in
    rw (r.1, r.2) (c.in_err-raw.ensures.faults a b _ inside rest params e f p q)

pub hidden_by_call-requires-clause-closes : goal.hidden_by_call-requires-clause-closes
hidden_by_call-requires-clause-closes c =
    let k = slot_known c.args.names.now c.args.self.now.sets c.args.self.now.slots.items c.args.close c.token_at-end.result c.requires.slots c.token_at-end.ensures in
    subst (λ s. c.token_at-end.result.hide.0 < length s) (sym c.in_ok-raw.ensures.same.0.1) k.1

pub returns-clause-entered : goal.returns-clause-entered
returns-clause-entered c = λ a b inside closes rest params e f p q.
    entered c.args.names.now c.args.self.now _ c.args.h c.args.m.now params a b inside closes c.token_at-end.result rest c.take_arguments.new.self.slots.items (is_marked_whole c.in_ok-needs.needs) (map (λ v. v.items) c.in_ok-raw.raw.items) c.in_ok-raw.more c.in_ok-hide.hide.0
    c.new-frame.result c.in_ok-needs.needs.expanded.items c.is_wanted.result
    (c.in_ok-raw.ensures.taken a b _ inside rest params e f p q)
    (closes_at c.args.self.now.slots.items a b inside closes rest c.args.close c.token_at-end.result e f c.token_at-end.ensures)
    (subst (λ s. IsHidden c.args.names.now s c.hidden_by_call.new.sets c.in_ok-hide.hide.0 (with_name (text_of c.args.names.now c.args.h.token.text) (both (hidden c.args.names.now s c.args.h.hide.0) (hidden c.args.names.now s c.token_at-end.result.hide.0))))
    c.in_ok-raw.ensures.same.0.1 c.in_ok-hide.ensures)
    (λ n l. c.in_ok-needs.ensures.expanded n (omega (arith, l, q)))
    (λ n l. c.in_ok-needs.ensures.whole n (omega (arith, l, q)))
    c.new-frame.ensures
    (c.in_ok-push.ensures.items ∙ ap (λ l. l ++ c.new-frame.result ∷ []) c.in_ok-raw.ensures.same.1)
    c.is_wanted.ensures
    (c.begin.ensures ∙ ap (begun c.is_wanted.result) (c.pop_front-2.ensures.rest ∙ ap (drop 1) c.pop_front.ensures.rest))
