use Rattle.std.proofs.Common.{get_or, arith, subst, Some, None}
use Rattle.cr_small.specs.Holding.{Answers}
use Rattle.cr_small.specs.Resolution.{bound}
use Rattle.cr_small.specs.declared.grammar.Part.TheVariants as part
use Rattle.cr_small.proofs.Walk.{walk_goes, walk_stops}
use Rattle.cr_small.proofs.binder.bind.Goals as goal

pub returns-in_default : goal.returns-in_default
returns-in_default c =
    walk_stops c.args.names.now c.args.tokens.now c.args.parts.now c.loop-i.i c.loop-i.scopes c.meet.new.self c.loop-i.denotes.items _ part.Plain c.loop-i.invariant (omega arith) (omega (arith, c.requires.length))
    (λ b h. subst (λ n. Answers c.meet.new.self (bound b c.loop-i.i n (get_or c.args.parts.now c.loop-i.i part.Plain)) None) c.spelling.ensures
    (subst (λ o. Answers c.meet.new.self (bound b c.loop-i.i c.spelling.result.now (get_or c.args.parts.now c.loop-i.i part.Plain)) o) c.in_default.is (c.in_ok-binding.ensures.bound b h)))

pub loop-i-preserved : goal.loop-i-preserved
loop-i-preserved c =
    walk_goes c.args.names.now c.args.tokens.now c.args.parts.now c.loop-i.i c.loop-i.scopes c.meet.new.self c.loop-i.denotes.items _ part.Plain c.loop-i.invariant (omega arith) (omega (arith, c.requires.length)) c.in-Some.binding c.push.new.self.items
    (λ b h. subst (λ n. Answers c.meet.new.self (bound b c.loop-i.i n (get_or c.args.parts.now c.loop-i.i part.Plain)) (Some c.in-Some.binding)) c.spelling.ensures
    (subst (λ o. Answers c.meet.new.self (bound b c.loop-i.i c.spelling.result.now (get_or c.args.parts.now c.loop-i.i part.Plain)) o) c.in-Some.is (c.in_ok-binding.ensures.bound b h)))
    c.in_ok-binding.ensures.level c.in_ok-push.ensures.items
