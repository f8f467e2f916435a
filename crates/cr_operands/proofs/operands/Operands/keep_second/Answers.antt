use Rattle.std.proofs.Common.{refl}
use Rattle.cr_binding.specs.Expressions.{second_type}
use Rattle.cr_operands.proofs.Changing.{keeps_itself, two_given, either_way, two_grows, grows_stays}
use Rattle.cr_operands.proofs.operands.Operands.keep_second.Goals as goal

pub returns-in-Some-clause-grows : goal.returns-in-Some-clause-grows
returns-in-Some-clause-grows c =
    let given = (two_given c.args.types.now c.args.self.now c.in-Some.left c.in-Some.right c.requires c.in-Some.ensures).1 in
    either_way c.put.result
    (λ e. two_grows c.args.types.now c.args.types.now c.args.self.now c.put.new.self c.in-Some.left c.in-Some.right c.in-Some.right.ty second_type c.requires
    (keeps_itself c.args.types.now) c.in-Some.ensures refl e given)
    (grows_stays c.args.types.now c.args.types.now c.args.self.now c.put.new.self (keeps_itself c.args.types.now) c.requires)
    c.put.ensures.ok c.put.ensures.err
