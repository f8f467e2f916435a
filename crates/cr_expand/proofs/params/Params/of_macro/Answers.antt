use Rattle.std.proofs.Common.{Some, subst}
use Rattle.cr_expand.specs.Items.{AreNamed, AreNumbers}
use Rattle.cr_expand.proofs.Numbers.{serves_params}
use Rattle.cr_expand.proofs.params.Params.of_macro.Goals as goal

pub returns-in_ok-params-in-Some : goal.returns-in_ok-params-in-Some
returns-in_ok-params-in-Some c =
    let known : AreNamed c.args.names.now (Some c.in-Some.list) = subst (AreNamed c.args.names.now) c.in-Some.is c.requires.known.params in
    serves_params c.args.names.now c.args.m.now c.in-Some.list c.in_ok-params-in-Some.params c.in-Some.is c.requires.distinct known
    (subst (λ l. AreNumbers l c.args.m.now.variadic c.in_ok-params-in-Some.params) c.items.ensures c.in_ok-params-in-Some.ensures)
