use Rattle.std.proofs.Common.{◌≡◌, true, eqb, arith, sym, ap, ◌∙◌}
use Rattle.std.proofs.lemmas.Bool.Decides.{nat_tests}
use Rattle.cr_types.specs.Types.{type_at}
use Rattle.cr_typing.proofs.SameTypes.{of_both-itself, of_both-different, same_number}
use Rattle.cr_typing.specs.ExpressionTypes.{of_both}
use Rattle.cr_typing.proofs.expressions.of_both.Goals as goal

pub returns-then-eq-clause-meant : goal.returns-then-eq-clause-meant
returns-then-eq-clause-meant c =
    let same : c.args.left ≡ c.args.right = same_number c.args.left c.args.right (sym c.eq.ensures ∙ c.if-eq.true) in
    c.get-ty.ensures.meant
    ∙ sym (of_both-itself (type_at c.args.types.now c.args.left))
    ∙ ap (λ n. of_both (type_at c.args.types.now c.args.left) (type_at c.args.types.now n)) same

pub returns-else-eq-clause-meant : goal.returns-else-eq-clause-meant
returns-else-eq-clause-meant c =
    sym (of_both-different _ _ (λ same. (let k : c.args.right ≡ c.args.left = c.get-ty.ensures.one c.args.right c.requires.right_given (sym same) in
    let e : c.args.left.0 ≡ c.args.right.0 = sym (ap (λ n. n.0) k) in
    let f : eqb c.args.left.0 c.args.right.0 ≡ true = grind (arith, nat_tests) in cc)))
