use Rattle.std.proofs.Common.{◌∙◌, ◌&&◌, ap, sym}
use Rattle.cr_bound.proofs.Naming.{function_name, value_named, no_value, supplied_named, nothing_named}
use Rattle.cr_bound.proofs.bound.Bound.mentioned.Goals as goal

pub returns-then-is_function : goal.returns-then-is_function
returns-then-is_function c =
    function_name c.args.self.now _ _ c.args.text.now
    (ap (λ z. c.args.self.now.place.in_body && z) (sym c.is_function_name.ensures) ∙ sym c.holds-is_function.ensures ∙ c.if-is_function.true)

pub returns-then-is_value : goal.returns-then-is_value
returns-then-is_value c =
    value_named c.args.self.now _ _ c.args.text.now
    (ap (λ z. c.args.self.now.place.in_body && z) (sym c.is_function_name.ensures) ∙ sym c.holds-is_function.ensures ∙ c.if-is_function.false)
    _ c.meaning-denoted.ensures c.in-Some.found c.in-Some.ensures.found (sym c.is_value.ensures ∙ c.if-is_value.true) c.in-Some.ensures.given

pub returns-else-is_value : goal.returns-else-is_value
returns-else-is_value c =
    no_value c.args.self.now _ _ c.args.text.now
    (ap (λ z. c.args.self.now.place.in_body && z) (sym c.is_function_name.ensures) ∙ sym c.holds-is_function.ensures ∙ c.if-is_function.false)
    _ c.meaning-denoted.ensures c.in-Some.found c.in-Some.ensures.found (sym c.is_value.ensures ∙ c.if-is_value.false)

pub returns-then-is_supplied : goal.returns-then-is_supplied
returns-then-is_supplied c =
    supplied_named c.args.self.now c.args.called _ c.args.text.now
    (ap (λ z. c.args.self.now.place.in_body && z) (sym c.is_function_name.ensures) ∙ sym c.holds-is_function.ensures ∙ c.if-is_function.false)
    _ c.meaning-denoted.ensures c.in-None.ensures.found
    (ap (λ z. c.args.called && z) (sym c.is_built_in.ensures) ∙ sym c.holds-is_supplied.ensures ∙ c.if-is_supplied.true)

pub returns-else-is_supplied : goal.returns-else-is_supplied
returns-else-is_supplied c =
    nothing_named c.args.self.now c.args.called _ c.args.text.now
    (ap (λ z. c.args.self.now.place.in_body && z) (sym c.is_function_name.ensures) ∙ sym c.holds-is_function.ensures ∙ c.if-is_function.false)
    _ c.meaning-denoted.ensures c.in-None.ensures.found
    (ap (λ z. c.args.called && z) (sym c.is_built_in.ensures) ∙ sym c.holds-is_supplied.ensures ∙ c.if-is_supplied.false)
