use Rattle.std.proofs.Common.{sym, refl, subst, ◌∙◌, Some}
use Rattle.cr_small.specs.Holding.{Answers}
use Rattle.cr_small.specs.Resolution.{declared, entry_at}
use Rattle.cr_small.proofs.Maps.{clash_where_some, declared_in_body, none_where_not}
use Rattle.cr_small.proofs.scopes.Scopes.declare_in_body.Goals as goal

pub returns-then-is_some-clause-declared : goal.returns-then-is_some-clause-declared
returns-then-is_some-clause-declared c word b h =
    clash_where_some c.args.self.now b c.args.function word c.args.name.now c.args.token c.symbol_in.result h c.requires (sym c.symbol_in.ensures) (sym c.is_some.ensures ∙ c.if-is_some.true)

pub returns-clause-declared : goal.returns-clause-declared
returns-clause-declared c word b h =
    subst (λ r. Answers (record { file = c.args.self.now.file; body = c.insert.new.self; in_body = c.args.self.now.in_body }) (declared b (entry_at b c.args.function word c.args.name.now c.args.token)) (Some r)) (sym c.answer.ensures)
    (declared_in_body c.args.self.now b c.args.function word c.args.name.now c.args.token h (record { file = c.args.self.now.file; body = c.insert.new.self; in_body = c.args.self.now.in_body }) c.requires c.requires refl
    (λ n. c.in_ok-insert.ensures.updates.0 (record { ref_ptr = (0, 0); now = n }))
    (sym c.symbol_in.ensures ∙ none_where_not c.symbol_in.result (sym c.is_some.ensures ∙ c.if-is_some.false)))
