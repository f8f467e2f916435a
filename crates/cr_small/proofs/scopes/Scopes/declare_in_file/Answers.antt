use Rattle.std.proofs.Common.{sym, ap, subst, ◌∙◌, Some}
use Rattle.cr_small.specs.Declarations.{is_internal}
use Rattle.cr_small.specs.Holding.{Answers}
use Rattle.cr_small.specs.Resolution.{declared, entry_at}
use Rattle.cr_small.specs.declared.scopes.Symbol.{Symbol}
use Rattle.cr_small.proofs.Maps.{again_in_file, declared_in_file, linkage_seen}
use Rattle.cr_small.proofs.scopes.Scopes.declare_in_file.Goals as goal

pub returns-in-Some-clause-declared : goal.returns-in-Some-clause-declared
returns-in-Some-clause-declared c b h =
    subst (λ r. Answers c.args.self.now (declared b (entry_at b c.args.function c.args.word c.args.name.now c.args.token)) r) (sym c.again.ensures)
    (again_in_file c.args.self.now b c.args.function c.args.word c.args.name.now c.args.token h c.requires c.in-Some.first c.is_internal-internal.result (sym c.symbol_in-seen.ensures ∙ c.in-Some.is)
    (c.is_internal-internal.ensures ∙ ap (λ x. is_internal c.args.function x c.args.word) c.is_internal_symbol.ensures ∙ linkage_seen c.args.self.now b c.args.function c.args.word c.args.name.now c.args.token h c.requires c.symbol_in-seen.result c.symbol_in-seen.ensures))

pub returns-in_ok-insert-in-None-clause-declared : goal.returns-in_ok-insert-in-None-clause-declared
returns-in_ok-insert-in-None-clause-declared c b h =
    subst (λ r. Answers (record { file = c.insert.new.self; body = c.args.self.now.body; in_body = c.args.self.now.in_body }) (declared b (entry_at b c.args.function c.args.word c.args.name.now c.args.token)) (Some r)) (sym c.answer.ensures)
    (declared_in_file c.args.self.now b c.args.function c.args.word c.args.name.now c.args.token h (record { file = c.insert.new.self; body = c.args.self.now.body; in_body = c.args.self.now.in_body })
    (record { function = c.args.function; token = c.args.token; internal = c.is_internal-internal.result })
    (ap {B = Symbol} (λ x. record { function = c.args.function; token = c.args.token; internal = x }) (c.is_internal-internal.ensures ∙ ap (λ x. is_internal c.args.function x c.args.word) c.is_internal_symbol.ensures ∙ linkage_seen c.args.self.now b c.args.function c.args.word c.args.name.now c.args.token h c.requires c.symbol_in-seen.result c.symbol_in-seen.ensures))
    c.requires c.requires
    (λ n. c.in_ok-insert-in-None.ensures.updates.0 (record { ref_ptr = (0, 0); now = n }))
    (sym c.symbol_in-seen.ensures ∙ c.in-None.is))
