use Rattle.std.proofs.Common.{◌≡◌, Ok, Err, subst, sym, ap, ◌∙◌}
use Rattle.cr_types.specs.Types.{type_at}
use Rattle.cr_typing.specs.Members.{AreOfTable}
use Rattle.cr_binding.specs.Source.{Source}
use Rattle.cr_binding.specs.State.{State}
use Rattle.cr_binding.specs.RecordMembers.{select}
use Rattle.cr_records.specs.Records.{with_records, AreSpelled, IsSelected}
use Rattle.cr_records.proofs.Selecting.{selected_both, selected_is, data_given}
use Rattle.cr_records.proofs.records.Records.select.Goals as goal

pub select-requires-clause-held : goal.select-requires-clause-held
select-requires-clause-held c = subst (λ z. AreOfTable c.args.types.now z.typing) (sym c.self.view_is) c.requires.of.held

pub returns-in-Ok-clause-found : goal.returns-in-Ok-clause-found
returns-in-Ok-clause-found c =
    subst
    (λ z. (source : Source) (s : State) → AreSpelled source z → IsSelected c.args.types.now (select source (with_records c.args.types.now z s) c.args.arrow c.args.name (type_at c.args.types.now c.args.of)) (Ok (record { token = c.member-member.result.now.token; ty = c.member-member.result.now.ty })))
    c.self.view_is
    (λ source s spelled. selected_is c.args.types.now c.self.inside.typing _ c.in-Ok.m c.member-member.result.now c.member-member.ensures
    (selected_both c.args.types.now _ c.args.arrow c.args.name (type_at c.args.types.now c.args.of) (Ok c.in-Ok.m) c.self.invariant.0 c.in-Ok.ensures.found source s spelled))

pub returns-in-Ok-clause-given : goal.returns-in-Ok-clause-given
returns-in-Ok-clause-given c =
    data_given c.args.types.now c.self.inside.typing c.in-Ok.m c.member-member.result.now (subst (λ z. AreOfTable c.args.types.now z.typing) (sym c.self.view_is) c.requires.of.held) c.member-member.ensures

pub returns-in-Err-clause-found : goal.returns-in-Err-clause-found
returns-in-Err-clause-found c =
    subst
    (λ z. (source : Source) (s : State) → AreSpelled source z → select source (with_records c.args.types.now z s) c.args.arrow c.args.name (type_at c.args.types.now c.args.of) ≡ Err c.cause.result)
    c.self.view_is
    (λ source s spelled.
    selected_both c.args.types.now _ c.args.arrow c.args.name (type_at c.args.types.now c.args.of) (Err c.in-Err.fault) c.self.invariant.0 c.in-Err.ensures.found source s spelled
    ∙ ap Err (sym c.cause.ensures))
