use Rattle.std.proofs.Common.{rules}
use Rattle.cr_types.specs.Types.{type_at}
use Rattle.cr_typing.specs.declared.members.MemberData.{MemberData}
use Rattle.cr_typing.specs.Members.{Adds}
use Rattle.cr_typing.proofs.Names.{one_more_of_table}
use Rattle.cr_typing.proofs.Splicing.{adding_keeps_splicing}
use Rattle.cr_typing.proofs.typing.Typing.add_member.Goals as goal

pub returns-in_ok-no-in-Some-clause-spliced : goal.returns-in_ok-no-in-Some-clause-spliced
returns-in_ok-no-in-Some-clause-spliced c =
    let member : MemberData = record { rec = c.args.r; name = c.args.name; ty = c.args.ty; token = c.args.token } in
    let adds : Adds c.args.self.now member (type_at c.args.types.now c.args.ty) c.put.new.self = search rules in
    λ free is. adding_keeps_splicing c.args.types.now c.args.self.now c.put.new.self member adds free c.in_ok-no-in-Some.ensures.listed is

pub returns-in_ok-no-in-Some-clause-held : goal.returns-in_ok-no-in-Some-clause-held
returns-in_ok-no-in-Some-clause-held c =
    one_more_of_table c.args.types.now c.args.self.now c.put.new.self _ c.in_ok-no-in-Some.ensures.ok.all c.requires.held
    (c.requires.ty_given, c.requires.rec_given)

pub returns-in_ok-no-in-None-clause-spliced : goal.returns-in_ok-no-in-None-clause-spliced
returns-in_ok-no-in-None-clause-spliced c =
    let member : MemberData = record { rec = c.args.r; name = c.args.name; ty = c.args.ty; token = c.args.token } in
    let adds : Adds c.args.self.now member (type_at c.args.types.now c.args.ty) c.put-in-None.new.self = search rules in
    λ free is. adding_keeps_splicing c.args.types.now c.args.self.now c.put-in-None.new.self member adds free c.in_ok-no-in-None.ensures.listed is

pub returns-in_ok-no-in-None-clause-held : goal.returns-in_ok-no-in-None-clause-held
returns-in_ok-no-in-None-clause-held c =
    one_more_of_table c.args.types.now c.args.self.now c.put-in-None.new.self _ c.in_ok-no-in-None.ensures.ok.all c.requires.held
    (c.requires.ty_given, c.requires.rec_given)
