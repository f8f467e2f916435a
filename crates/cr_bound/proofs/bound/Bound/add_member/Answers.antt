use Rattle.cr_bound.proofs.Membering.{member_added, member_refused}
use Rattle.cr_bound.proofs.bound.Bound.add_member.Goals as goal

pub returns-in-Ok-clause-ok : goal.returns-in-Ok-clause-ok
returns-in-Ok-clause-ok c =
    member_added c.args.types.now _ c.args.self.now c.in_ok-ty.ensures.grows _ c.in-Some.is _ c.args.parts.now c.args.tokens.now _ c.in-Some-name.is c.name_at-name.result c.name_at-name.ensures c.in_ok-ty.ensures.meant _ c.in-Ok.ensures.ok c.in-Ok.ensures.spelled

pub returns-in-Err-clause-ill : goal.returns-in-Err-clause-ill
returns-in-Err-clause-ill c =
    member_refused c.args.types.now _ c.args.self.now c.in_ok-ty.ensures.grows _ c.in-Some.is _ c.args.parts.now c.args.tokens.now _ c.in-Some-name.is c.name_at-name.result c.name_at-name.ensures c.in_ok-ty.ensures.meant _ _ c.refused.ensures c.in-Err.ensures.ill
