use Rattle.std.proofs.Common.{◌≡◌, length, unwrap_or, sym, ap, subst}
use Rattle.cr_typing.specs.Members.{listed_in, nothing_listed}
use Rattle.cr_typing.specs.Kept.{IsListedBelow}
use Rattle.cr_typing.proofs.Names.{found_below}
use Rattle.cr_typing.proofs.typing.Typing.member_of.Goals as goal

pub returns-in-Some-clause-given : goal.returns-in-Some-clause-given
returns-in-Some-clause-given c =
    let n = length c.self.inside.all.items in
    let same : listed_in c.self.inside.records.entries c.args.r.0 ≡ c.in-Some.record.now = ap (λ o. unwrap_or o nothing_listed) (sym c.in-Some.ensures.value) in
    rw (← c.self.view_is, c.member.ensures)
    (found_below n c.in-Some.record.now c.args.name (subst (IsListedBelow n) same (c.self.invariant c.args.r.0)))
