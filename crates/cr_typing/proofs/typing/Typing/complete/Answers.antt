use Rattle.std.proofs.Common.{◌≡◌, unwrap_or, slice_get, sym, ap, ◌∙◌}
use Rattle.cr_typing.specs.Members.{listed_in, nothing_listed}
use Rattle.cr_typing.proofs.typing.Typing.complete.Goals as goal

pub returns-in-Some-clause-given : goal.returns-in-Some-clause-given
returns-in-Some-clause-given c =
    let same : listed_in c.self.inside.records.entries c.args.r.0 ≡ c.in-Some.record.now = ap (λ o. unwrap_or o nothing_listed) (sym c.in-Some.ensures.value) in
    rw (← c.self.view_is)
    (λ i k at. (c.self.invariant c.args.r.0).declared i k (ap (λ x. slice_get x.declared i) same ∙ ap (λ ks. slice_get ks i) (sym c.declared.ensures) ∙ at))
