use Rattle.std.proofs.Common.{length, refl, subst, sym}
use Rattle.cr_typing.specs.Members.{AreOfTable}
use Rattle.cr_typing.specs.Splicing.{AreSpliced}
use Rattle.cr_typing.specs.Kept.{IsListedBelow}
use Rattle.cr_typing.proofs.Lists.{each_listed}
use Rattle.cr_typing.proofs.Splicing.{ending_keeps_splicing}
use Rattle.cr_typing.proofs.typing.Typing.finish.Goals as goal

pub invariant_of-self : goal.invariant_of-self
invariant_of-self c =
    let before = c.self.invariant c.args.r.0 in
    each_listed (IsListedBelow (length c.self.inside.all.items)) c.self.inside.records.entries c.end_in.new.records.entries c.args.r.0
    (subst (IsListedBelow (length c.self.inside.all.items)) (sym c.end_in.ensures.this) (record { declared = before.declared; named = before.named }))
    c.self.invariant c.end_in.ensures.others

pub returns-clause-spliced : goal.returns-clause-spliced
returns-clause-spliced c = λ t is.
    ending_keeps_splicing t (record { all = c.self.inside.all.items; records = c.self.inside.records.entries })
    (record { all = c.self.inside.all.items; records = c.end_in.new.records.entries }) c.args.r
    (record { all = refl; this = c.end_in.ensures.this; others = c.end_in.ensures.others }) (subst (AreSpliced t) (sym c.self.view_is) is)

pub returns-clause-held : goal.returns-clause-held
returns-clause-held c = λ t held. subst (AreOfTable t) (sym c.self.view_is) held
