use Rattle.std.proofs.Common.{◌≡◌, Bor, Result, Err, ap, Vec, Global}
use Rattle.std.specs.Option.{option_map}
use Rattle.cr_base.specs.declared.path.PathText.{PathText}
use Rattle.cr_base.specs.declared.token.Place.{Place}
use Rattle.cr_class.specs.declared.refusal.VerdictFault.{VerdictFault}
use Rattle.cr_class.proofs.Judged.{none_refuses}
use Rattle.cr_class.proofs.answer.verdict.Goals as goal

same_fault : (a b : VerdictFault) → ◌≡◌ {A = Result (Vec Place Global) VerdictFault} (Err a) (Err b) → a ≡ b
same_fault a b e = cc

pub returns-in-Err-clause-refused : goal.returns-in-Err-clause-refused
returns-in-Err-clause-refused c r e = c.in-Err.ensures.refused r (ap Err (same_fault _ _ e))

pub returns-clause-ok : goal.returns-clause-ok
returns-clause-ok c = none_refuses c.args.facts.now c.args.class.now c.args.snapshot.now (option_map (λ (r : Bor PathText). r.now) c.args.root) c.args.old.now c.args.new.now c.in_default.ensures.ok

pub returns-clause-accepted : goal.returns-clause-accepted
returns-clause-accepted c =
    let root = option_map (λ (r : Bor PathText). r.now) c.args.root in
    c.an_accepted_verdict_tells_of_each_fact.ensures.facts c.args.facts.now c.args.class.now c.args.snapshot.now root c.args.old.now c.args.new.now
    (none_refuses c.args.facts.now c.args.class.now c.args.snapshot.now root c.args.old.now c.args.new.now c.in_default.ensures.ok)
