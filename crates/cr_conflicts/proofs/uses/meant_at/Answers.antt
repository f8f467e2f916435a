use Rattle.std.proofs.Common.{◌<◌, subst, length}
use Rattle.std.specs.Prelude.{IfSome}
use Rattle.std.proofs.lemmas.Option.{slice_get-get_or}
use Rattle.cr_conflicts.proofs.Meaning.{meant_none, meant_some}
use Rattle.cr_conflicts.proofs.uses.meant_at.Goals as goal

pub returns-in-None : goal.returns-in-None
returns-in-None c = meant_none c.args.paths.now c.args.rows.now c.args.groups.now.entries c.args.sought c.args.before c.args.denoted c.nearest.result c.requires.kept.distinct c.nearest.ensures c.in-None.is

pub returns-in-Some : goal.returns-in-Some
returns-in-Some c =
    meant_some c.args.paths.now c.args.rows.now c.args.groups.now.entries c.args.sought c.args.before c.args.denoted c.in-Some.c _
    (slice_get-get_or c.args.rows.now c.in-Some.c _ (subst (λ z. IfSome z (λ n. n < length c.args.rows.now)) c.in-Some.is c.requires.there))
    c.in-Some.is
