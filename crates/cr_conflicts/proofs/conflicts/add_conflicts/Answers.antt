use Rattle.cr_groups.specs.Rows.{source_of}
use Rattle.cr_conflicts.specs.Pairs.{find_least}
use Rattle.cr_conflicts.proofs.AllMeant.{all_told}
use Rattle.cr_conflicts.proofs.Tokened.{have_tokens}
use Rattle.cr_conflicts.proofs.conflicts.add_conflicts.Goals as goal

pub by_token-requires : goal.by_token-requires
by_token-requires c = record { there = have_tokens c.args.tokens.now c.args.paths.now c.args.rows.now c.args.uses.now c.requires.sound }

pub holders_of-requires : goal.holders_of-requires
holders_of-requires c = record { there = λ j m at. (c.requires.members j m at).token }

pub returns : goal.returns
returns c =
    all_told c.args.unit (source_of c.args.table.now c.args.tokens.now) c.args.names.old c.args.names.new c.args.paths.now c.args.rows.now c.args.uses.now c.args.members.now c.args.records.now _ (find_least c.in_ok-leasts.leasts.entries) _ _ _ _ _ _
    c.requires.kept c.requires.apart c.requires.formed c.requires.sound c.requires.unique c.requires.built c.in_ok-leasts.ensures
    c.in_ok-add_uses.ensures c.in_ok-add_pairs.ensures c.in_ok-add_linked.ensures c.in_ok-add_asks.ensures c.in_ok-add_meetings.ensures
