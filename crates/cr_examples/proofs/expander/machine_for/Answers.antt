use Rattle.std.proofs.Common.{sym, subst}
use Rattle.std.specs.List.{All}
use Rattle.cr_expand.specs.Items.{IsTokenNamed}
use Rattle.cr_expand.proofs.Kept.{named_later}
use Rattle.cr_examples.proofs.expander.machine_for.Goals as goal

pub returns-clause-running : goal.returns-clause-running
returns-clause-running c = λ macros.
    let f = named_later c.number_of.new.names c.words.new.names c.in_ok-file.file c.in_ok-list.ensures.grows c.in_ok-file.ensures.named in
    c.in_ok-feed.ensures.fed.running c.words.new.names macros (c.new-e.ensures.running c.words.new.names macros c.in_ok-list.ensures.distinct f f f)
    (subst (All (IsTokenNamed c.words.new.names)) (sym c.deref.ensures.value) c.in_ok-list.ensures.named)
