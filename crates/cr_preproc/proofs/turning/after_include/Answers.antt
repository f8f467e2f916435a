use Rattle.std.specs.Prelude.{[]}
use Rattle.cr_macros.specs.Tokens.{tokens_of}
use Rattle.cr_phase4.specs.Search.{world_of}
use Rattle.cr_phase4.specs.Preprocessing.{does_file}
use Rattle.cr_preproc.specs.Leading.{includes_given}
use Rattle.cr_preproc.proofs.turning.after_include.Goals as goal

pub returns-clause-behind : goal.returns-clause-behind
returns-clause-behind c =
    let w = world_of c.args.context.snapshot.now in
    let u = c.args.context.unit.now in
    let p = c.args.progress.now in
    let f = c.args.file.now in
    c.in_ok-next.ensures.behind p (includes_given w u (does_file w u f.levels) f.path c.args.hash (tokens_of p.names c.args.given.now)) c.include_given.ensures.names (c.in_ok-directed.ensures.directed w u (does_file w u f.levels) f.path [])

pub returns-clause-falls : goal.returns-clause-falls
returns-clause-falls c = c.in_ok-next.ensures.unexpanded c.in_ok-directed.ensures.unexpanded
