use Rattle.cr_macros.specs.Tokens.{tokens_of}
use Rattle.cr_preproc.proofs.DirectiveSteps.{at_order}
use Rattle.cr_preproc.proofs.directing.carry_out.Goals as goal

pub returns-in_ok-directed-in-Define-clause-directed : goal.returns-in_ok-directed-in-Define-clause-directed
returns-in_ok-directed-in-Define-clause-directed c w u enter =
    at_order w u enter c.args.path.now c.args.hash (tokens_of c.args.progress.now.names c.args.rest.now) c.args.progress.now _ c.args.asked _ _ c.in-Define.is (c.in_ok-directed-in-Define.ensures.directed w u enter c.args.path.now)

pub returns-in_ok-directed-in-Undef-clause-directed : goal.returns-in_ok-directed-in-Undef-clause-directed
returns-in_ok-directed-in-Undef-clause-directed c w u enter =
    at_order w u enter c.args.path.now c.args.hash (tokens_of c.args.progress.now.names c.args.rest.now) c.args.progress.now _ c.args.asked _ _ c.in-Undef.is (c.in_ok-directed-in-Undef.ensures.directed w u enter c.args.path.now)

pub returns-in_ok-directed-in-Include-clause-directed : goal.returns-in_ok-directed-in-Include-clause-directed
returns-in_ok-directed-in-Include-clause-directed c w u enter =
    at_order w u enter c.args.path.now c.args.hash (tokens_of c.args.progress.now.names c.args.rest.now) c.args.progress.now _ c.args.asked _ _ c.in-Include.is (c.in_ok-directed-in-Include.ensures.directed w u enter c.args.path.now)

pub returns-in_ok-directed-in-Pragma-clause-directed : goal.returns-in_ok-directed-in-Pragma-clause-directed
returns-in_ok-directed-in-Pragma-clause-directed c w u enter =
    at_order w u enter c.args.path.now c.args.hash (tokens_of c.args.progress.now.names c.args.rest.now) c.args.progress.now _ c.args.asked _ _ c.in-Pragma.is (c.in_ok-directed-in-Pragma.ensures.directed w u enter c.args.hash)

pub returns-in_ok-directed-in-Named-clause-directed : goal.returns-in_ok-directed-in-Named-clause-directed
returns-in_ok-directed-in-Named-clause-directed c w u enter =
    at_order w u enter c.args.path.now c.args.hash (tokens_of c.args.progress.now.names c.args.rest.now) c.args.progress.now _ c.args.asked _ _ c.in-Named.is (c.in_ok-directed-in-Named.ensures.directed w u enter c.args.path.now c.args.hash)

pub returns-in_ok-directed-in-Error-clause-directed : goal.returns-in_ok-directed-in-Error-clause-directed
returns-in_ok-directed-in-Error-clause-directed c w u enter =
    at_order w u enter c.args.path.now c.args.hash (tokens_of c.args.progress.now.names c.args.rest.now) c.args.progress.now _ c.args.asked _ _ c.in-Error.is (c.in_ok-directed-in-Error.ensures.directed w u enter c.args.path.now)
