use Rattle.std.proofs.Common.{◌≤◌, ◌-◌, [], ◌++◌, sym, ap, ◌∙◌, subst, append-nil}
use Rattle.cr_macros.specs.Definition.{text_of}
use Rattle.cr_macros.specs.Expansion.{expand}
use Rattle.cr_macros.specs.MacroTables.{table_of}
use Rattle.cr_macros.specs.Tokens.{tokens_of}
use Rattle.cr_expand.specs.Ahead.{next_token}
use Rattle.cr_expand.specs.Expanders.{IsRunning}
use Rattle.cr_expand.specs.Machines.{still, ahead}
use Rattle.cr_expand.specs.Held.{IsNamed as IsNameKnown}
use Rattle.cr_expand.specs.declared.machine.TheConstants.{LIMIT}
use Rattle.cr_preproc.proofs.Expandings.{tokens_are_named}
use Rattle.cr_preproc.proofs.expansion.Expansion.boxed.Goals as goal

pub new-expander-requires : goal.new-expander-requires
new-expander-requires c = c.requires.good.used

pub feed-requires : goal.feed-requires
feed-requires c = c.new-expander.ensures.finished

pub returns-clause-expanding : goal.returns-clause-expanding
returns-clause-expanding c =
    let fresh = c.new-expander.ensures in
    let fed = c.in_ok-feed.ensures.fed in
    let p = c.args.progress.now in
    let box = ap (λ x. x.expander) c.in_ok-new.ensures.ok in
    record {
      running = subst (IsRunning p.names p.macros) (sym box) (c.finish.ensures.running p.names p.macros (fed.running p.names p.macros (fresh.running p.names p.macros c.requires.good.distinct c.requires.good.old c.requires.good.new c.requires.literal) (tokens_are_named p.names c.args.tokens.now c.requires.tokens)));
      finished = ap (λ x. x.machine.finished) (box ∙ c.finish.ensures.finished);
      fault = ap (λ x. x.fault) (box ∙ c.finish.ensures.finished) ∙ fed.fault ∙ fresh.fault;
      from = ap (λ x. x.machine.notes.from) (box ∙ c.finish.ensures.finished) ∙ fed.same.0 ∙ fresh.watched.0;
      to = ap (λ x. x.machine.notes.to) (box ∙ c.finish.ensures.finished) ∙ fed.same.1 ∙ fresh.watched.1;
      literal = subst (IsNameKnown p.names) (sym (ap (λ x. x.machine.file) (box ∙ c.finish.ensures.finished) ∙ c.in_ok-feed.ensures.fed.same.2 ∙ c.new-expander.ensures.literal)) c.requires.literal;
      limit = subst (λ n. n ≤ LIMIT) (sym (ap (λ x. x.machine.used) (box ∙ c.finish.ensures.finished) ∙ fed.used ∙ fresh.used)) c.requires.good.used;
    }

pub returns-clause-ahead : goal.returns-clause-ahead
returns-clause-ahead c =
    let p = c.args.progress.now in
    let T = table_of p.names p.macros (text_of p.names c.args.literal) in
    ap (λ x. ahead p.names p.macros x.expander.machine []) c.in_ok-new.ensures.ok
    ∙ ap (λ x. ahead p.names p.macros x.machine []) c.finish.ensures.finished
    ∙ c.in_ok-feed.ensures.fed.finds p.names p.macros []
    ∙ c.new-expander.ensures.finds p.names p.macros (tokens_of p.names c.args.tokens.now ++ [])
    ∙ ap (λ ts. next_token T ts (LIMIT - p.used)) (append-nil (tokens_of p.names c.args.tokens.now))

pub returns-clause-still : goal.returns-clause-still
returns-clause-still c =
    let p = c.args.progress.now in
    let T = table_of p.names p.macros (text_of p.names c.args.literal) in
    ap (λ x. still p.names p.macros x.expander.machine []) c.in_ok-new.ensures.ok
    ∙ ap (λ x. still p.names p.macros x.machine []) c.finish.ensures.finished
    ∙ c.in_ok-feed.ensures.fed.gives p.names p.macros []
    ∙ c.new-expander.ensures.gives p.names p.macros (tokens_of p.names c.args.tokens.now ++ [])
    ∙ ap (λ ts. expand T ts (LIMIT - p.used)) (append-nil (tokens_of p.names c.args.tokens.now))

pub returns-clause-literal : goal.returns-clause-literal
returns-clause-literal c = ap (λ x. x.expander.machine.file) c.in_ok-new.ensures.ok ∙ ap (λ x. x.machine.file) c.finish.ensures.finished ∙ c.in_ok-feed.ensures.fed.same.2 ∙ c.new-expander.ensures.literal
