use Rattle.std.proofs.Common.{◌≡◌, ap, sym, ◌∙◌, subst, arith}
use Rattle.std.specs.Prelude.{[]}
use Rattle.cr_base.specs.declared.cause.Role.TheVariants as role
use Rattle.cr_macros.specs.Tokens.{token_of, tokens_of}
use Rattle.cr_phase4.specs.Tasks.{Task, Nothing, tell, marks, ◌>>>◌}
use Rattle.cr_phase4.specs.Lines as lines
use Rattle.cr_phase4.specs.Lines.{Line, Directive, Wordless, Plain, Empty, Conditional}
use Rattle.cr_phase4.specs.Search.{world_of}
use Rattle.cr_phase4.specs.Preprocessing.{does_file}
use Rattle.cr_phase4.specs.Directives as spec
use Rattle.cr_preproc.specs.Leading.{IsDirected}
use Rattle.cr_preproc.proofs.DirectiveTurns.{directive_behind, plain_behind, empty_behind, conditional_behind}
use Rattle.cr_preproc.proofs.Falls.{below_reads}
use Rattle.cr_preproc.proofs.turning.directive.Goals as goal

pub returns-in_ok-next-in-Directive-clause-behind : goal.returns-in_ok-next-in-Directive-clause-behind
returns-in_ok-next-in-Directive-clause-behind c =
    let w = world_of c.args.context.snapshot.now in
    let u = c.args.context.unit.now in
    let p = c.args.progress.now in
    let q = c.direct.new.progress in
    let f = c.args.file.now in
    let hash = c.in-Directive.hash in
    let t = token_of p.names [] c.in-Directive.word in
    let ts = tokens_of p.names c.in-Directive.rest.now in
    let m : Task Nothing = tell (marks role.Directive t) >>> λ n. spec.directive w u (does_file w u f.levels) f.path hash t.text ts in
    let now : lines.line_of (tokens_of p.names f.line.items) ≡ Directive hash t ts = sym (c.in-Directive.ensures.seen ∙ ap (λ l. lines.line_of (tokens_of p.names l)) c.deref.ensures.value) in
    let led = subst (λ names. IsDirected w u (does_file w u f.levels) f.path hash (tokens_of names c.in-Directive.rest.now) p q m c.in_ok-directed-in-Directive.directed) (sym c.direct.ensures.names) (c.in_ok-directed-in-Directive.ensures.directed w u (does_file w u f.levels)) in
    directive_behind w u c.args.context.snapshot.now p q f (lines.line_of (tokens_of p.names f.line.items)) hash t ts c.in_ok-next-in-Directive.next now (c.in_ok-next-in-Directive.ensures.behind p m c.direct.ensures.names led)

pub returns-in-Plain-clause-behind : goal.returns-in-Plain-clause-behind
returns-in-Plain-clause-behind c =
    let p = c.args.progress.now in
    let f = c.args.file.now in
    plain_behind (world_of c.args.context.snapshot.now) c.args.context.unit.now c.args.context.snapshot.now p p f (lines.line_of (tokens_of p.names f.line.items))
    (sym (c.in-Plain.ensures.seen ∙ ap (λ l. lines.line_of (tokens_of p.names l)) c.deref.ensures.value)) c.requires.good

pub returns-in-Empty-clause-behind : goal.returns-in-Empty-clause-behind
returns-in-Empty-clause-behind c =
    let p = c.args.progress.now in
    let f = c.args.file.now in
    empty_behind (world_of c.args.context.snapshot.now) c.args.context.unit.now c.args.context.snapshot.now p p f (lines.line_of (tokens_of p.names f.line.items))
    (sym (c.in-Empty.ensures.seen ∙ ap (λ l. lines.line_of (tokens_of p.names l)) c.deref.ensures.value)) c.requires.good

pub returns-in-Conditional-clause-behind : goal.returns-in-Conditional-clause-behind
returns-in-Conditional-clause-behind c =
    let p = c.args.progress.now in
    let f = c.args.file.now in
    conditional_behind (world_of c.args.context.snapshot.now) c.args.context.unit.now c.args.context.snapshot.now p p f (lines.line_of (tokens_of p.names f.line.items)) _ _ _ _
    (sym (c.in-Conditional.ensures.seen ∙ ap (λ l. lines.line_of (tokens_of p.names l)) c.deref.ensures.value)) c.requires.good

pub returns-in-Plain-clause-falls : goal.returns-in-Plain-clause-falls
returns-in-Plain-clause-falls c = below_reads 5 (omega arith)

pub returns-in-Empty-clause-falls : goal.returns-in-Empty-clause-falls
returns-in-Empty-clause-falls c = below_reads 5 (omega arith)

pub returns-in-Conditional-clause-falls : goal.returns-in-Conditional-clause-falls
returns-in-Conditional-clause-falls c = below_reads 5 (omega arith)
