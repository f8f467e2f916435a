use Rattle.std.proofs.Common.{◌≡◌, ◌<◌, ◌-◌, refl, ap, sym, subst, ◌∙◌, arith}
use Rattle.std.specs.Prelude.{IfOk}
use Rattle.cr_base.specs.declared.token.Place.{Place}
use Rattle.cr_macros.specs.Definition.{text_of}
use Rattle.cr_macros.specs.Expansion.{expand}
use Rattle.cr_macros.specs.MacroTables.{table_of}
use Rattle.cr_macros.specs.Tokens.{tokens_of}
use Rattle.cr_expand.specs.declared.machine.TheConstants.{LIMIT}
use Rattle.cr_preproc.specs.declared.turning.Doing.TheVariants as doing
use Rattle.cr_preproc.specs.Falling.{rank}
use Rattle.cr_preproc.specs.Leading.{decided}
use Rattle.cr_preproc.specs.OpenFiles.{reading_of}
use Rattle.cr_preproc.specs.Progressing.{state_of}
use Rattle.cr_phase4.specs.Runs.{after_run}
use Rattle.cr_phase4.specs.Tasks.{go_on, ◌>>>◌}
use Rattle.cr_preproc.specs.Turning.{doing_left, file_goes, led_left}
use Rattle.cr_preproc.proofs.LineTurns.{list_begins, where_ok}
use Rattle.cr_preproc.proofs.Falls.{empty_below, rank_below}
use Rattle.cr_preproc.proofs.turning.follow.Goals as goal

pub returns-in-Fails-clause-next : goal.returns-in-Fails-clause-next
returns-in-Fails-clause-next c w u files k h =
    let p = c.args.progress.now in
    let r = reading_of p.names files c.args.file.now in
    subst (λ l. IfOk c.expand_run.result (λ e. doing_left w u p r k e ≡ led_left w u p r k c.args.hash l)) (sym c.in-Fails.is) (c.expand_run.ensures.left w u files k h.file)

pub returns-in_ok-listing-in-Asks-clause-next : goal.returns-in_ok-listing-in-Asks-clause-next
returns-in_ok-listing-in-Asks-clause-next c w u files k h =
    let p = c.args.progress.now in
    let f = c.args.file.now in
    let r = reading_of p.names files f in
    let made = c.in_ok-listing-in-Asks.ensures in
    let l = c.in_ok-listing-in-Asks.listing in
    ap (λ (x : Place). doing_left w u p r k (doing.Decides (record l { hash = x }) c.in-Asks.decision)) made.hash
    ∙ ap (λ x. go_on (after_run f.path r.run (state_of p) x) (λ cs. file_goes w u r cs r.run >>> λ n. k))
    (list_begins p files f l.expansion.value c.args.hash (tokens_of p.names c.in-Asks.list.items) l.given.items (decided c.in-Asks.decision c.args.hash f.open_ifs) h.file made.given
    (made.still ∙ ap (λ ts. expand (table_of p.names p.macros (text_of p.names f.literal)) (tokens_of p.names ts) (LIMIT - p.used)) c.deref.ensures.value))
    ∙ ap (led_left w u p r k c.args.hash) (sym c.in-Asks.is)

pub returns-in-Goes-clause-falls : goal.returns-in-Goes-clause-falls
returns-in-Goes-clause-falls c = empty_below c.end_line.new.self doing.Reads 6 (omega arith) c.end_line.ensures.line refl

pub returns-in-Fails-clause-falls : goal.returns-in-Fails-clause-falls
returns-in-Fails-clause-falls c =
    where_ok c.expand_run.result (λ e. rank c.args.file.now e ≡ 1) (λ e. rank c.args.file.now e < 6) (λ e h. rank_below c.args.file.now e 1 6 (omega arith) h) (c.expand_run.ensures.falls c.args.file.now)
