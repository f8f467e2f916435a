use Rattle.std.proofs.Common.{sym, ◌∙◌, subst}
use Rattle.std.specs.Prelude.{[]}
use Rattle.cr_macros.specs.Tokens.{tokens_of}
use Rattle.cr_preproc.specs.declared.turning.Doing.TheVariants as doing
use Rattle.cr_phase4.specs.Tasks.{Task, Nothing, Goes, Done, ◌>>>◌}
use Rattle.cr_phase4.specs.Lines.{line_of}
use Rattle.cr_phase4.specs.Search.{world_of}
use Rattle.cr_preproc.specs.OpenFiles.{reading_of, IsOpen}
use Rattle.cr_preproc.specs.Progressing.{state_of}
use Rattle.cr_preproc.specs.Leading.{Leads}
use Rattle.cr_preproc.specs.Falling.{then_rank, IsBelow}
use Rattle.cr_preproc.specs.Turning.{doing_left, then_left, carried}
use Rattle.cr_preproc.proofs.Leadings.{behind_none, leads_to}
use Rattle.cr_preproc.proofs.DirectiveTurns.{behind_from}
use Rattle.cr_preproc.proofs.Falls.{same_most}
use Rattle.cr_preproc.proofs.turning.after_run.Goals as goal

pub returns-in-Fails : goal.returns-in-Fails
returns-in-Fails c = record {
  turned = λ p d good h.
      let w = world_of c.args.context.snapshot.now in
      let u = c.args.context.unit.now in
      let files = c.args.context.snapshot.now in
      let q = c.args.progress.now in
      let before = λ (k : Task Nothing). doing_left w u p (reading_of p.names files c.args.file.now) k d in (
        λ k. (subst (λ next. Leads 0 p q (before k) (then_left w u (reading_of q.names files c.args.file.now) k next (Goes Done (state_of q) []))) c.in-Fails.is (h k)),
        c.requires.good,
      );
  falls = λ p e reads. tt;
}

pub returns-in-Close : goal.returns-in-Close
returns-in-Close c = record {
  turned = λ p d good h.
      let w = world_of c.args.context.snapshot.now in
      let u = c.args.context.unit.now in
      let files = c.args.context.snapshot.now in
      let q = c.args.progress.now in
      let before = λ (k : Task Nothing). doing_left w u p (reading_of p.names files c.args.file.now) k d in (
        λ k.
            leads_to 0 p q _ _ _ (behind_none (k (state_of q)))
            (subst (λ next. Leads 0 p q (before k) (then_left w u (reading_of q.names files c.args.file.now) k next (Goes Done (state_of q) []))) c.in-Close.is (h k)),
        c.requires.good,
      );
  falls = λ p e reads. same_most p c.args.progress.now (sym reads);
}

pub returns-in_ok-next-in-Line : goal.returns-in_ok-next-in-Line
returns-in_ok-next-in-Line c = record {
  turned = λ p d good h.
      let w = world_of c.args.context.snapshot.now in
      let u = c.args.context.unit.now in
      let files = c.args.context.snapshot.now in
      let q = c.args.progress.now in
      let f = c.args.file.now in
      let v = c.directive.new.progress in
      let before = λ (k : Task Nothing). doing_left w u p (reading_of p.names files f) k d in
      let line = λ (k : Task Nothing). (carried w u (reading_of q.names files f) (line_of (tokens_of q.names f.line.items)) >>> λ n. k) (state_of q) in
      let led = λ (k : Task Nothing).
      leads_to 0 p q (before k) _ (line k) (behind_none (line k))
      (subst (λ next. Leads 0 p q (before k) (then_left w u (reading_of q.names files f) k next (Goes Done (state_of q) []))) c.in-Line.is (h k)) in
      c.behind_run.ensures.turned w u files p v d (subst (λ names. IsOpen names files f) (sym c.directive.ensures.names) c.requires.open)
      (behind_from w u files p q v f before line c.in_ok-next-in-Line.next good led c.in_ok-next-in-Line.ensures.behind);
  falls = λ p e reads.
      c.behind_run.ensures.falls p c.directive.new.progress (doing.Expands e c.args.then) (same_most p c.directive.new.progress (c.in_ok-next-in-Line.ensures.reading ∙ sym reads))
      (subst (λ x. IsBelow (then_rank x) c.in_ok-next-in-Line.next) (sym c.in-Line.is) c.in_ok-next-in-Line.ensures.falls);
}
