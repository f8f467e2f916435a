use Rattle.std.proofs.Common.{◌≡◌, refl, sym, ap, ◌∙◌, subst, arith}
use Rattle.cr_snapshot.specs.Files.{finding}
use Rattle.cr_preproc.specs.declared.turning.Doing.{Doing}
use Rattle.cr_preproc.specs.declared.turning.Doing.TheVariants as doing
use Rattle.cr_preproc.specs.declared.turning.Turned.{Turned}
use Rattle.cr_phase4.specs.Tasks.{Nothing, Reply, ◌>>>◌, go_on}
use Rattle.cr_phase4.specs.Search.{world_of, search}
use Rattle.cr_phase4.specs.Directives.{Opening, opens}
use Rattle.cr_phase4.specs.Preprocessing.{does_file}
use Rattle.cr_preproc.specs.OpenFiles.{reads_file, reading_of}
use Rattle.cr_preproc.specs.Seen.{seen_search}
use Rattle.cr_preproc.specs.Turning.{IsOpened, IsTurned}
use Rattle.cr_preproc.proofs.Openings.{enters_sub, wants_none, looked}
use Rattle.cr_preproc.proofs.Falls.{empty_below, looked_falls}
use Rattle.cr_preproc.proofs.turning.look_turn.Goals as goal

pub returns-in-Needs : goal.returns-in-Needs
returns-in-Needs c = record {
  turned = λ u.
      let files = c.args.snapshot.now in
      let w = world_of files in
      let p = c.args.progress.now in
      let q = c.after_search.new.progress in
      let f = c.args.file.now in
      let paths = c.args.paths.items in
      let found : seen_search c.in_ok-found.found ≡ search (λ path. finding path files) paths = c.in_ok-found.ensures.found ∙ ap (search (λ path. finding path files)) c.deref.ensures.value in
      let o =
      subst (λ (t : Turned). IsOpened w u files p q (opens w (does_file w u f.levels) c.args.site paths) t) c.in-Needs.is
      (subst (λ (enter : Opening). IsOpened w u files p q (opens w enter c.args.site paths) c.in_ok-turned.turned) (enters_sub w u f.levels c.checked_sub-levels.result c.checked_sub-levels.ensures)
      (c.in_ok-turned.ensures.opened u files paths found)) in (
        (λ k. ap (λ (r : Reply Nothing). go_on r (λ d. reads_file w u (reading_of p.names files f) >>> λ n. k)) o.0),
        o.1,
        refl,
        refl,
      );
  falls = tt;
}

pub returns-in_default : goal.returns-in_default
returns-in_default c = record {
  turned = λ u.
      let files = c.args.snapshot.now in
      let w = world_of files in
      let p = c.args.progress.now in
      let q = c.after_search.new.progress in
      let f = c.args.file.now in
      let paths = c.args.paths.items in
      let found : seen_search c.in_ok-found.found ≡ search (λ path. finding path files) paths = c.in_ok-found.ensures.found ∙ ap (search (λ path. finding path files)) c.deref.ensures.value in
      let o =
      subst (λ (enter : Opening). IsOpened w u files p q (opens w enter c.args.site paths) c.in_ok-turned.turned) (enters_sub w u f.levels c.checked_sub-levels.result c.checked_sub-levels.ensures)
      (c.in_ok-turned.ensures.opened u files paths found) in
      subst (λ (d : Doing). IsTurned w u files p q f f (doing.Looks c.args.paths c.args.site) d c.in_ok-turned.turned) (sym c.requires.reads)
      (looked w u files p q f (opens w (does_file w u f.levels) c.args.site paths) c.requires.working.file c.requires.working.does (doing.Looks c.args.paths c.args.site) (λ k. refl) c.in_ok-turned.turned
      (wants_none c.in_ok-turned.turned c.in_default.not-Needs) o);
  falls =
      looked_falls c.args.progress.now c.after_search.new.progress c.args.file.now (doing.Looks c.args.paths c.args.site) c.args.doing.now c.in_ok-turned.turned c.in_ok-turned.ensures.counts
      (empty_below c.args.file.now c.args.doing.now 3 (omega arith) c.requires.working.does c.requires.reads);
}
