use Rattle.std.proofs.Common.{refl, sym, ap, ◌∙◌, Some}
use Rattle.cr_preproc.specs.declared.preproc.Ending.TheVariants as ending
use Rattle.cr_phase4.specs.Search.{world_of}
use Rattle.cr_phase4.specs.Preprocessing.{does_first_file}
use Rattle.cr_preproc.proofs.UnitSteps.{of_search, same_but_progress, done_turn}
use Rattle.cr_preproc.proofs.Falls.{ended_falls}
use Rattle.cr_preproc.proofs.preproc.Preproc.open_first.Goals as goal

pub follow_first-step-requires : goal.follow_first-step-requires
follow_first-step-requires c =
    let w = world_of c.args.snapshot.now in
    let u = c.args.self.now.unit in
    of_search w u c.args.snapshot.now c.args.self.now.progress c.look_for.new.self.progress (does_first_file w u c.in-Some.path) c.in_ok-turned-in-Some.turned (c.in_ok-turned-in-Some.ensures.opened u)

pub returns-in_ok-turned-in-Some : goal.returns-in_ok-turned-in-Some
returns-in_ok-turned-in-Some c =
    let rest = c.in_ok-turned-in-Some.ensures.rest in
    record {
      turn = c.follow_first-step.ensures.turn c.args.snapshot.now c.args.self.now c.in-Some.path (same_but_progress c.args.self.now c.look_for.new.self c.requires.going rest) c.requires.file
          (ap (λ x. x.file) rest ∙ c.requires.file) (sym (ap (λ x. x.doing) rest)) c.requires.good (sym c.in_ok-first_path.ensures ∙ c.in-Some.is) (c.in_ok-turned-in-Some.ensures.opened c.args.self.now.unit);
      falls = c.follow_first-step.ensures.falls c.args.self.now c.in-Some.path (same_but_progress c.args.self.now c.look_for.new.self c.requires.going rest) c.requires.file
          (ap (λ x. x.file) rest ∙ c.requires.file) (sym c.in_ok-first_path.ensures ∙ c.in-Some.is) c.in_ok-turned-in-Some.ensures.counts;
    }

pub returns-in-None : goal.returns-in-None
returns-in-None c = record { turn = record { leads = done_turn c.args.snapshot.now c.args.self.now c.requires.going c.requires.file (sym c.in_ok-first_path.ensures ∙ c.in-None.is) c.requires.good }; falls = ended_falls c.args.self.now (record c.args.self.now { ending = Some ending.Done }) ending.Done refl }
