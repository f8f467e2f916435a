use Rattle.std.proofs.Common.{sym, subst, refl, Some, None}
use Rattle.cr_preproc.specs.declared.preproc.Ending.TheVariants as ending
use Rattle.cr_phase4.specs.Search.{world_of}
use Rattle.cr_phase4.specs.Preprocessing.{does_first_file}
use Rattle.cr_preproc.specs.Turning.{IsOpened}
use Rattle.cr_preproc.specs.Preprocs.{TurnLeads}
use Rattle.cr_preproc.specs.Falling.{CountsFile, TurnFalls}
use Rattle.cr_preproc.proofs.FirstTurns.{first_needs, first_ends, first_goes, first_opens}
use Rattle.cr_preproc.proofs.Falls.{ended_falls, first_goes_falls, first_opens_falls}
use Rattle.cr_preproc.proofs.preproc.Preproc.follow_first.Goals as goal

pub returns-in-Goes-clause-turn : goal.returns-in-Goes-clause-turn
returns-in-Goes-clause-turn c = λ files p path same pf qf pd good first t. record {
  leads =
      subst (λ f. TurnLeads files p (record c.args.self.now { firsts = f }) None) (sym c.next_first-self-in-Goes.ensures)
      (first_goes files p c.args.self.now path same pf qf pd good first (subst (IsOpened (world_of files) p.unit files p.progress c.args.self.now.progress (does_first_file (world_of files) p.unit path)) c.in-Goes.is t));
}

pub returns-in-Opens-clause-turn : goal.returns-in-Opens-clause-turn
returns-in-Opens-clause-turn c = λ files p path same pf qf pd good first t. record {
  leads =
      subst (λ f. TurnLeads files p (record c.args.self.now { firsts = f; file = Some c.in-Opens.file }) None) (sym c.next_first-self.ensures)
      (first_opens files p c.args.self.now path same pf qf pd good first c.in-Opens.file (subst (IsOpened (world_of files) p.unit files p.progress c.args.self.now.progress (does_first_file (world_of files) p.unit path)) c.in-Opens.is t));
}

pub returns-in-Needs-clause-turn : goal.returns-in-Needs-clause-turn
returns-in-Needs-clause-turn c = λ files p path same pf qf pd good first t. record {
  leads = first_needs files p c.args.self.now path same pf qf pd good first c.in-Needs.paths (subst (IsOpened (world_of files) p.unit files p.progress c.args.self.now.progress (does_first_file (world_of files) p.unit path)) c.in-Needs.is t);
}

pub returns-in-Ends-clause-turn : goal.returns-in-Ends-clause-turn
returns-in-Ends-clause-turn c = λ files p path same pf qf pd good first t. record {
  leads = first_ends files p c.args.self.now path same pf qf pd good first c.in-Ends.fault (subst (IsOpened (world_of files) p.unit files p.progress c.args.self.now.progress (does_first_file (world_of files) p.unit path)) c.in-Ends.is t);
}

pub returns-in-Goes-clause-falls : goal.returns-in-Goes-clause-falls
returns-in-Goes-clause-falls c = λ p path same pf qf first h.
    subst (λ f. TurnFalls p (record c.args.self.now { firsts = f }) None) (sym c.next_first-self-in-Goes.ensures) (first_goes_falls p c.args.self.now path same pf qf first (subst (CountsFile p.progress c.args.self.now.progress) c.in-Goes.is h))

pub returns-in-Opens-clause-falls : goal.returns-in-Opens-clause-falls
returns-in-Opens-clause-falls c = λ p path same pf qf first h.
    subst (λ f. TurnFalls p (record c.args.self.now { firsts = f; file = Some c.in-Opens.file }) None) (sym c.next_first-self.ensures)
    (first_opens_falls p c.args.self.now path same pf qf first c.in-Opens.file (subst (CountsFile p.progress c.args.self.now.progress) c.in-Opens.is h))

pub returns-in-Ends-clause-falls : goal.returns-in-Ends-clause-falls
returns-in-Ends-clause-falls c = λ p path same pf qf first h.
    ended_falls p (record c.args.self.now { ending = Some (ending.Ill c.in-Ends.fault) }) (ending.Ill c.in-Ends.fault) refl
