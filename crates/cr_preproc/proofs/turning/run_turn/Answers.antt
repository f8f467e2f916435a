use Rattle.std.proofs.Common.{◌≤◌, [], ap, sym, ◌∙◌, subst, refl}
use Rattle.cr_expand.specs.declared.machine.TheConstants.{LIMIT}
use Rattle.cr_preproc.specs.declared.expansion.Expansion.{Expansion}
use Rattle.cr_preproc.specs.declared.expansion.Use.TheVariants as use1
use Rattle.cr_preproc.specs.declared.turning.Doing.TheVariants as doing
use Rattle.cr_preproc.specs.OpenFiles.{reading_of}
use Rattle.cr_preproc.specs.Progressing.{state_of}
use Rattle.cr_phase4.specs.Search.{world_of}
use Rattle.cr_preproc.specs.Expanding.{IsUsed, end_by, ahead_in, table_for}
use Rattle.cr_phase4.specs.Tasks.{Nothing, Ends}
use Rattle.cr_preproc.specs.Leading.{Leads}
use Rattle.cr_preproc.specs.Turning.{doing_left}
use Rattle.cr_preproc.proofs.Turns.{used_is, with_used, used_good, run_goes, run_gives, run_ends, run_fails, run_working}
use Rattle.cr_preproc.proofs.turning.run_turn.Goals as goal

pub returns-in-Goes : goal.returns-in-Goes
returns-in-Goes c = record {
  turned =
      let i : IsUsed c.args.progress.now c.step.new.progress c.args.expansion.value c.step.new.self use1.Goes = subst (λ (x : Expansion). IsUsed c.args.progress.now c.step.new.progress x c.step.new.self use1.Goes) c.deref_mut.ensures.value (subst (IsUsed c.args.progress.now c.step.new.progress c.deref_mut.result.now c.step.new.self) c.in-Goes.is c.in_ok-step.ensures.used) in
      let p = c.args.progress.now in
      let q = c.step.new.progress in
      let n = c.used-progress.result in
      let limit : n ≤ LIMIT = subst (λ m. m ≤ LIMIT) (sym (used_is c.used-progress.result c.deref.result.now c.step.new.self c.used-progress.ensures c.deref.ensures)) i.5.limit in (
        run_goes c.defined_macros_are_known.ensures (world_of c.args.context.snapshot.now) c.args.context.unit.now c.args.context.snapshot.now p q c.args.file.now i.0 c.args.expansion (record c.args.expansion { value = c.step.new.self }) c.args.then c.requires.good c.requires.open c.requires.expanding i.4 i.1 i.6 n i.2,
        run_working c.args.context.snapshot.now p q (with_used q n) c.args.file.now i.0 (record c.args.expansion { value = c.step.new.self }) c.args.then n c.requires.open c.requires.line i.4 i.5 (i.6 ∙ c.requires.literal) (used_good q n c.in_ok-step.ensures.good limit) refl,
      );
  falls = tt;
}

pub returns-in_ok-doing-in-Gives : goal.returns-in_ok-doing-in-Gives
returns-in_ok-doing-in-Gives c = record {
  turned =
      let i : IsUsed c.args.progress.now c.step.new.progress c.args.expansion.value c.step.new.self (use1.Gives c.in-Gives.t) = subst (λ (x : Expansion). IsUsed c.args.progress.now c.step.new.progress x c.step.new.self (use1.Gives c.in-Gives.t)) c.deref_mut.ensures.value (subst (IsUsed c.args.progress.now c.step.new.progress c.deref_mut.result.now c.step.new.self) c.in-Gives.is c.in_ok-step.ensures.used) in
      run_gives c.defined_macros_are_known.ensures (world_of c.args.context.snapshot.now) c.args.context.unit.now c.args.context.snapshot.now c.args.progress.now c.step.new.progress c.give.new.progress c.args.file.now c.args.expansion (record c.args.expansion { value = c.step.new.self }) c.args.then c.used-progress-in-Gives.result c.in-Gives.t
      c.requires.good c.requires.open c.requires.line c.requires.expanding c.requires.literal c.in_ok-step.ensures.good (used_is c.used-progress-in-Gives.result c.deref-in-Gives.result.now c.step.new.self c.used-progress-in-Gives.ensures c.deref-in-Gives.ensures) i c.in_ok-doing-in-Gives.field-0 c.in_ok-doing-in-Gives.ensures.given;
  falls = tt;
}

pub returns-in_ok-turned-in-Ends : goal.returns-in_ok-turned-in-Ends
returns-in_ok-turned-in-Ends c = record {
  turned =
      let i : IsUsed c.args.progress.now c.step.new.progress c.args.expansion.value c.step.new.self use1.Ends = subst (λ (x : Expansion). IsUsed c.args.progress.now c.step.new.progress x c.step.new.self use1.Ends) c.deref_mut.ensures.value (subst (IsUsed c.args.progress.now c.step.new.progress c.deref_mut.result.now c.step.new.self) c.in-Ends.is c.in_ok-step.ensures.used) in
      c.in_ok-turned-in-Ends.ensures.turned c.args.progress.now (doing.Expands c.args.expansion c.args.then) c.requires.good
      (run_ends (world_of c.args.context.snapshot.now) c.args.context.unit.now c.args.context.snapshot.now c.args.progress.now c.step.new.progress c.args.file.now c.args.expansion (record c.args.expansion { value = c.step.new.self }) c.args.then c.used-progress-in-Ends.result (used_is c.used-progress-in-Ends.result c.deref-in-Ends.result.now c.step.new.self c.used-progress-in-Ends.ensures c.deref-in-Ends.ensures) i);
  falls =
      let i : IsUsed c.args.progress.now c.step.new.progress c.args.expansion.value c.step.new.self use1.Ends = subst (λ (x : Expansion). IsUsed c.args.progress.now c.step.new.progress x c.step.new.self use1.Ends) c.deref_mut.ensures.value (subst (IsUsed c.args.progress.now c.step.new.progress c.deref_mut.result.now c.step.new.self) c.in-Ends.is c.in_ok-step.ensures.used) in
      c.in_ok-turned-in-Ends.ensures.falls c.args.progress.now c.args.expansion (sym (ap (λ x. x.reading) i.0));
}

pub returns-in-Fails : goal.returns-in-Fails
returns-in-Fails c = record {
  turned =
      let p = c.args.progress.now in
      let q = c.step.new.progress in
      let i : IsUsed p q c.args.expansion.value c.step.new.self (use1.Fails c.in-Fails.fault) = subst (λ (x : Expansion). IsUsed p q x c.step.new.self (use1.Fails c.in-Fails.fault)) c.deref_mut.ensures.value (subst (IsUsed p q c.deref_mut.result.now c.step.new.self) c.in-Fails.is c.in_ok-step.ensures.used) in
      let w = world_of c.args.context.snapshot.now in
      let r = reading_of p.names c.args.context.snapshot.now c.args.file.now in (
        λ k.
            subst (λ end. Leads {A = Nothing} 0 p q (doing_left w c.args.context.unit.now p r k (doing.Expands c.args.expansion c.args.then)) (Ends end [])) (sym c.earlier.ensures)
            (run_fails w c.args.context.unit.now r k c.args.then p q (table_for p c.args.expansion.value) (state_of p) (ahead_in p c.args.expansion.value) (end_by c.in-Fails.fault) i.0 i.2.told),
        c.in_ok-step.ensures.good,
      );
  falls = tt;
}
