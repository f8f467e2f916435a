use Rattle.std.proofs.Common.{◌≡◌, sym, ap, ◌∙◌, false, true, Err, arith}
use Rattle.std.specs.Prelude.{Vec}
use Rattle.std.specs.declared.alloc.Global.{Global}
use Rattle.std.proofs.lemmas.Result.{err_from_is_err_and}
use Rattle.cr_world.specs.Outside.{Rose}
use Rattle.cr_world.proofs.Histories.{read_both, read_wider}
use Rattle.cr_survey.specs.Batches.{LooksFor}
use Rattle.cr_survey.specs.Running.{Want, want_none}
use Rattle.cr_survey.specs.declared.running.Running.{Running}
use Rattle.cr_survey.proofs.Runs.{rose_earlier}
use Rattle.cr_survey.proofs.Waves.{grown_settled, grown_over, grown_more, want_looks}
use Rattle.cr_survey.proofs.Causes.{cause_on, fault_is}
use Rattle.cr_survey.proofs.batch.run_batch.Goals as goal

pub returns-then-are_settled-clause-grown : goal.returns-then-are_settled-clause-grown
returns-then-are_settled-clause-grown g c files told =
    let none : want_none c.loop.runs.items ≡ true = ap want_none (sym c.deref.ensures.value) ∙ sym c.are_settled.ensures ∙ c.if-are_settled.true in
    c.loop.invariant.grown files told _ (grown_settled files c.loop.snapshot c.args.renaming.old.now c.args.renaming.new.now c.loop.runs.items c.args.batch.now c.loop.invariant.ends c.loop.invariant.units none)

pub returns-in_err-runs-2-clause-asked : goal.returns-in_err-runs-2-clause-asked
returns-in_err-runs-2-clause-asked g c =
    read_both (LooksFor c.args.batch.now) _ _ _ c.loop.invariant.asked
    (read_wider (λ p. Want c.loop.runs.items p) (LooksFor c.args.batch.now) (λ p h. want_looks c.loop.snapshot c.args.renaming.old.now c.args.renaming.new.now c.loop.runs.items c.args.batch.now p c.loop.invariant.ends c.loop.invariant.units h) _ _ c.in_err-runs-2.ensures.asked)

pub returns-in_err-runs-2-clause-limit : goal.returns-in_err-runs-2-clause-limit
returns-in_err-runs-2-clause-limit g c files told is =
    let some : want_none c.loop.runs.items ≡ false = ap want_none (sym c.deref.ensures.value) ∙ sym c.are_settled.ensures ∙ c.if-are_settled.false in
    let p = err_from_is_err_and c.from_residual-in_err-runs-2.result c.from_residual-in_err-runs-2.ensures.1 in
    c.loop.invariant.grown files told _ (grown_over files c.loop.snapshot c.args.renaming.old.now c.args.renaming.new.now c.loop.runs.items c.args.batch.now c.loop.invariant.ends c.loop.invariant.units some
    (c.in_err-runs-2.ensures.limit files (c.loop.invariant.reads.same ∙ told) (ap (λ z. Err z) (fault_is c.from_residual-in_err-runs-2.result _ p.0 _ p.1 p.2 is))))

pub returns-in_err-runs-2-clause-cause : goal.returns-in_err-runs-2-clause-cause
returns-in_err-runs-2-clause-cause g c =
    let p = err_from_is_err_and c.from_residual-in_err-runs-2.result c.from_residual-in_err-runs-2.ensures.1 in
    (cause_on (Vec Running Global) (Vec Running Global) (λ p. Want c.loop.runs.items p × Rose (g.T.Tree.reads c.loop.tree p) (g.T.Tree.reads c.run_wave.new.tree p)) (λ p. LooksFor c.args.batch.now p × Rose (g.T.Tree.reads c.args.tree.now p) (g.T.Tree.reads c.run_wave.new.tree p)) c.from_residual-in_err-runs-2.result _ p.0 p.1 p.2
    (λ p h. (want_looks c.loop.snapshot c.args.renaming.old.now c.args.renaming.new.now c.loop.runs.items c.args.batch.now p c.loop.invariant.ends c.loop.invariant.units h.0, rose_earlier _ _ _ (c.loop.invariant.reads.later p) h.1)) c.in_err-runs-2.ensures.cause)

pub loop-preserved : goal.loop-preserved
loop-preserved g c =
    let some : want_none c.loop.runs.items ≡ false = ap want_none (sym c.deref.ensures.value) ∙ sym c.are_settled.ensures ∙ c.if-are_settled.false in
    record {
      reads = record {
        same = c.in_ok-runs-2.ensures.reads.same ∙ c.loop.invariant.reads.same;
        later = λ path. omega (arith, c.in_ok-runs-2.ensures.reads.later path, c.loop.invariant.reads.later path);
        stay = λ path. c.in_ok-runs-2.ensures.reads.stay path ∙ c.loop.invariant.reads.stay path;
        none = c.in_ok-runs-2.ensures.reads.none ∙ c.loop.invariant.reads.none;
      };
      asked =
          read_both (LooksFor c.args.batch.now) _ _ _ c.loop.invariant.asked
          (read_wider (λ p. Want c.loop.runs.items p) (LooksFor c.args.batch.now) (λ p h. want_looks c.loop.snapshot c.args.renaming.old.now c.args.renaming.new.now c.loop.runs.items c.args.batch.now p c.loop.invariant.ends c.loop.invariant.units h) _ _ c.in_ok-runs-2.ensures.asked);
      units = c.in_ok-runs-2.ensures.units ∙ c.loop.invariant.units;
      ends = c.in_ok-runs-2.ensures.ends c.loop.invariant.ends;
      grown = λ files told end h. c.loop.invariant.grown files told end (grown_more files c.loop.snapshot _ c.args.renaming.old.now c.args.renaming.new.now c.loop.runs.items c.args.batch.now end c.loop.invariant.ends c.loop.invariant.units some (c.in_ok-runs-2.ensures.grows files (c.loop.invariant.reads.same ∙ told)) h);
      apart = c.in_ok-runs-2.ensures.apart ∙ c.loop.invariant.apart;
    }
