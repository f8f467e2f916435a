-- A unit whose preprocessing is at its end.
use Rattle.std.proofs.Common.{◌≡◌, ℕ, List, Some, sym, subst}
use Rattle.std.specs.Prelude.{Vec}
use Rattle.std.specs.declared.alloc.Global.{Global}
use Rattle.cr_base.specs.declared.token.PpTok.{PpTok}
use Rattle.cr_macros.specs.Tokens.{Text}
use Rattle.cr_snapshot.specs.declared.known.KnownFile.{KnownFile}
use Rattle.cr_phase4.specs.Tasks.{Event}
use Rattle.cr_preproc.specs.declared.preproc.Preproc.{Preproc}
use Rattle.cr_preproc.specs.declared.preproc.Ending.TheVariants as ending
use Rattle.cr_preproc.specs.declared.trace.Trace.{Trace}
use Rattle.cr_preproc.specs.Preprocs.{IsPreproc, IsGoing, AreMade}
use Rattle.cr_preproc.specs.Progressing.{IsProgress}
use Rattle.cr_unit.specs.Preprocessing.{IsWhole}

whole_made : (old new : Text) (files : List KnownFile) (q : Preproc) (events : List Event) (n : ℕ) → AreMade old new n q events → IsPreproc files q → q.ending ≡ Some ending.Done
    → IsWhole old new events (record { names = q.progress.names; tokens = q.progress.tokens; trace = q.progress.trace })
whole_made old new files q events n made good e =
    let p : IsProgress q.progress = subst (IsGoing files q) e good.sound in
    record { tokens = made.tokens; trace = made.trace; distinct = p.distinct; named = p.tokens; room = good.room; within = p.room }

pub whole_parts : (old new : Text) (files : List KnownFile) (q : Preproc) (events : List Event) (n : ℕ) → AreMade old new n q events → IsPreproc files q → q.ending ≡ Some ending.Done
    → (r : List Text × Vec PpTok Global × Trace) → r ≡ (q.progress.names, q.progress.tokens, q.progress.trace)
    → IsWhole old new events (record { names = r.0; tokens = r.1; trace = r.2 })
whole_parts old new files q events n made good e r parts =
    let P : List Text × Vec PpTok Global × Trace → Type 0 = λ z. IsWhole old new events (record { names = z.0; tokens = z.1; trace = z.2 }) in
    subst P (sym parts) (whole_made old new files q events n made good e)
