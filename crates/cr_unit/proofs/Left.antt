-- How many steps of its preprocessing a unit has left.
use Rattle.std.proofs.Common.{◌≡◌, ℕ, ◌+◌, ◌<◌, cond, List, ◌++◌, refl, ap, ◌∙◌, arith}
use Rattle.std.proofs.lemmas.List.Sums.{sum_by-append}
use Rattle.cr_snapshot.specs.declared.known.KnownFile.{KnownFile}
use Rattle.cr_phase4.specs.Tasks.{Event, Reply, Goes, Ends, Nothing, behind, events_of}
use Rattle.cr_phase4.specs.PreprocessingRun.{steps, is_step}
use Rattle.cr_preproc.specs.declared.preproc.Preproc.{Preproc}
use Rattle.cr_preproc.specs.declared.preproc.PreTurn.TheVariants as pre
use Rattle.cr_preproc.specs.Preprocs.{left_of, IsPreStep}

abbrev pub steps_left : List KnownFile → Preproc → ℕ
steps_left files p = steps (events_of (left_of files p))

events_behind : (events : List Event) (r : Reply Nothing) → events_of (behind events r) ≡ events ++ events_of r
events_behind events (Goes a s more) = refl
events_behind events (Ends end more) = refl

pub steps-fall : (files : List KnownFile) (p q : Preproc) → IsPreStep files p q pre.More → steps_left files q < steps_left files p
steps-fall files p q s =
    let l = s.leads.1 in
    let same : steps (events_of (left_of files p)) ≡ steps (l.events ++ events_of (left_of files q)) = ap (λ r. steps (events_of r)) l.goes ∙ ap steps (events_behind l.events (left_of files q)) in
    let more : steps (l.events ++ events_of (left_of files q)) ≡ steps l.events + steps (events_of (left_of files q)) = sum_by-append (λ e. cond (is_step e) 1 0) l.events (events_of (left_of files q)) in
    omega (arith, same, more, l.size)
