-- Every list of events is lawful.
use Rattle.std.proofs.Common.{◌≡◌, ◌≤◌, ℕ, ◌+◌, ◌*◌, length, true, false, Some, List, refl, ap, ◌∙◌, subst, arith}
use Rattle.std.specs.Prelude.{replicate}
use Rattle.cr_core.specs.declared.progress.Progress.{Progress}
use Rattle.cr_core.specs.declared.Happened.{Happened}
use Rattle.cr_core.specs.Assignment.{State, untouched, start, replay}
use Rattle.cr_core.specs.Sound.{holder_count}
use Rattle.cr_core.specs.Law.{ended_of, stops_when_finished, IsLawful}
use Rattle.cr_core.proofs.Soundness.{sound_untouched}
use Rattle.cr_core.proofs.Units.{length_replicate, get_replicate}
use Rattle.cr_core.proofs.Runs.{run, sound_run, retries_run, units_run}
use Rattle.cr_core.proofs.Counts.{one_if, all_assigned, all_held, ended_count, assigned_run, answered_run, count_run, ended_bound, length_ended, assigned_bound, assigned_most, falses_count, total_start}
use Rattle.cr_core.proofs.Idle.{finished_hold_nothing}

short_by : (len units r workers a h e : ℕ) → len + (0 + h + 0) ≡ 2 * a + 0 + e → a ≤ units * (r + 2) → e ≤ workers → len ≤ 2 * units * (r + 3) + workers
short_by len units r workers a h e k p q = grind (arith, k, p, q)

pub lawful : (units retries workers : ℕ) (list : List Happened) (s : State) → replay (start units retries) list ≡ Some s → stops_when_finished workers list ≡ true → IsLawful units retries workers list s
lawful units retries workers list s h fair =
    let r = run (start units retries) s list h in
    let ok = sound_run r (sound_untouched retries units) in
    let few = retries_run r in
    let all = units_run r ∙ length_replicate units untouched in
    let count = count_run (replicate workers false) r fair in
    let ends = ended_bound (ended_of (replicate workers false) list) in
    let bound = assigned_bound s.retries s.units ok in
    let none_assigned = total_start (λ x. x.assigned) units refl in
    let none_held = total_start (λ x. holder_count x.holders) units refl in
    record {
      same_units = all;
      same_retries = few;
      few_assignments = λ v.
          let e = assigned_run v r in
          let m = assigned_most s.retries v s.units ok in
          let z = ap (λ (x : Progress). x.assigned) (get_replicate v units untouched) in
          omega (arith, e, m, few, z);
      short =
          let B : ℕ → ℕ → Type 0 = λ n k. all_assigned s ≤ n * (k + 2) in
          let b : all_assigned s ≤ units * (retries + 2) = subst (λ n. B n retries) all (subst (B (length s.units)) few bound) in
          let n = falses_count workers in
          let l = length_ended (replicate workers false) list ∙ length_replicate workers false in
          short_by (length list) units retries workers (all_assigned s) (all_held s) (ended_count (ended_of (replicate workers false) list))
          (omega (arith, count, none_assigned, none_held, n)) b (omega (arith, ends, l));
      one_first_answer = λ v.
          let e = answered_run v r in
          let z = ap (λ (x : Progress). one_if x.is_answered) (get_replicate v units untouched) in
          omega (arith, e, z);
      finished_hold_nothing = λ w is_so. finished_hold_nothing units retries workers w r fair is_so;
    }
