use Rattle.std.proofs.Common.{◌≡◌, ◌⊎◌, inl, sym, ap, ◌∙◌, subst, map, ℕ, List, Some, refl, ◌++◌, slice_get, take}
use Rattle.std.specs.Prelude.{Ok, Err, string_bytes, codes}
use Rattle.cr_world.specs.Outside.{Rose}
use Rattle.cr_run.specs.Outcome.{outcome}
use Rattle.cr_run.specs.Refusals.{status_of, text_of, refused_of}
use Rattle.cr_run.specs.Told.{Tells, line_of}
use Rattle.cr_run.specs.Writing.{written, IsStopped}
use Rattle.cr_run.specs.Top.{IsDecided, decided_status}
use Rattle.cr_run.specs.declared.plan.Plan.{Plan}
use Rattle.cr_run.proofs.TopLemmas.{decided_at, told_read, told_memory, complete_err, written_if, half_written, fault_of}
use Rattle.cr_run.proofs.Writes.{none_asked}
use Rattle.cr_run.proofs.top.crename_serial.Goals as goal
use Rattle.cr_run.proofs.TopLemmas.{asked_first, writes_for, writes_none, in_place}

pub returns-in-Err-clause-refused : goal.returns-in-Err-clause-refused
returns-in-Err-clause-refused g c d files told =
    let m = c.every_text_is_decided.ensures in
    let r = c.in-Err.refusal in
    let e = decided_at (outcome m.0 (map string_bytes c.args.words.now) files ≡ Err (refused_of r)) r (subst IsDecided c.refuse.ensures.status d) (c.in-Err.ensures.decided m.0 files m.1 told) in
    let is : Err (record { status = c.refuse.result; text = text_of r }) ≡ outcome m.0 (map string_bytes c.args.words.now) files = ap (λ (s : ℕ). Err (record { status = s; text = text_of r })) c.refuse.ensures.status ∙ sym e in
    (text_of r, (m.0, m.1, is), c.refuse.ensures.line)

pub returns-in-Err-clause-read_fault : goal.returns-in-Err-clause-read_fault
returns-in-Err-clause-read_fault g c e =
    let r = told_read Plan _ c.in-Err.refusal _ _ _ _ c.in-Err.ensures.cause (sym c.refuse.ensures.status ∙ e) c.refuse.ensures.line in
    (r.0, r.1.0, r.2, r.1.1)

pub returns-in-Err-clause-out_of_memory : goal.returns-in-Err-clause-out_of_memory
returns-in-Err-clause-out_of_memory g c e = told_memory c.in-Err.refusal _ _ _ _ (sym c.refuse.ensures.status ∙ e) c.refuse.ensures.line

pub returns-in-Err-clause-complete : goal.returns-in-Err-clause-complete
returns-in-Err-clause-complete g c files told reads replaces faults o h =
    let m = c.every_text_is_decided.ensures in
    let decided = outcome m.0 (map string_bytes c.args.words.now) files in
    let one : o ≡ decided = c.the_outcome_is_one.ensures (map string_bytes c.args.words.now) files o decided h (m.0, m.1, refl) in
    subst (λ s. (s ≡ decided_status o) ⊎ (s ≡ 17)) (sym c.refuse.ensures.status)
    (subst (λ x. (status_of c.in-Err.refusal ≡ decided_status x) ⊎ (status_of c.in-Err.refusal ≡ 17)) (sym one)
    (complete_err Plan _ decided c.in-Err.refusal (c.in-Err.ensures.decided m.0 files m.1 told) c.in-Err.ensures.cause (λ path caused. reads path caused.0)))

pub returns-in-Some-clause-write_fault : goal.returns-in-Some-clause-write_fault
returns-in-Some-clause-write_fault g c e =
    let w = c.in-Some.write.now in
    let stop = c.in-Some.ensures.stopped in
    let fault = c.bytes.ensures ∙ fault_of c.in-Ok.plan.writes.items w stop.0 (writes_for (map string_bytes c.args.words.now) c.in-Ok.plan.writes.items c.in-Ok.ensures.writes) (ap (λ l. slice_get l stop.0) (sym c.deref.ensures.value) ∙ stop.1) in (
      w.edit.path,
      stop.0,
      subst (λ n. Rose n (g.T.Tree.replaces c.replace_all.new.tree w.edit.path)) (c.in-Ok.ensures.reads.stay w.edit.path) c.in-Some.ensures.failed,
      subst (λ t. Tells (g.E.Sink.bytes c.args.err.now) (g.E.Sink.bytes c.tell.new.err) (g.E.Sink.faults c.args.err.now) (g.E.Sink.faults c.tell.new.err) (line_of (codes "write fault: " ++ t))) fault c.tell.ensures,
      in_place (map string_bytes c.args.words.now) c.in-Ok.plan.writes.items w stop.0 c.in-Ok.ensures.writes (ap (λ l. slice_get l stop.0) (sym c.deref.ensures.value) ∙ stop.1),
      refl,
      λ files told.
          let m = c.every_text_is_decided.ensures in
          let plan = c.in-Ok.ensures.decided m.0 files m.1 told in
          let after = stop.2 files (c.in-Ok.ensures.reads.same ∙ told) in
          let writes = c.deref.ensures.value ∙ plan.2.writes in
          (plan.0, (m.0, m.1, sym plan.1), after.0, after.1, half_written files plan.0 plan.2.edits plan.2.are plan.2.each plan.2.apart plan.0.in_place after.0 w stop.0 refl (ap (λ l. slice_get l stop.0) (sym writes) ∙ stop.1) (subst (λ ws. IsStopped stop.0 ws w files after.0) writes after.2)),
    )

pub returns-in-Done-clause-renamed : goal.returns-in-Done-clause-renamed
returns-in-Done-clause-renamed g c e files told =
    let m = c.every_text_is_decided.ensures in
    let plan = c.in-Ok.ensures.decided m.0 files m.1 told in
    let after = c.in_default.ensures.all files (c.in-Ok.ensures.reads.same ∙ told) in
    let writes = c.deref.ensures.value ∙ plan.2.writes in (
      plan.0,
      (m.0, m.1, sym plan.1),
      (after.0, after.1, λ path. after.2 path ∙ ap (λ ws. written ws files path) writes ∙ written_if files plan.0 plan.2.edits plan.2.are plan.2.each plan.2.apart plan.0.in_place path),
      λ bytes before.
          let gained = c.in-Done.ensures.bytes bytes before in
          gained.1 ∙ ap (λ (x : List ℕ). Some x) (gained.2 ∙ ap (λ t. bytes ++ t) (c.deref-2.ensures.value ∙ plan.2.report)),
    )

pub returns-in-Done-clause-complete : goal.returns-in-Done-clause-complete
returns-in-Done-clause-complete g c files told reads replaces faults o h =
    let m = c.every_text_is_decided.ensures in
    let plan = c.in-Ok.ensures.decided m.0 files m.1 told in
    let one : Ok plan.0 ≡ o = c.the_outcome_is_one.ensures (map string_bytes c.args.words.now) files (Ok plan.0) o (m.0, m.1, sym plan.1) h in
    inl (ap decided_status one)

pub returns-clause-output_fault : goal.returns-clause-output_fault
returns-clause-output_fault g c e = (
  c.in-Failed.ensures.failed refl,
  c.tell-in-Failed.ensures,
  λ files told.
      let m = c.every_text_is_decided.ensures in
      let plan = c.in-Ok.ensures.decided m.0 files m.1 told in
      let after = c.in_default.ensures.all files (c.in-Ok.ensures.reads.same ∙ told) in
      let writes = c.deref.ensures.value ∙ plan.2.writes in (
        plan.0,
        (m.0, m.1, sym plan.1),
        (after.0, after.1, λ path. after.2 path ∙ ap (λ ws. written ws files path) writes ∙ written_if files plan.0 plan.2.edits plan.2.are plan.2.each plan.2.apart plan.0.in_place path),
        λ bytes before.
            let gained = c.in-Failed.ensures.bytes bytes before in
            (gained.2.0, gained.1 ∙ ap (λ (x : List ℕ). Some x) (gained.2.1 ∙ ap (λ t. bytes ++ take gained.2.0 t) (c.deref-2.ensures.value ∙ plan.2.report))),
      ),
)

pub returns-in-Some-clause-replaces_only : goal.returns-in-Some-clause-replaces_only
returns-in-Some-clause-replaces_only g c files told r is =
    let m = c.every_text_is_decided.ensures in
    let plan = c.in-Ok.ensures.decided m.0 files m.1 told in
    let one : Ok plan.0 ≡ Ok r = c.the_outcome_is_one.ensures (map string_bytes c.args.words.now) files (Ok plan.0) (Ok r) (m.0, m.1, sym plan.1) is in
    let same : plan.0 ≡ r = cc in
    let asked = c.replace_all.ensures.asked in
    (asked.0, asked_first files plan.0 plan.2.edits plan.2.are plan.2.each plan.2.apart r same c.deref.result.now asked.0 _ _ _ (c.deref.ensures.value ∙ plan.2.writes) c.in-Ok.ensures.reads.none asked.1)

pub returns-in-Done-clause-replaces_only : goal.returns-in-Done-clause-replaces_only
returns-in-Done-clause-replaces_only g c files told r is =
    let m = c.every_text_is_decided.ensures in
    let plan = c.in-Ok.ensures.decided m.0 files m.1 told in
    let one : Ok plan.0 ≡ Ok r = c.the_outcome_is_one.ensures (map string_bytes c.args.words.now) files (Ok plan.0) (Ok r) (m.0, m.1, sym plan.1) is in
    let same : plan.0 ≡ r = cc in
    let asked = c.replace_all.ensures.asked in
    (asked.0, asked_first files plan.0 plan.2.edits plan.2.are plan.2.each plan.2.apart r same c.deref.result.now asked.0 _ _ _ (c.deref.ensures.value ∙ plan.2.writes) c.in-Ok.ensures.reads.none asked.1)

pub returns-clause-replaces_only : goal.returns-clause-replaces_only
returns-clause-replaces_only g c files told r is =
    let m = c.every_text_is_decided.ensures in
    let plan = c.in-Ok.ensures.decided m.0 files m.1 told in
    let one : Ok plan.0 ≡ Ok r = c.the_outcome_is_one.ensures (map string_bytes c.args.words.now) files (Ok plan.0) (Ok r) (m.0, m.1, sym plan.1) is in
    let same : plan.0 ≡ r = cc in
    let asked = c.replace_all.ensures.asked in
    (asked.0, asked_first files plan.0 plan.2.edits plan.2.are plan.2.each plan.2.apart r same c.deref.result.now asked.0 _ _ _ (c.deref.ensures.value ∙ plan.2.writes) c.in-Ok.ensures.reads.none asked.1)

pub returns-in-Some-clause-replaces_none : goal.returns-in-Some-clause-replaces_none
returns-in-Some-clause-replaces_none g c away =
    let asked = c.replace_all.ensures.asked in
    none_asked c.deref.result.now asked.0 _ _ _ (c.deref.ensures.value ∙ writes_none (map string_bytes c.args.words.now) c.in-Ok.plan.writes.items c.in-Ok.ensures.writes away) c.in-Ok.ensures.reads.none asked.1

pub returns-in-Done-clause-replaces_none : goal.returns-in-Done-clause-replaces_none
returns-in-Done-clause-replaces_none g c away =
    let asked = c.replace_all.ensures.asked in
    none_asked c.deref.result.now asked.0 _ _ _ (c.deref.ensures.value ∙ writes_none (map string_bytes c.args.words.now) c.in-Ok.plan.writes.items c.in-Ok.ensures.writes away) c.in-Ok.ensures.reads.none asked.1

pub returns-clause-replaces_none : goal.returns-clause-replaces_none
returns-clause-replaces_none g c away =
    let asked = c.replace_all.ensures.asked in
    none_asked c.deref.result.now asked.0 _ _ _ (c.deref.ensures.value ∙ writes_none (map string_bytes c.args.words.now) c.in-Ok.plan.writes.items c.in-Ok.ensures.writes away) c.in-Ok.ensures.reads.none asked.1
