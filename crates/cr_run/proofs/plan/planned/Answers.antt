use Rattle.std.proofs.Common.{rules, ◌≡◌, ◌∙◌, ap, sym, length, map, subst, Some}
use Rattle.std.proofs.lemmas.List.{length-map}
use Rattle.cr_small.specs.Seen.{target_of_code, key_of_code}
use Rattle.cr_run.specs.Seen.{goal_of_code}
use Rattle.cr_run.specs.Planning.{writes_if}
use Rattle.cr_run.specs.Table.{RisesIn}
use Rattle.cr_run.specs.Held.{StandsAt, wanted_for}
use Rattle.cr_run.specs.Editing.{AllRise, edits_of}
use Rattle.cr_run.proofs.Plans.{plan_is, told_same}
use Rattle.cr_run.proofs.Tables.{all_placed}
use Rattle.cr_run.proofs.plan.planned.Goals as goal

pub edit_files-requires : goal.edit_files-requires
edit_files-requires c =
    subst (λ vs. AllRise (map (λ v. v.items) vs) c.args.target.now.name.now c.args.survey.now.files.entries) (sym c.deref.ensures.value)
    (all_placed (RisesIn c.args.target.now.name.now) c.places_are_one.ensures (key_of_code c.args.target.now.key) c.args.survey.now.facts c.args.survey.now.last
    (map (λ v. v.items) c.in_ok-places.places.items) (length-map c.in_ok-places.places.items (λ v. v.items) ∙ c.in_ok-places.ensures.length) c.in_ok-places.ensures.places c.args.survey.now.files.entries c.requires.told)

pub returns-clause-plan : goal.returns-clause-plan
returns-clause-plan c meaning files es parted h =
    let aim = goal_of_code c.args.goal.now in
    let target = target_of_code c.args.target.now in
    let lists = map (λ v. v.items) c.in_ok-places.places.items in
    let units : c.len.result ≡ length c.args.entries.now.units.items = search rules in
    let placed = all_placed (StandsAt meaning (wanted_for aim (Some target)) files) c.places_are_one.ensures target.key c.args.survey.now.facts c.args.survey.now.last
    lists (length-map c.in_ok-places.places.items (λ v. v.items) ∙ c.in_ok-places.ensures.length) c.in_ok-places.ensures.places c.args.survey.now.files.entries h.table.told in
    let edits : c.in_ok-edits.edits.items ≡ edits_of lists target.name aim.new c.args.survey.now.files.entries =
    c.in_ok-edits.ensures ∙ ap (λ vs. edits_of (map (λ v. v.items) vs) target.name aim.new c.args.survey.now.files.entries) c.deref.ensures.value in
    plan_is meaning files aim es target c.args.entries.now c.args.survey.now parted h lists placed _
    (told_same _ _ _ _ _ _ _ _ _ _ _ c.in_ok-report.ensures units c.deref-2.ensures.value edits c.deref-3.ensures.value)
    (c.in_ok-writes.ensures ∙ ap (writes_if c.args.goal.now.in_place) edits)

pub returns-clause-writes : goal.returns-clause-writes
returns-clause-writes c = (c.in_ok-edits.edits.items, c.in_ok-writes.ensures)
