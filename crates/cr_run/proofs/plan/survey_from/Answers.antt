use Rattle.std.proofs.Common.{rules, Some, ◌≡◌, ◌∙◌, sym, ap, subst, arith, refl}
use Rattle.std.specs.Prelude.{Err}
use Rattle.std.specs.Option.{option_map}
use Rattle.cr_small.specs.Seen.{target_of_code, key_of_code}
use Rattle.cr_run.specs.Survey.{size_of}
use Rattle.cr_run.specs.Seen.{goal_of_code}
use Rattle.cr_run.specs.Held.{Wanted, IsFound, Holds, SurveysTo, wanted_for}
use Rattle.cr_run.specs.Outcome.{name_or_nothing}
use Rattle.cr_run.specs.Table.{IsTable, RisesIn}
use Rattle.cr_run.proofs.Decisions.{named_for, key_here}
use Rattle.cr_run.proofs.Meanings.{key_of_source}
use Rattle.cr_run.proofs.plan.survey_from.Goals as goal

pub read_units-requires : goal.read_units-requires
read_units-requires g c = record {
  named = λ name h.
      named_for c.a_target_names_its_key.ensures c.args.bytes.now c.args.text.now.denotes c.args.goal.now.offset (option_map target_of_code c.args.target.now) c.requires.text.small (sym c.requires.target) name (sym c.key_of.ensures ∙ h)
      ∙ sym c.name_of.ensures;
}

pub returns-in_err-read_units-clause-surveyed : goal.returns-in_err-read_units-clause-surveyed
returns-in_err-read_units-clause-surveyed g c meaning files is told there means =
    let wanted : Wanted = record { source = c.args.goal.now.source; key = option_map key_of_code c.key_of.result; new = c.args.goal.now.new.now } in
    let e : c.from_residual-in_err-read_units.result ≡ Err c.in_err-read_units.field-0.0 = search rules in
    let path = c.in_ok-copy.ensures in
    let file = ap files path ∙ there in
    let found = c.in_ok-found.ensures.found meaning wanted c.in_ok-copy.field-0 means refl refl (key_here wanted c.in_ok-copy.field-0 wanted.key path ∙ sym (key_of_source wanted.key)) in
    let holds = c.in_ok-survey.ensures.holds meaning files wanted path (omega (arith, c.requires.size)) (sym (ap size_of file)) (subst (λ o. IsFound meaning wanted c.in_ok-copy.field-0 o 0 c.in_ok-found.found) (sym file) found) in
    subst (SurveysTo meaning files (wanted_for (goal_of_code c.args.goal.now) (option_map target_of_code c.args.target.now)) c.args.units.now) (sym e) (c.in_err-read_units.ensures.surveyed meaning files is told holds)

pub returns-clause-surveyed : goal.returns-clause-surveyed
returns-clause-surveyed g c meaning files is told there means =
    let wanted : Wanted = record { source = c.args.goal.now.source; key = option_map key_of_code c.key_of.result; new = c.args.goal.now.new.now } in
    let path = c.in_ok-copy.ensures in
    let file = ap files path ∙ there in
    let found = c.in_ok-found.ensures.found meaning wanted c.in_ok-copy.field-0 means refl refl (key_here wanted c.in_ok-copy.field-0 wanted.key path ∙ sym (key_of_source wanted.key)) in
    let holds = c.in_ok-survey.ensures.holds meaning files wanted path (omega (arith, c.requires.size)) (sym (ap size_of file)) (subst (λ o. IsFound meaning wanted c.in_ok-copy.field-0 o 0 c.in_ok-found.found) (sym file) found) in
    let done = c.in_ok-read_units.ensures.surveyed meaning files is told holds in
    (subst (λ k. Holds meaning files (record { source = c.args.goal.now.source; key = k; new = c.args.goal.now.new.now }) c.args.units.now c.read_units.new.self) c.key_of.ensures done.0, done.1)

pub returns-clause-placed : goal.returns-clause-placed
returns-clause-placed g c t is =
    let placed = c.in_ok-read_units.ensures.placed (c.in_ok-survey.ensures.placed c.name_of.result.now (option_map key_of_code c.key_of.result) (c.in_ok-found.ensures.placed c.in_ok-copy.field-0)) in
    subst (λ n. IsTable (RisesIn n) (Some t.key) c.read_units.new.self) (c.name_of.ensures ∙ ap name_or_nothing is)
    (subst (λ k. IsTable (RisesIn c.name_of.result.now) k c.read_units.new.self) (c.key_of.ensures ∙ ap (option_map (λ x. x.key)) is) placed)
