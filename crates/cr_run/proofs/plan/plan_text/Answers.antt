use Rattle.std.proofs.Common.{rules, ◌≡◌, ◌∙◌, sym, ap, subst, Some, None}
use Rattle.std.specs.Prelude.{Err, Ok}
use Rattle.std.specs.Option.{option_map}
use Rattle.cr_lex.specs.Lexing.{lexed}
use Rattle.cr_small.specs.Renaming.{target_at}
use Rattle.cr_small.specs.Seen.{target_of_code}
use Rattle.cr_run.specs.Survey.{refusal_of_units}
use Rattle.cr_run.specs.Outcome.{may_rename, renamable, refusal_of_spelling, rename_of, of_denotes}
use Rattle.cr_run.specs.Refusals.{IfDecided, refused_of}
use Rattle.cr_run.specs.Seen.{goal_of_code}
use Rattle.cr_run.specs.Held.{Holds, wanted_for}
use Rattle.cr_run.specs.Planning.{Plans}
use Rattle.cr_run.proofs.Decisions.{may, units_refuse, target_passes, places_refuse, places_pass, refused_later, found_same}
use Rattle.cr_run.proofs.Spelled.{places_are}
use Rattle.cr_run.proofs.plan.plan_text.Goals as goal

pub returns-in_err-survey-clause-decided : goal.returns-in_err-survey-clause-decided
returns-in_err-survey-clause-decided g c meaning files es is told parted there means =
    let aim = goal_of_code c.args.goal.now in
    let target = option_map target_of_code c.target_at-target.result in
    let at = c.target_at-target.ensures ∙ ap (λ ts. target_at aim.offset ts c.args.text.now.denotes) c.requires.text.tokens in
    let e : c.from_residual-in_err-survey.result ≡ Err c.in_err-survey.field-0.0 = search rules in
    let free = ap (may_rename aim) (sym at) ∙ c.in_ok-may_rename.ensures.may in
    let settled = subst (λ us. IfDecided (refusal_of_units meaning files aim.source aim.new us ≡ Some (refused_of c.in_err-survey.field-0.0)) c.in_err-survey.field-0.0) (c.deref.ensures.value ∙ parted.0) (c.in_err-survey.ensures.surveyed meaning files is told there means) in
    subst (Plans files (of_denotes meaning files aim es (lexed c.args.bytes.now).tokens c.args.text.now.denotes)) (sym e)
    (refused_later files _ _ c.in_err-survey.field-0.0 (sym (may meaning files aim es (lexed c.args.bytes.now).tokens c.args.text.now.denotes target free)) (units_refuse meaning files aim es target c.in_err-survey.field-0.0 settled))

pub returns-in_err-spell-clause-decided : goal.returns-in_err-spell-clause-decided
returns-in_err-spell-clause-decided g c meaning files es is told parted there means =
    let aim = goal_of_code c.args.goal.now in
    let target = option_map target_of_code c.target_at-target.result in
    let found = target_of_code c.in_ok-target.target in
    let at = c.target_at-target.ensures ∙ ap (λ ts. target_at aim.offset ts c.args.text.now.denotes) c.requires.text.tokens in
    let free = ap (may_rename aim) (sym at) ∙ c.in_ok-may_rename.ensures.may in
    let done = c.in_ok-survey.ensures.surveyed meaning files is told there means in
    let none = subst (λ us. refusal_of_units meaning files aim.source aim.new us ≡ None) (c.deref.ensures.value ∙ parted.0) done.1 in
    let renames = subst (λ us. renamable aim us target ≡ Ok found) (c.deref-2.ensures.value ∙ parted.0) c.in_ok-target.ensures.renamable in
    let same = found_same aim _ target found renames in
    let holds = subst (λ t. Holds meaning files (wanted_for aim t) c.args.entries.now.units.items c.in_ok-survey.survey) same
    (subst (λ us. Holds meaning files (wanted_for aim target) us c.in_ok-survey.survey) c.deref.ensures.value done.0) in
    let passes = target_passes meaning files aim es target found none renames in
    let places = places_are meaning files aim found c.args.entries.now.units.items c.in_ok-survey.survey holds ∙ ap (λ us. refusal_of_spelling meaning files aim us found.key) parted.0 in
    let e : c.from_residual-in_err-spell.result ≡ Err c.in_err-spell.field-0.0 = search rules in
    let settled = subst (λ o. IfDecided (o ≡ Some (refused_of c.in_err-spell.field-0.0)) c.in_err-spell.field-0.0) places c.in_err-spell.ensures.settled in
    subst (Plans files (of_denotes meaning files aim es (lexed c.args.bytes.now).tokens c.args.text.now.denotes)) (sym e)
    (refused_later files _ _ c.in_err-spell.field-0.0 (sym (may meaning files aim es (lexed c.args.bytes.now).tokens c.args.text.now.denotes target free)) (places_refuse meaning files aim es target found c.in_err-spell.field-0.0 passes settled))

pub returns-clause-decided : goal.returns-clause-decided
returns-clause-decided g c meaning files es is told parted there means =
    let aim = goal_of_code c.args.goal.now in
    let target = option_map target_of_code c.target_at-target.result in
    let found = target_of_code c.in_ok-target.target in
    let at = c.target_at-target.ensures ∙ ap (λ ts. target_at aim.offset ts c.args.text.now.denotes) c.requires.text.tokens in
    let free = ap (may_rename aim) (sym at) ∙ c.in_ok-may_rename.ensures.may in
    let done = c.in_ok-survey.ensures.surveyed meaning files is told there means in
    let none = subst (λ us. refusal_of_units meaning files aim.source aim.new us ≡ None) (c.deref.ensures.value ∙ parted.0) done.1 in
    let renames = subst (λ us. renamable aim us target ≡ Ok found) (c.deref-2.ensures.value ∙ parted.0) c.in_ok-target.ensures.renamable in
    let same = found_same aim _ target found renames in
    let holds = subst (λ t. Holds meaning files (wanted_for aim t) c.args.entries.now.units.items c.in_ok-survey.survey) same
    (subst (λ us. Holds meaning files (wanted_for aim target) us c.in_ok-survey.survey) c.deref.ensures.value done.0) in
    let passes = target_passes meaning files aim es target found none renames in
    let places = places_are meaning files aim found c.args.entries.now.units.items c.in_ok-survey.survey holds ∙ ap (λ us. refusal_of_spelling meaning files aim us found.key) parted.0 in (
      rename_of meaning files aim es found,
      may meaning files aim es (lexed c.args.bytes.now).tokens c.args.text.now.denotes target free ∙ places_pass meaning files aim es target found passes (sym places ∙ c.in_ok-spell.ensures.settled),
      c.in_ok-plan.ensures.plan meaning files es parted holds,
    )
