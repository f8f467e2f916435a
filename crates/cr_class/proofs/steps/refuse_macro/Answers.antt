use Rattle.std.proofs.Common.{refl, sym, ap, ◌∙◌, subst, Bor, None}
use Rattle.std.specs.Option.{option_map}
use Rattle.cr_base.specs.declared.path.PathText.{PathText}
use Rattle.cr_class.specs.ShownOrder.{shown_cmp}
use Rattle.cr_class.specs.Declarations.{least}
use Rattle.cr_class.specs.Judging.{RefusesAt}
use Rattle.cr_class.specs.Verdict.{IsGiven, macro_place}
use Rattle.cr_class.proofs.Candidates.{shown_total}
use Rattle.cr_class.proofs.Judged.{none_found, some_found, same_refusal, passes_macro}
use Rattle.cr_class.proofs.steps.refuse_macro.Goals as goal

pub returns-in-None-clause-ok : goal.returns-in-None-clause-ok
returns-in-None-clause-ok c =
    passes_macro c.args.question.now.facts.now c.args.question.now.class.now c.args.question.now.snapshot.now (option_map (λ (r : Bor PathText). r.now) c.args.question.now.root) c.args.question.now.old.now c.args.question.now.new.now
    (none_found (shown_cmp c.args.question.now.snapshot.now) (shown_total c.args.question.now.snapshot.now) (IsGiven macro_place c.args.question.now.facts.now) c.in_ok-places.places.items c.in_ok-places.ensures (ap (λ l. least (shown_cmp c.args.question.now.snapshot.now) None l) (sym c.deref.ensures.value) ∙ sym c.least_place.ensures ∙ c.in-None.is))

pub returns-clause-refused : goal.returns-clause-refused
returns-clause-refused c r e =
    subst (RefusesAt c.args.question.now 1) (same_refusal _ r e)
    (refl, some_found (shown_cmp c.args.question.now.snapshot.now) (shown_total c.args.question.now.snapshot.now) (IsGiven macro_place c.args.question.now.facts.now) c.in_ok-places.places.items c.in_ok-places.ensures c.in-Some.place (ap (λ l. least (shown_cmp c.args.question.now.snapshot.now) None l) (sym c.deref.ensures.value) ∙ sym c.least_place.ensures ∙ c.in-Some.is))
