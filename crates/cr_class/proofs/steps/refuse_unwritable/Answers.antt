use Rattle.std.proofs.Common.{◌≡◌, refl, sym, ap, ◌∙◌, subst, List, Bor, None, true}
use Rattle.std.specs.Prelude.{◌↔◌}
use Rattle.std.specs.List.{Contains}
use Rattle.std.specs.Option.{option_map}
use Rattle.cr_base.specs.declared.token.Place.{Place}
use Rattle.cr_base.specs.declared.path.PathText.{PathText}
use Rattle.cr_class.specs.ShownOrder.{shown_cmp, path_of}
use Rattle.cr_class.specs.Declarations.{least}
use Rattle.cr_class.specs.Judging.{RefusesAt}
use Rattle.cr_class.specs.Verdict.{is_unwritable_path}
use Rattle.cr_class.proofs.Candidates.{shown_total}
use Rattle.cr_class.proofs.Judged.{none_found, some_found, same_refusal, passes_unwritable}
use Rattle.cr_class.proofs.steps.refuse_unwritable.Goals as goal

pub returns-in-None-clause-ok : goal.returns-in-None-clause-ok
returns-in-None-clause-ok c =
    let are : (p : Place) → Contains c.in_ok-places.places.items p ↔ (λ (q : Place). Contains c.args.question.now.class.now.places q × (is_unwritable_path (option_map (λ (r : Bor PathText). r.now) c.args.question.now.root) (path_of c.args.question.now.snapshot.now q) ≡ true)) p = λ p. subst (λ (l : List Place). Contains c.in_ok-places.places.items p ↔ (Contains l p × (is_unwritable_path (option_map (λ (r : Bor PathText). r.now) c.args.question.now.root) (path_of c.args.question.now.snapshot.now p) ≡ true))) c.items-class.ensures (c.in_ok-places.ensures p) in
    passes_unwritable c.args.question.now.facts.now c.args.question.now.class.now c.args.question.now.snapshot.now (option_map (λ (r : Bor PathText). r.now) c.args.question.now.root) c.args.question.now.old.now c.args.question.now.new.now (none_found (shown_cmp c.args.question.now.snapshot.now) (shown_total c.args.question.now.snapshot.now) (λ (q : Place). Contains c.args.question.now.class.now.places q × (is_unwritable_path (option_map (λ (r : Bor PathText). r.now) c.args.question.now.root) (path_of c.args.question.now.snapshot.now q) ≡ true)) c.in_ok-places.places.items are (ap (λ l. least (shown_cmp c.args.question.now.snapshot.now) None l) (sym c.deref.ensures.value) ∙ sym c.least_place.ensures ∙ c.in-None.is))

pub returns-clause-refused : goal.returns-clause-refused
returns-clause-refused c r e =
    let are : (p : Place) → Contains c.in_ok-places.places.items p ↔ (λ (q : Place). Contains c.args.question.now.class.now.places q × (is_unwritable_path (option_map (λ (r : Bor PathText). r.now) c.args.question.now.root) (path_of c.args.question.now.snapshot.now q) ≡ true)) p = λ p. subst (λ (l : List Place). Contains c.in_ok-places.places.items p ↔ (Contains l p × (is_unwritable_path (option_map (λ (r : Bor PathText). r.now) c.args.question.now.root) (path_of c.args.question.now.snapshot.now p) ≡ true))) c.items-class.ensures (c.in_ok-places.ensures p) in
    subst (RefusesAt c.args.question.now 4) (same_refusal _ r e) (refl, some_found (shown_cmp c.args.question.now.snapshot.now) (shown_total c.args.question.now.snapshot.now) (λ (q : Place). Contains c.args.question.now.class.now.places q × (is_unwritable_path (option_map (λ (r : Bor PathText). r.now) c.args.question.now.root) (path_of c.args.question.now.snapshot.now q) ≡ true)) c.in_ok-places.places.items are c.in-Some.place (ap (λ l. least (shown_cmp c.args.question.now.snapshot.now) None l) (sym c.deref.ensures.value) ∙ sym c.least_place.ensures ∙ c.in-Some.is))
