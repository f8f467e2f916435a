use Rattle.std.proofs.Common.{◌≡◌, Bool, refl, sym, ap, ◌∙◌, subst, Bor, None}
use Rattle.std.specs.Prelude.{◌↔◌}
use Rattle.std.specs.List.{Contains}
use Rattle.std.specs.Option.{option_map}
use Rattle.std.specs.BTreeSet as tree
use Rattle.cr_base.specs.declared.token.Place.{Place}
use Rattle.cr_base.specs.declared.key.Key.{Key}
use Rattle.cr_base.specs.declared.path.PathText.{PathText}
use Rattle.cr_class.specs.RenameClass.{key_cmp, place_cmp}
use Rattle.cr_class.specs.ShownOrder.{shown_cmp}
use Rattle.cr_class.specs.Declarations.{least}
use Rattle.cr_class.specs.Judging.{RefusesAt}
use Rattle.cr_class.specs.Verdict.{IsGiven, is_in_class, is_renamed, made_place}
use Rattle.cr_class.proofs.Candidates.{shown_total}
use Rattle.cr_class.proofs.Judged.{none_found, some_found, same_refusal, passes_made}
use Rattle.cr_class.proofs.steps.refuse_made.Goals as goal

pub returns-in-None-clause-ok : goal.returns-in-None-clause-ok
returns-in-None-clause-ok c =
    let known_is : tree.contains key_cmp c.args.members.now.keys ≡ is_in_class c.args.question.now.class.now = λ i k. c.requires.0 k i in
    let renamed_is : tree.contains place_cmp c.args.members.now.places ≡ is_renamed c.args.question.now.class.now = λ i p. c.requires.1 p i in
    let A : (Key → Bool) → (Place → Bool) → Type 0 = λ known renamed. (x : Place) → Contains c.in_ok-places.places.items x ↔ IsGiven (made_place known renamed) c.args.question.now.facts.now x in
    let are : A (is_in_class c.args.question.now.class.now) (is_renamed c.args.question.now.class.now) = subst (A (is_in_class c.args.question.now.class.now)) renamed_is (subst (λ f. A f (tree.contains place_cmp c.args.members.now.places)) known_is c.in_ok-places.ensures) in
    passes_made c.args.question.now.facts.now c.args.question.now.class.now c.args.question.now.snapshot.now (option_map (λ (r : Bor PathText). r.now) c.args.question.now.root) c.args.question.now.old.now c.args.question.now.new.now
    (none_found (shown_cmp c.args.question.now.snapshot.now) (shown_total c.args.question.now.snapshot.now) (IsGiven (made_place (is_in_class c.args.question.now.class.now) (is_renamed c.args.question.now.class.now)) c.args.question.now.facts.now) c.in_ok-places.places.items are (ap (λ l. least (shown_cmp c.args.question.now.snapshot.now) None l) (sym c.deref.ensures.value) ∙ sym c.least_place.ensures ∙ c.in-None.is))

pub returns-clause-refused : goal.returns-clause-refused
returns-clause-refused c r e =
    let known_is : tree.contains key_cmp c.args.members.now.keys ≡ is_in_class c.args.question.now.class.now = λ i k. c.requires.0 k i in
    let renamed_is : tree.contains place_cmp c.args.members.now.places ≡ is_renamed c.args.question.now.class.now = λ i p. c.requires.1 p i in
    let A : (Key → Bool) → (Place → Bool) → Type 0 = λ known renamed. (x : Place) → Contains c.in_ok-places.places.items x ↔ IsGiven (made_place known renamed) c.args.question.now.facts.now x in
    let are : A (is_in_class c.args.question.now.class.now) (is_renamed c.args.question.now.class.now) = subst (A (is_in_class c.args.question.now.class.now)) renamed_is (subst (λ f. A f (tree.contains place_cmp c.args.members.now.places)) known_is c.in_ok-places.ensures) in
    subst (RefusesAt c.args.question.now 3) (same_refusal _ r e)
    (refl, some_found (shown_cmp c.args.question.now.snapshot.now) (shown_total c.args.question.now.snapshot.now) (IsGiven (made_place (is_in_class c.args.question.now.class.now) (is_renamed c.args.question.now.class.now)) c.args.question.now.facts.now) c.in_ok-places.places.items are c.in-Some.place (ap (λ l. least (shown_cmp c.args.question.now.snapshot.now) None l) (sym c.deref.ensures.value) ∙ sym c.least_place.ensures ∙ c.in-Some.is))
