-- Where the new name can't be spelled.
use Rattle.std.proofs.Common.{◌≡◌, ℕ, Bool, true, false, ◌||◌, List, [], ◌∷◌, Option, Some, None, refl, ap, ◌∙◌}
use Rattle.std.specs.Prelude.{bytes_eq}
use Rattle.std.specs.Option.{option_map, option_or}
use Rattle.std.specs.List.{list_any}
use Rattle.std.specs.Map.{keys_of}
use Rattle.std.proofs.lemmas.Slice.Eq.{bytes_eq-Decides}
use Rattle.cr_base.specs.declared.unit.Unit.{Unit as TranslationUnit}
use Rattle.cr_world.specs.Outside.{Files}
use Rattle.cr_small.specs.Renaming.{Target}
use Rattle.cr_run.specs.Goal.{Goal}
use Rattle.cr_run.specs.Survey.{Meaning, unspellable_at, unspellable, refusal_of_places}
use Rattle.cr_run.specs.Outcome.{refusal_of_spelling}
use Rattle.cr_run.specs.Held.{AreSurveyed, Holds, wanted_for, refusal_of_entries}
use Rattle.cr_run.specs.declared.survey.Survey.{Survey}
use Rattle.cr_run.specs.declared.survey.Surveyed.{Surveyed}

module _ (meaning : Meaning) (files : Files) (goal : Goal) (target : Target) where
  entries_are : (es : List (List ℕ × Surveyed)) → AreSurveyed meaning (wanted_for goal (Some target)) files es → refusal_of_entries es ≡ refusal_of_places (unspellable_at meaning files goal.source goal.new target.key) (keys_of es)
  entries_are [] all = refl
  entries_are (e ∷ es) all =
      ap (λ o. option_or (option_map (unspellable e.0) o) (refusal_of_entries es)) all.0.unspellable
      ∙ ap (option_or (option_map (unspellable e.0) (unspellable_at meaning files goal.source goal.new target.key e.0))) (entries_are es all.1)

  -- the code's refusal is the one that is decided
  pub places_are : (units : List TranslationUnit) (survey : Survey) → Holds meaning files (wanted_for goal (Some target)) units survey → refusal_of_entries survey.files.entries ≡ refusal_of_spelling meaning files goal units target.key
  places_are units survey h = entries_are survey.files.entries h.each ∙ ap (refusal_of_places (unspellable_at meaning files goal.source goal.new target.key)) h.paths

-- where no place refuses, none of a file does
pub none-refuses : (first : List ℕ → Option ℕ) (paths : List (List ℕ)) (path : List ℕ) → refusal_of_places first paths ≡ None → list_any (bytes_eq path) paths ≡ true → first path ≡ None
none-refuses first [] path none among = let bad : ⊥ = cc in absurd bad
none-refuses first (p ∷ paths) path none among = by (first p) refl none (bytes_eq path p) refl among (λ n a. none-refuses first paths path n a)
  where
    by : (o : Option ℕ) → first p ≡ o → option_or (option_map (unspellable p) o) (refusal_of_places first paths) ≡ None → (b : Bool) → bytes_eq path p ≡ b → (b || list_any (bytes_eq path) paths) ≡ true
        → (refusal_of_places first paths ≡ None → list_any (bytes_eq path) paths ≡ true → first path ≡ None) → first path ≡ None
    by (Some offset) e n b h a more = let no : Some (unspellable p offset) ≡ None = n in let bad : ⊥ = cc in absurd bad
    by None e n true h a more = ap first ((bytes_eq-Decides path p).0 h) ∙ e
    by None e n false h a more = more n a
