-- The first unit that isn't clear.
use Rattle.std.proofs.Common.{◌≡◌, ℕ, ◌+◌, ◌<◌, Bool, true, false, not, List, [], ◌∷◌, ◌++◌, length, drop, get_or, find, Some, None, sym, ap, ◌∙◌}
use Rattle.std.specs.Prelude.{if◌then◌else◌, codes}
use Rattle.std.specs.Option.{option_map}
use Rattle.std.proofs.lemmas.List.{drop_more}
use Rattle.cr_base.specs.declared.unit.Unit.{Unit as TranslationUnit}
use Rattle.cr_world.specs.Outside.{Files}
use Rattle.cr_run.specs.Survey.{Meaning, is_clear, first_unbuilt}

pub find_here : {X : Type 0} (p : X → Bool) (xs : List X) (i : ℕ) (x : X) → i < length xs → x ≡ get_or xs i x → find p (drop i xs) ≡ (if p x then Some x else find p (drop (i + 1) xs))
find_here p xs i x lt is = ap (find p) (drop_more xs i x lt) ∙ ap (λ y. find p (y ∷ drop (i + 1) xs)) (sym is)

module _ (meaning : Meaning) (files : Files) (new : List ℕ) where
  abbrev isnt_clear : TranslationUnit → Bool
  isnt_clear unit = not (is_clear meaning files new unit)

  pub passes : (xs : List TranslationUnit) (i : ℕ) (u : TranslationUnit) (b : Bool) → i < length xs → u ≡ get_or xs i u → b ≡ is_clear meaning files new u → b ≡ true → find isnt_clear (drop (i + 1) xs) ≡ find isnt_clear (drop i xs)
  passes xs i u b lt is clear t =
      sym (find_here isnt_clear xs i u lt is ∙ ap (λ z. if z then Some u else find isnt_clear (drop (i + 1) xs)) (ap not (sym clear ∙ t)))

  pub stops : (xs : List TranslationUnit) (i : ℕ) (u : TranslationUnit) (b : Bool) (path : List ℕ) → i < length xs → u ≡ get_or xs i u → b ≡ is_clear meaning files new u → b ≡ false → path ≡ u.main → find isnt_clear (drop i xs) ≡ find isnt_clear xs
      → first_unbuilt meaning files new xs ≡ Some (record { status = 20; text = codes "unbuilt: " ++ path })
  stops xs i u b path lt is clear t same found =
      let here : find isnt_clear xs ≡ Some u = sym found ∙ find_here isnt_clear xs i u lt is ∙ ap (λ z. if z then Some u else find isnt_clear (drop (i + 1) xs)) (ap not (sym clear ∙ t)) in
      ap (option_map (λ (unit : TranslationUnit). record { status = 20; text = codes "unbuilt: " ++ unit.main })) here ∙ ap (λ p. Some (record { status = 20; text = codes "unbuilt: " ++ p })) (sym same)

  pub none_left : (xs : List TranslationUnit) (i : ℕ) → drop i xs ≡ [] → find isnt_clear (drop i xs) ≡ find isnt_clear xs → first_unbuilt meaning files new xs ≡ None
  none_left xs i done found = ap (option_map (λ (unit : TranslationUnit). record { status = 20; text = codes "unbuilt: " ++ unit.main })) (sym found ∙ ap (find isnt_clear) done)
