-- The way from the empty hide set to another: each name of that, the first that was put first, with the set that it made.
use Rattle.std.specs.Prelude.{◌≡◌, ℕ, ◌<◌, List, [], ◌∷◌, ◌++◌, length}
use Rattle.cr_base.specs.declared.token.Name.{Name}
use Rattle.cr_expand.specs.declared.hide_sets.HideSet.{HideSet}
use Rattle.cr_expand.specs.HideSets.{Sets, set_at}

abbrev pub Steps : Type 0
Steps = List (Name × HideSet)

-- The set of this step is the one with this number, which is earlier, with the step's name more.
pub record IsStep (sets : Sets) (from : ℕ) (step : Name × HideSet) : Type 0 where
  pub known : step.1.0 < length sets
  pub later : from < step.1.0
  pub made : set_at sets step.1.0 ≡ step.0 ∷ set_at sets from

-- Each step goes on from the set of the one before.
abbrev pub AreStepsFrom : Sets → ℕ → Steps → Type 0
AreStepsFrom sets from [] = Unit {0}
AreStepsFrom sets from (step ∷ steps) = IsStep sets from step × AreStepsFrom sets step.1.0 steps

-- the number of the set that steps from this one lead to
abbrev pub end_from : ℕ → Steps → ℕ
end_from from [] = from
end_from from (step ∷ steps) = end_from step.1.0 steps

-- The steps go on from the empty set.
pub record IsPath (sets : Sets) (steps : Steps) : Type 0 where
  pub first : set_at sets 0 ≡ []
  pub onward : AreStepsFrom sets 0 steps

-- The second are the first without some at the end.
abbrev pub IsFront : Steps → Steps → Type 0
IsFront all front = (rest : Steps) × (all ≡ front ++ rest)
