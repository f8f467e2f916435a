-- What is parted so far.
use Rattle.std.specs.Prelude.{◌≡◌, ℕ, length, ◌-◌, Bool, true, false, List, [], ◌∷◌, ◌++◌, map, Some, None}
use Rattle.cr_expand.specs.declared.held.Held.{Held}
use Rattle.cr_expand.specs.declared.parting.Parting.{Parting}
use Rattle.cr_macros.specs.Tokens.{Text}
use Rattle.cr_expand.specs.HideSets.{Sets}
use Rattle.cr_expand.specs.Held.{held}
use Rattle.cr_expand.specs.Calls.{part_at}
use Rattle.cr_expand.specs.Wanted.{kept_more}

abbrev pub lists_of : Parting → List (List Held)
lists_of p = map (λ v. v.items) p.lists.items

-- The token was taken: the list that goes on is one of the lists, or has the token at its end if it is kept so.
abbrev pub IsTaken : List Text → (ℕ → Bool) → Held → Parting → Parting → Bool → Type 0
IsTaken names whole h old new true =
    ((sets : Sets) → part_at old.commas old.depth (held names sets h) ≡ None)
    × (lists_of new ≡ lists_of old ++ old.list.items ∷ []) × (new.list.items ≡ []) × (new.commas ≡ old.commas - 1) × (new.depth ≡ old.depth)
IsTaken names whole h old new false =
    ((sets : Sets) → part_at old.commas old.depth (held names sets h) ≡ Some new.depth)
    × (lists_of new ≡ lists_of old) × (new.list.items ≡ kept_more (whole (length old.lists.items)) old.list.items h) × (new.commas ≡ old.commas)
