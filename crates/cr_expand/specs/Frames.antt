-- A call that waits for its arguments, with names and hide sets by number.
use Rattle.std.specs.Prelude.{ℕ, Bool, List}
use Rattle.cr_expand.specs.declared.held.Held.{Held}

-- The macro's name and the set of names that are hidden from what is put in; the arguments as they are, those that are
-- expanded, and what the one that is being expanded gave so far; how many come behind that one, and which of them are
-- wanted expanded.
pub record Call : Type 0 where
  pub name : Held
  pub hide : ℕ
  pub raw : List (List Held)
  pub done : List (List Held)
  pub out : List Held
  pub more : ℕ
  pub wanted : List Bool
