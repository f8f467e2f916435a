-- Laws of macro expansion.
use Rattle.std.specs.Prelude.{◌≡◌, ℕ, List}
use Rattle.cr_macros.specs.Tokens.{Token}
use Rattle.cr_macros.specs.Expansion.{Table, expand, rules}

-- Expansion is what the rules say of expansion itself.
abbrev pub FollowsTheRules : Type 0
FollowsTheRules = (table : Table) (ts : List Token) (left : ℕ) → expand table ts left ≡ rules table (expand table) ts left
