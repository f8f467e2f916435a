-- What an expansion gives next: the uses of rules up to the next token of the result.
use Rattle.std.specs.Prelude.{◌≡◌, ℕ, zero, suc, ◌+◌, Bool, true, false, List, [], ◌∷◌, ◌++◌, length, Option, Some, None}
use Rattle.cr_macros.specs.Tokens.{Token, Over, Work, ◌>>=◌, give, fail}
use Rattle.cr_macros.specs.Expansion.{Table, Use, use_of}
use Rattle.cr_macros.specs.Uses.{put_for, is_given, left_behind}

-- The next tokens of an expansion's result, and the list that is left behind them.
pub record Next : Type 0 where
  pub tokens : List Token
  pub rest : List Token

-- tokens of the result are the next ones; others are expanded again, with what comes behind them
abbrev pub next_on : (List Token → Work (Option Next)) → Bool → List Token → List Token → Work (Option Next)
next_on go true ts rest = give (Some (record { tokens = ts; rest = rest }))
next_on go false ts rest = go (ts ++ rest)

-- by a use of a rule at the head t
abbrev pub next_by : (List Token → Work (Option Next)) → Table → Token → List Token → Use → Work (Option Next)
next_by go table t rest u = put_for table t u >>= λ ts. next_on go (is_given u) ts (left_behind rest u)

-- the rules; at the end of the list there is no next token
abbrev pub next_rules : (List Token → Work (Option Next)) → Table → List Token → Work (Option Next)
next_rules go table [] = give None
next_rules go table (t ∷ rest) = next_by go table t rest (use_of table t rest)

-- the rules, n deep
abbrev pub next_within : ℕ → Table → List Token → Work (Option Next)
next_within zero table ts = fail Over
next_within (suc n) table ts = next_rules (next_within n table) table ts

-- The uses of rules up to the next token of the result. A use that gives none lessens the work that is left and the length
-- together, so this is deep enough, and `next_token` is what the rules say of it, which is a theorem.
unfoldable pub next_token : Table → List Token → Work (Option Next)
next_token table ts left = next_within (suc (left + length ts)) table ts left

-- That theorem.
abbrev pub NextFollowsTheRules : Type 0
NextFollowsTheRules = (table : Table) (ts : List Token) (left : ℕ) → next_token table ts left ≡ next_rules (next_token table) table ts left
