-- How the alternatives of a nonterminal are found by their numbers.
use Rattle.std.proofs.Common.{◌≡◌, ℕ, zero, suc, Option, Some, List, [], ◌∷◌, drop, ap}
use Rattle.std.specs.Prelude.{slice_get, option_map}
use Rattle.cr_grammar.specs.declared.symbols.Symbol.{Symbol}
use Rattle.cr_grammar.specs.Grammar.{Row as Alternative}

abbrev body_in : List Alternative → ℕ → Option (List Symbol)
body_in rows k = option_map (λ (r : Alternative). r.1) (slice_get rows k)

-- the first of the alternatives from k on is the one at k
pub body_first : (rows : List Alternative) (k : ℕ) (r : Alternative) (rs : List Alternative) → drop k rows ≡ r ∷ rs → body_in rows k ≡ Some r.1
body_first [] zero r rs h = cc
body_first [] (suc k) r rs h = cc
body_first (q ∷ rows) zero r rs h = let e : q ≡ r = cc in ap (λ (z : Alternative). Some z.1) e
body_first (q ∷ rows) (suc k) r rs h = body_first rows k r rs h
