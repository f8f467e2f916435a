-- In which order the tokens of a file stand.
use Rattle.std.specs.Prelude.{ℕ, ◌+◌, ◌≤◌, List, [], ◌∷◌, length}
use Rattle.cr_lex.specs.Lexing.{Token, lexed}

-- The tokens stand from an offset on up to an end, one behind another, each at least as long as its text.
abbrev pub AreInOrder : ℕ → List Token → ℕ → Type 0
AreInOrder from [] end = from ≤ end
AreInOrder from (t ∷ ts) end = (from ≤ t.at) × (t.at + length t.text ≤ t.end) × AreInOrder t.end ts end

-- the tokens of a file stand in order in its bytes
abbrev pub StandsInOrder : Type 0
StandsInOrder = (bytes : List ℕ) → AreInOrder 0 (lexed bytes).tokens (length bytes)
