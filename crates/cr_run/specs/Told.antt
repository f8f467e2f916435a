-- What a sink gained, where it tells its bytes.
use Rattle.std.specs.Prelude.{ℕ, ◌≡◌, ◌⊎◌, ◌≤◌, Bool, true, false, List, [], ◌∷◌, ◌++◌, take, Option, Some, codes}
use Rattle.cr_world.specs.Outside.{Rose}

-- the line of an answer
abbrev pub line_of : List ℕ → List ℕ
line_of text = codes "crename: " ++ text ++ 10 ∷ []

-- a sink that gained a text, where it tells its bytes
abbrev pub Gained : Option (List ℕ) → Option (List ℕ) → List ℕ → Type 0
Gained before now text = (bytes : List ℕ) → before ≡ Some bytes → now ≡ Some (bytes ++ text)

-- a sink that gained a front of a text, where it tells its bytes
abbrev pub GainedFront : Option (List ℕ) → Option (List ℕ) → List ℕ → Type 0
GainedFront before now text = (bytes : List ℕ) → before ≡ Some bytes → (n : ℕ) × (now ≡ Some (bytes ++ take n text))

-- A sink gained a text, or its count rose and it gained a front of it.
abbrev pub Tells : Option (List ℕ) → Option (List ℕ) → ℕ → ℕ → List ℕ → Type 0
Tells before now count count' text = Gained before now text ⊎ (Rose count count' × GainedFront before now text)

-- one piece of a line
abbrev pub Puts : Option (List ℕ) → Option (List ℕ) → ℕ → ℕ → List ℕ → Bool → Type 0
Puts before now count count' piece true = (count ≤ count') × Gained before now piece
Puts before now count count' piece false = (count ≤ count') × Rose count count' × GainedFront before now piece
