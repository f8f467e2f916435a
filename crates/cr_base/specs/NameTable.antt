-- A table of texts as the list of them, in the order of their numbers.
use Rattle.std.specs.Prelude.{ℕ, ◌≡◌, List, [], ◌∷◌, ◌++◌, Some, if◌then◌else◌, slice_get, bytes_eq}
use Rattle.std.specs.List.{list_any}

-- No text has two numbers.
abbrev pub IsDistinct : List (List ℕ) → Type 0
IsDistinct texts = (i j : ℕ) (text : List ℕ) → slice_get texts i ≡ Some text → slice_get texts j ≡ Some text → i ≡ j

-- the texts after one more: as they are where it is among them, and else with it at the end
abbrev pub with_text : List (List ℕ) → List ℕ → List (List ℕ)
with_text texts text = if list_any (bytes_eq text) texts then texts else texts ++ text ∷ []

-- The text has this number afterwards, and only a new text is added.
abbrev pub Interns : List (List ℕ) → List ℕ → List (List ℕ) → ℕ → Type 0
Interns old text new number = (new ≡ with_text old text) × (slice_get new number ≡ Some text)

-- One text more leaves no text twice.
abbrev pub StaysDistinct : Type 0
StaysDistinct = (texts : List (List ℕ)) (text : List ℕ) → IsDistinct texts → IsDistinct (with_text texts text)
