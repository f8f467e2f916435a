-- The keywords by their length. No contract of a public call cites it.
use Rattle.std.specs.Prelude.{ℕ, Bool, List, length, ◌==◌, bytes_eq}
use Rattle.std.specs.List.{list_any, filter, slice_split}
use Rattle.cr_base.specs.Names.{keywords}

-- a text is one of the words, which blanks part
abbrev pub is_among : List ℕ → List ℕ → Bool
is_among text words = list_any (λ word. bytes_eq word text) (slice_split (λ b. b == 32) words)

abbrev pub keywords_of_length : ℕ → List (List ℕ)
keywords_of_length n = filter (λ word. length word == n) keywords
