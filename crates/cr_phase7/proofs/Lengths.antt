-- A word is looked for among those of its length.
use Rattle.std.proofs.Common.{◌≡◌, ℕ, true, List, ◌++◌, length, ap, ◌∙◌, ◌==◌, eq-eqb}
use Rattle.std.specs.Prelude.{bytes_eq}
use Rattle.std.specs.List.{list_any, slice_split}
use Rattle.std.proofs.lemmas.Slice.Eq.{bytes_eq-Decides}
use Rattle.std.proofs.lemmas.Map.Views.{any-filter_same}
use Rattle.std.proofs.lemmas.List.Folds.{list_any-append}
use Rattle.cr_base.specs.Names.{keywords, is_keyword}
use Rattle.cr_phase7.specs.Tokens.{further_words, is_word, words_of_length}

same_length : (text word : List ℕ) → bytes_eq word text ≡ true → (length word == length text) ≡ true
same_length text word e = eq-eqb (length word) (length text) (ap length ((bytes_eq-Decides word text).0 e))

pub among_its_length : (text : List ℕ) → list_any (λ word. bytes_eq word text) (words_of_length (length text)) ≡ is_word text
unfolding is_keyword
among_its_length text =
    any-filter_same (λ word. bytes_eq word text) (λ word. length word == length text) true (same_length text) (keywords ++ slice_split (λ b. b == 32) further_words)
    ∙ list_any-append (λ word. bytes_eq word text) keywords (slice_split (λ b. b == 32) further_words)
