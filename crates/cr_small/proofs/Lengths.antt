-- A keyword is looked for among those of its length.
use Rattle.std.proofs.Common.{◌≡◌, ℕ, true, List, length, ap, ◌==◌, eq-eqb}
use Rattle.std.specs.Prelude.{bytes_eq}
use Rattle.std.specs.List.{list_any}
use Rattle.std.proofs.lemmas.Slice.Eq.{bytes_eq-Decides}
use Rattle.std.proofs.lemmas.Map.Views.{any-filter_same}
use Rattle.cr_base.specs.Names.{keywords, is_keyword}
use Rattle.cr_small.specs.Keywords.{keywords_of_length}

same_length : (text word : List ℕ) → bytes_eq word text ≡ true → (length word == length text) ≡ true
same_length text word e = eq-eqb (length word) (length text) (ap length ((bytes_eq-Decides word text).0 e))

pub among_its_length : (text : List ℕ) → list_any (λ word. bytes_eq word text) (keywords_of_length (length text)) ≡ is_keyword text
unfolding is_keyword
among_its_length text = any-filter_same (λ word. bytes_eq word text) (λ word. length word == length text) true (same_length text) keywords
