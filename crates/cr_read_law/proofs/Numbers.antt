-- The number of a text in a table.
use Rattle.std.proofs.Common.{◌≡◌, ◌<◌, ℕ, Bool, true, false, List, [], length, get_or, slice_get, slice_index_or, Some, refl, sym, ap, subst, ◌∙◌, arith}
use Rattle.std.specs.Prelude.{bytes_eq, Contains}
use Rattle.std.proofs.lemmas.List.{length-append}
use Rattle.std.proofs.Math.ListN.{get_or-append}
use Rattle.std.proofs.lemmas.List.Sums.{position_or_len_is}
use Rattle.std.proofs.lemmas.Slice.Eq.{bytes_eq-Decides}
use Rattle.std.proofs.lemmas.Option.{slice_get-get_or, slice_get_within, get_or_from_slice_get}
use Rattle.cr_base.specs.NameTable.{IsDistinct}
use Rattle.cr_base.specs.declared.token.Name.{Name}
use Rattle.cr_keeps.specs.UnitMeaning.{number_of}
use Rattle.cr_read_law.proofs.Tables.{Extends}

is_false : (b : Bool) → (b ≡ true → ⊥) → b ≡ false
is_false true h = absurd (h refl)
is_false false h = refl

abbrev named : ℕ → Name
named n = record { 0 = n }

-- it is the only place at which the text stands
pub numbered_at : (names : List (List ℕ)) (k : ℕ) (text : List ℕ) → IsDistinct names → slice_get names k ≡ Some text → number_of names text ≡ record { 0 = k }
numbered_at names k text distinct at = ap named (position_or_len_is (bytes_eq text) names k [] (omega (arith, within)) earlier here)
  where
    within : k < length names
    within = slice_get_within names k text at

    earlier : (j : ℕ) → j < k → bytes_eq text (get_or names j []) ≡ false
    earlier j lt = is_false (bytes_eq text (get_or names j [])) differs
      where
        differs : bytes_eq text (get_or names j []) ≡ true → ⊥
        differs h =
            let same : text ≡ get_or names j [] = (bytes_eq-Decides text (get_or names j [])).0 h in
            let inside : j < length names = omega (arith, lt, within) in
            let one : j ≡ k = distinct j k text (slice_get-get_or names j [] inside ∙ ap (λ x. Some x) (sym same)) at in
            omega (arith, lt, one)

    here : k < length names → bytes_eq text (get_or names k []) ≡ true
    here lt = (bytes_eq-Decides text (get_or names k [])).1 (sym (get_or_from_slice_get names k text [] at))

-- texts stay where more come behind
pub text_stays : (texts names : List (List ℕ)) (k : ℕ) → Extends texts names → k < length texts → slice_index_or names k [] ≡ slice_index_or texts k []
text_stays texts names k (rest, e) lt = ap (λ l. slice_index_or l k []) e ∙ get_or-append texts rest [] k lt

pub stands : (texts names : List (List ℕ)) (k : ℕ) → Extends texts names → k < length texts → slice_get names k ≡ Some (slice_index_or texts k [])
stands texts names k more lt = slice_get-get_or names k [] (longer more) ∙ ap (λ x. Some x) (text_stays texts names k more lt)
  where
    longer : Extends texts names → k < length names
    longer (rest, e) = subst (λ l. k < length l) (sym e) (omega (arith, lt, length-append texts rest))

pub stays : (texts names : List (List ℕ)) (k : ℕ) (text : List ℕ) → Extends texts names → slice_get texts k ≡ Some text → slice_get names k ≡ Some text
stays texts names k text more at =
    stands texts names k more (slice_get_within texts k text at) ∙ ap (λ x. Some x) (get_or_from_slice_get texts k text [] at)

pub among : (names : List (List ℕ)) (k : ℕ) (text : List ℕ) → slice_get names k ≡ Some text → Contains names text
among names k text at = (k, slice_get_within names k text at, get_or_from_slice_get names k text text at)
