-- Bytes without a join, and their lines.
use Rattle.std.proofs.Common.{◌≡◌, ℕ, zero, suc, ◌+◌, ◌-◌, ◌≤◌, cond, false, not, List, [], ◌∷◌, ◌++◌, length, get_or, take, drop, count_by, refl, ap, sym, ◌∙◌, arith, take-add, length-take-le, length-take, length-drop}
use Rattle.std.specs.Prelude.{◌==◌}
use Rattle.std.proofs.lemmas.Bool.{lt-ltb, le-ltb, eq-eqb}
use Rattle.std.proofs.lemmas.List.{drop_more, length-map}
use Rattle.std.proofs.lemmas.List.Sums.{sum_by-append, count_by-le-length}
use Rattle.cr_lex.specs.Joins.{Cell, text_of}
use Rattle.cr_lex.specs.Scanning.{cell_of, upto, own_cells}
use Rattle.cr_lex.specs.Joins.{rest, line_at}
use Rattle.cr_lex.specs.Standing.{IsPlain}
use Rattle.cr_lex.proofs.Cells.{rest_byte}
use Rattle.cr_lex.proofs.Marks.{Rising, rest_rises}

pub line_over : (bytes : List ℕ) (from at : ℕ) → from ≤ at → line_at bytes from + count_by (λ b. b == 10) (take (at - from) (drop from bytes)) ≡ line_at bytes at
line_over bytes from at h =
    let parts : take at bytes ≡ take from bytes ++ take (at - from) (drop from bytes) = ap (λ n. take n bytes) (let e : at ≡ from + (at - from) = omega arith in e) ∙ take-add from (at - from) bytes in
    let sum = ap (count_by (λ b. b == 10)) parts ∙ sum_by-append (λ b. cond (b == 10) 1 0) (take from bytes) (take (at - from) (drop from bytes)) in
    omega (arith, sum)

upto_none : (end : ℕ) (cs : List Cell) → Rising end cs → upto end cs ≡ []
upto_none end [] r = refl
upto_none end (c ∷ cs) r = ap (λ t. cond t (c ∷ upto end cs) []) (le-ltb c.at end r.0)

pub plain_text : (n : ℕ) (bytes : List ℕ) (from end : ℕ) → end ≡ from + n → end ≤ length bytes → IsPlain bytes from end → text_of (own_cells bytes from end) ≡ take n (drop from bytes)
plain_text zero bytes from end e within plain =
    ap text_of (ap (λ k. upto k (rest bytes from)) (let same : end ≡ from = omega arith in same) ∙ upto_none from (rest bytes from) (rest_rises bytes from))
plain_text (suc n) bytes from end e within plain =
    let here = rest_byte bytes from (omega arith) (plain from (omega arith) (omega arith)) in
    let before : upto end (cell_of bytes from ∷ rest bytes (from + 1)) ≡ cell_of bytes from ∷ upto end (rest bytes (from + 1)) = ap (λ t. cond t (cell_of bytes from ∷ upto end (rest bytes (from + 1))) []) (lt-ltb from end (omega arith)) in
    ap text_of (ap (upto end) here ∙ before)
    ∙ ap (λ l. get_or bytes from 0 ∷ l) (plain_text n bytes (from + 1) end (omega arith) within (λ i a b. plain i (omega arith) b))
    ∙ sym (ap (take (suc n)) (drop_more bytes from 0 (omega arith)))

pub plain_is : (bytes : List ℕ) (from end : ℕ) → from ≤ end → end ≤ length bytes → IsPlain bytes from end → take (end - from) (drop from bytes) ≡ text_of (own_cells bytes from end)
plain_is bytes from end h within plain = sym (plain_text (end - from) bytes from end (omega arith) within plain)

pub not_joined : (bytes : List ℕ) (from end : ℕ) → from ≤ end → end ≤ length bytes → IsPlain bytes from end → false ≡ not (end == from + length (own_cells bytes from end))
not_joined bytes from end h within plain =
    let size : length (own_cells bytes from end) ≡ end - from = sym (length-map (own_cells bytes from end) (λ (c : Cell). c.byte)) ∙ ap length (sym (plain_is bytes from end h within plain)) ∙ length-take-le (end - from) (drop from bytes) (omega (arith, length-drop from bytes)) in
    sym (ap not (eq-eqb end (from + length (own_cells bytes from end)) (omega arith)))

pub line_small : (bytes : List ℕ) (at : ℕ) → line_at bytes at ≤ 1 + length bytes
line_small bytes at = omega (arith, count_by-le-length (λ b. b == 10) (take at bytes), length-take at bytes)
