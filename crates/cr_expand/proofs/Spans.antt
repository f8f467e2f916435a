-- Groups that are known stay known.
use Rattle.std.proofs.Common.{◌≡◌, ℕ, zero, suc, ◌+◌, ◌-◌, ◌<◌, ◌≤◌, true, false, List, [], ◌∷◌, ◌++◌, length, drop, set, replicate, refl, sym, ap, subst, ◌∙◌, arith, append_assoc, length-append, length-set, inl, inr}
use Rattle.std.specs.Prelude.{codes}
use Rattle.std.proofs.lemmas.List.{length-drop}
use Rattle.cr_expand.specs.declared.held.Held.{Held}
use Rattle.cr_expand.specs.declared.slot.Slot.{Slot}
use Rattle.cr_expand.specs.declared.slot.Slot.TheVariants as slot
use Rattle.cr_macros.specs.Tokens.{Text, is_mark}
use Rattle.cr_expand.specs.Slots.{tokens}
use Rattle.cr_expand.specs.declared.closing.Close.TheVariants as close
use Rattle.cr_expand.specs.Calls.{shown, IsInside, IsEndAt}
use Rattle.cr_expand.specs.Groups.{IsSpan, AreGroups, AreNoted}
use Rattle.cr_expand.proofs.Depths.{no_open}
use Rattle.cr_expand.proofs.Closes.{length_tokens, drop_drop, behind_tokens}

pub groups_none : (names : List Text) (slots : List Slot) → AreGroups names slots []
groups_none names [] = tt
groups_none names (s ∷ slots) = tt

pub groups_drop : (names : List Text) (n : ℕ) (slots : List Slot) (groups : List ℕ) → AreGroups names slots groups → AreGroups names (drop n slots) (drop n groups)
groups_drop names zero slots groups k = k
groups_drop names (suc n) [] groups k = tt
groups_drop names (suc n) (s ∷ slots) [] k = groups_none names (drop n slots)
groups_drop names (suc n) (s ∷ slots) (g ∷ groups) k = groups_drop names n slots groups k.1

pub groups_set : (names : List Text) (slots : List Slot) (groups : List ℕ) (i span : ℕ) → AreGroups names slots groups → ((s : Slot) (rest : List Slot) → drop i slots ≡ s ∷ rest → IsSpan names rest span s) → AreGroups names slots (set groups i span)
groups_set names [] groups i span k h = tt
groups_set names (s ∷ slots) [] zero span k h = tt
groups_set names (s ∷ slots) [] (suc i) span k h = tt
groups_set names (s ∷ slots) (g ∷ groups) zero span k h = (h s slots refl, k.1)
groups_set names (s ∷ slots) (g ∷ groups) (suc i) span k h = (k.0, groups_set names slots groups i span k.1 h)

span_zero : (names : List Text) (s : Slot) (rest : List Slot) → IsSpan names rest 0 s
span_zero names slot.End rest = tt
span_zero names (slot.Token h) rest = λ _. inl refl

pub groups_zeros : (names : List Text) (slots : List Slot) (n : ℕ) → AreGroups names slots (replicate n 0)
groups_zeros names [] n = tt
groups_zeros names (s ∷ slots) zero = tt
groups_zeros names (s ∷ slots) (suc n) = (span_zero names s slots, groups_zeros names slots n)

pub groups_behind : (names : List Text) (front slots : List Slot) (groups : List ℕ) → AreGroups names slots groups → AreGroups names (front ++ slots) (replicate (length front) 0 ++ groups)
groups_behind names [] slots groups k = k
groups_behind names (s ∷ front) slots groups k = (span_zero names s (front ++ slots), groups_behind names front slots groups k)

span_fed : (names : List Text) (s : Slot) (rest more : List Slot) (span : ℕ) → IsSpan names rest span s → IsSpan names (rest ++ more) span s
span_fed names slot.End rest more span k = tt
span_fed names (slot.Token h) rest more span k = λ o. elim (k o) [
  | inl z ↦ inl z
  | inr (inside, closes, tail, e, n, w) ↦ inr (inside, closes, tail ++ more, ap (λ l. l ++ more) e ∙ append_assoc (tokens inside) (slot.Token closes ∷ tail) more, n, w)
]

pub groups_fed : (names : List Text) (slots more : List Slot) (groups : List ℕ) (n : ℕ) → length groups ≡ length slots → AreGroups names slots groups → AreGroups names (slots ++ more) (groups ++ replicate n 0)
groups_fed names [] more [] n l k = groups_zeros names more n
groups_fed names [] more (g ∷ groups) n l k = absurd (omega (arith, l))
groups_fed names (s ∷ slots) more [] n l k = absurd (omega (arith, l))
groups_fed names (s ∷ slots) more (g ∷ groups) n l k = (span_fed names s slots more g k.0, groups_fed names slots more groups n (omega (arith, l)) k.1)

span_here : (names : List Text) (s : Slot) (inside : List Held) (closes : Held) (rest tail : List Slot) (span : ℕ) → rest ≡ tokens inside ++ slot.Token closes ∷ tail → span ≡ 1 + length inside → IsInside names inside closes → IsSpan names rest span s
span_here names slot.End inside closes rest tail span e n w = tt
span_here names (slot.Token h) inside closes rest tail span e n w = λ o. inr (inside, closes, tail, e, n, w)

span_closes : (names : List Text) (s : Slot) (closes : Held) (rest : List Slot) (span : ℕ) → s ≡ slot.Token closes → is_mark (codes ")") (shown names closes) ≡ true → IsSpan names rest span s
span_closes names slot.End closes rest span e c = tt
span_closes names (slot.Token h) closes rest span e c = λ o.
    let same : h ≡ closes = cc in
    let no : is_mark (codes "(") (shown names closes) ≡ false = no_open (shown names closes) c in
    let yes : is_mark (codes "(") (shown names closes) ≡ true = subst (λ x. is_mark (codes "(") (shown names x) ≡ true) same o in
    absurd (let z : ⊥ = cc in z)

first_of : (s t : Slot) (xs ys : List Slot) → s ∷ xs ≡ t ∷ ys → s ≡ t
first_of s t xs ys e = cc

pub end_place : (names : List Text) (slots : List Slot) (start n : ℕ) → IsEndAt names slots start (close.At n) → (start ≤ n) × (n < length slots)
end_place names slots start n (inside, closes, rest, e, l, w) =
    let a = ap length e in let b = length-drop start slots in let c = length-append (tokens inside) (slot.Token closes ∷ rest) in let d = length_tokens inside in
    (omega (arith, l), omega (arith, a, b, c, d, l))

pub group_noted : (names : List Text) (slots : List Slot) (groups : List ℕ) (i n : ℕ) → AreNoted names slots groups → IsEndAt names slots (i + 1) (close.At n) → AreNoted names slots (set (set groups i (n - i)) n (n - i))
group_noted names slots groups i n k (inside, closes, tail, e, l, w) = (
  length-set (set groups i (n - i)) n (n - i) ∙ length-set groups i (n - i) ∙ k.0,
  groups_set names slots (set groups i (n - i)) n (n - i)
      (groups_set names slots groups i (n - i) k.1
      (λ s rest t. span_here names s inside closes rest tail (n - i) (sym (ap (drop 1) t) ∙ sym (drop_drop i 1 slots) ∙ e) (omega (arith, l)) w))
      (λ s rest t. span_closes names s closes rest (n - i) (first_of s (slot.Token closes) rest tail (sym t ∙ behind_tokens slots (slot.Token closes ∷ tail) inside (i + 1) n e (sym l))) w.1),
)
