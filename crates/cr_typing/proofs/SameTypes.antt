-- That the test of types tells whether they are the same.
use Rattle.std.proofs.Common.{◌≡◌, ◌≢◌, Bool, true, false, cond, eqb, refl, sym, ap, ◌∙◌, arith}
use Rattle.std.proofs.lemmas.Bool.Decides.{nat_tests}
use Rattle.cr_types.specs.declared.TypeNo.{TypeNo}
use Rattle.cr_types.specs.Types.{CType, Void, Arith, Mixed, Ptr, Arr, Fun, Rec}
use Rattle.cr_typing.specs.ExpressionTypes.{same_type, of_both}

pub same_type-itself : (c : CType) → same_type c c ≡ true
same_type-itself Void = refl
same_type-itself Arith = refl
same_type-itself Mixed = refl
same_type-itself (Ptr c) = same_type-itself c
same_type-itself (Arr c) = same_type-itself c
same_type-itself (Fun c) = same_type-itself c
same_type-itself (Rec n) = grind (arith, nat_tests)

pub from_same_type : (c d : CType) → same_type c d ≡ true → c ≡ d
from_same_type Void Void e = refl
from_same_type Arith Arith e = refl
from_same_type Mixed Mixed e = refl
from_same_type (Ptr c) (Ptr d) e = ap Ptr (from_same_type c d e)
from_same_type (Arr c) (Arr d) e = ap Arr (from_same_type c d e)
from_same_type (Fun c) (Fun d) e = ap Fun (from_same_type c d e)
from_same_type (Rec n) (Rec m) e = ap Rec (grind (arith, nat_tests))
from_same_type _ _ e = cc

pub of_both-itself : (c : CType) → of_both c c ≡ c
of_both-itself c = ap (λ b. cond b c Mixed) (same_type-itself c)

pub of_both-different : (c d : CType) → (c ≢ d) → of_both c d ≡ Mixed
of_both-different c d ne = by (same_type c d) refl
  where
    by : (b : Bool) → same_type c d ≡ b → of_both c d ≡ Mixed
    by true e = absurd (ne (from_same_type c d e))
    by false e = ap (λ b. cond b c Mixed) e

pub same_number : (k l : TypeNo) → eqb k.0 l.0 ≡ true → k ≡ l
same_number k l e =
    let same : k.0 ≡ l.0 = grind (arith, nat_tests) in
    ap (λ z. record { 0 = z }) same

-- types are the same where their numbers are
pub same_type-numbers : (c d : CType) (k l : TypeNo) → (k ≡ l → c ≡ d) → (c ≡ d → k ≡ l) → same_type c d ≡ eqb k.0 l.0
same_type-numbers c d k l to from = by (eqb k.0 l.0) refl (same_type c d) refl
  where
    by : (b : Bool) → eqb k.0 l.0 ≡ b → (e : Bool) → same_type c d ≡ e → same_type c d ≡ eqb k.0 l.0
    by true h e g = ap (same_type c) (sym (to (same_number k l h))) ∙ same_type-itself c ∙ sym h
    by false h false g = g ∙ sym h
    by false h true g =
        let same : k.0 ≡ l.0 = ap (λ n. n.0) (from (from_same_type c d g)) in
        let f : eqb k.0 l.0 ≡ true = grind (arith, nat_tests) in cc
