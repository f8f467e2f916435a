-- The numbers of the visible declarations, one after another.
use Rattle.std.proofs.Common.{◌≡◌, ℕ, zero, suc, ◌+◌, Bool, true, false, cond, Option, Some, List, [], ◌∷◌, ◌++◌, length, take, refl, sym, ◌∙◌, ap, subst, arith, append_assoc, append-nil, add-zero}
use Rattle.std.specs.Prelude.{slice_get}
use Rattle.cr_scope.specs.Declarations.{is_at, numbers_at, numbers_from}
use Rattle.cr_scope.specs.Kept.{rest_from}

pub take_all : {A : Type 0} (xs : List A) (n : ℕ) → n ≡ length xs → take n xs ≡ xs
take_all [] zero e = refl
take_all [] (suc n) e = refl
take_all (x ∷ xs) zero e = absurd (omega arith)
take_all (x ∷ xs) (suc n) e = ap (λ z. x ∷ z) (take_all xs n (omega arith))

-- one number, if it is at the depth
abbrev pub one_at : ℕ → ℕ → Option ℕ → List ℕ
one_at d n c = cond (is_at d c) (n ∷ []) []

-- one more of the first depths
pub numbers_at_more : (d n : ℕ) (cs : List (Option ℕ)) (j : ℕ) (c : Option ℕ) → slice_get cs j ≡ Some c → numbers_at d n (take (suc j) cs) ≡ one_at d (n + j) c ++ numbers_at d n (take j cs)
numbers_at_more d n [] j c h = cc
numbers_at_more d n (x ∷ cs) zero c h =
    let e : x ≡ c = cc in
    ap (λ z. one_at d n z) e ∙ ap (λ m. one_at d m c) (sym (add-zero n)) ∙ sym (append-nil (one_at d (n + 0) c))
numbers_at_more d n (x ∷ cs) (suc j) c h =
    let m : (n + 1) + j ≡ n + suc j = omega arith in
    ap (λ z. z ++ one_at d n x) (numbers_at_more d (n + 1) cs j c h)
    ∙ append_assoc (one_at d ((n + 1) + j) c) (numbers_at d (n + 1) (take j cs)) (one_at d n x)
    ∙ ap (λ z. one_at d z c ++ (numbers_at d (n + 1) (take j cs) ++ one_at d n x)) m

-- what a step back over the number j gives
pub step_back : (d : ℕ) (cs : List (Option ℕ)) (i j : ℕ) (c : Option ℕ) → j + 1 ≡ i → slice_get cs j ≡ Some c → numbers_at d 0 (take i cs) ≡ one_at d j c ++ numbers_at d 0 (take j cs)
step_back d cs i j c e h =
    let s : i ≡ suc j = omega arith in
    let z : 0 + j ≡ j = omega arith in
    ap (λ m. numbers_at d 0 (take m cs)) s ∙ numbers_at_more d 0 cs j c h ∙ ap (λ m. one_at d m c ++ numbers_at d 0 (take j cs)) z

pub stepped_on : (d : ℕ) (cs : List (Option ℕ)) (i j : ℕ) (c : Option ℕ) (b : Bool) → j + 1 ≡ i → slice_get cs j ≡ Some c → b ≡ is_at d c → b ≡ true → numbers_at d 0 (take i cs) ≡ j ∷ numbers_at d 0 (take j cs)
stepped_on d cs i j c b e h t is =
    step_back d cs i j c e h ∙ ap (λ z. cond z (j ∷ []) [] ++ numbers_at d 0 (take j cs)) (sym t ∙ is)

pub stepped_over : (d : ℕ) (cs : List (Option ℕ)) (i j : ℕ) (c : Option ℕ) (b : Bool) → j + 1 ≡ i → slice_get cs j ≡ Some c → b ≡ is_at d c → b ≡ false → numbers_at d 0 (take i cs) ≡ numbers_at d 0 (take j cs)
stepped_over d cs i j c b e h t is =
    step_back d cs i j c e h ∙ ap (λ z. cond z (j ∷ []) [] ++ numbers_at d 0 (take j cs)) (sym t ∙ is)

-- all that are left of a depth are those from it on
pub rest_all : (d end : ℕ) (cs : List (Option ℕ)) → end ≡ length cs → rest_from d end cs ≡ numbers_from d cs
rest_all zero end cs e = ap (numbers_at 0 0) (take_all cs end e)
rest_all (suc d) end cs e = ap (λ z. numbers_at (suc d) 0 z ++ numbers_from d cs) (take_all cs end e)

pub rest_next : (d end n : ℕ) (cs : List (Option ℕ)) → numbers_at d 0 (take end cs) ≡ n ∷ numbers_at d 0 (take n cs) → rest_from d end cs ≡ n ∷ rest_from d n cs
rest_next zero end n cs e = e
rest_next (suc d) end n cs e = ap (λ z. z ++ numbers_from d cs) e

pub rest_none : (d end : ℕ) (cs : List (Option ℕ)) → d ≡ 0 → numbers_at d 0 (take end cs) ≡ [] → rest_from d end cs ≡ []
rest_none zero end cs z e = e
rest_none (suc d) end cs z e = absurd (omega arith)

pub rest_outward : (d e end all : ℕ) (cs : List (Option ℕ)) → e + 1 ≡ d → all ≡ length cs → numbers_at d 0 (take end cs) ≡ [] → rest_from d end cs ≡ rest_from e all cs
rest_outward d e end all cs s l none =
    let up : d ≡ suc e = omega arith in
    let P : ℕ → Type 0 = λ z. numbers_at z 0 (take end cs) ≡ [] in
    ap (λ z. rest_from z end cs) up
    ∙ ap (λ z. z ++ numbers_from e cs) (subst P up none)
    ∙ sym (rest_all e all cs l)
