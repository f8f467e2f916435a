-- The last of the deepest is the first of all, deepest first.
use Rattle.std.proofs.Common.{◌≡◌, ◌≢◌, ℕ, zero, suc, ◌+◌, ◌<◌, ◌≤◌, Bool, true, false, cond, eqb, Option, Some, None, List, [], ◌∷◌, ◌++◌, refl, sym, ◌∙◌, ap, arith, append-nil}
use Rattle.std.specs.Prelude.{slice_get, option_map}
use Rattle.std.proofs.lemmas.Bool.{eqb-true, eqb-false, lt-ltb, le-ltb}
use Rattle.cr_scope.specs.Declarations.{deeper, last_deepest, numbers_at, numbers_from}

-- the first of a list of numbers at a depth, with that depth
abbrev pub lead : ℕ → List ℕ → Option (ℕ × ℕ)
lead d [] = None
lead d (i ∷ xs) = Some (i, d)

abbrev pub first_of : Option (ℕ × ℕ) → Option (ℕ × ℕ) → Option (ℕ × ℕ)
first_of None later = later
first_of (Some a) later = Some a

abbrev pub best_from : ℕ → ℕ → List (Option ℕ) → Option (ℕ × ℕ)
best_from zero n cs = lead 0 (numbers_at 0 n cs)
best_from (suc d) n cs = first_of (lead (suc d) (numbers_at (suc d) n cs)) (best_from d n cs)

pub best_nil : (d n : ℕ) → best_from d n [] ≡ None
best_nil zero n = refl
best_nil (suc d) n = best_nil d n

pub best_none : (d n : ℕ) (cs : List (Option ℕ)) → best_from d n (None ∷ cs) ≡ best_from d (n + 1) cs
best_none zero n cs = ap (lead 0) (append-nil (numbers_at 0 (n + 1) cs))
best_none (suc d) n cs =
    ap (λ xs. first_of (lead (suc d) xs) (best_from d n (None ∷ cs))) (append-nil (numbers_at (suc d) (n + 1) cs))
    ∙ ap (first_of (lead (suc d) (numbers_at (suc d) (n + 1) cs))) (best_none d n cs)

abbrev pub IsUpTo : ℕ → Option (ℕ × ℕ) → Type 0
IsUpTo d None = Unit {0}
IsUpTo d (Some p) = p.1 ≤ d

pub lead_up_to : (d : ℕ) (xs : List ℕ) (later : Option (ℕ × ℕ)) → IsUpTo d later → IsUpTo d (first_of (lead d xs) later)
lead_up_to d [] later h = h
lead_up_to d (i ∷ xs) later h = omega arith

pub wider : (d : ℕ) (r : Option (ℕ × ℕ)) → IsUpTo d r → IsUpTo (suc d) r
wider d None h = h
wider d (Some p) h = omega arith

pub best_up_to : (d n : ℕ) (cs : List (Option ℕ)) → IsUpTo d (best_from d n cs)
best_up_to zero n cs = by (numbers_at 0 n cs)
  where
    by : (xs : List ℕ) → IsUpTo 0 (lead 0 xs)
    by [] = tt
    by (i ∷ xs) = omega arith
best_up_to (suc d) n cs = lead_up_to (suc d) (numbers_at (suc d) n cs) (best_from d n cs) (wider d (best_from d n cs) (best_up_to d n cs))

-- of the first of a depth and a later one of a depth that is no greater
pub deeper_than : (n e : ℕ) (r : Option (ℕ × ℕ)) (d : ℕ) → d < e → IsUpTo d r → deeper (Some (n, e)) r ≡ Some (n, e)
deeper_than n e None d h u = refl
deeper_than n e (Some p) d h u = ap (λ b. cond b (Some (n, e)) (Some p)) (lt-ltb p.1 e (omega arith))

pub not_deeper_than : (n e i d : ℕ) → e ≤ d → deeper (Some (n, e)) (Some (i, d)) ≡ Some (i, d)
not_deeper_than n e i d h = ap (λ b. cond b (Some (n, e)) (Some (i, d))) (le-ltb d e h)

-- one more declaration of depth e before the others, at the least depth
pub lead_one : (n e : ℕ) (xs : List ℕ) (b : Bool) → e ≤ 0 → eqb e 0 ≡ b → lead 0 (xs ++ cond b (n ∷ []) []) ≡ deeper (Some (n, e)) (lead 0 xs)
lead_one n e [] true h q = let z : 0 ≡ e = omega arith in ap (λ d. Some (n, d)) z
lead_one n e (i ∷ xs) true h q = sym (not_deeper_than n e i 0 h)
lead_one n e xs false h q = absurd (eqb-false e 0 q (omega arith))

-- at a greater depth
pub lead_more : (d n e : ℕ) (xs : List ℕ) (before after : Option (ℕ × ℕ)) (b : Bool) → e ≤ suc d → eqb e (suc d) ≡ b → IsUpTo d after → (e ≤ d → before ≡ deeper (Some (n, e)) after) → first_of (lead (suc d) (xs ++ cond b (n ∷ []) [])) before ≡ deeper (Some (n, e)) (first_of (lead (suc d) xs) after)
lead_more d n e [] before after true h q u ih =
    let same : e ≡ suc d = eqb-true e (suc d) q in
    ap (λ z. Some (n, z)) (sym same) ∙ sym (deeper_than n e after d (omega arith) u)
lead_more d n e (i ∷ xs) before after true h q u ih = sym (not_deeper_than n e i (suc d) h)
lead_more d n e [] before after false h q u ih =
    let other : e ≢ suc d = eqb-false e (suc d) q in
    ih (omega arith)
lead_more d n e (i ∷ xs) before after false h q u ih = sym (not_deeper_than n e i (suc d) h)

pub best_some : (d n e : ℕ) (cs : List (Option ℕ)) → e ≤ d → best_from d n (Some e ∷ cs) ≡ deeper (Some (n, e)) (best_from d (n + 1) cs)
best_some zero n e cs h = lead_one n e (numbers_at 0 (n + 1) cs) (eqb e 0) h refl
best_some (suc d) n e cs h =
    lead_more d n e (numbers_at (suc d) (n + 1) cs) (best_from d n (Some e ∷ cs)) (best_from d (n + 1) cs) (eqb e (suc d)) h refl (best_up_to d (n + 1) cs) (λ g. best_some d n e cs g)

-- no depth is greater than d
abbrev pub NoneDeeper : ℕ → List (Option ℕ) → Type 0
NoneDeeper d cs = (j x : ℕ) → slice_get cs j ≡ Some (Some x) → x ≤ d

pub best_is_last : (d n : ℕ) (cs : List (Option ℕ)) → NoneDeeper d cs → best_from d n cs ≡ last_deepest n cs
best_is_last d n [] h = best_nil d n
best_is_last d n (None ∷ cs) h = best_none d n cs ∙ best_is_last d (n + 1) cs (λ j x g. h (suc j) x g)
best_is_last d n (Some e ∷ cs) h =
    best_some d n e cs (h 0 e refl) ∙ ap (deeper (Some (n, e))) (best_is_last d (n + 1) cs (λ j x g. h (suc j) x g))

pub first_number : (d : ℕ) (xs ys : List ℕ) (r : Option (ℕ × ℕ)) → option_map (λ x. x.0) r ≡ slice_get ys 0 → option_map (λ x. x.0) (first_of (lead d xs) r) ≡ slice_get (xs ++ ys) 0
first_number d [] ys r h = h
first_number d (i ∷ xs) ys r h = refl

pub lead_number : (xs : List ℕ) → option_map (λ x. x.0) (lead 0 xs) ≡ slice_get xs 0
lead_number [] = refl
lead_number (i ∷ xs) = refl

pub best_number : (d : ℕ) (cs : List (Option ℕ)) → option_map (λ x. x.0) (best_from d 0 cs) ≡ slice_get (numbers_from d cs) 0
best_number zero cs = lead_number (numbers_at 0 0 cs)
best_number (suc d) cs = first_number (suc d) (numbers_at (suc d) 0 cs) (numbers_from d cs) (best_from d 0 cs) (best_number d cs)

pub first_is : (d : ℕ) (cs : List (Option ℕ)) → NoneDeeper d cs → option_map (λ x. x.0) (last_deepest 0 cs) ≡ slice_get (numbers_from d cs) 0
first_is d cs h = ap (option_map (λ x. x.0)) (sym (best_is_last d 0 cs h)) ∙ best_number d cs
