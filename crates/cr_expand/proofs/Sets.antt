-- The sets that nodes make.
use Rattle.std.proofs.Common.{◌≡◌, ℕ, zero, suc, ◌+◌, ◌-◌, ◌<◌, ◌≤◌, List, [], ◌∷◌, ◌++◌, length, get_or, refl, sym, ap, ◌∙◌, subst, arith, length-append, append_assoc, append-nil}
use Rattle.std.specs.Prelude.{fold, slice_get, Some, Bool, true, false, if◌then◌else◌}
use Rattle.std.proofs.lemmas.List.{get_or_append_left, get_or_push}
use Rattle.std.proofs.lemmas.Option.{get_or_from_slice_get}
use Rattle.cr_base.specs.declared.token.Name.{Name}
use Rattle.cr_expand.specs.declared.hide_sets.Node.{Node}
use Rattle.cr_expand.specs.HideSets.{Sets, set_at, grown, sets_of, AreEarlierFrom, AreEarlier, Grows, Puts, with_number, with_numbers, in_both, AreBelow, AreOnce, AreNodes}
use Rattle.std.proofs.Common.{drop, drop-cons}
use Rattle.std.specs.List.{All}
use Rattle.std.proofs.lemmas.List.Elements.{All-push, All-cons, All-nil, All-head, All-tail, All-get_or}
use Rattle.cr_macros.specs.Definition.{has_name}
use Rattle.cr_expand.proofs.Onces.{set_once, missing_at, missing_new, common_new, with_fresh}
use Rattle.std.specs.Prelude.{not}

pub earlier_push : (n : ℕ) (xs : List Node) (y : Node) → AreEarlierFrom n xs → y.parent.0 < n + length xs → AreEarlierFrom n (xs ++ y ∷ [])
earlier_push n [] y h k = (omega arith, tt)
earlier_push n (x ∷ xs) y h k = (h.0, earlier_push (suc n) xs y h.1 (omega arith))

pub earlier_at : (n : ℕ) (xs : List Node) (i : ℕ) (d : Node) → AreEarlierFrom n xs → i < length xs → (get_or xs i d).parent.0 < n + i
earlier_at n [] i d h k = absurd (omega arith)
earlier_at n (x ∷ xs) zero d h k = omega (arith, h.0)
earlier_at n (x ∷ xs) (suc i) d h k = let e = earlier_at (suc n) xs i d h.1 (omega arith) in omega (arith, e)

pub length_grown : (sets : Sets) (nodes : List Node) → length (fold grown sets nodes) ≡ length sets + length nodes
length_grown sets [] = omega arith
length_grown sets (x ∷ xs) = let e = length_grown (grown sets x) xs in let f = length-append sets ((x.name ∷ set_at sets x.parent.0) ∷ []) in omega (arith, e, f)

pub fold_grows : (sets : Sets) (nodes : List Node) → Grows sets (fold grown sets nodes)
fold_grows sets [] = ([], sym (append-nil sets))
fold_grows sets (x ∷ xs) =
    let e = fold_grows (grown sets x) xs in
    ((x.name ∷ set_at sets x.parent.0) ∷ e.0, e.1 ∙ append_assoc sets ((x.name ∷ set_at sets x.parent.0) ∷ []) e.0)

pub set_kept : (old new : Sets) (i : ℕ) → Grows old new → i < length old → set_at new i ≡ set_at old i
set_kept old new i g h = ap (λ s. get_or s i []) g.1 ∙ get_or_append_left old g.0 [] i h

pub set_grown : (sets : Sets) (nodes : List Node) (i : ℕ) (d : Node) → AreEarlierFrom (length sets) nodes → i < length nodes → set_at (fold grown sets nodes) (length sets + i) ≡ (get_or nodes i d).name ∷ set_at (fold grown sets nodes) (get_or nodes i d).parent.0
set_grown sets [] i d h k = absurd (omega arith)
set_grown sets (x ∷ xs) zero d h k =
    let g = fold_grows (grown sets x) xs in
    let long : length (grown sets x) ≡ length sets + 1 = length-append sets ((x.name ∷ set_at sets x.parent.0) ∷ []) in
    let here : length sets + 0 ≡ length sets = omega arith in
    ap (set_at (fold grown sets (x ∷ xs))) here
    ∙ set_kept (grown sets x) (fold grown (grown sets x) xs) (length sets) g (omega (arith, long))
    ∙ get_or_push sets (x.name ∷ set_at sets x.parent.0) [] (length sets) refl
    ∙ ap (λ s. x.name ∷ s) (sym (set_kept (grown sets x) (fold grown (grown sets x) xs) x.parent.0 g (omega (arith, long, h.0)) ∙ get_or_append_left sets ((x.name ∷ set_at sets x.parent.0) ∷ []) [] x.parent.0 h.0))
set_grown sets (x ∷ xs) (suc i) d h k =
    let long : length (grown sets x) ≡ suc (length sets) = length-append sets ((x.name ∷ set_at sets x.parent.0) ∷ []) ∙ omega arith in
    let there : length sets + suc i ≡ length (grown sets x) + i = omega (arith, long) in
    ap (set_at (fold grown sets (x ∷ xs))) there ∙ set_grown (grown sets x) xs i d (subst (λ n. AreEarlierFrom n xs) (sym long) h.1) (omega arith)

-- a set that isn't the first is its node's
pub set_of_node : (nodes : List Node) (at : ℕ) (d : Node) → AreEarlier nodes → 0 < at → at ≤ length nodes → set_at (sets_of nodes) at ≡ (get_or nodes (at - 1) d).name ∷ set_at (sets_of nodes) (get_or nodes (at - 1) d).parent.0
set_of_node nodes at d h k l =
    let e : at ≡ 1 + (at - 1) = omega arith in
    ap (set_at (sets_of nodes)) e ∙ set_grown ([] ∷ []) nodes (at - 1) d h (omega arith)

pub length_sets : (nodes : List Node) → length (sets_of nodes) ≡ suc (length nodes)
length_sets nodes = length_grown ([] ∷ []) nodes ∙ omega arith

fold_append : (sets : Sets) (xs ys : List Node) → fold grown sets (xs ++ ys) ≡ fold grown (fold grown sets xs) ys
fold_append sets [] ys = refl
fold_append sets (x ∷ xs) ys = fold_append (grown sets x) xs ys

pub grows_by : (nodes more : List Node) → Grows (sets_of nodes) (sets_of (nodes ++ more))
grows_by nodes more = let g = fold_grows (sets_of nodes) more in (g.0, fold_append ([] ∷ []) nodes more ∙ g.1)

pub grows_same : {A : Type 0} (xs : List A) → Grows xs xs
grows_same xs = ([], sym (append-nil xs))

pub grows_then : {A : Type 0} (xs ys zs : List A) → Grows xs ys → Grows ys zs → Grows xs zs
grows_then xs ys zs g h = (g.0 ++ h.0, h.1 ∙ ap (λ l. l ++ h.0) g.1 ∙ append_assoc xs g.0 h.0)

pub grows_keys : (b : Bool) (nodes new : List Node) (v : Node) → new ≡ (if b then nodes else nodes ++ v ∷ []) → Grows (sets_of nodes) (sets_of new)
grows_keys true nodes new v e = subst (λ l. Grows (sets_of nodes) (sets_of l)) (sym e) (grows_same (sets_of nodes))
grows_keys false nodes new v e = subst (λ l. Grows (sets_of nodes) (sets_of l)) (sym e) (grows_by nodes (v ∷ []))

pub earlier_keys : (b : Bool) (nodes new : List Node) (v : Node) → new ≡ (if b then nodes else nodes ++ v ∷ []) → AreEarlier nodes → v.parent.0 < suc (length nodes) → AreEarlier new
earlier_keys true nodes new v e h k = subst AreEarlier (sym e) h
earlier_keys false nodes new v e h k = subst AreEarlier (sym e) (earlier_push 1 nodes v h (omega arith))

once_keys : (b : Bool) (nodes new : List Node) (v : Node) → new ≡ (if b then nodes else nodes ++ v ∷ []) → has_name (set_at (sets_of nodes) v.parent.0) v.name ≡ false → All AreOnce (sets_of nodes) → All AreOnce (sets_of new)
once_keys true nodes new v e h k = subst (λ l. All AreOnce (sets_of l)) (sym e) k
once_keys false nodes new v e h k =
    let put : All AreOnce (grown (sets_of nodes) v) = All-push AreOnce (sets_of nodes) (v.name ∷ set_at (sets_of nodes) v.parent.0) k (h, set_once (sets_of nodes) v.parent.0 k) in
    subst (λ l. All AreOnce (sets_of l)) (sym e) (subst (All AreOnce) (sym (fold_append ([] ∷ []) nodes (v ∷ []))) put)

pub nodes_keys : (b : Bool) (old : Sets) (nodes new : List Node) (v : Node) → sets_of nodes ≡ old → new ≡ (if b then nodes else nodes ++ v ∷ []) → AreNodes nodes → v.parent.0 < suc (length nodes) → has_name (set_at old v.parent.0) v.name ≡ false → AreNodes new
nodes_keys b old nodes new v s e h k f = record {
  earlier = earlier_keys b nodes new v e h.earlier k;
  once = once_keys b nodes new v e (ap (λ l. has_name (set_at l v.parent.0) v.name) s ∙ f) h.once;
}

-- a node that is found or put at a place makes the set behind it
pub node_puts : (old : Sets) (nodes new : List Node) (v : Node) (place : ℕ) → sets_of nodes ≡ old → Grows (sets_of nodes) (sets_of new) → AreEarlier new → v.parent.0 < length old
    → slice_get new place ≡ Some v → place < length new → Puts old (v.name ∷ set_at old v.parent.0) (sets_of new) (place + 1)
node_puts old nodes new v place e g h p at within =
    let got : get_or new place v ≡ v = get_or_from_slice_get new place v v at in
    let here : (place + 1) - 1 ≡ place = omega arith in
    let g2 : Grows old (sets_of new) = subst (λ s. Grows s (sets_of new)) e g in
    let node : get_or new ((place + 1) - 1) v ≡ v = ap (λ n. get_or new n v) here ∙ got in (
      g2,
      omega (arith, length_sets new),
      set_of_node new (place + 1) v h (omega arith) (omega arith)
          ∙ ap (λ n. n.name ∷ set_at (sets_of new) n.parent.0) node
          ∙ ap (λ s. v.name ∷ s) (set_kept old (sets_of new) v.parent.0 g2 p),
    )

pub first_is_empty : (nodes : List Node) → set_at (sets_of nodes) 0 ≡ []
first_is_empty nodes = set_kept ([] ∷ []) (sets_of nodes) 0 (fold_grows ([] ∷ []) nodes) (omega arith)

pub node_here : (old : Sets) (nodes : List Node) (at : ℕ) (d : Node) → sets_of nodes ≡ old → AreEarlier nodes → 0 < at → at ≤ length nodes → get_or nodes (at - 1) d ≡ d
    → (set_at old at ≡ d.name ∷ set_at old d.parent.0) × (d.parent.0 < at)
node_here old nodes at d v h k l e = (
  subst (λ s. set_at s at ≡ d.name ∷ set_at s d.parent.0) v (set_of_node nodes at d h k l ∙ ap (λ n. n.name ∷ set_at (sets_of nodes) n.parent.0) e),
  (let p = earlier_at 1 nodes (at - 1) d h (omega arith) in let q : d.parent.0 ≡ (get_or nodes (at - 1) d).parent.0 = ap (λ n. n.parent.0) (sym e) in omega (arith, p, q)),
)

pub set_below : (bound : ℕ) (sets : Sets) (i : ℕ) → All (All (λ n. n.0 < bound)) sets → All (λ n. n.0 < bound) (set_at sets i)
set_below bound [] i h = All-nil (λ n. n.0 < bound)
set_below bound (s ∷ ss) zero h = All-head (All (λ n. n.0 < bound)) s ss h
set_below bound (s ∷ ss) (suc i) h = set_below bound ss i (All-tail (All (λ n. n.0 < bound)) s ss h)

below_more : (bound : ℕ) (old : Sets) (name : Name) (set : ℕ) → name.0 < bound → AreBelow bound old → AreBelow bound (old ++ (name ∷ set_at old set) ∷ [])
below_more bound old name set h k =
    record { at = All-push (All (λ n. n.0 < bound)) old (name ∷ set_at old set) k.at (All-cons (λ n. n.0 < bound) name (set_at old set) h (set_below bound old set k.at)) }

pub below_keys : (b : Bool) (bound : ℕ) (nodes new : List Node) (v : Node) → new ≡ (if b then nodes else nodes ++ v ∷ []) → v.name.0 < bound → AreBelow bound (sets_of nodes) → AreBelow bound (sets_of new)
below_keys true bound nodes new v e h k = subst (λ l. AreBelow bound (sets_of l)) (sym e) k
below_keys false bound nodes new v e h k =
    subst (λ l. AreBelow bound (sets_of l)) (sym e) (subst (AreBelow bound) (sym (fold_append ([] ∷ []) nodes (v ∷ []))) (below_more bound (sets_of nodes) v.name v.parent.0 h k))

-- a name of a set is below
pub name_below : (bound : ℕ) (sets : Sets) (set : ℕ) (names : List Name) (i : ℕ) (n : Name) → AreBelow bound sets → names ≡ set_at sets set → i < length names → n ≡ get_or names i n → n.0 < bound
name_below bound sets set names i n h e l k =
    subst (λ x. x.0 < bound) (sym k) (All-get_or (λ x. x.0 < bound) names i n l (subst (All (λ x. x.0 < bound)) (sym e) (set_below bound sets set h.at)))

pub numbers_at : (base names all : List Name) (held : Bool) (j i : ℕ) (n : Name) → AreOnce names → i ≡ suc j → j < length names → n ≡ get_or names j n → held ≡ has_name base n → all ≡ with_numbers base (drop i names)
    → (if not held then n ∷ all else all) ≡ with_numbers base (drop j names)
numbers_at base names all held j i n o e h k s c =
    ap (λ x. if not x then n ∷ all else all) s
    ∙ ap (λ x. if not (has_name base n) then n ∷ x else x) c
    ∙ missing_at base names j i n o e h k
    ∙ ap (λ x. with_number n (with_numbers base (drop x names))) e
    ∙ ap (λ x. with_number x (with_numbers base (drop (suc j) names))) k
    ∙ sym (ap (with_numbers base) (drop-cons names j n h))

-- the name isn't there yet
pub numbers_new : (base names all : List Name) (held : Bool) (j i : ℕ) (n : Name) → AreOnce names → i ≡ suc j → j < length names → n ≡ get_or names j n → held ≡ has_name base n → all ≡ with_numbers base (drop i names) → not held ≡ true → has_name all n ≡ false
numbers_new base names all held j i n o e h k s c w = ap (λ x. has_name x n) c ∙ missing_new base names j i n o e h k (ap not (sym s) ∙ w)

pub common_at : (names bs common : List Name) (held : Bool) (j i : ℕ) (n : Name) → AreOnce names → i ≡ suc j → j < length names → n ≡ get_or names j n → held ≡ has_name bs n → common ≡ in_both (drop i names) bs
    → (if held then n ∷ common else common) ≡ in_both (drop j names) bs
common_at names bs common held j i n o e h k s c =
    ap (λ x. if x then n ∷ common else common) s
    ∙ ap (λ x. if has_name bs n then n ∷ x else x) c
    ∙ ap (λ x. if has_name bs n then x else in_both (drop i names) bs) (sym (with_fresh n (in_both (drop i names) bs) (common_new names bs j i n o e h k)))
    ∙ ap (λ x. if has_name bs n then with_number n (in_both (drop x names) bs) else in_both (drop x names) bs) e
    ∙ ap (λ x. if has_name bs x then with_number x (in_both (drop (suc j) names) bs) else in_both (drop (suc j) names) bs) k
    ∙ sym (ap (λ x. in_both x bs) (drop-cons names j n h))
