-- How runs join, and how a run goes on from where another one came to.
use Rattle.std.proofs.Common.{◌≡◌, ℕ, Bool, List, [], ◌∷◌, ◌++◌, refl, sym, ap, subst}
use Rattle.std.proofs.lemmas.List.{append-nil}
use Rattle.cr_ll.specs.Guards.{Terminal}
use Rattle.cr_ll.specs.Derivation.{Item, Asked, Trees, Derives, events}
use Rattle.cr_ll.specs.Machine.{Config, at, Gives, Opens, AsksAt, Ends, Faults, move, replied, Run, stop, gives, opens, asks}
use Rattle.cr_ll.specs.Laws.{unit}
use Rattle.cr_ll.proofs.Complete.{complete}

pub join : {ts : List Terminal} {c d e : Config} {xs ys : List Item} → Run ts c xs d → Run ts d ys e → Run ts c (xs ++ ys) e
join stop q = q
join (gives m run) q = gives m (join run q)
join (opens m run) q = opens m (join run q)
join (asks answer m run) q = asks answer m (join run q)

-- a run to the end takes the move that there is
pub next_gives : {ts : List Terminal} {c e : Config} {zs : List Item} (x : Item) (d : Config) → move ts c ≡ Gives x d → move ts e ≡ Ends → Run ts c zs e → (more : List Item) × (zs ≡ x ∷ more) × Run ts d more e
next_gives x d m f stop = cc
next_gives {ts} {e} x d m f (gives {d = b} {x = y} {xs = more} n run) =
    let p : x ≡ y = cc in
    let q : b ≡ d = cc in
    let P : Config → Type 0 = λ z. Run ts z more e in
    (more, ap (λ z. z ∷ more) (sym p), subst P q run)
next_gives x d m f (opens n run) = cc
next_gives x d m f (asks answer n run) = cc

pub next_opens : {ts : List Terminal} {c e : Config} {zs : List Item} (d : Config) → move ts c ≡ Opens d → move ts e ≡ Ends → Run ts c zs e → Run ts d zs e
next_opens d m f stop = cc
next_opens d m f (gives n run) = cc
next_opens {ts} {e} {zs} d m f (opens {d = b} n run) =
    let q : b ≡ d = cc in
    let P : Config → Type 0 = λ z. Run ts z zs e in
    subst P q run
next_opens d m f (asks answer n run) = cc

pub next_asks : {ts : List Terminal} {c e : Config} {zs : List Item} (i k : ℕ) → move ts c ≡ AsksAt i k → move ts e ≡ Ends → Run ts c zs e → (answer : Bool) × (more : List Item) × (zs ≡ Asked i answer ∷ more) × Run ts (replied c k answer) more e
next_asks i k m f stop = cc
next_asks i k m f (gives n run) = cc
next_asks i k m f (opens n run) = cc
next_asks {ts} {c} {e} i k m f (asks {i = j} {m = l} {xs = more} answer n run) =
    let p : i ≡ j = cc in
    let q : l ≡ k = cc in
    let P : ℕ → Type 0 = λ z. Run ts (replied c z answer) more e in
    (answer, more, ap (λ z. Asked z answer ∷ more) (sym p), subst P q run)

-- a run to the end goes on from where another one came to with its first items
pub rest : {ts : List Terminal} {c d e : Config} {xs : List Item} (ys zs : List Item) → move ts e ≡ Ends → Run ts c zs e → zs ≡ xs ++ ys → Run ts c xs d → Run ts d ys e
rest {ts} {c} {e} ys zs f run eq stop = let P : List Item → Type 0 = λ z. Run ts c z e in subst P eq run
rest {ts} {e} ys zs f run eq (gives {d = b} {x} {xs = more} m first) =
    let n : (l : List Item) × (zs ≡ x ∷ l) × Run ts b l e = next_gives x b m f run in
    let g : n.0 ≡ more ++ ys = cc in
    rest ys n.0 f n.2 g first
rest ys zs f run eq (opens {d = b} m first) = rest ys zs f (next_opens b m f run) eq first
rest {ts} {c} {e} ys zs f run eq (asks {i} {m = k} {xs = more} answer m first) =
    let n : (b : Bool) × (l : List Item) × (zs ≡ Asked i b ∷ l) × Run ts (replied c k b) l e = next_asks i k m f run in
    let g : n.1 ≡ more ++ ys = cc in
    let h : n.0 ≡ answer = cc in
    let P : Bool → Type 0 = λ z. Run ts (replied c k z) n.1 e in
    rest ys n.1 f (subst P h n.3) g first

-- nothing comes after a fault or after the end
pub after_fault : {ts : List Terminal} {c e : Config} {zs : List Item} → move ts c ≡ Faults → move ts e ≡ Ends → Run ts c zs e → ⊥
after_fault m f stop = cc
after_fault m f (gives n run) = cc
after_fault m f (opens n run) = cc
after_fault m f (asks answer n run) = cc

pub after_end : {ts : List Terminal} {c e : Config} {zs : List Item} → move ts c ≡ Ends → Run ts c zs e → (zs ≡ []) × (e ≡ c)
after_end m stop = (refl, refl)
after_end m (gives n run) = cc
after_end m (opens n run) = cc
after_end m (asks answer n run) = cc

-- the run of a whole tree
pub tree_run : (ts : List Terminal) (tree : Trees) (j : ℕ) → Derives ts tree 0 unit j → Run ts (at 0 unit) (events tree) (at j [])
tree_run ts tree j d =
    let run : Run ts (at 0 unit) (events tree ++ []) (at j []) = complete ts tree 0 unit j [] [] (at j []) d stop in
    let P : List Item → Type 0 = λ z. Run ts (at 0 unit) z (at j []) in
    subst P (append-nil (events tree)) run

pub tree_rest : (ts : List Terminal) (xs ys : List Item) (c : Config) (tree : Trees) (j : ℕ) → Run ts (at 0 unit) xs c → Derives ts tree 0 unit j → events tree ≡ xs ++ ys → Run ts c ys (at j [])
tree_rest ts xs ys c tree j run d eq = rest ys (events tree) refl (tree_run ts tree j d) eq run
