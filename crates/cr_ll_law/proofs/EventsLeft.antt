-- Each event that passes no token leaves less.
use Rattle.std.proofs.Common.{◌≡◌, ℕ, zero, suc, ◌+◌, ◌-◌, ◌<◌, ◌≤◌, Bool, true, false, cond, ◌&&◌, ◌||◌, ltb, List, [], ◌∷◌, ◌++◌, drop, length, refl, sym, ◌∙◌, ap, subst, arith, add_assoc, zero-add}
use borrow.Author.Tests.{ltb-true}
use Rattle.cr_grammar.specs.declared.symbols.NonTerm.{NonTerm}
use Rattle.cr_grammar.specs.declared.symbols.NonTerm.TheVariants as n
use Rattle.cr_grammar.specs.declared.symbols.Symbol.{Symbol}
use Rattle.cr_grammar.specs.declared.symbols.Symbol.TheVariants.{Term, Non, Act}
use Rattle.cr_grammar.specs.Grammar.{Row, rule}
use Rattle.cr_ll.specs.Guards.{Terminal}
use Rattle.cr_ll.specs.declared.guards.Verdict.{Verdict}
use Rattle.cr_ll.specs.declared.guards.Verdict.TheVariants.{Holds, Fails, Asks}
use Rattle.cr_ll.specs.declared.guards.Choice.{Choice}
use Rattle.cr_ll.specs.declared.guards.Choice.TheVariants.{Nothing, Takes, Waits}
use Rattle.cr_ll.specs.Guards.{token_at, meets, verdict, chosen, choice}
use Rattle.cr_ll.specs.Derivation.{Passed, Due, Asked}
use Rattle.cr_ll.specs.Machine.{Config, Move, Gives, Opens, AsksAt, Ends, Faults, body_at, move_by, pass, move_on, move, replied, stop, gives, opens, asks}
use Rattle.cr_ll_law.specs.EventsLeft.{empties, most, due, closed, left_on, left, EventsFall, PlacesCountTokens}
use Rattle.cr_ll.proofs.Complete.{body_first, rows_next}
use Rattle.cr_ll.proofs.Weight.{and_left, and_right, no_right}

abbrev fine : NonTerm → List Symbol → Bool
fine m body = ltb (due body + length (rule m)) (most m) && (empties m || closed body)

abbrev all_fine : NonTerm → List Row → Bool
all_fine m [] = true
all_fine m (r ∷ rs) = fine m r.1 && all_fine m rs

table_fine : (m : NonTerm) → all_fine m (rule m) ≡ true
unfolding rule empties most
table_fine n.Unit = refl
table_fine _ = refl

due_non : (v : Bool) (r : ℕ) (b ss : List Symbol) → due (b ++ ss) ≡ due b + cond (closed b) 0 (due ss) → r + cond v (due (b ++ ss)) 0 ≡ (r + cond v (due b) 0) + cond (cond v (closed b) true) 0 (due ss)
due_non true r b ss h = ap (λ z. r + z) h ∙ sym (add_assoc r (due b) (cond (closed b) 0 (due ss)))
due_non false r b ss h = omega arith

due-append : (body ss : List Symbol) → due (body ++ ss) ≡ due body + cond (closed body) 0 (due ss)
due-append [] ss = sym (zero-add (due ss))
due-append (Term t ∷ b) ss = refl
due-append (Act a ∷ b) ss = ap (λ z. 1 + z) (due-append b ss) ∙ sym (add_assoc 1 (due b) (cond (closed b) 0 (due ss)))
due-append (Non m ∷ b) ss = due_non (empties m) (most m) b ss (due-append b ss)

left_at : (ss : List Symbol) → left_on 0 ss ≡ due ss
left_at [] = refl
left_at (Term t ∷ ss) = refl
left_at (Act a ∷ ss) = refl
left_at (Non m ∷ ss) = omega arith

less : (v s : Bool) (most0 w rows u r : ℕ) → (ltb (w + rows) most0 && (v || s)) ≡ true → r < rows → w + cond s 0 u < (most0 - r) + cond v u 0
less true true most0 w rows u r h k = let j : w + rows < most0 = ltb-true (w + rows) most0 (and_left (ltb (w + rows) most0) true h) in omega arith
less true false most0 w rows u r h k = let j : w + rows < most0 = ltb-true (w + rows) most0 (and_left (ltb (w + rows) most0) true h) in omega arith
less false true most0 w rows u r h k = let j : w + rows < most0 = ltb-true (w + rows) most0 (and_left (ltb (w + rows) most0) true h) in omega arith
less false false most0 w rows u r h k = absurd (no_right (ltb (w + rows) most0) h)

fine_less : (m : NonTerm) (body ss : List Symbol) (r : ℕ) → fine m body ≡ true → r < length (rule m) → left_on 0 (body ++ ss) < left_on r (Non m ∷ ss)
fine_less m body ss r h k = rw (left_at (body ++ ss)) (rw (due-append body ss) (less (empties m) (closed body) (most m) (due body) (length (rule m)) (due ss) r h k))

row_bound : (m : NonTerm) (body : List Symbol) → fine m body ≡ true → length (rule m) < most m
row_bound m body h = let j : due body + length (rule m) < most m = ltb-true (due body + length (rule m)) (most m) (and_left (ltb (due body + length (rule m)) (most m)) (empties m || closed body) h) in omega arith

-- what is chosen from the table is fine, and not before those that need not be tried
abbrev Fine : NonTerm → ℕ → Choice → Type 0
Fine m r Nothing = Unit {0}
Fine m r (Takes k) = (fine m (body_at (rule m) k) ≡ true) × (r ≤ k) × (r < length (rule m))
Fine m r (Waits k ahead) = (fine m (body_at (rule m) k) ≡ true) × (r ≤ k) × (k < length (rule m))

chosen_fine : (m : NonTerm) (v : Verdict) (r k : ℕ) (other : Choice) → fine m (body_at (rule m) k) ≡ true → r ≤ k → k < length (rule m) → Fine m r other → Fine m r (chosen v k other)
chosen_fine m Holds r k other h le lt o = (h, le, omega arith)
chosen_fine m Fails r k other h le lt o = o
chosen_fine m (Asks ahead) r k other h le lt o = (h, le, lt)

within : (A : List Row) (k : ℕ) (r : Row) (rows : List Row) → drop k A ≡ r ∷ rows → k < length A
within [] zero r rows e = cc
within [] (suc k) r rows e = cc
within (q ∷ A) zero r rows e = omega arith
within (q ∷ A) (suc k) r rows e = let h = within A k r rows e in omega (arith, h)

choice_fine : (m : NonTerm) (rows : List Row) (r k : ℕ) (x y : Terminal) → drop k (rule m) ≡ rows → r ≤ k → all_fine m rows ≡ true → Fine m r (choice k rows x y)
choice_fine m [] r k x y eq le h = tt
choice_fine m (row ∷ rows) r k x y eq le h =
    let P : List Symbol → Type 0 = λ b. fine m b ≡ true in
    chosen_fine m (verdict row.0 x y) r k (choice (k + 1) rows x y)
    (subst P (sym (body_first (rule m) k row rows eq)) (and_left (fine m row.1) (all_fine m rows) h))
    le (within (rule m) k row rows eq)
    (choice_fine m rows r (k + 1) x y (rows_next (rule m) k row rows eq) (omega arith) (and_right (fine m row.1) (all_fine m rows) h))

drop_fine : (m : NonTerm) (rows : List Row) (k : ℕ) → all_fine m rows ≡ true → all_fine m (drop k rows) ≡ true
drop_fine m rows zero h = h
drop_fine m [] (suc k) h = h
drop_fine m (r ∷ rows) (suc k) h = drop_fine m rows k (and_right (fine m r.1) (all_fine m rows) h)

table_choice : (m : NonTerm) (r : ℕ) (x y : Terminal) → Fine m r (choice r (drop r (rule m)) x y)
table_choice m r x y = choice_fine m (drop r (rule m)) r r x y refl (omega arith) (drop_fine m (rule m) r (table_fine m))

-- What a move leaves: less, unless it passes a token.
abbrev Leaves : Config → Move → Type 0
Leaves c (Gives (Passed i) d) = Unit {0}
Leaves c (Gives (Due a) d) = left d < left c
Leaves c (Gives (Asked i b) d) = ⊥
Leaves c (Opens d) = left d < left c
Leaves c (AsksAt i k) = (b : Bool) → left (replied c k b) < left c
Leaves c Ends = Unit {0}
Leaves c Faults = Unit {0}

by_leaves : (i r : ℕ) (m : NonTerm) (ss : List Symbol) (ch : Choice) → Fine m r ch → Leaves (record { place = i; refused = r; stack = Non m ∷ ss }) (move_by ch i m ss)
by_leaves i r m ss Nothing f = tt
by_leaves i r m ss (Takes k) f = fine_less m (body_at (rule m) k) ss r f.0 f.2
by_leaves i r m ss (Waits k ahead) f = elim [
  | true ↦ fine_less m (body_at (rule m) k) ss r f.0 (omega (arith, f.1, f.2))
  | false ↦ (let b = row_bound m (body_at (rule m) k) f.0 in omega (arith, b, f.1, f.2))
]

pass_leaves : (v : Verdict) (c : Config) (i : ℕ) (ss : List Symbol) → Leaves c (pass v i ss)
pass_leaves Holds c i ss = tt
pass_leaves Fails c i ss = tt
pass_leaves (Asks k) c i ss = tt

on_leaves : (ts : List Terminal) (i r : ℕ) (ss : List Symbol) → Leaves (record { place = i; refused = r; stack = ss }) (move_on ts i r ss)
on_leaves ts i r [] = tt
on_leaves ts i r (Term t ∷ ss) = pass_leaves (meets t (token_at ts i)) (record { place = i; refused = r; stack = Term t ∷ ss }) i ss
on_leaves ts i r (Act a ∷ ss) = let e = left_at ss in omega (arith, e)
on_leaves ts i r (Non m ∷ ss) = by_leaves i r m ss (choice r (drop r (rule m)) (token_at ts i) (token_at ts (i + 1))) (table_choice m r (token_at ts i) (token_at ts (i + 1)))

move_leaves : (ts : List Terminal) (c : Config) → Leaves c (move ts c)
move_leaves ts c = on_leaves ts c.place c.refused c.stack

-- A run that passes no token leaves less for each of its items.
pub run_leaves : EventsFall
run_leaves ts c d xs stop none = omega arith
run_leaves ts c d xs (gives {d = b} {x = Passed i} {xs = ys} m r) none = absurd none
run_leaves ts c d xs (gives {d = b} {x = Due a} {xs = ys} m r) none = let h : left b < left c = subst (Leaves c) m (move_leaves ts c) in let k = run_leaves ts b d ys r none in omega (arith, h, k)
run_leaves ts c d xs (gives {d = b} {x = Asked i v} {xs = ys} m r) none = absurd (subst (Leaves c) m (move_leaves ts c))
run_leaves ts c d xs (opens {d = b} m r) none = let h : left b < left c = subst (Leaves c) m (move_leaves ts c) in let k = run_leaves ts b d xs r none in omega (arith, h, k)
run_leaves ts c d xs (asks {i = i} {m = k} {xs = ys} answer m r) none = let h : left (replied c k answer) < left c = (subst (Leaves c) m (move_leaves ts c)) answer in let j = run_leaves ts (replied c k answer) d ys r none in omega (arith, h, j)

-- ---- places

-- where a move leaves the machine
abbrev Stands : Config → Move → Type 0
Stands c (Gives (Passed i) d) = d.place ≡ c.place + 1
Stands c (Gives (Due a) d) = d.place ≡ c.place
Stands c (Gives (Asked i b) d) = ⊥
Stands c (Opens d) = d.place ≡ c.place
Stands c (AsksAt i k) = (b : Bool) → (replied c k b).place ≡ c.place
Stands c Ends = Unit {0}
Stands c Faults = Unit {0}

by_stands : (i r : ℕ) (m : NonTerm) (ss : List Symbol) (ch : Choice) → Stands (record { place = i; refused = r; stack = Non m ∷ ss }) (move_by ch i m ss)
by_stands i r m ss Nothing = tt
by_stands i r m ss (Takes k) = refl
by_stands i r m ss (Waits k ahead) = elim [ true ↦ refl | false ↦ refl ]

pass_stands : (v : Verdict) (i r : ℕ) (s : Symbol) (ss : List Symbol) → Stands (record { place = i; refused = r; stack = s ∷ ss }) (pass v i ss)
pass_stands Holds i r s ss = refl
pass_stands Fails i r s ss = tt
pass_stands (Asks k) i r s ss = tt

on_stands : (ts : List Terminal) (i r : ℕ) (ss : List Symbol) → Stands (record { place = i; refused = r; stack = ss }) (move_on ts i r ss)
on_stands ts i r [] = tt
on_stands ts i r (Term t ∷ ss) = pass_stands (meets t (token_at ts i)) i r (Term t) ss
on_stands ts i r (Act a ∷ ss) = refl
on_stands ts i r (Non m ∷ ss) = by_stands i r m ss (choice r (drop r (rule m)) (token_at ts i) (token_at ts (i + 1)))

move_stands : (ts : List Terminal) (c : Config) → Stands c (move ts c)
move_stands ts c = on_stands ts c.place c.refused c.stack

pub run_place : PlacesCountTokens
run_place ts c d xs stop = omega arith
run_place ts c d xs (gives {d = b} {x = Passed i} {xs = ys} m r) = let h : b.place ≡ c.place + 1 = subst (Stands c) m (move_stands ts c) in let k = run_place ts b d ys r in omega (arith, h, k)
run_place ts c d xs (gives {d = b} {x = Due a} {xs = ys} m r) = let h : b.place ≡ c.place = subst (Stands c) m (move_stands ts c) in let k = run_place ts b d ys r in omega (arith, h, k)
run_place ts c d xs (gives {d = b} {x = Asked i v} {xs = ys} m r) = absurd (subst (Stands c) m (move_stands ts c))
run_place ts c d xs (opens {d = b} m r) = let h : b.place ≡ c.place = subst (Stands c) m (move_stands ts c) in let k = run_place ts b d xs r in omega (arith, h, k)
run_place ts c d xs (asks {i = i} {m = k} {xs = ys} answer m r) = let h : (replied c k answer).place ≡ c.place = (subst (Stands c) m (move_stands ts c)) answer in let j = run_place ts (replied c k answer) d ys r in omega (arith, h, j)
