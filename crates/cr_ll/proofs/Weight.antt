-- Each body weighs less than its nonterminal, so a step ends.
use Rattle.std.proofs.Common.{◌≡◌, ℕ, zero, suc, ◌+◌, ◌<◌, Bool, true, false, cond, ◌&&◌, ◌||◌, ltb, List, [], ◌∷◌, ◌++◌, drop, refl, sym, ◌∙◌, ap, subst, arith, add_assoc, zero-add}
use borrow.Author.Tests.{ltb-true}
use Rattle.cr_grammar.specs.declared.symbols.NonTerm.{NonTerm}
use Rattle.cr_grammar.specs.declared.symbols.NonTerm.TheVariants as n
use Rattle.cr_grammar.specs.declared.symbols.Symbol.{Symbol}
use Rattle.cr_grammar.specs.declared.symbols.Symbol.TheVariants.{Term, Non, Act}
use Rattle.cr_grammar.specs.Grammar.{Row, rule}
use Rattle.cr_ll.specs.Guards.{Terminal}
use Rattle.cr_ll.specs.declared.guards.Verdict.{Verdict}
use Rattle.cr_ll.specs.declared.guards.Verdict.TheVariants.{Holds, Fails, Asks}
use Rattle.cr_ll.specs.declared.guards.Choice.{Choice}
use Rattle.cr_ll.specs.declared.guards.Choice.TheVariants.{Nothing, Takes, Waits}
use Rattle.cr_ll.specs.Guards.{ask_at, token_at, meets, verdict, chosen, choice}
use Rattle.cr_ll.specs.Derivation.{Passed, Due}
use Rattle.cr_ll.specs.Machine.{Config, at, Move, Gives, Opens, AsksAt, Ends, Faults, body_at, move_by, pass, move_on, move}
use Rattle.cr_ll.proofs.Complete.{body_first, rows_next}
use Rattle.cr_ll.specs.Weights.{vanishes, rank, weight}

-- whether something happens in these symbols
abbrev pub solid : List Symbol → Bool
solid [] = false
solid (Term t ∷ ss) = true
solid (Act a ∷ ss) = true
solid (Non m ∷ ss) = cond (vanishes m) (solid ss) true

abbrev pub fine : NonTerm → List Symbol → Bool
fine m body = ltb (weight body) (rank m) && (vanishes m || solid body)

abbrev pub all_fine : NonTerm → List Row → Bool
all_fine m [] = true
all_fine m (r ∷ rs) = fine m r.1 && all_fine m rs

pub table_fine : (m : NonTerm) → all_fine m (rule m) ≡ true
unfolding rule rank vanishes
table_fine n.Unit = refl
table_fine _ = refl

pub and_left : (a b : Bool) → (a && b) ≡ true → a ≡ true
and_left true b h = refl
and_left false b h = h

pub and_right : (a b : Bool) → (a && b) ≡ true → b ≡ true
and_right true b h = h
and_right false b h = cc

pub no_right : (a : Bool) → (a && false) ≡ true → ⊥
no_right true h = cc
no_right false h = cc

abbrev pub NotOpens : Move → Type 0
NotOpens (Opens d) = ⊥
NotOpens _ = Unit {0}

pub no_opens : (v : Move) (d : Config) → NotOpens v → v ≡ Opens d → ⊥
no_opens v d n h = subst NotOpens h n

pub weight_non : (v : Bool) (r : ℕ) (b ss : List Symbol) → weight (b ++ ss) ≡ weight b + cond (solid b) 0 (weight ss) → r + cond v (weight (b ++ ss)) 0 ≡ (r + cond v (weight b) 0) + cond (cond v (solid b) true) 0 (weight ss)
weight_non true r b ss h = ap (λ z. r + z) h ∙ sym (add_assoc r (weight b) (cond (solid b) 0 (weight ss)))
weight_non false r b ss h = omega arith

-- the weight of a body on a stack
pub weight-append : (body ss : List Symbol) → weight (body ++ ss) ≡ weight body + cond (solid body) 0 (weight ss)
weight-append [] ss = sym (zero-add (weight ss))
weight-append (Term t ∷ b) ss = refl
weight-append (Act a ∷ b) ss = refl
weight-append (Non m ∷ b) ss = weight_non (vanishes m) (rank m) b ss (weight-append b ss)

pub lighter : (v s : Bool) (r w u : ℕ) → (ltb w r && (v || s)) ≡ true → w + cond s 0 u < r + cond v u 0
lighter true true r w u h = let k : w < r = ltb-true w r (and_left (ltb w r) true h) in omega arith
lighter true false r w u h = let k : w < r = ltb-true w r (and_left (ltb w r) true h) in omega arith
lighter false true r w u h = let k : w < r = ltb-true w r (and_left (ltb w r) true h) in omega arith
lighter false false r w u h = absurd (no_right (ltb w r) h)

pub fine_lighter : (m : NonTerm) (body ss : List Symbol) → fine m body ≡ true → weight (body ++ ss) < weight (Non m ∷ ss)
fine_lighter m body ss h = rw (weight-append body ss) (lighter (vanishes m) (solid body) (rank m) (weight body) (weight ss) h)

-- what is chosen from the table is fine
abbrev pub Fine : NonTerm → Choice → Type 0
Fine m Nothing = Unit {0}
Fine m (Takes k) = fine m (body_at (rule m) k) ≡ true
Fine m (Waits k ahead) = fine m (body_at (rule m) k) ≡ true

pub chosen_fine : (m : NonTerm) (v : Verdict) (k : ℕ) (other : Choice) → fine m (body_at (rule m) k) ≡ true → Fine m other → Fine m (chosen v k other)
chosen_fine m Holds k other h o = h
chosen_fine m Fails k other h o = o
chosen_fine m (Asks ahead) k other h o = h

pub choice_fine : (m : NonTerm) (rows : List Row) (k : ℕ) (x y : Terminal) → drop k (rule m) ≡ rows → all_fine m rows ≡ true → Fine m (choice k rows x y)
choice_fine m [] k x y eq h = tt
choice_fine m (r ∷ rows) k x y eq h =
    let P : List Symbol → Type 0 = λ b. fine m b ≡ true in
    chosen_fine m (verdict r.0 x y) k (choice (k + 1) rows x y)
    (subst P (sym (body_first (rule m) k r rows eq)) (and_left (fine m r.1) (all_fine m rows) h))
    (choice_fine m rows (k + 1) x y (rows_next (rule m) k r rows eq) (and_right (fine m r.1) (all_fine m rows) h))

pub drop_fine : (m : NonTerm) (rows : List Row) (k : ℕ) → all_fine m rows ≡ true → all_fine m (drop k rows) ≡ true
drop_fine m rows zero h = h
drop_fine m [] (suc k) h = h
drop_fine m (r ∷ rows) (suc k) h = drop_fine m rows k (and_right (fine m r.1) (all_fine m rows) h)

-- each opening makes the stack lighter
pub opens_by : (i : ℕ) (m : NonTerm) (ss : List Symbol) (ch : Choice) (d : Config) → Fine m ch → move_by ch i m ss ≡ Opens d → weight d.stack < weight (Non m ∷ ss)
opens_by i m ss Nothing d f h = absurd (no_opens Faults d tt h)
opens_by i m ss (Takes k) d f h =
    let P : Config → Type 0 = λ z. weight z.stack < weight (Non m ∷ ss) in
    let e : at i (body_at (rule m) k ++ ss) ≡ d = cc in
    subst P e (fine_lighter m (body_at (rule m) k) ss f)
opens_by i m ss (Waits k ahead) d f h = absurd (no_opens (AsksAt (ask_at i ahead) k) d tt h)

pub pass_opens : (v : Verdict) (i : ℕ) (ss : List Symbol) (d : Config) → pass v i ss ≡ Opens d → ⊥
pass_opens Holds i ss d h = no_opens (Gives (Passed i) (at (i + 1) ss)) d tt h
pass_opens Fails i ss d h = no_opens Faults d tt h
pass_opens (Asks k) i ss d h = no_opens Faults d tt h

pub opens_on : (ts : List Terminal) (i r : ℕ) (ss : List Symbol) (d : Config) → move_on ts i r ss ≡ Opens d → weight d.stack < weight ss
opens_on ts i r [] d h = absurd (no_opens Ends d tt h)
opens_on ts i r (Term t ∷ ss) d h = absurd (pass_opens (meets t (token_at ts i)) i ss d h)
opens_on ts i r (Act a ∷ ss) d h = absurd (no_opens (Gives (Due a) (at i ss)) d tt h)
opens_on ts i r (Non m ∷ ss) d h =
    opens_by i m ss (choice r (drop r (rule m)) (token_at ts i) (token_at ts (i + 1))) d
    (choice_fine m (drop r (rule m)) r (token_at ts i) (token_at ts (i + 1)) refl (drop_fine m (rule m) r (table_fine m))) h

pub opens_lighter : (ts : List Terminal) (c d : Config) → move ts c ≡ Opens d → weight d.stack < weight c.stack
opens_lighter ts c d h = opens_on ts c.place c.refused c.stack d h
