-- How choosing goes over the rows of the table.
use Rattle.std.proofs.Common.{◌≡◌, ℕ, zero, suc, Option, Some, [], ◌∷◌, ◌++◌, ◌+◌, ◌<◌, ◌≤◌, List, length, get_or, drop, map, refl, sym, ◌∙◌, ap, add-one, drop-cons, length-append, arith}
use Rattle.std.proofs.lemmas.List.{drop-map, drop_all, length-map}
use Rattle.cr_grammar.specs.declared.symbols.Alternative.{Alternative}
use Rattle.cr_grammar.specs.declared.symbols.NonTerm.{NonTerm}
use Rattle.cr_grammar.specs.declared.symbols.Symbol.{Symbol}
use Rattle.cr_grammar.specs.declared.symbols.Symbol.TheVariants.{Non}
use Rattle.cr_grammar.specs.Grammar.{Row, rule, row_of, rows_of}
use Rattle.cr_ll.specs.declared.state.State.{State}
use Rattle.cr_ll.specs.declared.state.Event.TheVariants.{Token, Act, Ask, Done}
use Rattle.cr_ll.specs.declared.state.MachineFault.TheVariants.{Syntax, LimitDepth}
use Rattle.cr_ll.specs.declared.state.Moved.{Moved}
use Rattle.cr_ll.specs.declared.state.Moved.TheVariants.{Gave, Opened, Failed}
use Rattle.cr_ll.specs.Machine.{at, Opens, body_at, move_by, move_on, top_of}
use Rattle.cr_ll.specs.Running.{OpensTo, Advances}
use Rattle.cr_ll.specs.Guards.{Terminal}
use Rattle.cr_ll.specs.declared.guards.Choice.{Choice}
use Rattle.cr_ll.specs.declared.guards.Choice.TheVariants.{Nothing, Takes}
use Rattle.cr_ll.specs.declared.guards.Verdict.{Verdict}
use Rattle.cr_ll.specs.Guards.{token_at, verdict, chosen, choice}

pub choice_more : (rs : List Alternative) (i : ℕ) (x y : Terminal) (d : Alternative) → i < length rs → choice i (drop i (rows_of rs)) x y ≡ chosen (verdict (get_or rs i d).guard x y) i (choice (i + 1) (drop (i + 1) (rows_of rs)) x y)
choice_more rs i x y d h =
    rw (drop-map row_of i rs, drop-map row_of (i + 1) rs, drop-cons rs i d h) (
    ap (λ l. chosen (verdict (get_or rs i d).guard x y) i (choice (i + 1) (map row_of l) x y)) (ap (λ n. drop n rs) (sym (add-one i))))

pub choice_over : (rs : List Alternative) (i : ℕ) (x y : Terminal) → length rs ≤ i → choice i (drop i (rows_of rs)) x y ≡ Nothing
choice_over rs i x y h = rw (drop-map row_of i rs, drop_all i rs h) refl

pub choice_step : (rs : List Alternative) (r : List Row) (from i : ℕ) (x y : Terminal) (d : Alternative) (v : Verdict) → rows_of rs ≡ r → choice from (drop from (rows_of rs)) x y ≡ choice i (drop i (rows_of rs)) x y → i < length rs → v ≡ verdict (get_or rs i d).guard x y → choice from (drop from r) x y ≡ chosen v i (choice (i + 1) (drop (i + 1) (rows_of rs)) x y)
choice_step rs r from i x y d v e h lt is =
    ap (λ l. choice from (drop from l) x y) (sym e) ∙ h ∙ choice_more rs i x y d lt
    ∙ ap (λ w. chosen w i (choice (i + 1) (drop (i + 1) (rows_of rs)) x y)) (sym is)

pub body_at_row : (rs : List Alternative) (k : ℕ) (d : Alternative) → k < length rs → body_at (rows_of rs) k ≡ (get_or rs k d).body.now
body_at_row [] k d h = absurd (omega arith)
body_at_row (r ∷ rs) zero d h = refl
body_at_row (r ∷ rs) (suc k) d h = let g : k < length rs = omega arith in body_at_row rs k d g

pub body_of_rule : (rs : List Alternative) (rows : List Row) (k : ℕ) (d : Alternative) → rows_of rs ≡ rows → k < length rs → body_at rows k ≡ (get_or rs k d).body.now
body_of_rule rs rows k d e h = ap (λ l. body_at l k) (sym e) ∙ body_at_row rs k d h

pub top_length : (ss : List Symbol) (s : Symbol) → top_of ss ≡ Some s → length ss ≡ length (drop 1 ss) + 1
top_length [] s h = cc
top_length (t ∷ ss) s h = sym (add-one (length ss))

-- the move of a nonterminal whose alternative number k is chosen
pub move_takes : (ts : List Terminal) (i r : ℕ) (ss : List Symbol) (m : NonTerm) (k : ℕ) → top_of ss ≡ Some (Non m) → choice r (drop r (rule m)) (token_at ts i) (token_at ts (i + 1)) ≡ Takes k → move_on ts i r ss ≡ Opens (at i (body_at (rule m) k ++ drop 1 ss))
move_takes ts i r [] m k h c = cc
move_takes ts i r (s ∷ ss) m k h c =
    let e : s ≡ Non m = cc in
    ap (λ z. move_on ts i r (z ∷ ss)) e ∙ ap (λ z. move_by z i m ss) c

pub opens_advance : (ts : List Terminal) (old new : State) (m : NonTerm) (k : ℕ) (moved : Moved) → top_of old.stack ≡ Some (Non m) → choice old.refused (drop old.refused (rule m)) (token_at ts old.place) (token_at ts (old.place + 1)) ≡ Takes k → OpensTo old m k moved new → Advances ts old moved new
opens_advance ts old new m k (Gave (Token i)) h c o = absurd o
opens_advance ts old new m k (Gave (Act a)) h c o = absurd o
opens_advance ts old new m k (Gave (Ask i)) h c o = absurd o
opens_advance ts old new m k (Gave Done) h c o = absurd o
opens_advance ts old new m k Opened h c o =
    (move_takes ts old.place old.refused old.stack m k h c ∙ ap (λ z. Opens z) (sym o.0), o.1)
opens_advance ts old new m k (Failed (Syntax i)) h c o = absurd o
opens_advance ts old new m k (Failed LimitDepth) h c o =
    (at old.place (body_at (rule m) k ++ drop 1 old.stack), move_takes ts old.place old.refused old.stack m k h c, o.0, o.1)

pub within_rows : (rs : List Alternative) (rows : List Row) (k : ℕ) → rows_of rs ≡ rows → k < length rows → k < length rs
within_rows rs rows k e h = let n : length rows ≡ length rs = ap length (sym e) ∙ length-map rs row_of in omega arith

pub open_put : (rs : List Alternative) (rows : List Row) (k : ℕ) (d : Alternative) (new popped ss : List Symbol) → rows_of rs ≡ rows → k < length rows → new ≡ (get_or rs k d).body.now ++ popped → popped ≡ drop 1 ss → new ≡ body_at rows k ++ drop 1 ss
open_put rs rows k d new popped ss e h p q =
    p ∙ ap (λ z. (get_or rs k d).body.now ++ z) q ∙ ap (λ z. z ++ drop 1 ss) (sym (body_of_rule rs rows k d e (within_rows rs rows k e h)))

pub open_long : (rs : List Alternative) (rows : List Row) (k : ℕ) (d : Alternative) (ss : List Symbol) (s : Symbol) (room limit : ℕ) → rows_of rs ≡ rows → k < length rows → top_of ss ≡ Some s → room + length ss ≡ limit → room + 1 < length (get_or rs k d).body.now → limit < length (body_at rows k ++ drop 1 ss)
open_long rs rows k d ss s room limit e h t r lt =
    let b : length (body_at rows k) ≡ length (get_or rs k d).body.now = ap length (body_of_rule rs rows k d e (within_rows rs rows k e h)) in
    let one : length ss ≡ length (drop 1 ss) + 1 = top_length ss s t in
    let all : length (body_at rows k ++ drop 1 ss) ≡ length (body_at rows k) + length (drop 1 ss) = length-append (body_at rows k) (drop 1 ss) in
    omega arith

pub opened_advance : (ts : List Terminal) (old new : State) (m : NonTerm) (k : ℕ) (moved : Moved) (top : Option Symbol) (f : Symbol) (x y : Terminal) (res : Choice) → top ≡ top_of old.stack → top ≡ Some f → f ≡ Non m → x ≡ token_at ts old.place → y ≡ token_at ts (old.place + 1) → res ≡ choice old.refused (drop old.refused (rule m)) x y → res ≡ Takes k → OpensTo old m k moved new → Advances ts old moved new
opened_advance ts old new m k moved top f x y res t is fis xis yis first takes o =
    opens_advance ts old new m k moved (sym t ∙ is ∙ ap Some fis)
    (ap (λ z. choice old.refused (drop old.refused (rule m)) z (token_at ts (old.place + 1))) (sym xis) ∙ ap (λ z. choice old.refused (drop old.refused (rule m)) x z) (sym yis) ∙ sym first ∙ takes) o
