-- How the machine goes over the tokens.
use Rattle.std.proofs.Common.{◌≡◌, ℕ, ◌+◌, ◌<◌, true, false, cond, List, [], ◌∷◌, length, get_or, drop, refl, ap, sym, ◌∙◌, Some, None, Option, drop-cons, add-one}
use Rattle.std.specs.Prelude.{option_map, Result, Ok, Err, ℤ}
use Rattle.std.specs.List.{list_any}
use Rattle.cr_base.specs.declared.token.PpTok.{PpTok}
use Rattle.cr_cond.specs.declared.symbol.Symbol.{Symbol}
use Rattle.cr_cond.specs.declared.symbol.Symbol.TheVariants.{Operand, Prefix, Infix, Question, Colon, Open, Close, Odd}
use Rattle.cr_cond.specs.declared.machine.Part.{Part}
use Rattle.cr_cond.specs.declared.machine.Frame.{Frame}
use Rattle.cr_cond.specs.declared.machine.Frame.TheVariants as f
use Rattle.cr_cond.specs.declared.machine.Hand.{Hand}
use Rattle.cr_cond.specs.declared.machine.Hand.TheVariants.{Waits, Holds, Refused}
use Rattle.cr_cond.specs.Symbols.{Lexeme, lexemes, symbols, ends_operand}
use Rattle.cr_cond.specs.Reading.{Tree, read}
use Rattle.cr_cond.specs.Value.{Outcome, by_tree, is_defined, value_of, IsAnswer}
use Rattle.cr_cond.specs.declared.CondFault.{CondFault}
use Rattle.cr_cond.specs.declared.CondFault.TheVariants.{Syntax, DivideByZero, Overflow, Constant, MadeDefined, OutOfMemory}
use Rattle.cr_cond.specs.Machine.{parts, part_of, state_of, reduced, at_colon, at_close, waited, held, step, run, start, is_holding, is_refused, by_part, next_symbol}
use Rattle.cr_cond.proofs.OneTree.{reads_the_tree}
use Rattle.cr_cond.proofs.Made.{same_run}

pub none_refused : (ys : List Symbol) (xs : List (Frame Part)) → run parts (state_of xs Refused) ys ≡ None
none_refused [] xs = refl
none_refused (y ∷ ys) xs = none_refused ys xs

holds_waited : (xs : List (Frame Part)) (x : Symbol) → is_refused (waited parts xs x).hand ≡ false → ends_operand x ≡ is_holding (waited parts xs x).hand
holds_waited xs (Operand v) h = refl
holds_waited xs (Prefix s) h = refl
holds_waited xs Open h = refl
holds_waited xs (Infix op) h = cc
holds_waited xs Question h = cc
holds_waited xs Colon h = refl
holds_waited xs Close h = cc
holds_waited xs Odd h = cc

holds_colon : (t : Part) (xs : List (Frame Part)) → false ≡ is_holding (at_colon t xs).hand
holds_colon t [] = refl
holds_colon t (f.Sign s ∷ xs) = refl
holds_colon t (f.Left op a ∷ xs) = refl
holds_colon t (f.Bracket ∷ xs) = refl
holds_colon t (f.Test c ∷ xs) = refl
holds_colon t (f.Middle c a ∷ xs) = refl

holds_close : (t : Part) (xs : List (Frame Part)) → is_refused (at_close t xs).hand ≡ false → true ≡ is_holding (at_close t xs).hand
holds_close t [] h = cc
holds_close t (f.Sign s ∷ xs) h = cc
holds_close t (f.Left op a ∷ xs) h = cc
holds_close t (f.Bracket ∷ xs) h = refl
holds_close t (f.Test c ∷ xs) h = cc
holds_close t (f.Middle c a ∷ xs) h = cc

holds_held : (xs : List (Frame Part)) (t : Part) (x : Symbol) → is_refused (held parts xs t x).hand ≡ false → ends_operand x ≡ is_holding (held parts xs t x).hand
holds_held xs t (Infix op) h = refl
holds_held xs t Question h = refl
holds_held xs t Colon h = holds_colon (reduced parts 11 t xs).1 (reduced parts 11 t xs).0
holds_held xs t Close h = holds_close (reduced parts 11 t xs).1 (reduced parts 11 t xs).0 h
holds_held xs t (Operand v) h = cc
holds_held xs t (Prefix s) h = cc
holds_held xs t Open h = cc
holds_held xs t Odd h = cc

-- an operand stands there exactly behind a symbol that ends one
holds_behind : (xs : List (Frame Part)) (x : Symbol) (h : Hand Part) → is_refused (step parts x xs h).hand ≡ false → ends_operand x ≡ is_holding (step parts x xs h).hand
holds_behind xs x Waits k = holds_waited xs x k
holds_behind xs x (Holds t) k = holds_held xs t x k
holds_behind xs x Refused k = cc

pub cut_at : (xs : List PpTok) (i : ℕ) (d : PpTok) → i < length xs → drop i xs ≡ get_or xs i d ∷ drop (i + 1) xs
cut_at xs i d h = drop-cons xs i d h ∙ ap (λ n. get_or xs i d ∷ drop n xs) (sym (add-one i))

abbrev pub left : List (List ℕ) → List (Frame Part) → Hand Part → List PpTok → Option Part
left names stack hand ts = run parts (state_of stack hand) (symbols (is_holding hand) (lexemes names ts))

-- one token more
stepped : (names : List (List ℕ)) (xs : List PpTok) (i : ℕ) (d : PpTok) (stack : List (Frame Part)) (hand : Hand Part) → i < length xs
    → left names stack hand (drop i xs) ≡ run parts (step parts (next_symbol names (get_or xs i d) hand) stack hand) (symbols (ends_operand (next_symbol names (get_or xs i d) hand)) (lexemes names (drop (i + 1) xs)))
stepped names xs i d stack hand h = ap (left names stack hand) (cut_at xs i d h)

pub goes_on : (names : List (List ℕ)) (xs : List PpTok) (i : ℕ) (d : PpTok) (stack after : List (Frame Part)) (hand next : Hand Part) → i < length xs
    → state_of after next ≡ step parts (next_symbol names (get_or xs i d) hand) stack hand → is_refused next ≡ false
    → left names stack hand (drop i xs) ≡ left names after next (drop (i + 1) xs)
goes_on names xs i d stack after hand next h n r =
    stepped names xs i d stack hand h
    ∙ ap (λ b. run parts (step parts (next_symbol names (get_or xs i d) hand) stack hand) (symbols b (lexemes names (drop (i + 1) xs))))
    (holds_behind stack (next_symbol names (get_or xs i d) hand) hand (ap (λ z. is_refused z.hand) (sym n) ∙ r))
    ∙ ap (λ z. run parts z (symbols (is_holding z.hand) (lexemes names (drop (i + 1) xs)))) (sym n)

pub refuses : (names : List (List ℕ)) (xs : List PpTok) (i : ℕ) (d : PpTok) (stack after : List (Frame Part)) (hand next : Hand Part) → i < length xs
    → state_of after next ≡ step parts (next_symbol names (get_or xs i d) hand) stack hand → is_refused next ≡ true
    → left names stack hand (drop i xs) ≡ None
refuses names xs i d stack after hand next h n r =
    stepped names xs i d stack hand h
    ∙ ap (λ z. run parts z (symbols (ends_operand (next_symbol names (get_or xs i d) hand)) (lexemes names (drop (i + 1) xs)))) (sym n)
    ∙ by_hand next r where
      by_hand : (k : Hand Part) → is_refused k ≡ true → run parts (state_of after k) (symbols (ends_operand (next_symbol names (get_or xs i d) hand)) (lexemes names (drop (i + 1) xs))) ≡ None
      by_hand Refused q = none_refused (symbols (ends_operand (next_symbol names (get_or xs i d) hand)) (lexemes names (drop (i + 1) xs))) after
      by_hand Waits q = absurd (let no : ⊥ = cc in no)
      by_hand (Holds t) q = absurd (let no : ⊥ = cc in no)

by_part_of : (o : Option Tree) → by_part (option_map part_of o) ≡ by_tree o
by_part_of None = refl
by_part_of (Some t) = refl

pub outcome_is : (xs : List Symbol) → by_part (run parts start xs) ≡ by_tree (read xs)
outcome_is xs = ap by_part (same_run xs start ∙ ap (option_map part_of) (reads_the_tree xs)) ∙ by_part_of (read xs)

pub answers : (expected r : Result ℤ CondFault) → r ≡ expected → IsAnswer expected r
answers expected (Ok z) e = e
answers expected (Err OutOfMemory) e = tt
answers expected (Err Syntax) e = e
answers expected (Err DivideByZero) e = e
answers expected (Err Overflow) e = e
answers expected (Err Constant) e = e
answers expected (Err MadeDefined) e = e

-- where no `defined` is left, the value is that of what is read
pub value_is : (ts : List Lexeme) (part : Option Part) (v : Outcome) → list_any is_defined ts ≡ false → part ≡ run parts start (symbols false ts) → v ≡ by_part part → v ≡ value_of ts
value_is ts part v d e k = k ∙ ap by_part e ∙ outcome_is (symbols false ts) ∙ sym (ap (λ b. cond b (Err MadeDefined) (by_tree (read (symbols false ts)))) d)
