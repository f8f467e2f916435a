-- A file is read on: token by token, and line by line.
use Rattle.std.proofs.Common.{◌≡◌, ◌⊎◌, inl, inr, ℕ, Bool, true, false, cond, List, [], ◌∷◌, ◌++◌, refl, ap, sym, ◌∙◌, append_assoc, append-nil, Option}
use Rattle.std.specs.Prelude.{◌&&◌}
use Rattle.cr_base.specs.declared.unit.Unit.{Unit}
use Rattle.cr_lex.specs.Lexing.{Lexed, Fault, with_token}
use Rattle.cr_lex.specs.Lexing as lexing
use Rattle.cr_macros.specs.Tokens.{Token}
use Rattle.cr_phase4.specs.declared.conditionals.OpenIf.{OpenIf}
use Rattle.cr_phase4.specs.Tasks.{State, Took, Reply, Goes, Ends, Task, Nothing, behind, go_on, ◌>>>◌, reads}
use Rattle.cr_phase4.specs.Lines.{token_in, lines_of, into_line, fault_of, line_of}
use Rattle.cr_phase4.specs.Search.{World}
use Rattle.cr_phase4.specs.Runs.{inside}
use Rattle.cr_phase4.specs.Conditionals.{is_live}
use Rattle.cr_phase4.specs.Preprocessing.{does_file, does_lines, by_line, takes_rest, run_with, at_end}
use Rattle.cr_preproc.specs.OpenFiles.{Reading, line_left, lines_behind, reads_behind}
use Rattle.cr_preproc.proofs.Frames.{then_assoc}

split_by : (t u : Token) (b : Bool) (line : List Token) (lines all : List (List Token)) → all ≡ (u ∷ line) ∷ lines
    → cond b ((t ∷ []) ∷ all) (into_line t all) ≡ (t ∷ cond b [] (u ∷ line)) ∷ cond b all lines
split_by t u true line lines all h = refl
split_by t u false line lines all h = ap (into_line t) h

-- the first line and those behind it
pub lines_split : (file : ℕ) (t : lexing.Token) (ts : List lexing.Token) → lines_of file (t ∷ ts) ≡ (token_in file t ∷ line_left file ts) ∷ lines_behind file ts
lines_split file t [] = refl
lines_split file t (u ∷ us) = split_by (token_in file t) (token_in file u) u.first (line_left file us) (lines_behind file us) (lines_of file (u ∷ us)) (lines_split file u us)

run_by : (b : Bool) (run : List Token) → cond b (run ++ []) run ≡ run
run_by true run = append-nil run
run_by false run = refl

-- a run with no token of a line
pub run_with_none : (cs : List OpenIf) (run : List Token) → run_with cs run [] ≡ run
run_with_none cs run = run_by (is_live cs && true) run

-- A line is read on, and then those behind it.
abbrev pub reads_line : World → Unit → Reading → Option Fault → List Token → List Token → List (List Token) → Task Nothing
reads_line w u r fault taken line lines =
    takes_rest r.path r.open_ifs r.run taken line
    >>> λ d. by_line w u (does_file w u r.levels) r.path r.open_ifs r.run (taken ++ line) (line_of (taken ++ line))
    >>> λ a. does_lines w u (does_file w u r.levels) r.path (fault_of r.number fault) lines a.open_ifs a.run

line_takes : (w : World) (u : Unit) (r : Reading) (fault : Option Fault) (taken : List Token) (t : Token) (line : List Token) (lines : List (List Token)) (s : State)
    → reads_line w u r fault taken (t ∷ line) lines s
    ≡ (inside r.path (run_with r.open_ifs r.run taken) (reads 1 (Took ∷ [])) >>> λ d. reads_line w u r fault (taken ++ t ∷ []) line lines) s
line_takes w u r fault taken t line lines s =
    then_assoc (inside r.path (run_with r.open_ifs r.run taken) (reads 1 (Took ∷ [])) s) (λ d. takes_rest r.path r.open_ifs r.run (taken ++ t ∷ []) line) (λ d. at (taken ++ t ∷ line))
    ∙ ap (λ all. go_on (inside r.path (run_with r.open_ifs r.run taken) (reads 1 (Took ∷ [])) s) (λ d. takes_rest r.path r.open_ifs r.run (taken ++ t ∷ []) line >>> λ d. at all)) (sym (append_assoc taken (t ∷ []) line)) where
      at : List Token → Task Nothing
      at all = by_line w u (does_file w u r.levels) r.path r.open_ifs r.run all (line_of all) >>> λ a. does_lines w u (does_file w u r.levels) r.path (fault_of r.number fault) lines a.open_ifs a.run

-- with these tokens left
abbrev pub with_left : Reading → Lexed → Reading
with_left r left = record r { left = left }

takes_first : (w : World) (u : Unit) (r : Reading) (t : lexing.Token) (rest : Lexed) (s : State)
    → reads_behind w u (with_left r (with_token t rest)) [] s
    ≡ (inside r.path (run_with r.open_ifs r.run []) (reads 1 (Took ∷ [])) >>> λ d. reads_behind w u (with_left r rest) (token_in r.number t ∷ [])) s
takes_first w u r t rest s =
    ap (λ lines. does_lines w u (does_file w u r.levels) r.path (fault_of r.number rest.fault) lines r.open_ifs r.run s) (lines_split r.number t rest.tokens)
    ∙ line_takes w u r rest.fault [] (token_in r.number t) (line_left r.number rest.tokens) (lines_behind r.number rest.tokens) s

takes_next : (w : World) (u : Unit) (r : Reading) (x : Token) (xs : List Token) (t : lexing.Token) (rest : Lexed) (s : State) → t.first ≡ false
    → reads_behind w u (with_left r (with_token t rest)) (x ∷ xs) s
    ≡ (inside r.path (run_with r.open_ifs r.run (x ∷ xs)) (reads 1 (Took ∷ [])) >>> λ d. reads_behind w u (with_left r rest) ((x ∷ xs) ++ token_in r.number t ∷ [])) s
takes_next w u r x xs t rest s h =
    ap (λ b. reads_line w u r rest.fault (x ∷ xs) (cond b [] (token_in r.number t ∷ line_left r.number rest.tokens)) (cond b (lines_of r.number (t ∷ rest.tokens)) (lines_behind r.number rest.tokens)) s) h
    ∙ line_takes w u r rest.fault (x ∷ xs) (token_in r.number t) (line_left r.number rest.tokens) (lines_behind r.number rest.tokens) s

takes_by : (w : World) (u : Unit) (r : Reading) (taken : List Token) (t : lexing.Token) (rest : Lexed) (s : State) → (taken ≡ []) ⊎ (t.first ≡ false)
    → reads_behind w u (with_left r (with_token t rest)) taken s
    ≡ (inside r.path (run_with r.open_ifs r.run taken) (reads 1 (Took ∷ [])) >>> λ d. reads_behind w u (with_left r rest) (taken ++ token_in r.number t ∷ [])) s
takes_by w u r [] t rest s h = takes_first w u r t rest s
takes_by w u r (x ∷ xs) t rest s (inl e) = cc
takes_by w u r (x ∷ xs) t rest s (inr e) = takes_next w u r x xs t rest s e

-- The next token is taken, where it is of the present line.
pub takes_one : (w : World) (u : Unit) (r : Reading) (taken : List Token) (t : lexing.Token) (rest : Lexed) (s : State) → r.left ≡ with_token t rest → (taken ≡ []) ⊎ (t.first ≡ false)
    → reads_behind w u r taken s
    ≡ (inside r.path (run_with r.open_ifs r.run taken) (reads 1 (Took ∷ [])) >>> λ d. reads_behind w u (record r { left = rest }) (taken ++ token_in r.number t ∷ [])) s
takes_one w u r taken t rest s e h = ap (λ l. reads_behind w u (with_left r l) taken s) e ∙ takes_by w u r taken t rest s h

behind_none : {A : Type 0} (r : Reply A) → behind [] r ≡ r
behind_none (Goes a s es) = refl
behind_none (Ends e es) = refl

next_line : (file : ℕ) (ts : List lexing.Token) → line_left file ts ≡ [] → lines_behind file ts ≡ lines_of file ts
next_line file [] h = refl
next_line file (t ∷ ts) h = by t.first h where
  by : (b : Bool) → cond b [] (token_in file t ∷ line_left file ts) ≡ [] → cond b (lines_of file (t ∷ ts)) (lines_behind file ts) ≡ lines_of file (t ∷ ts)
  by true k = refl
  by false k = cc

done_by : (w : World) (u : Unit) (r : Reading) (fault : Option Fault) (taken : List Token) (s : State)
    → (lines : List (List Token)) → reads_line w u r fault taken [] lines s
    ≡ (by_line w u (does_file w u r.levels) r.path r.open_ifs r.run taken (line_of taken) >>> λ a. does_lines w u (does_file w u r.levels) r.path (fault_of r.number fault) lines a.open_ifs a.run) s
done_by w u r fault taken s lines =
    behind_none (at (taken ++ []) s) ∙ ap (λ all. at all s) (append-nil taken) where
      at : List Token → Task Nothing
      at all = by_line w u (does_file w u r.levels) r.path r.open_ifs r.run all (line_of all) >>> λ a. does_lines w u (does_file w u r.levels) r.path (fault_of r.number fault) lines a.open_ifs a.run

-- The present line is carried out, where all its tokens are taken.
pub line_done : (w : World) (u : Unit) (r : Reading) (taken : List Token) (s : State) → ¬ (taken ≡ []) → line_left r.number r.left.tokens ≡ []
    → reads_behind w u r taken s
    ≡ (by_line w u (does_file w u r.levels) r.path r.open_ifs r.run taken (line_of taken) >>> λ a. reads_behind w u (record r { open_ifs = a.open_ifs; run = a.run }) []) s
line_done w u r [] s h e = absurd (h refl)
line_done w u r (x ∷ xs) s h e =
    ap (λ l. reads_line w u r r.left.fault (x ∷ xs) l (lines_behind r.number r.left.tokens) s) e
    ∙ done_by w u r r.left.fault (x ∷ xs) s (lines_behind r.number r.left.tokens)
    ∙ ap (λ lines. at lines s) (next_line r.number r.left.tokens e) where
      at : List (List Token) → Task Nothing
      at lines = by_line w u (does_file w u r.levels) r.path r.open_ifs r.run (x ∷ xs) (line_of (x ∷ xs)) >>> λ a. does_lines w u (does_file w u r.levels) r.path (fault_of r.number r.left.fault) lines a.open_ifs a.run

-- The file is at its end, where no token is left.
pub file_done : (w : World) (u : Unit) (r : Reading) (f : Option Fault) (s : State) → r.left ≡ record { tokens = []; fault = f }
    → reads_behind w u r [] s ≡ at_end r.path r.run (fault_of r.number f) r.open_ifs s
file_done w u r f s e = ap (λ l. reads_behind w u (with_left r l) [] s) e
