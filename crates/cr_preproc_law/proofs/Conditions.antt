-- Conditionals are the same.
use Rattle.std.proofs.Common.{◌≡◌, ℕ, zero, suc, Bool, true, false, cond, List, [], ◌∷◌, ◌++◌, map, refl, ap, sym, ◌∙◌, Some, None, Option}
use Rattle.std.specs.Prelude.{is_some, flat_map, option_map, not, ◌||◌, codes, Result, Ok, Err, ℤ}
use Rattle.cr_base.specs.Names.{is_reserved}
use Rattle.cr_base.specs.declared.token.PpKind.TheVariants.{Number}
use Rattle.cr_base.specs.declared.token.Place.{Place}
use Rattle.cr_base.specs.declared.cause.IllCause.TheVariants as cause
use Rattle.cr_base.specs.declared.cause.Role.TheVariants.{Controlling, Directive}
use Rattle.cr_cond.specs.declared.CondFault.{CondFault}
use Rattle.cr_cond.specs.Value.{is_zero_int, is_defined, value_of, numbered}
use Rattle.cr_macros.specs.Tokens.{Text, Token, MacroText, is_ident, is_mark}
use Rattle.cr_macros.specs.Substitution.{made, only_if}
use Rattle.cr_macros.specs.Expansion.{predefined_named}
use Rattle.cr_expand_law.specs.Renaming.{Renaming, shifted, renamed, all_renamed, renamed_macro, KeepsExpansion}
use Rattle.cr_expand_law.specs.Uses.{KeepsUses}
use Rattle.cr_phase4.specs.Tasks.{Ill, State, Task, ◌>>>◌, look, tell, only, ends, marks, in_directive}
use Rattle.cr_phase4.specs.declared.conditionals.Word.{Word}
use Rattle.cr_phase4.specs.declared.conditionals.Word.TheVariants.{If, Ifdef, Ifndef, Elif, Else, Endif}
use Rattle.cr_phase4.specs.Runs.{expands}
use Rattle.cr_phase4.specs.declared.conditionals.OpenIf.{OpenIf}
use Rattle.cr_phase4.specs.declared.conditionals.Group.{Group}
use Rattle.cr_phase4.specs.declared.conditionals.Group.TheVariants.{Taken, Before, Past}
use Rattle.cr_phase4.specs.Conditionals.{is_live, group_if, opened, is_macro, lexeme_of, Piece, Other, Asks, in_parentheses, asked, piece_by, piece_at, pieces, answered, asking, cause_of, is_true, condition, is_named, elif_in, group_of_else, begun, conditional, is_live_around, is_word_live}
use Rattle.cr_preproc_law.specs.Renaming.{renamed_state, IsSame, AreSame}
use Rattle.cr_preproc_law.proofs.Tokens.{renamed_events, all_shifted, same_token, all_same, of_controlling, all_marked_same, marks_renamed, both_renamed, all_marks_renamed}
use Rattle.cr_preproc_law.proofs.Following.{Sim, sim_then, sim_only, sim_ends, sim_look, sim_told, sim_tell, sim_to, sim_if, sim_in_directive, same, sim_expands}

same_some : (r : Renaming) (o : Option MacroText) → is_some (option_map (renamed_macro r) o) ≡ is_some o
same_some r None = refl
same_some r (Some m) = refl

macro_same : (r : Renaming) (s : State) (t : Token) → is_macro (renamed_state r s) (shifted r t) ≡ is_macro s t
macro_same r s t = ap (λ b. is_some (predefined_named t.text) || b) (same_some r (s.macro t.text))

abbrev shifted_asked : Renaming → Option (Token × ℕ) → Option (Token × ℕ)
shifted_asked r None = None
shifted_asked r (Some p) = Some (shifted r p.0, p.1)

only_shifted : (r : Renaming) (b : Bool) (o : Option (Token × ℕ)) → only_if b (shifted_asked r o) ≡ shifted_asked r (only_if b o)
only_shifted r true o = refl
only_shifted r false o = refl

parentheses_shifted : (r : Renaming) (ts : List Token) → in_parentheses (all_shifted r ts) ≡ shifted_asked r (in_parentheses ts)
parentheses_shifted r [] = refl
parentheses_shifted r (t ∷ []) = refl
parentheses_shifted r (t ∷ u ∷ ts) = go (is_ident t.kind) where
  go : (b : Bool) → cond b (only_if (is_mark (codes ")") u) (Some (shifted r t, 3))) None ≡ shifted_asked r (cond b (only_if (is_mark (codes ")") u) (Some (t, 3))) None)
  go true = only_shifted r (is_mark (codes ")") u) (Some (t, 3))
  go false = refl

asked_shifted : (r : Renaming) (ts : List Token) → asked (all_shifted r ts) ≡ shifted_asked r (asked ts)
asked_shifted r [] = refl
asked_shifted r (t ∷ ts) = go (is_ident t.kind) (is_mark (codes "(") t) where
  go : (b c : Bool) → cond b (Some (shifted r t, 1)) (cond c (in_parentheses (all_shifted r ts)) None) ≡ shifted_asked r (cond b (Some (t, 1)) (cond c (in_parentheses ts) None))
  go true c = refl
  go false true = parentheses_shifted r ts
  go false false = refl

-- the name that is asked for is one of the tokens
abbrev IsSameAsked : Renaming → Option (Token × ℕ) → Type 0
IsSameAsked r None = Unit {0}
IsSameAsked r (Some p) = IsSame r p.0

same_only : (r : Renaming) (b : Bool) (o : Option (Token × ℕ)) → IsSameAsked r o → IsSameAsked r (only_if b o)
same_only r true o h = h
same_only r false o h = tt

same_cond : (r : Renaming) (b : Bool) (o p : Option (Token × ℕ)) → IsSameAsked r o → IsSameAsked r p → IsSameAsked r (cond b o p)
same_cond r true o p h k = h
same_cond r false o p h k = k

same_parentheses : (r : Renaming) (ts : List Token) → AreSame r ts → IsSameAsked r (in_parentheses ts)
same_parentheses r [] h = tt
same_parentheses r (t ∷ []) h = tt
same_parentheses r (t ∷ u ∷ ts) h = same_cond r (is_ident t.kind) (only_if (is_mark (codes ")") u) (Some (t, 3))) None (same_only r (is_mark (codes ")") u) (Some (t, 3)) h.0) tt

same_asked : (r : Renaming) (ts : List Token) → AreSame r ts → IsSameAsked r (asked ts)
same_asked r [] h = tt
same_asked r (t ∷ ts) h =
    same_cond r (is_ident t.kind) (Some (t, 1)) (cond (is_mark (codes "(") t) (in_parentheses ts) None) h.0
    (same_cond r (is_mark (codes "(") t) (in_parentheses ts) None (same_parentheses r ts h.1) tt)

abbrev shifted_piece : Renaming → Piece → Piece
shifted_piece r (Other t) = Other (shifted r t)
shifted_piece r (Asks t x) = Asks (shifted r t) (shifted r x)

abbrev IsSamePiece : Renaming → Piece → Type 0
IsSamePiece r (Other t) = IsSame r t
IsSamePiece r (Asks t x) = IsSame r t × IsSame r x

abbrev AreSamePieces : Renaming → List Piece → Type 0
AreSamePieces r [] = Unit {0}
AreSamePieces r (p ∷ ps) = IsSamePiece r p × AreSamePieces r ps

piece_shifted : (r : Renaming) (t : Token) (o : Option (Token × ℕ)) → piece_by (shifted r t) (shifted_asked r o) ≡ (shifted_piece r (piece_by t o).0, (piece_by t o).1)
piece_shifted r t None = refl
piece_shifted r t (Some p) = refl

piece_at_shifted : (r : Renaming) (t : Token) (ts : List Token) → piece_at (shifted r t) (all_shifted r ts) ≡ (shifted_piece r (piece_at t ts).0, (piece_at t ts).1)
piece_at_shifted r t ts =
    ap (λ o. piece_by (shifted r t) (only_if (is_defined (lexeme_of t)) o)) (asked_shifted r ts)
    ∙ ap (piece_by (shifted r t)) (only_shifted r (is_defined (lexeme_of t)) (asked ts))
    ∙ piece_shifted r t (only_if (is_defined (lexeme_of t)) (asked ts))

pieces_shifted : (r : Renaming) (ts : List Token) (skip : ℕ) → pieces skip (all_shifted r ts) ≡ map (shifted_piece r) (pieces skip ts)
pieces_shifted r [] skip = refl
pieces_shifted r (t ∷ ts) (suc skip) = pieces_shifted r ts skip
pieces_shifted r (t ∷ ts) zero =
    ap (λ (x : Piece × ℕ). x.0 ∷ pieces x.1 (all_shifted r ts)) (piece_at_shifted r t ts) ∙ ap (λ x. shifted_piece r (piece_at t ts).0 ∷ x) (pieces_shifted r ts (piece_at t ts).1)

same_piece_by : (r : Renaming) (t : Token) (o : Option (Token × ℕ)) → IsSame r t → IsSameAsked r o → IsSamePiece r (piece_by t o).0
same_piece_by r t None h a = h
same_piece_by r t (Some (x, n)) h a = (h, a)

same_pieces : (r : Renaming) (ts : List Token) (skip : ℕ) → AreSame r ts → AreSamePieces r (pieces skip ts)
same_pieces r [] skip h = tt
same_pieces r (t ∷ ts) (suc skip) h = same_pieces r ts skip h.1
same_pieces r (t ∷ ts) zero h = (
  same_piece_by r t (only_if (is_defined (lexeme_of t)) (asked ts)) h.0 (same_only r (is_defined (lexeme_of t)) (asked ts) (same_asked r ts h.1)),
  same_pieces r ts (piece_at t ts).1 h.1,
)

answered_same : (r : Renaming) (test test1 : Token → Bool) → ((t : Token) → test1 (shifted r t) ≡ test t) → (ps : List Piece) → AreSamePieces r ps → map (answered test1) (map (shifted_piece r) ps) ≡ all_renamed r (map (answered test) ps)
answered_same r test test1 e [] h = refl
answered_same r test test1 e (Other t ∷ ps) h = ap (λ x. x ∷ map (answered test1) (map (shifted_piece r) ps)) (sym (same_token r t h.0)) ∙ ap (λ x. renamed r t ∷ x) (answered_same r test test1 e ps h.1)
answered_same r test test1 e (Asks t x ∷ ps) h =
    ap (λ b. made (shifted r t) Number (cond b (codes "1") (codes "0")) t.space [] ∷ map (answered test1) (map (shifted_piece r) ps)) (e x)
    ∙ ap (λ y. renamed r (answered test (Asks t x)) ∷ y) (answered_same r test test1 e ps h.1)

shifted_marks : (r : Renaming) (t : Token) → IsSame r t → marks Directive (shifted r t) ≡ renamed_events r (marks Directive t)
shifted_marks r t h = ap (marks Directive) (sym (same_token r t h)) ∙ marks_renamed r Directive t

asking_same : (r : Renaming) (ps : List Piece) → AreSamePieces r ps → flat_map asking (map (shifted_piece r) ps) ≡ renamed_events r (flat_map asking ps)
asking_same r [] h = refl
asking_same r (Other t ∷ ps) h = asking_same r ps h.1
asking_same r (Asks t x ∷ ps) h =
    both_renamed r (marks Directive t ++ marks Directive x) (marks Directive (shifted r t) ++ marks Directive (shifted r x)) (flat_map asking ps) (flat_map asking (map (shifted_piece r) ps))
    (both_renamed r (marks Directive t) (marks Directive (shifted r t)) (marks Directive x) (marks Directive (shifted r x)) (shifted_marks r t h.0.0) (shifted_marks r x h.0.1)) (asking_same r ps h.1)

lexemes_shifted : (r : Renaming) (us : List Token) → map lexeme_of (all_shifted r us) ≡ map lexeme_of us
lexemes_shifted r [] = refl
lexemes_shifted r (u ∷ us) = ap (λ x. lexeme_of u ∷ x) (lexemes_shifted r us)

abbrev pub same_bool : Bool → Bool
same_bool b = b

-- an open conditional where it stands afterwards
abbrev pub shifted_if : Renaming → OpenIf → OpenIf
shifted_if r c = record c { hash = r.shift c.hash }

abbrev pub shifted_ifs : Renaming → List OpenIf → List OpenIf
shifted_ifs r = map (shifted_if r)

pub live_same : (r : Renaming) (cs : List OpenIf) → is_live (shifted_ifs r cs) ≡ is_live cs
live_same r [] = refl
live_same r (c ∷ cs) = refl

around_same : (r : Renaming) (cs : List OpenIf) → is_live_around (shifted_ifs r cs) ≡ is_live_around cs
around_same r [] = refl
around_same r (c ∷ cs) = live_same r cs

pub word_live_same : (r : Renaming) (cs : List OpenIf) (w : Word) → is_word_live (shifted_ifs r cs) w ≡ is_word_live cs w
word_live_same r cs If = live_same r cs
word_live_same r cs Ifdef = live_same r cs
word_live_same r cs Ifndef = live_same r cs
word_live_same r cs Elif = around_same r cs
word_live_same r cs Else = around_same r cs
word_live_same r cs Endif = around_same r cs

abbrev truth : Place → List Token → Task Bool
truth hash us = tell (flat_map (marks Controlling) us) >>> λ d. is_true hash (numbered (value_of (map {A = Token} lexeme_of us)))

true_same : (r : Renaming) (hash hash1 : Place) (o : Result ℤ CondFault) → Sim r same_bool (is_true hash o) (is_true hash1 o)
true_same r hash hash1 (Ok n) = sim_only r same_bool (not (is_zero_int n))
true_same r hash hash1 (Err fault) = sim_ends r same_bool (Ill (cause_of fault) hash) (ends (Ill (cause_of fault) hash1))

sim_truth : (r : Renaming) (hash hash1 : Place) (us : List Token) → Sim r same_bool (truth hash us) (truth hash1 (all_renamed r us))
sim_truth r hash hash1 us =
    sim_told r same_bool (flat_map (marks Controlling) us) (flat_map (marks Controlling) (all_renamed r us))
    (λ d. is_true hash (numbered (value_of (map {A = Token} lexeme_of us)))) (λ d. is_true hash1 (numbered (value_of (map {A = Token} lexeme_of (all_renamed r us)))))
    (λ fine. all_marks_renamed r Controlling us)
    (λ fine. sim_to r same_bool (is_true hash (numbered (value_of (map lexeme_of us)))) (is_true hash1 (numbered (value_of (map lexeme_of (all_renamed r us))))) (is_true hash1 (numbered (value_of (map lexeme_of us))))
    (ap (λ x. is_true hash1 (numbered (value_of x))) (ap (map {A = Token} lexeme_of) (all_same r us (all_marked_same r Controlling us (of_controlling r) fine)) ∙ lexemes_shifted r us)) (true_same r hash hash1 (numbered (value_of (map lexeme_of us)))))

module _ (r : Renaming) (not_reserved : is_reserved r.new ≡ false) (keeps_expansion : KeepsExpansion) (keeps_uses : KeepsUses) where
  -- a condition by the pieces of its list
  abbrev by_pieces : Text → Place → List Piece → Task Bool
  by_pieces path hash ps =
      look >>> λ s. tell (flat_map asking ps) >>> λ d. in_directive hash (expands path (map (answered (is_macro s)) ps)) >>> λ us. truth hash us

  sim_pieces : (path : Text) (hash hash1 : Place) (ps : List Piece) → AreSamePieces r ps → Sim r same_bool (by_pieces path hash ps) (by_pieces path hash1 (map (shifted_piece r) ps))
  sim_pieces path hash hash1 ps h =
      sim_then r (renamed_state r) same_bool look look (λ s. tell (flat_map asking ps) >>> λ d. expanded hash (xs s)) (λ s. tell (flat_map asking (map (shifted_piece r) ps)) >>> λ d. expanded hash1 (ys s)) (sim_look r)
      (λ s. sim_then r same same_bool (tell (flat_map asking ps)) (tell (flat_map asking (map (shifted_piece r) ps))) (λ d. expanded hash (xs s)) (λ d. expanded hash1 (ys (renamed_state r s)))
      (sim_tell r (flat_map asking ps) (flat_map asking (map (shifted_piece r) ps)) (asking_same r ps h))
      (λ d. sim_then r (all_renamed r) same_bool (in_directive hash (expands path (xs s))) (in_directive hash1 (expands path (ys (renamed_state r s)))) (truth hash) (truth hash1)
      (sim_in_directive r (all_renamed r) hash hash1 (expands path (xs s)) (expands path (ys (renamed_state r s)))
      (sim_to r (all_renamed r) (expands path (xs s)) (expands path (ys (renamed_state r s))) (expands path (all_renamed r (xs s)))
      (ap (expands path) (answered_same r (is_macro s) (is_macro (renamed_state r s)) (macro_same r s) ps h))
      (sim_expands r not_reserved keeps_expansion keeps_uses path (xs s))))
      (sim_truth r hash hash1))) where
        xs : State → List Token
        xs s = map (answered (is_macro s)) ps

        ys : State → List Token
        ys s = map (answered (is_macro s)) (map (shifted_piece r) ps)

        expanded : Place → List Token → Task Bool
        expanded place ts = in_directive place (expands path ts) >>> λ us. truth place us

  sim_condition : (path : Text) (hash hash1 : Place) (ts : List Token) → AreSame r ts → Sim r same_bool (condition path hash ts) (condition path hash1 (all_renamed r ts))
  sim_condition path hash hash1 ts h =
      sim_to r same_bool (condition path hash ts) (condition path hash1 (all_renamed r ts)) (by_pieces path hash1 (map (shifted_piece r) (pieces 0 ts)))
      (ap (by_pieces path hash1) (ap (pieces 0) (all_same r ts h) ∙ pieces_shifted r ts 0)) (sim_pieces path hash hash1 (pieces 0 ts) (same_pieces r ts 0 h))

  sim_is_named : (hash hash1 : Place) (ts : List Token) → AreSame r ts → Sim r same_bool (is_named hash ts) (is_named hash1 (all_renamed r ts))
  sim_is_named hash hash1 [] h = sim_ends r same_bool (Ill cause.BadDirective hash) (ends (Ill cause.BadDirective hash1))
  sim_is_named hash hash1 (t ∷ ts) h =
      sim_if r same_bool (is_ident t.kind) (named t) (ends (Ill cause.BadDirective hash)) (named (renamed r t)) (ends (Ill cause.BadDirective hash1))
      (sim_then r same same_bool (tell (marks Directive t)) (tell (marks Directive (renamed r t))) (λ d. look >>> λ s. only (is_macro s t)) (λ d. look >>> λ s. only (is_macro s (renamed r t)))
      (sim_tell r (marks Directive t) (marks Directive (renamed r t)) (marks_renamed r Directive t))
      (λ d. sim_then r (renamed_state r) same_bool look look (λ s. only (is_macro s t)) (λ s. only (is_macro s (renamed r t))) (sim_look r)
      (λ s. sim_to r same_bool (only (is_macro s t)) (only (is_macro (renamed_state r s) (renamed r t))) (only (is_macro s t)) (ap only (ap (is_macro (renamed_state r s)) (same_token r t h.0) ∙ macro_same r s t)) (sim_only r same_bool (is_macro s t)))))
      (sim_ends r same_bool (Ill cause.BadDirective hash) (ends (Ill cause.BadDirective hash1))) where
        named : Token → Task Bool
        named x = tell (marks Directive x) >>> λ d. look >>> λ s. only (is_macro s x)

  sim_begun : (hash : Place) (cs : List OpenIf) (b : Bool) (m n : Task Bool) → Sim r same_bool m n → Sim r (shifted_ifs r) (begun hash cs b m) (begun (r.shift hash) (shifted_ifs r cs) b n)
  sim_begun hash cs true m n h =
      sim_then r same_bool (shifted_ifs r) m n (λ b. only (opened hash (group_if b) cs)) (λ b. only (opened (r.shift hash) (group_if b) (shifted_ifs r cs))) h (λ b. sim_only r (shifted_ifs r) (opened hash (group_if b) cs))
  sim_begun hash cs false m n h = sim_only r (shifted_ifs r) (opened hash Past cs)

  sim_begins : (hash : Place) (cs : List OpenIf) (m n : Task Bool) → Sim r same_bool m n → Sim r (shifted_ifs r) (begun hash cs (is_live cs) m) (begun (r.shift hash) (shifted_ifs r cs) (is_live (shifted_ifs r cs)) n)
  sim_begins hash cs m n h =
      sim_to r (shifted_ifs r) (begun hash cs (is_live cs) m) (begun (r.shift hash) (shifted_ifs r cs) (is_live (shifted_ifs r cs)) n) (begun (r.shift hash) (shifted_ifs r cs) (is_live cs) n)
      (ap (λ b. begun (r.shift hash) (shifted_ifs r cs) b n) (live_same r cs)) (sim_begun hash cs (is_live cs) m n h)

  stray : (hash hash1 : Place) → Sim r (shifted_ifs r) (ends (Ill cause.StrayElse hash)) (ends (Ill cause.StrayElse hash1))
  stray hash hash1 = sim_ends r (shifted_ifs r) (Ill cause.StrayElse hash) (ends (Ill cause.StrayElse hash1))

  sim_elif_in : (path : Text) (hash hash1 : Place) (ts : List Token) (cs : List OpenIf) (c : OpenIf) (g : Group) → AreSame r ts
      → Sim r (shifted_ifs r) (elif_in path hash ts cs c g) (elif_in path hash1 (all_renamed r ts) (shifted_ifs r cs) (shifted_if r c) g)
  sim_elif_in path hash hash1 ts cs c Before h =
      sim_then r same_bool (shifted_ifs r) (condition path hash ts) (condition path hash1 (all_renamed r ts)) (λ b. only (record c { group = group_if b } ∷ cs)) (λ b. only (record (shifted_if r c) { group = group_if b } ∷ shifted_ifs r cs))
      (sim_condition path hash hash1 ts h) (λ b. sim_only r (shifted_ifs r) (record c { group = group_if b } ∷ cs))
  sim_elif_in path hash hash1 ts cs c Taken h = sim_only r (shifted_ifs r) (record c { group = Past } ∷ cs)
  sim_elif_in path hash hash1 ts cs c Past h = sim_only r (shifted_ifs r) (record c { group = Past } ∷ cs)

  pub sim_conditional : (path : Text) (hash : Place) (ts : List Token) (cs : List OpenIf) (w : Word) → AreSame r ts → Sim r (shifted_ifs r) (conditional path hash ts cs w) (conditional path (r.shift hash) (all_renamed r ts) (shifted_ifs r cs) w)
  sim_conditional path hash ts cs If h = sim_begins hash cs (condition path hash ts) (condition path (r.shift hash) (all_renamed r ts)) (sim_condition path hash (r.shift hash) ts h)
  sim_conditional path hash ts cs Ifdef h = sim_begins hash cs (is_named hash ts) (is_named (r.shift hash) (all_renamed r ts)) (sim_is_named hash (r.shift hash) ts h)
  sim_conditional path hash ts cs Ifndef h =
      sim_begins hash cs (is_named hash ts >>> λ b. only (not b)) (is_named (r.shift hash) (all_renamed r ts) >>> λ b. only (not b))
      (sim_then r same_bool same_bool (is_named hash ts) (is_named (r.shift hash) (all_renamed r ts)) (λ b. only (not b)) (λ b. only (not b)) (sim_is_named hash (r.shift hash) ts h) (λ b. sim_only r same_bool (not b)))
  sim_conditional path hash ts [] Elif h = stray hash (r.shift hash)
  sim_conditional path hash ts (c ∷ cs) Elif h =
      sim_if r (shifted_ifs r) c.in_else (ends (Ill cause.StrayElse hash)) (elif_in path hash ts cs c c.group) (ends (Ill cause.StrayElse (r.shift hash))) (elif_in path (r.shift hash) (all_renamed r ts) (shifted_ifs r cs) (shifted_if r c) c.group)
      (stray hash (r.shift hash)) (sim_elif_in path hash (r.shift hash) ts cs c c.group h)
  sim_conditional path hash ts [] Else h = stray hash (r.shift hash)
  sim_conditional path hash ts (c ∷ cs) Else h =
      sim_if r (shifted_ifs r) c.in_else (ends (Ill cause.StrayElse hash)) (only (record c { group = group_of_else c.group; in_else = true } ∷ cs)) (ends (Ill cause.StrayElse (r.shift hash))) (only (record (shifted_if r c) { group = group_of_else c.group; in_else = true } ∷ shifted_ifs r cs))
      (stray hash (r.shift hash)) (sim_only r (shifted_ifs r) (record c { group = group_of_else c.group; in_else = true } ∷ cs))
  sim_conditional path hash ts [] Endif h = stray hash (r.shift hash)
  sim_conditional path hash ts (c ∷ cs) Endif h = sim_only r (shifted_ifs r) cs
