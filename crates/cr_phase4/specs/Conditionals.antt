-- Conditional inclusion (C11 6.10.1).
use Rattle.std.specs.Prelude.{ℕ, zero, suc, Bool, true, false, not, ◌||◌, if◌then◌else◌, List, [], ◌∷◌, ◌++◌, map, flat_map, codes, Option, Some, None, is_some, Result, Ok, Err, ℤ}
use Rattle.cr_base.specs.declared.token.PpKind.TheVariants.{Number}
use Rattle.cr_base.specs.declared.token.Place.{Place}
use Rattle.cr_base.specs.declared.cause.IllCause.{IllCause}
use Rattle.cr_base.specs.declared.cause.IllCause.TheVariants as cause
use Rattle.cr_base.specs.declared.cause.Role.TheVariants.{Controlling, Directive}
use Rattle.cr_cond.specs.declared.CondFault.{CondFault}
use Rattle.cr_cond.specs.declared.CondFault.TheVariants as cond
use Rattle.cr_cond.specs.Symbols.{Lexeme}
use Rattle.cr_cond.specs.Value.{is_zero_int, is_defined, value_of, numbered}
use Rattle.cr_macros.specs.Tokens.{Text, Token, MacroText, is_ident, is_mark}
use Rattle.cr_macros.specs.Substitution.{made, only_if}
use Rattle.cr_macros.specs.Expansion.{predefined_named}
use Rattle.cr_phase4.specs.Tasks.{Ill, Event, State, Task, ◌>>>◌, only, ends, tell, look, marks, in_directive}
use Rattle.cr_phase4.specs.declared.conditionals.Word.{Word}
use Rattle.cr_phase4.specs.declared.conditionals.Word.TheVariants.{If, Ifdef, Ifndef, Elif, Else, Endif}
use Rattle.cr_phase4.specs.declared.conditionals.Group.{Group}
use Rattle.cr_phase4.specs.declared.conditionals.Group.TheVariants.{Taken, Before, Past}
use Rattle.cr_phase4.specs.declared.conditionals.OpenIf.{OpenIf}
use Rattle.cr_phase4.specs.Runs.{expands}

abbrev pub is_taken : Group → Bool
is_taken Taken = true
is_taken Before = false
is_taken Past = false

-- Lines are live where the innermost conditional, which comes first, has its group taken. One inside a group that is
-- skipped has no group to be taken.
abbrev pub is_live : List OpenIf → Bool
is_live [] = true
is_live (c ∷ cs) = is_taken c.group

abbrev pub group_if : Bool → Group
group_if true = Taken
group_if false = Before

abbrev pub opened : Place → Group → List OpenIf → List OpenIf
opened hash group cs = record { hash = hash; group = group; in_else = false } ∷ cs

-- the token names one of these macros, or a predefined one
abbrev pub is_macro_of : (Text → Option MacroText) → Token → Bool
is_macro_of macros t = is_some (predefined_named t.text) || is_some (macros t.text)

abbrev pub is_macro : State → Token → Bool
is_macro s = is_macro_of s.macro

abbrev pub lexeme_of : Token → Lexeme
lexeme_of t = record { kind = t.kind; text = t.text }

-- a token of an `#if` list, or `defined` with a name
pub data Piece : Type 0 where
  Other : Token → Piece
  Asks : Token → Token → Piece

abbrev pub in_parentheses : List Token → Option (Token × ℕ)
in_parentheses (name ∷ close ∷ ts) = if is_ident name.kind then only_if (is_mark (codes ")") close) (Some (name, 3)) else None
in_parentheses _ = None

-- the name that `defined` asks for, and how many tokens that takes
abbrev pub asked : List Token → Option (Token × ℕ)
asked [] = None
asked (t ∷ ts) = if is_ident t.kind then Some (t, 1) else if is_mark (codes "(") t then in_parentheses ts else None

abbrev pub piece_by : Token → Option (Token × ℕ) → Piece × ℕ
piece_by t None = (Other t, 0)
piece_by t (Some (name, n)) = (Asks t name, n)

-- the piece that begins with a token, and how many tokens it takes behind that
abbrev pub piece_at : Token → List Token → Piece × ℕ
piece_at t ts = piece_by t (only_if (is_defined (lexeme_of t)) (asked ts))

-- the pieces of a list, of which the first `skip` tokens belong to the piece before
abbrev pub pieces : ℕ → List Token → List Piece
pieces skip [] = []
pieces (suc skip) (t ∷ ts) = pieces skip ts
pieces zero (t ∷ ts) = let found = piece_at t ts in found.0 ∷ pieces found.1 ts

-- `defined` with a name becomes 1 or 0
abbrev pub answered : (Token → Bool) → Piece → Token
answered test (Other t) = t
answered test (Asks t name) = made t Number (if test name then codes "1" else codes "0") t.space []

abbrev pub asking : Piece → List Event
asking (Other t) = []
asking (Asks t name) = marks Directive t ++ marks Directive name

abbrev pub cause_of : CondFault → IllCause
cause_of cond.Syntax = cause.CondSyntax
cause_of cond.DivideByZero = cause.DivideByZero
cause_of cond.Overflow = cause.Overflow
cause_of cond.Constant = cause.CondConstant
cause_of cond.MadeDefined = cause.MadeDefined
-- no list has this fault
cause_of cond.OutOfMemory = cause.CondSyntax

abbrev pub is_true : Place → Result ℤ CondFault → Task Bool
is_true hash (Ok n) = only (not (is_zero_int n))
is_true hash (Err fault) = ends (Ill (cause_of fault) hash)

-- the value of a list, or its first fault
abbrev pub list_value : List Token → Result ℤ CondFault
list_value us = numbered (value_of (map {A = Token} lexeme_of us))

-- the truth of the list of an `if` or an `elif`: `defined` is answered first, and then the list is expanded
abbrev pub condition : Text → Place → List Token → Task Bool
condition path hash ts =
    look
    >>> λ s. tell (flat_map asking (pieces 0 ts))
    >>> λ d. in_directive hash (expands path (map (answered (is_macro s)) (pieces 0 ts)))
    >>> λ us. tell (flat_map (marks Controlling) us)
    >>> λ d. is_true hash (list_value us)

-- the truth of the name of an `ifdef`; what stands behind it is ignored
abbrev pub is_named : Place → List Token → Task Bool
is_named hash [] = ends (Ill cause.BadDirective hash)
is_named hash (t ∷ ts) =
    if is_ident t.kind then (tell (marks Directive t) >>> λ d. look >>> λ s. only (is_macro s t)) else ends (Ill cause.BadDirective hash)

-- the innermost conditional comes to its next group
abbrev pub elif_in : Text → Place → List Token → List OpenIf → OpenIf → Group → Task (List OpenIf)
elif_in path hash ts cs c Before = condition path hash ts >>> λ b. only (record c { group = group_if b } ∷ cs)
elif_in path hash ts cs c Taken = only (record c { group = Past } ∷ cs)
elif_in path hash ts cs c Past = only (record c { group = Past } ∷ cs)

abbrev pub group_of_else : Group → Group
group_of_else Before = Taken
group_of_else Taken = Past
group_of_else Past = Past

abbrev pub elif : Text → Place → List Token → List OpenIf → Task (List OpenIf)
elif path hash ts [] = ends (Ill cause.StrayElse hash)
elif path hash ts (c ∷ cs) = if c.in_else then ends (Ill cause.StrayElse hash) else elif_in path hash ts cs c c.group

abbrev pub else_in : Place → List OpenIf → Task (List OpenIf)
else_in hash [] = ends (Ill cause.StrayElse hash)
else_in hash (c ∷ cs) =
    if c.in_else then ends (Ill cause.StrayElse hash) else only (record c { group = group_of_else c.group; in_else = true } ∷ cs)

abbrev pub endif : Place → List OpenIf → Task (List OpenIf)
endif hash [] = ends (Ill cause.StrayElse hash)
endif hash (c ∷ cs) = only cs

abbrev pub begun : Place → List OpenIf → Bool → Task Bool → Task (List OpenIf)
begun hash cs true test = test >>> λ b. only (opened hash (group_if b) cs)
begun hash cs false test = only (opened hash Past cs)

-- the open conditionals behind a conditional directive
abbrev pub conditional : Text → Place → List Token → List OpenIf → Word → Task (List OpenIf)
conditional path hash ts cs If = begun hash cs (is_live cs) (condition path hash ts)
conditional path hash ts cs Ifdef = begun hash cs (is_live cs) (is_named hash ts)
conditional path hash ts cs Ifndef = begun hash cs (is_live cs) (is_named hash ts >>> λ b. only (not b))
conditional path hash ts cs Elif = elif path hash ts cs
conditional path hash ts cs Else = else_in hash cs
conditional path hash ts cs Endif = endif hash cs

-- the lines around the conditional are live
abbrev pub is_live_around : List OpenIf → Bool
is_live_around [] = true
is_live_around (c ∷ cs) = is_live cs

-- the word is read on a live line, or ends a group of a conditional that begins on one
abbrev pub is_word_live : List OpenIf → Word → Bool
is_word_live cs If = is_live cs
is_word_live cs Ifdef = is_live cs
is_word_live cs Ifndef = is_live cs
is_word_live cs Elif = is_live_around cs
is_word_live cs Else = is_live_around cs
is_word_live cs Endif = is_live_around cs
