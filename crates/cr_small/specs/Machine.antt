-- The moves of the reader of the small form. No contract of a public call cites them.
use Rattle.std.specs.Prelude.{Bool, true, false, List, [], ◌∷◌, Option, Some, None, if◌then◌else◌}
use Rattle.std.specs.Option.{option_map, option_and_then}
use Rattle.cr_lex.specs.Lexing.{Token}
use Rattle.cr_small.specs.Terminals.{terminal_of}
use Rattle.cr_small.specs.Tree.{Leaf}
use Rattle.cr_small.specs.declared.terminal.Terminal.{Terminal}
use Rattle.cr_small.specs.declared.terminal.Terminal.TheVariants as terminal
use Rattle.cr_small.specs.declared.grammar.Storage.{Storage}
use Rattle.cr_small.specs.declared.grammar.Storage.TheVariants as storage
use Rattle.cr_small.specs.declared.grammar.Part.TheVariants as part
use Rattle.cr_small.specs.declared.grammar.Level.{Level}
use Rattle.cr_small.specs.declared.grammar.Level.TheVariants as level
use Rattle.cr_small.specs.declared.grammar.State.{State}
use Rattle.cr_small.specs.declared.grammar.State.TheVariants as state
use Rattle.cr_small.specs.declared.grammar.Move.{Move}

abbrev pub plain : State → Move
plain next = record { part = part.Plain; next = next }

abbrev pub item : Level → Terminal → Bool → Option Move
item l terminal.Number calls = Some (plain (state.More l))
item l terminal.Name calls = Some (record { part = part.Mentions; next = if calls then state.CallOpen l else state.More l })
item l _ calls = None

abbrev pub start : Level → Terminal → Bool → Option Move
start level.File terminal.Static calls = Some (plain (state.Stored storage.Static))
start level.File terminal.Extern calls = Some (plain (state.Stored storage.Extern))
start level.File terminal.Int calls = Some (plain (state.Declarator level.File None))
start level.File _ calls = None
start level.Block terminal.Int calls = Some (plain (state.Declarator level.Block None))
start level.Block terminal.Return calls = Some (plain (state.Item level.Block))
start level.Block terminal.End calls = Some (record { part = part.Closes; next = state.Start level.File })
start level.Block t calls = item level.Block t calls

abbrev pub declarator : Level → Option Storage → Bool → Move
declarator level.File word true = record { part = part.DeclaresFunction word; next = state.ParametersOpen }
declarator level.File word false = record { part = part.DeclaresObject word; next = state.Initialiser level.File }
declarator level.Block word calls = record { part = part.DeclaresObject word; next = state.Initialiser level.Block }

-- one token of a derivation; `calls` says that an open parenthesis is next
abbrev pub step : State → Terminal → Bool → Option Move
step (state.Start l) t calls = start l t calls
step (state.Stored word) terminal.Int calls = Some (plain (state.Declarator level.File (Some word)))
step (state.Declarator l word) terminal.Name calls = Some (declarator l word calls)
step (state.Initialiser l) terminal.Assign calls = Some (plain (state.Item l))
step (state.Initialiser l) terminal.Semicolon calls = Some (plain (state.Start l))
step (state.Item l) t calls = item l t calls
step (state.CallOpen l) terminal.Open calls = Some (plain (state.CallClose l))
step (state.CallClose l) terminal.Close calls = Some (plain (state.More l))
step (state.More l) terminal.Plus calls = Some (plain (state.Item l))
step (state.More l) terminal.Semicolon calls = Some (plain (state.Start l))
step state.ParametersOpen terminal.Open calls = Some (plain state.ParametersVoid)
step state.ParametersVoid terminal.Void calls = Some (plain state.ParametersClose)
step state.ParametersClose terminal.Close calls = Some (plain state.Body)
step state.Body terminal.Semicolon calls = Some (plain (state.Start level.File))
step state.Body terminal.Begin calls = Some (record { part = part.Opens; next = state.Start level.Block })
step _ _ calls = None

abbrev pub is_end : State → Bool
is_end (state.Start level.File) = true
is_end _ = false

abbrev pub is_open : Terminal → Bool
is_open terminal.Open = true
is_open _ = false

-- the first terminal is an open parenthesis
abbrev pub opens_next : List Terminal → Bool
opens_next [] = false
opens_next (t ∷ ts) = is_open t

-- the first token is an open parenthesis
abbrev pub opens : List Token → Bool
opens [] = false
opens (token ∷ tokens) = is_open (terminal_of token.text)

abbrev pub ending : State → Option (List Leaf)
ending s = if is_end s then Some [] else None

-- the leaves of terminals from a state on
abbrev pub run : State → List Terminal → Option (List Leaf)
run s [] = ending s
run s (t ∷ ts) =
    option_and_then (λ m. option_map (λ ls. (record { terminal = t; part = m.part }) ∷ ls) (run m.next ts)) (step s t (opens_next ts))
