-- A move ends where the stack is empty.
use Rattle.std.proofs.Common.{◌≡◌, ℕ, List, [], ◌∷◌, refl}
use Rattle.cr_grammar.specs.declared.symbols.Symbol.{Symbol}
use Rattle.cr_grammar.specs.declared.symbols.NonTerm.{NonTerm}
use Rattle.cr_grammar.specs.declared.symbols.Symbol.TheVariants.{Term, Non, Act}
use Rattle.cr_ll.specs.Guards.{Terminal, token_at, meets}
use Rattle.cr_ll.specs.declared.guards.Verdict.{Verdict}
use Rattle.cr_ll.specs.declared.guards.Verdict.TheVariants.{Holds, Fails, Asks}
use Rattle.cr_ll.specs.declared.guards.Choice.{Choice}
use Rattle.cr_ll.specs.declared.guards.Choice.TheVariants.{Nothing, Takes, Waits}
use Rattle.cr_ll.specs.Machine.{Config, Ends, pass, move_by, move_on, move}

pub pass_ends : (v : Verdict) (i : ℕ) (ss : List Symbol) → pass v i ss ≡ Ends → ⊥
pass_ends Holds i ss h = cc
pass_ends Fails i ss h = cc
pass_ends (Asks k) i ss h = cc

pub choice_ends : (ch : Choice) (i : ℕ) (m : NonTerm) (ss : List Symbol) → move_by ch i m ss ≡ Ends → ⊥
choice_ends Nothing i m ss h = cc
choice_ends (Takes k) i m ss h = cc
choice_ends (Waits k ahead) i m ss h = cc

pub ends_on : (ts : List Terminal) (i r : ℕ) (ss : List Symbol) → move_on ts i r ss ≡ Ends → ss ≡ []
ends_on ts i r [] h = refl
ends_on ts i r (Term t ∷ ss) h = absurd (pass_ends (meets t (token_at ts i)) i ss h)
ends_on ts i r (Act a ∷ ss) h = cc
ends_on ts i r (Non m ∷ ss) h = absurd (choice_ends _ i m ss h)

pub ends_empty : (ts : List Terminal) (c : Config) → move ts c ≡ Ends → c.stack ≡ []
ends_empty ts c h = ends_on ts c.place c.refused c.stack h
