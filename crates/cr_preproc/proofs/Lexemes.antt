-- The tokens of an `#if` list as they are evaluated.
use Rattle.std.proofs.Common.{◌≡◌, List, [], ◌∷◌, map, refl, ap}
use Rattle.std.specs.Prelude.{Result, Ok, Err, ℤ}
use Rattle.cr_base.specs.declared.token.PpTok.{PpTok}
use Rattle.cr_cond.specs.declared.CondFault.{CondFault}
use Rattle.cr_cond.specs.declared.CondFault.TheVariants.{OutOfMemory, Syntax, DivideByZero, Overflow, Constant, MadeDefined}
use Rattle.cr_cond.specs.Value.{IsAnswer}
use Rattle.cr_preproc.specs.Truths.{IsTruth, truth_of}
use Rattle.cr_cond.specs.Symbols.{lexeme, lexemes}
use Rattle.cr_macros.specs.Tokens.{Text, Token, tokens_of}
use Rattle.cr_phase4.specs.Conditionals.{lexeme_of}

pub lexemes_same : (names : List Text) (ts : List PpTok) → lexemes names ts ≡ map {A = Token} lexeme_of (tokens_of names ts)
lexemes_same names [] = refl
lexemes_same names (t ∷ ts) = ap (λ x. lexeme names t ∷ x) (lexemes_same names ts)

-- an answer of the value is one of the truth
pub answers : (expected result : Result ℤ CondFault) → IsAnswer expected result → IsTruth expected (truth_of result)
answers expected (Ok n) h = ap truth_of h
answers expected (Err OutOfMemory) h = tt
answers expected (Err Syntax) h = ap truth_of h
answers expected (Err DivideByZero) h = ap truth_of h
answers expected (Err Overflow) h = ap truth_of h
answers expected (Err Constant) h = ap truth_of h
answers expected (Err MadeDefined) h = ap truth_of h
