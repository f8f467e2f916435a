-- The tokens and faults of the code as those of the definition.
use Rattle.std.specs.Prelude.{ℕ, ◌≡◌, ◌<◌, List, [], ◌∷◌, ◌++◌, length, slice_index_or, None}
use Rattle.cr_base.specs.NameTable.{with_text}
use Rattle.cr_base.specs.declared.token.PathNo.{PathNo}
use Rattle.cr_base.specs.declared.token.Place.{Place}
use Rattle.cr_base.specs.declared.token.PpTok.{PpTok}
use Rattle.cr_base.specs.declared.token.Origin.TheVariants.{At}
use Rattle.cr_lex.specs.Lexing.{Token, Fault, Lexed, with_token, stop}
use Rattle.cr_lex.specs.Lexing as lexing
use Rattle.cr_lex.specs.declared.fault.LexFault.{LexFault}
use Rattle.cr_lex.specs.declared.fault.LexFault.TheVariants as fault
use Rattle.cr_lex.specs.declared.fault.LexStep.{LexStep}
use Rattle.cr_lex.specs.declared.fault.LexStep.TheVariants as step

-- a token of the code, where the table of names has these texts
abbrev pub seen : List (List ℕ) → PpTok → Token
seen names t = record {
  kind = t.kind;
  text = slice_index_or names t.text.0 [];
  at = t.site.offset;
  end = t.end;
  line = t.line;
  space = t.space;
  first = t.first;
  joined = t.joined;
}

-- a token stands in a file and comes from there, and the table of names gave its text's number
pub record IsOf (file : PathNo) (names : List (List ℕ)) (t : PpTok) : Type 0 where
  pub path : t.site.path ≡ file
  pub origin : t.origin ≡ At t.site
  pub given : t.text.0 < length names

abbrev pub place : PathNo → ℕ → Place
place file at = record { path = file; offset = at }

-- a fault of the definition, in a file
abbrev pub fault_in : PathNo → Fault → LexFault
fault_in file (lexing.OpenComment at) = fault.OpenComment (place file at)
fault_in file (lexing.Trigraph at) = fault.Trigraph (place file at)

-- a table of names with the texts of some tokens put into it, one after another
abbrev pub with_texts : List (List ℕ) → List Token → List (List ℕ)
with_texts names [] = names
with_texts names (t ∷ ts) = with_texts (with_text names t.text) ts

abbrev pub first_of : List Token → List Token
first_of [] = []
first_of (t ∷ ts) = t ∷ []

-- A step gives the first of what was left: a token with what is left then, the end, or a fault.
abbrev pub IsStep : PathNo → List (List ℕ) → Lexed → Lexed → LexStep → Type 0
IsStep file names old new (step.Token t) = (old ≡ with_token (seen names t) new) × IsOf file names t
IsStep file names old new step.End = (old ≡ record { tokens = []; fault = None }) × (new ≡ old)
IsStep file names old new (step.Fault f) = (s : Fault) × (old ≡ stop s) × (f ≡ fault_in file s) × (new ≡ old)

-- the texts are the old ones and further ones behind them
abbrev pub Extends : List (List ℕ) → List (List ℕ) → Type 0
Extends old new = (more : List (List ℕ)) × (new ≡ old ++ more)
