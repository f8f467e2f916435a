-- The tokens of a translation unit, as far as binding reads them.
use Rattle.std.specs.Prelude.{ℕ, Bool, eqb, List, slice_index_or, codes}
use Rattle.std.specs.List.{starts_with}
use Rattle.cr_base.specs.declared.token.Name.{Name}
use Rattle.cr_base.specs.declared.token.Tok.{Tok}
use Rattle.cr_base.specs.declared.token.TokKind.TheVariants as kind
use Rattle.cr_base.specs.declared.token.Origin.TheVariants.{Made}
use Rattle.cr_ll.specs.Guards.{terminal, is_name, is_string}

-- the tokens, and the texts of names by their numbers
pub record Source : Type 0 where
  pub texts : List (List ℕ)
  pub tokens : List Tok

abbrev pub no_token : Tok
no_token = record { kind = kind.End; text = record { 0 = 0 }; origin = Made; site = record { path = record { 0 = 0 }; offset = 0 } }

abbrev pub token_of : Source → ℕ → Tok
token_of t i = slice_index_or t.tokens i no_token

-- the spelling of a token, as a name and as a text
abbrev pub name_at : Source → ℕ → Name
name_at t i = (token_of t i).text

abbrev pub text_at : Source → ℕ → List ℕ
text_at t i = (terminal t.texts (token_of t i)).text

abbrev pub is_identifier : Source → ℕ → Bool
is_identifier t i = is_name (token_of t i).kind

abbrev pub is_string_literal : Source → ℕ → Bool
is_string_literal t i = is_string (token_of t i).kind

-- What the compiler supplies when it is called without a declaration (our own rule).
abbrev pub is_built_in : List ℕ → Bool
is_built_in text = starts_with eqb text (codes "__builtin_")
