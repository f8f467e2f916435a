-- A text of the small form as the code holds it.
use Rattle.std.specs.Prelude.{ℕ, ◌≡◌, List, length, Option, Some, None}
use Rattle.cr_lex.specs.Lexing.{lexed}
use Rattle.cr_small.specs.SmallForm.{IsSmallForm, Resolves}
use Rattle.cr_small.specs.Seen.{tokens_of}
use Rattle.cr_small.specs.declared.text.SmallText.{SmallText}

-- It holds the tokens of these bytes, and what each of them denotes.
pub record IsTextOf (bytes : List ℕ) (text : SmallText) : Type 0 where
  pub tokens : tokens_of text ≡ (lexed bytes).tokens
  pub small : IsSmallForm (lexed bytes) text.denotes
  pub each : length text.denotes ≡ length text.tokens

-- the bytes as a text of the small form, or nothing where they aren't one
abbrev pub Reads : List ℕ → Option SmallText → Type 0
Reads bytes None = Resolves (lexed bytes) None
Reads bytes (Some text) = IsTextOf bytes text
