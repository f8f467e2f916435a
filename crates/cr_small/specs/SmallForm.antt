-- The texts of the small form, and what their tokens denote.
use Rattle.std.specs.Prelude.{◌≡◌, true, List, Option, Some, None}
use Rattle.cr_lex.specs.Lexing.{Token, Lexed}
use Rattle.cr_small.specs.Terminals.{has_plain_names}
use Rattle.cr_small.specs.Tree.{External, Derives}
use Rattle.cr_small.specs.Resolution.{resolution}
use Rattle.cr_small.specs.declared.binder.Denotation.{Denotation}

-- A tree derives the tokens, and each name in it is declared before and not declared twice: so each token
-- denotes what is listed.
abbrev pub IsWellFormed : List Token → List External → List (Option Denotation) → Type 0
IsWellFormed tokens tree denotes = Derives tokens tree × (resolution tokens tree ≡ Some denotes)

-- What a text is cut into is without a fault, and its tokens are those of a well-formed text in which no name begins
-- with an underscore. No line is a directive, since `#` is no terminal.
abbrev pub IsSmallForm : Lexed → List (Option Denotation) → Type 0
IsSmallForm text denotes =
    (text.fault ≡ None) × (has_plain_names text.tokens ≡ true) × ((tree : List External) × IsWellFormed text.tokens tree denotes)

-- what each token denotes; nothing where the text is not of the small form
abbrev pub Resolves : Lexed → Option (List (Option Denotation)) → Type 0
Resolves text None = (denotes : List (Option Denotation)) → IsSmallForm text denotes → ⊥
Resolves text (Some denotes) = IsSmallForm text denotes

-- The tokens of a text of the small form denote one thing.
abbrev pub DenotesOne : Type 0
DenotesOne = (text : Lexed) (one other : List (Option Denotation)) → IsSmallForm text one → IsSmallForm text other → one ≡ other
