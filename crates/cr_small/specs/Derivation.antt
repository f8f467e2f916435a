-- The derivation of a list of tokens, where it has one.
use Rattle.std.specs.Prelude.{◌≡◌, List, Option, Some, None}
use Rattle.cr_lex.specs.Lexing.{Token}
use Rattle.cr_small.specs.Tree.{External, Derives, parts}
use Rattle.cr_small.specs.declared.grammar.Part.{Part}

-- what each token does in a tree that derives the tokens; nothing where no tree derives them
abbrev pub HasParts : List Token → Option (List Part) → Type 0
HasParts tokens None = (tree : List External) → Derives tokens tree → ⊥
HasParts tokens (Some does) = (tree : List External) × Derives tokens tree × (does ≡ parts tree)
