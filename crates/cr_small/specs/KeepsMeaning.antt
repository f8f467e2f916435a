-- What it means that a rename keeps the meaning of a text: the edited text has the same tokens but for the name,
-- the same tree, and each token denotes what it denoted.
use Rattle.std.specs.Prelude.{ℕ, ◌≡◌, ◌↔◌, true, List, map, slice_get, Option, Some, None}
use Rattle.cr_lex.specs.Lexing.{Token, Lexed}
use Rattle.cr_lex.specs.Renaming.{is_among, renamed_token}
use Rattle.cr_small.specs.Tree.{External}
use Rattle.cr_small.specs.SmallForm.{IsWellFormed}
use Rattle.cr_small.specs.Keys.{Key, key_of}
use Rattle.cr_small.specs.declared.binder.Denotation.{Denotation}

-- two tokens denote entities of one key
abbrev pub AreLinked : List Token → List (Option Denotation) → ℕ → ℕ → Type 0
AreLinked tokens denotes i j =
    (d : Denotation) × (e : Denotation) × (slice_get denotes i ≡ Some (Some d)) × (slice_get denotes j ≡ Some (Some e))
    × (k : Key) × (key_of tokens d ≡ Some k) × (key_of tokens e ≡ Some k)

-- The edited text keeps the meaning of the text before.
pub record KeepsMeaning (before after : Lexed) (places old new : List ℕ) : Type 0 where
  -- both are cut without a fault
  pub was_whole : before.fault ≡ None
  pub is_whole : after.fault ≡ None
  -- each token stands, with its spelling, where its bytes were shifted to, but that the places have the new name
  pub tokens : after.tokens ≡ map (renamed_token places old new) before.tokens
  -- each place is that of a token which was spelled as the old name
  pub spelled : (i : ℕ) (t : Token) → slice_get before.tokens i ≡ Some t → is_among places t.at ≡ true → t.text ≡ old
  -- both derive from one tree, and each token denotes the same
  pub tree : List External
  pub denotes : List (Option Denotation)
  pub was_well_formed : IsWellFormed before.tokens tree denotes
  pub is_well_formed : IsWellFormed after.tokens tree denotes
  -- two tokens are linked just where they were
  pub links : (i j : ℕ) → AreLinked before.tokens denotes i j ↔ AreLinked after.tokens denotes i j
