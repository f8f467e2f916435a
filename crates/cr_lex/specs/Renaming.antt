-- A file with a new name at places of an old one, and its tokens.
use Rattle.std.specs.Prelude.{ℕ, ◌≡◌, Bool, true, false, ◌&&◌, ◌||◌, ◌==◌, List, [], ◌∷◌, length, map, bytes_eq, codes, if◌then◌else◌}
use Rattle.std.specs.List.{list_any, AllByRecursion, Contains}
use Rattle.std.specs.Option.{option_map}
use Rattle.cr_base.specs.Names.{is_identifier}
use Rattle.cr_base.specs.Substitution.{Rise, substituted, shifted}
use Rattle.cr_base.specs.declared.token.PpKind.TheVariants.{Ident}
use Rattle.cr_lex.specs.Joins.{Cell}
use Rattle.cr_lex.specs.Lexing.{Token, Fault, OpenComment, Trigraph, Lexed, lexed}
use Rattle.cr_lex.specs.Joins.{rest}

-- an offset is one of these
abbrev pub is_among : List ℕ → ℕ → Bool
is_among offsets at = list_any (λ o. o == at) offsets

-- `L`, `u` or `U`
abbrev pub is_wide_prefix : List ℕ → Bool
is_wide_prefix name = bytes_eq name (codes "L") || bytes_eq name (codes "u") || bytes_eq name (codes "U")

-- a name with which a literal may begin, and a quote of such a literal (C11 6.4.4.4, 6.4.5)
abbrev pub could_prefix : List ℕ → ℕ → Bool
could_prefix name quote = (is_wide_prefix name && (quote == 39 || quote == 34)) || (bytes_eq name (codes "u8") && quote == 34)

-- the first of some cells is a quote that a name could prefix
abbrev pub is_before_quote : List ℕ → List Cell → Bool
is_before_quote name [] = false
is_before_quote name (c ∷ cs) = could_prefix name c.byte

-- A new name can't be spelled in the place of a token that ends at an offset: a join is inside, or the next byte in
-- no join is a quote that the new name could prefix (own rule of this project).
abbrev pub is_unspellable : List ℕ → List ℕ → Bool → ℕ → Bool
is_unspellable bytes new joined end = joined || is_before_quote new (rest bytes end)

abbrev pub is_refused : List ℕ → List ℕ → Token → Bool
is_refused bytes new t = is_unspellable bytes new t.joined t.end

-- the token is an identifier spelled old, in whose place the new name can be spelled
pub record IsRenamable (bytes old new : List ℕ) (t : Token) : Type 0 where
  pub kind : t.kind ≡ Ident
  pub text : t.text ≡ old
  pub spelling : is_refused bytes new t ≡ false

-- at an offset stands such a token
abbrev pub IsPlace : List ℕ → List ℕ → List ℕ → ℕ → Type 0
IsPlace bytes old new offset = (t : Token) × Contains (lexed bytes).tokens t × (t.at ≡ offset) × IsRenamable bytes old new t

-- a token with its spelling changed at the offsets, where it stands afterwards
abbrev pub renamed_token : List ℕ → List ℕ → List ℕ → Token → Token
renamed_token offsets old new t = record t {
  text = if is_among offsets t.at then new else t.text;
  at = shifted offsets (length old) (length new) t.at;
  end = shifted offsets (length old) (length new) t.end;
}

abbrev pub shifted_fault : (ℕ → ℕ) → Fault → Fault
shifted_fault shift (OpenComment at) = OpenComment (shift at)
shifted_fault shift (Trigraph at) = Trigraph (shift at)

-- tokens and fault of a file with spellings changed and places shifted
abbrev pub renamed : List ℕ → List ℕ → List ℕ → Lexed → Lexed
renamed offsets old new l = record {
  tokens = map (renamed_token offsets old new) l.tokens;
  fault = option_map (shifted_fault (shifted offsets (length old) (length new))) l.fault;
}

-- Where the old name is replaced at places of identifiers that are spelled so, and the new name can be spelled there,
-- the tokens are the old ones with spellings changed at these places and places shifted, and the fault is the old one.
abbrev pub KeepsLexing : Type 0
KeepsLexing =
    (bytes old new : List ℕ) (offsets : List ℕ) → is_identifier old ≡ true → is_identifier new ≡ true → Rise 0 offsets (length old) (length bytes)
    → AllByRecursion (IsPlace bytes old new) offsets
    → lexed (substituted offsets (length old) new bytes) ≡ renamed offsets old new (lexed bytes)
