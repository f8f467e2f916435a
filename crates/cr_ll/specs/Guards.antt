-- When a guard holds of the next two tokens, and which alternative a node takes.
use Rattle.std.specs.Prelude.{ℕ, zero, suc, ◌+◌, ◌<◌, Bool, true, false, cond, not, ◌&&◌, List, [], ◌∷◌, ◌==◌, map, bytes_eq, slice_index_or}
use Rattle.std.specs.List.{list_any, slice_split}
use Rattle.cr_base.specs.declared.token.TokKind.{TokKind}
use Rattle.cr_base.specs.declared.token.TokKind.TheVariants as k
use Rattle.cr_base.specs.declared.token.Tok.{Tok}
use Rattle.cr_grammar.specs.declared.symbols.Term.{Term}
use Rattle.cr_grammar.specs.declared.symbols.Term.TheVariants as t
use Rattle.cr_grammar.specs.declared.symbols.Guard.{Guard}
use Rattle.cr_grammar.specs.declared.symbols.Guard.TheVariants.{Else, First, Both}
use Rattle.cr_grammar.specs.Grammar.{Row}
use Rattle.cr_grammar.specs.Spellings.{spelled}
use Rattle.cr_ll.specs.declared.guards.Lexeme.{Lexeme}
use Rattle.cr_ll.specs.declared.guards.Verdict.{Verdict}
use Rattle.cr_ll.specs.declared.guards.Verdict.TheVariants.{Holds, Fails, Asks}
use Rattle.cr_ll.specs.declared.guards.Choice.{Choice}
use Rattle.cr_ll.specs.declared.guards.Choice.TheVariants.{Nothing, Takes, Waits}

-- what the grammar sees of a token (C11 6.4): its kind and its spelling
pub record Terminal : Type 0 where
  pub kind : TokKind
  pub text : List ℕ

-- the tokens with their texts; a number that the table of texts doesn't hold has the empty text
abbrev pub terminal : List (List ℕ) → Tok → Terminal
terminal names x = record { kind = x.kind; text = slice_index_or names x.text.0 [] }

abbrev pub terminals : List (List ℕ) → List Tok → List Terminal
terminals names = map (terminal names)

abbrev pub seen : Lexeme → Terminal
seen x = record { kind = x.kind; text = x.text.now }

-- the token at a place; behind the end there is nothing but the end
abbrev pub the_end : Terminal
the_end = record { kind = k.End; text = [] }

abbrev pub token_at : List Terminal → ℕ → Terminal
token_at ts i = slice_index_or ts i the_end

-- what stands behind the ask
abbrev pub holds_if : Bool → Verdict
holds_if b = cond b Holds Fails

abbrev pub asks_if : Bool → ℕ → Verdict → Verdict
asks_if b ahead otherwise = cond b (Asks ahead) otherwise

abbrev pub is_name : TokKind → Bool
is_name k.Ident = true
is_name _ = false

abbrev pub is_constant : TokKind → Bool
is_constant k.Constant = true
is_constant _ = false

abbrev pub is_string : TokKind → Bool
is_string k.Str = true
is_string _ = false

abbrev pub is_end : TokKind → Bool
is_end k.End = true
is_end _ = false

abbrev pub is_spelled_kind : TokKind → Bool
is_spelled_kind k.Keyword = true
is_spelled_kind k.Punct = true
is_spelled_kind _ = false

-- whether a text is one of the words, which blanks part
abbrev pub is_among : List ℕ → List ℕ → Bool
is_among text words = list_any (λ word. bytes_eq word text) (slice_split (λ b. b == 32) words)

-- a keyword or punctuator that the word of the table stands for
abbrev pub is_spelled : Term → Terminal → Bool
is_spelled t x = is_spelled_kind x.kind && is_among x.text (spelled t)

-- whether a word of the table fits a token; ahead: which of the next two it is
abbrev pub fits : Term → Terminal → ℕ → Verdict
fits t.End x ahead = holds_if (is_end x.kind)
fits t.NotEnd x ahead = holds_if (not (is_end x.kind))
fits t.Identifier x ahead = holds_if (is_name x.kind)
fits t.Constant x ahead = holds_if (is_constant x.kind)
fits t.StringLiteral x ahead = holds_if (is_string x.kind)
fits t.TypedefName x ahead = asks_if (is_name x.kind) ahead Fails
fits t.Specifier x ahead = asks_if (is_name x.kind) ahead (holds_if (is_spelled t.Specifier x))
fits t x ahead = holds_if (is_spelled t x)

-- whether a token may be passed where the table has this word; the end is never passed
abbrev pub meets : Term → Terminal → Verdict
meets t x = cond (is_end x.kind) Fails (fits t x 0)

-- a guard of two words asks for the second only where the first holds
abbrev pub after_first : Verdict → Verdict → Verdict
after_first Holds second = second
after_first Fails second = Fails
after_first (Asks n) second = Asks n

abbrev pub verdict : Guard → Terminal → Terminal → Verdict
verdict Else x y = Holds
verdict (First a) x y = fits a x 0
verdict (Both a b) x y = after_first (fits a x 0) (fits b y 1)

-- what a guard says of its own row, and else the rows after it
abbrev pub chosen : Verdict → ℕ → Choice → Choice
chosen Holds n rest = Takes n
chosen Fails n rest = rest
chosen (Asks ahead) n rest = Waits n ahead

-- the first alternative whose guard doesn't fail; n is the number of the first of them
abbrev pub choice : ℕ → List Row → Terminal → Terminal → Choice
choice n [] x y = Nothing
choice n (r ∷ rs) x y = chosen (verdict r.0 x y) n (choice (n + 1) rs x y)

-- the place of the token that is asked
abbrev pub ask_at : ℕ → ℕ → ℕ
ask_at i zero = i
ask_at i (suc n) = i + 1

-- the number that a choice names is one of n
abbrev pub IsWithin : Choice → ℕ → Type 0
IsWithin Nothing n = Unit {0}
IsWithin (Takes k) n = k < n
IsWithin (Waits k ahead) n = k < n
