-- The definitions compute.
use Rattle.std.specs.Prelude.{◌≡◌, ℕ, Bool, true, false, List, [], ◌∷◌, ◌++◌, map, codes, Some, None, refl, ◌==◌}
use Rattle.std.specs.List.{list_all, slice_split}
use Rattle.cr_base.specs.declared.token.PpKind.{PpKind}
use Rattle.cr_base.specs.declared.token.PpKind.TheVariants.{Ident, Number, Char, Punct, Stray}
use Rattle.cr_lex.specs.Spellings.{token_kind, part_of, is_punctuator}
use Rattle.cr_lex.specs.Joins.{cells}
use Rattle.cr_lex.specs.Lexing.{Lexed, OpenComment, Trigraph, longest, cut, lexed}

abbrev shown : Lexed → List (ℕ × List ℕ × PpKind)
shown l = map {B = ℕ × List ℕ × PpKind} (λ t. (t.at, t.text, t.kind)) l.tokens

plus : shown (lexed (codes "a+++b")) ≡ (0, codes "a", Ident) ∷ (1, codes "++", Punct) ∷ (3, codes "+", Punct) ∷ (4, codes "b", Ident) ∷ []
unfolding lexed cells cut longest part_of token_kind
plus = refl

number : shown (lexed (codes "0x1e+2")) ≡ (0, codes "0x1e+2", Number) ∷ []
unfolding lexed cells cut longest part_of token_kind
number = refl

u8_char : shown (lexed (codes "u8'a'")) ≡ (0, codes "u8", Ident) ∷ (2, codes "'a'", Char) ∷ []
unfolding lexed cells cut longest part_of token_kind
u8_char = refl

joined : map {B = ℕ × ℕ × Bool × List ℕ} (λ t. (t.at, t.end, t.joined, t.text)) (lexed (codes "fo" ++ (92 ∷ 10 ∷ []) ++ codes "o.")).tokens ≡ (0, 5, true, codes "foo") ∷ (5, 6, false, codes ".") ∷ []
unfolding lexed cells cut longest part_of token_kind
joined = refl

stray : shown (lexed (34 ∷ codes "ab")) ≡ (0, 34 ∷ [], Stray) ∷ (1, codes "ab", Ident) ∷ []
unfolding lexed cells cut longest part_of token_kind
stray = refl

dot : shown (lexed (codes ".5.")) ≡ (0, codes ".5.", Number) ∷ []
unfolding lexed cells cut longest part_of token_kind
dot = refl

open_comment : lexed (codes "a /* x") ≡ record { tokens = record { kind = Ident; text = codes "a"; at = 0; end = 1; line = 1; space = true; first = true; joined = false } ∷ []; fault = Some (OpenComment 2) }
unfolding lexed cells cut longest part_of token_kind
open_comment = refl

trigraph : shown (lexed (codes "a ??= b")) ≡ (0, codes "a", Ident) ∷ []
unfolding lexed cells cut longest part_of token_kind
trigraph = refl

trigraph-fault : (lexed (codes "a ??= b")).fault ≡ Some (Trigraph 2)
unfolding lexed cells cut longest part_of token_kind
trigraph-fault = refl

flags : map {B = ℕ × List ℕ × ℕ × Bool × Bool} (λ t. (t.at, t.text, t.line, t.first, t.space)) (lexed (codes "/* a */ x" ++ (10 ∷ []) ++ codes "..%:%: //y" ++ (10 ∷ []) ++ codes "L'\\n'u8" ++ (34 ∷ 34 ∷ []))).tokens
    ≡ (8, codes "x", 1, true, true) ∷ (10, codes ".", 2, true, true) ∷ (11, codes ".", 2, false, false) ∷ (12, codes "%:%:", 2, false, false)
    ∷ (21, codes "L'\\n'", 3, true, true) ∷ (26, codes "u8" ++ (34 ∷ 34 ∷ []), 3, false, false) ∷ []
unfolding lexed cells cut longest part_of token_kind
flags = refl

-- trigraphs in a string, behind a `?`, with a join inside (none), and in comments (none)
trigraph-in-string : lexed (34 ∷ codes "a??=b" ++ 34 ∷ []) ≡ record { tokens = []; fault = Some (Trigraph 2) }
unfolding lexed cells cut longest part_of token_kind
trigraph-in-string = refl

trigraph-late : shown (lexed (codes "a???=b")) ≡ (0, codes "a", Ident) ∷ (1, codes "?", Punct) ∷ []
unfolding lexed cells cut longest part_of token_kind
trigraph-late = refl

trigraph-joined : (lexed (codes "?" ++ (92 ∷ 10 ∷ []) ++ codes "?=")).fault ≡ None
unfolding lexed cells cut longest part_of token_kind
trigraph-joined = refl

trigraph-in-comment : (lexed (codes "/*??=*/ // ??/" ++ (10 ∷ []) ++ codes "x")).fault ≡ None
unfolding lexed cells cut longest part_of token_kind
trigraph-in-comment = refl

-- a comment that begins and ends over joins
comment-joined : shown (lexed (codes "a/" ++ (92 ∷ 13 ∷ 10 ∷ []) ++ codes "* x *" ++ (92 ∷ 10 ∷ []) ++ codes "/b")) ≡ (0, codes "a", Ident) ∷ (13, codes "b", Ident) ∷ []
unfolding lexed cells cut longest part_of token_kind
comment-joined = refl

-- joins between tokens belong to none
between : map {B = ℕ × ℕ × Bool} (λ t. (t.at, t.end, t.space)) (lexed (codes "int " ++ (92 ∷ 10 ∷ []) ++ codes "fo" ++ (92 ∷ 10 ∷ []) ++ codes "o" ++ (92 ∷ 10 ∷ []) ++ codes ";")).tokens
    ≡ (0, 3, true) ∷ (6, 11, true) ∷ (13, 14, false) ∷ []
unfolding lexed cells cut longest part_of token_kind
between = refl

-- all punctuators of C11 6.4.6
all : list_all is_punctuator (slice_split (λ b. b == 32) (codes "[ ] ( ) { } . -> ++ -- & * + - ~ ! / % << >> < > <= >= == != ^ | && || ? : ; ... = *= /= %= += -= <<= >>= &= ^= |= , # ## <: :> <% %> %: %:%:")) ≡ true
all = refl
