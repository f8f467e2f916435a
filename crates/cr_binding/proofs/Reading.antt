-- Texts of C, read to trees for the worked examples: each is cut into tokens, and parsed while it is bound, so that asks are
-- answered by what is declared.
use Rattle.std.specs.Prelude.{ℕ, zero, suc, ◌+◌, Bool, true, false, ◌&&◌, ◌||◌, not, ◌==◌, nat_le, if◌then◌else◌, Option, Some, None, unwrap_or, List, [], ◌∷◌, ◌++◌, codes, bytes_eq, length, map, position}
use Rattle.std.specs.List.{list_any, slice_split}
use Rattle.cr_base.specs.declared.token.Name.{Name}
use Rattle.cr_base.specs.declared.token.Tok.{Tok}
use Rattle.cr_base.specs.declared.token.TokKind.{TokKind}
use Rattle.cr_base.specs.declared.token.TokKind.TheVariants as kind
use Rattle.cr_base.specs.declared.token.Origin.TheVariants.{At}
use Rattle.cr_base.specs.declared.token.Place.{Place}
use Rattle.cr_grammar.specs.declared.symbols.NonTerm.{NonTerm}
use Rattle.cr_grammar.specs.declared.symbols.NonTerm.TheVariants as n
use Rattle.cr_grammar.specs.declared.symbols.Symbol.{Symbol}
use Rattle.cr_grammar.specs.declared.symbols.Symbol.TheVariants.{Term, Non, Act}
use Rattle.cr_grammar.specs.Grammar.{Row, rule}
use Rattle.cr_ll.specs.declared.guards.Verdict.{Verdict}
use Rattle.cr_ll.specs.declared.guards.Verdict.TheVariants.{Holds, Fails, Asks}
use Rattle.cr_ll.specs.Guards.{Terminal, terminals, token_at, meets, verdict, ask_at}
use Rattle.cr_ll.specs.Derivation.{Item, Asked, Trees, none, token, action, node}
use Rattle.cr_scope.specs.declared.Space.TheVariants as space
use Rattle.cr_binding.specs.Source.{Source}
use Rattle.cr_binding.specs.State.{Declaration, State, start}
use Rattle.cr_binding.specs.Entities.{is_typedef}
use Rattle.cr_binding.specs.Declaring.{meaning_here, declaration_at}
use Rattle.cr_binding.specs.Scoping.{unless_failed}
use Rattle.cr_binding.specs.Actions.{passed, acted}
use Rattle.cr_binding.specs.Binding.{asked, ended, goes_on}

-- ---- tokens

-- a piece of a text, and where it begins
abbrev pub Piece : Type 0
Piece = ℕ × List ℕ

abbrev pub is_word_byte : ℕ → Bool
is_word_byte b = (nat_le 97 b && nat_le b 122) || ((nat_le 65 b && nat_le b 90) || ((nat_le 48 b && nat_le b 57) || b == 95))

abbrev pub ends_in_word : List ℕ → Bool
ends_in_word [] = false
ends_in_word (b ∷ []) = is_word_byte b
ends_in_word (b ∷ bs) = ends_in_word bs

abbrev pub punctuators : List (List ℕ)
punctuators = slice_split (λ b. b == 32) (codes "-> ++ -- += .. ...")

-- a byte goes on with what was read
abbrev pub joins : List ℕ → ℕ → Bool
joins read b = (ends_in_word read && is_word_byte b) || list_any (bytes_eq (read ++ b ∷ [])) punctuators

abbrev pub closed : ℕ → List ℕ → List Piece
closed at [] = []
closed at read = (at, read) ∷ []

-- the pieces that ended, and what was read since: it begins at an offset, and may be a string literal that isn't closed
pub record Scan : Type 0 where
  pub ended : List Piece
  pub at : ℕ
  pub read : List ℕ
  pub quoted : Bool

abbrev pub pieces : Scan → List Piece
pieces c = c.ended ++ closed c.at c.read

abbrev pub longer : Scan → ℕ → Bool → Scan
longer c b quoted = record { ended = c.ended; at = c.at; read = c.read ++ b ∷ []; quoted = quoted }

abbrev pub next_piece : Scan → List ℕ → Bool → Scan
next_piece c read quoted = record { ended = pieces c; at = c.at + length c.read; read = read; quoted = quoted }

abbrev pub behind_blank : Scan → Scan
behind_blank c = record { ended = c.ended; at = c.at + 1; read = []; quoted = false }

abbrev pub scanned_by : (quoted blank joined : Bool) → ℕ → Scan → Scan
scanned_by true blank joined b c = longer c b (not (b == 34))
scanned_by false true joined b c = behind_blank (next_piece c [] false)
scanned_by false false true b c = longer c b false
scanned_by false false false b c = next_piece c (b ∷ []) (b == 34)

abbrev pub scan : Scan → List ℕ → Scan
scan c [] = c
scan c (b ∷ bs) = scan (scanned_by c.quoted (b == 32 || b == 10) (joins c.read b) b c) bs

abbrev pub pieces_of : List ℕ → List Piece
pieces_of text = pieces (scan (record { ended = []; at = 0; read = []; quoted = false }) text)

abbrev pub keywords : List (List ℕ)
keywords =
    slice_split (λ b. b == 32) (codes "auto break case char const continue default do double else enum extern float for goto if inline int long register return short signed sizeof static struct switch typedef union unsigned void volatile while _Alignof _Atomic _Complex _Generic _Static_assert __attribute__ _Thread_local __builtin_offsetof __builtin_va_arg")

abbrev pub kind_of : List ℕ → TokKind
kind_of [] = kind.End
kind_of (b ∷ bs) =
    if b == 34
    then kind.Str
    else (if is_word_byte b then (if nat_le b 57 then kind.Constant else (if list_any (bytes_eq (b ∷ bs)) keywords then kind.Keyword else kind.Ident)) else kind.Punct)

abbrev pub place : ℕ → Place
place at = record { path = record { 0 = 0 }; offset = at }

abbrev pub name_in : List (List ℕ) → List ℕ → Name
name_in texts text = record { 0 = unwrap_or (position (bytes_eq text) texts) 0 }

abbrev pub tok : List (List ℕ) → Piece → Tok
tok texts x = record { kind = kind_of x.1; text = name_in texts x.1; origin = At (place x.0); site = place x.0 }

abbrev pub source_of : List Piece → List (List ℕ) → Source
source_of xs texts = record { texts = texts; tokens = map (tok texts) xs }

abbrev pub with_end : List Piece → List Piece
with_end xs = xs ++ (0, []) ∷ []

abbrev pub source_by : List Piece → Source
source_by xs = source_of xs (map {A = Piece} (λ x. x.1) xs)

abbrev pub source : List ℕ → Source
source text = source_by (with_end (pieces_of text))

-- ---- trees

abbrev pub is_type : Option Declaration → Bool
is_type None = false
is_type (Some d) = is_typedef d

abbrev pub answer : Source → State → ℕ → Bool
answer t s i = is_type (declaration_at s (meaning_here t space.Ordinary i s))

-- the asks that chose an alternative, and its body
pub record Choice : Type 0 where
  pub asks : List Item
  pub body : List Symbol

abbrev pub taken : List Item → Row → Choice
taken asks r = record { asks = asks; body = r.1 }

abbrev pub with_ask : ℕ → Bool → Choice → Choice
with_ask i b c = record { asks = Asked i b ∷ c.asks; body = c.body }

abbrev pub choose_by : Verdict → Source → State → ℕ → Row → Choice → Choice
choose_by Holds t s i r rest = taken [] r
choose_by Fails t s i r rest = rest
choose_by (Asks ahead) t s i r rest =
    if answer t s (ask_at i ahead) then taken (Asked (ask_at i ahead) true ∷ []) r else with_ask (ask_at i ahead) false rest

abbrev pub choose : Source → State → Terminal → Terminal → ℕ → List Row → Choice
choose t s x y i [] = record { asks = []; body = [] }
choose t s x y i (r ∷ rs) = choose_by (verdict r.0 x y) t s i r (choose t s x y i rs)

-- trees, the number of the token behind them, and what is bound
pub record Parsed : Type 0 where
  pub trees : Trees
  pub behind : ℕ
  pub state : State

abbrev pub above : (Trees → Trees) → Parsed → Parsed
above f p = record { trees = f p.trees; behind = p.behind; state = p.state }

abbrev pub passes : Verdict → Parsed → Parsed → Parsed
passes Holds p q = p
passes _ p q = q

-- At most so many symbols in one line from the top are parsed. Where a token doesn't fit, the row is cut.
abbrev pub parse : Source → List Terminal → ℕ → NonTerm → Option ℕ → List Symbol → ℕ → State → Parsed
parse t ts zero m first ss i s = record { trees = none; behind = i; state = s }
parse t ts (suc more) m first [] i s = record { trees = none; behind = i; state = s }
parse t ts (suc more) m first (Term x ∷ ss) i s =
    passes (meets x (token_at ts i))
    (above (token i) (parse t ts more m (Some (unwrap_or first i)) ss (i + 1) (goes_on s (passed t m i s))))
    (record { trees = none; behind = i; state = s })
parse t ts (suc more) m first (Act x ∷ ss) i s =
    above (action x) (parse t ts more m first ss i (goes_on s (acted t m (unwrap_or first s.last) x s)))
parse t ts (suc more) m first (Non k ∷ ss) i s =
    let c = choose t s (token_at ts i) (token_at ts (i + 1)) i (rule k) in
    let below = parse t ts more k None c.body i (asked c.asks s) in
    above (node k c.asks below.trees) (parse t ts more m first ss below.behind (unless_failed s (ended m k below.trees s below.state)))

abbrev pub parsed : Source → Parsed
parsed t = parse t (terminals t.texts t.tokens) 2000 n.Unit None (Non n.Unit ∷ []) 0 start
