-- What a machine of macro expansion still gives: the calls that wait for their arguments, and the pieces that are left.
use Rattle.std.specs.Prelude.{ℕ, zero, suc, Bool, true, false, List, [], ◌∷◌, ◌++◌, length, codes}
use Rattle.cr_base.specs.declared.token.PpKind.TheVariants.{Punct}
use Rattle.cr_macros.specs.Tokens.{Text, Token, MacroText, Event, ArgCount, OpenCall, BadPaste, Over, Answer, Gave, Stopped, Work, ◌>>=◌}
use Rattle.cr_macros.specs.Substitution.{Args, body_items, subst}
use Rattle.cr_macros.specs.Expansion.{Table, expand, expanded, put_in, Use, Keep, Predefined, Object, Call, Wrong, use_of}

-- A piece of what is left: a token, or the end of an argument that is expanded by itself.
pub data Piece : Type 0 where
  Stands : Token → Piece
  Ends : Piece

-- the tokens before the first end: the list that is being expanded
abbrev pub current : List Piece → List Token
current [] = []
current (Stands t ∷ ps) = t ∷ current ps
current (Ends ∷ ps) = []

-- the pieces behind the first end
abbrev pub behind : List Piece → List Piece
behind [] = []
behind (Stands t ∷ ps) = behind ps
behind (Ends ∷ ps) = ps

-- tokens before the pieces
abbrev pub before : List Token → List Piece → List Piece
before [] ps = ps
before (t ∷ ts) ps = Stands t ∷ before ts ps

-- the first n lists
abbrev pub first_lists : ℕ → List Piece → Args
first_lists zero ps = []
first_lists (suc n) ps = current ps ∷ first_lists n (behind ps)

-- the pieces behind the first n lists
abbrev pub behind_lists : ℕ → List Piece → List Piece
behind_lists zero ps = ps
behind_lists (suc n) ps = behind_lists n (behind ps)

-- A call that waits for its arguments (C11 6.10.3.1): the macro's name and what it means, the names that are hidden
-- from what is put in, the arguments as they are, those that are expanded already, what the argument that is being
-- expanded has given so far, and how many arguments come behind that one.
pub record Waiting : Type 0 where
  pub name : Token
  pub means : MacroText
  pub hide : List Text
  pub raw : Args
  pub done : Args
  pub out : List Token
  pub more : ℕ

-- what is put in for a macro's name, where the work allows it
abbrev pub put_for : Token → MacroText → Args → Args → List Text → Work (List Token)
put_for name m raw full hide = subst name m raw full hide >>= λ ts. put_in ts

-- A call goes on with what is left of its argument's expansion and with the pieces behind that argument: the
-- other arguments are expanded, what is put in stands before what is behind the call, and that goes on.
abbrev pub resumes : {A : Type 0} → Table → (List Piece → Work A) → Waiting → List Piece → List Token → Work A
resumes table go w ps out =
    expanded (expand table) (body_items w.means) (suc (length w.done)) (first_lists w.more ps)
    >>= λ fulls. put_for w.name w.means w.raw (w.done ++ (w.out ++ out) ∷ fulls) w.hide
    >>= λ ts. go (before ts (behind_lists w.more ps))

-- What the calls, the innermost first, and the pieces still give, where `last` is done with the list that no call waits for:
-- the first list is expanded, then the innermost call goes on, and so on outwards.
abbrev pub goes_on_by : {A : Type 0} → (List Token → Work A) → Table → List Waiting → List Piece → Work A
goes_on_by last table [] ps = last (current ps)
goes_on_by last table (w ∷ ws) ps = expand table (current ps) >>= resumes table (goes_on_by last table ws) w (behind ps)

-- that list is expanded too
abbrev pub goes_on : Table → List Waiting → List Piece → Work (List Token)
goes_on table = goes_on_by (expand table) table

-- an answer that comes behind these tokens and events
abbrev pub leads : List Token → List Event → Answer (List Token) → Answer (List Token)
leads out events (Gave ts left more) = Gave (out ++ ts) left (events ++ more)
leads out events (Stopped cause more) = Stopped cause (events ++ more)

-- the use is that of a call without its `)`
abbrev pub is_open : Use → Bool
is_open Keep = false
is_open (Predefined kind text) = false
is_open (Object m) = false
is_open (Call m args close after) = false
is_open (Wrong (ArgCount site)) = false
is_open (Wrong (OpenCall site)) = true
is_open (Wrong (BadPaste site)) = false
is_open (Wrong Over) = false

-- a `(` in the place of a token
abbrev pub opening : Token → Token
opening t = record t { kind = Punct; text = codes "(" }

-- What a token means before a rest can't be told without more tokens: with the ones that are there it is a call without its
-- `)`; or none are there, and it would be a call if a `(` came next.
abbrev pub wants_more : (List Token → Use) → Token → List Token → Bool
wants_more use_before t [] = is_open (use_before (opening t ∷ []))
wants_more use_before t (u ∷ rest) = is_open (use_before (u ∷ rest))

-- The next use of a rule on a list can't be told without more tokens (C11 6.10.3p10).
abbrev pub needs_more : Table → List Token → Bool
needs_more table [] = true
needs_more table (t ∷ rest) = wants_more (use_of table t) t rest
