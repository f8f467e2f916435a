-- Tokens with the names that are hidden from them, macros, and what a piece of expansion answers.
use Rattle.std.specs.Prelude.{ℕ, ◌-◌, Bool, true, false, ◌&&◌, nat_lt, if◌then◌else◌, List, [], ◌∷◌, ◌++◌, map, bytes_eq, Option, slice_index_or}
use Rattle.std.specs.List.{list_any}
use Rattle.cr_base.specs.declared.token.PpKind.{PpKind}
use Rattle.cr_base.specs.declared.token.PpKind.TheVariants.{Ident, Number, Char, Str, Punct, Stray}
use Rattle.cr_base.specs.declared.token.Place.{Place}
use Rattle.cr_base.specs.declared.token.Origin.{Origin}
use Rattle.cr_base.specs.declared.token.Origin.TheVariants.{At, Made}
use Rattle.cr_base.specs.declared.token.PpTok.{PpTok}
use Rattle.cr_base.specs.declared.cause.Role.{Role}

abbrev pub Text : Type 0
Text = List ℕ

-- A preprocessing token with its text, and the names of macros that are hidden from it: its hide set,
-- in which no name stands twice.
pub record Token : Type 0 where
  pub kind : PpKind
  pub text : Text
  pub origin : Origin
  pub site : Place
  pub line : ℕ
  pub end : ℕ
  pub space : Bool
  pub first : Bool
  pub joined : Bool
  pub hide : List Text

-- A macro with the texts of its parameters, or none where it is object-like, and of its body (C11 6.10.3).
pub record MacroText : Type 0 where
  pub params : Option (List Text)
  pub variadic : Bool
  pub body : List Token

abbrev pub is_ident : PpKind → Bool
is_ident Ident = true
is_ident Number = false
is_ident Char = false
is_ident Str = false
is_ident Punct = false
is_ident Stray = false

abbrev pub is_punct : PpKind → Bool
is_punct Punct = true
is_punct Ident = false
is_punct Number = false
is_punct Char = false
is_punct Str = false
is_punct Stray = false

-- the token is this punctuator
abbrev pub is_mark : Text → Token → Bool
is_mark text t = is_punct t.kind && bytes_eq text t.text

-- the name is among these
abbrev pub has : List Text → Text → Bool
has names name = list_any (bytes_eq name) names

-- a hide set with one more name
abbrev pub with_name : Text → List Text → List Text
with_name name names = if has names name then names else name ∷ names

-- a hide set with all names of another
abbrev pub with_names : List Text → List Text → List Text
with_names names [] = names
with_names names (b ∷ bs) = with_name b (with_names names bs)

-- the names that are in both
abbrev pub both : List Text → List Text → List Text
both [] bs = []
both (a ∷ as1) bs = if has bs a then with_name a (both as1 bs) else both as1 bs

-- What expansion tells beside its output: that one of the rules was used, and for what an identifier
-- with this text and place was taken.
pub data Event : Type 0 where
  Rule : Event
  Taken : Text → Place → Role → Event

abbrev pub taken_at : Role → Token → Origin → List Event
taken_at role t Made = []
taken_at role t (At place) = if is_ident t.kind then Taken t.text place role ∷ [] else []

-- the role of an identifier that has a place
abbrev pub takes : Role → Token → List Event
takes role t = taken_at role t t.origin

-- Why expansion stops, with the site of the macro's name: own names of this project for constraints of C11 6.10.3,
-- and the limit of macro work.
pub data Cause : Type 0 where
  ArgCount : Place → Cause
  OpenCall : Place → Cause
  BadPaste : Place → Cause
  Over : Cause

-- what work gives, the macro work that is left after it, and its events in order; or why it stopped, and its events before that
pub data Answer (A : Type 0) : Type 0 where
  Gave : A → ℕ → List Event → Answer A
  Stopped : Cause → List Event → Answer A

-- work that is done while this much macro work is left
abbrev pub Work : Type 0 → Type 0
Work A = ℕ → Answer A

abbrev pub after : {A : Type 0} → List Event → Answer A → Answer A
after events (Gave a left more) = Gave a left (events ++ more)
after events (Stopped cause more) = Stopped cause (events ++ more)

abbrev pub then_do : {A B : Type 0} → Answer A → (A → Work B) → Answer B
then_do (Gave a left events) f = after events (f a left)
then_do (Stopped cause events) f = Stopped cause events

infixl 10 ◌>>=◌
abbrev pub ◌>>=◌ : {A B : Type 0} → Work A → (A → Work B) → Work B
(m >>= f) left = then_do (m left) f

abbrev pub give : {A : Type 0} → A → Work A
give a left = Gave a left []

abbrev pub fail : {A : Type 0} → Cause → Work A
fail cause left = Stopped cause []

-- these are the events
abbrev pub note : {A : Type 0} → List Event → A → Work A
note events a left = Gave a left events

-- a use of a rule that costs n of macro work
abbrev pub pay : {A : Type 0} → ℕ → A → Work A
pay n a left = if nat_lt left n then Stopped Over [] else Gave a (left - n) (Rule ∷ [])

-- the token with its text and this hide set
abbrev pub token_of : List Text → List Text → PpTok → Token
token_of names hide t = record {
  kind = t.kind;
  text = slice_index_or names t.text.0 [];
  origin = t.origin;
  site = t.site;
  line = t.line;
  end = t.end;
  space = t.space;
  first = t.first;
  joined = t.joined;
  hide = hide;
}

-- tokens as they are fed, with nothing hidden from them
abbrev pub tokens_of : List Text → List PpTok → List Token
tokens_of names = map {A = PpTok} (λ t. token_of names [] t)
