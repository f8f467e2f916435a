-- What preprocessing does, and how it ends: a part of it is a task, in which things happen until it is done or ends
-- the unit.
use Rattle.std.specs.Prelude.{ℕ, ◌-◌, nat_lt, if◌then◌else◌, List, [], ◌∷◌, ◌++◌, map, length, Option}
use Rattle.cr_base.specs.declared.token.Place.{Place}
use Rattle.cr_base.specs.declared.cause.Role.{Role}
use Rattle.cr_base.specs.declared.cause.IllCause.{IllCause}
use Rattle.cr_base.specs.declared.cause.IllCause.TheVariants as cause
use Rattle.cr_macros.specs.Tokens.{Text, Token, MacroText, Event as Telling, Rule, Taken, takes, Cause, ArgCount, OpenCall, BadPaste, Over as MacrosOver, Answer, Gave, Stopped, Work}

-- what a unit can have too much of: final tokens, macro work, reading, include levels
pub data Limit : Type 0 where
  Tokens : Limit
  Macros : Limit
  Reading : Limit
  Includes : Limit

-- How a unit ends that isn't preprocessed whole: it is ill at a place, it is over a limit, or files are wanted of which
-- nothing is known.
pub data End : Type 0 where
  Ill : IllCause → Place → End
  Over : Limit → End
  Needs : List Text → End

-- What happens.
pub data Event : Type 0 where
  -- a preprocessing token is taken from a file
  Took : Event
  -- a file is opened
  Opened : Text → Event
  -- a file is looked for at these paths
  Looked : List Text → Event
  -- a `define` line is carried out: the token of the name, and its macro
  Defined : Token → MacroText → Event
  -- a rule of expansion is used, or an identifier that has a place is taken for something
  Told : Telling → Event
  -- a token is final
  Final : Token → Event

-- The macros, the files that aren't opened again, and what is left of macro work, of reading and of room for tokens.
pub record State : Type 0 where
  pub macro : Text → Option MacroText
  pub once : List Text
  pub work : ℕ
  pub reading : ℕ
  pub room : ℕ

pub data Reply (A : Type 0) : Type 0 where
  Goes : A → State → List Event → Reply A
  Ends : End → List Event → Reply A

abbrev pub Task : Type 0 → Type 0
Task A = State → Reply A

-- what a task gives that gives nothing
pub data Nothing : Type 0 where
  Done : Nothing

abbrev pub behind : {A : Type 0} → List Event → Reply A → Reply A
behind events (Goes a s more) = Goes a s (events ++ more)
behind events (Ends end more) = Ends end (events ++ more)

abbrev pub go_on : {A B : Type 0} → Reply A → (A → Task B) → Reply B
go_on (Goes a s events) f = behind events (f a s)
go_on (Ends end events) f = Ends end events

-- one task, and then another one with what it gave
infixl 10 ◌>>>◌
abbrev pub ◌>>>◌ : {A B : Type 0} → Task A → (A → Task B) → Task B
(m >>> f) s = go_on (m s) f

abbrev pub only : {A : Type 0} → A → Task A
only a s = Goes a s []

abbrev pub ready : Task Nothing
ready = only Done

abbrev pub ends : {A : Type 0} → End → Task A
ends end s = Ends end []

abbrev pub tell : List Event → Task Nothing
tell events s = Goes Done s events

abbrev pub look : Task State
look s = Goes s s []

abbrev pub change : (State → State) → Task Nothing
change f s = Goes Done (f s) []

-- the role of an identifier that has a place
abbrev pub marks : Role → Token → List Event
marks role t = map Told (takes role t)

-- so many tokens and files are read
abbrev pub reads : ℕ → List Event → Task Nothing
reads n events s = if nat_lt s.reading n then Ends (Over Reading) [] else Goes Done (record s { reading = s.reading - n }) events

-- these are final tokens
abbrev pub gives : List Token → Task Nothing
gives ts s = if nat_lt s.room (length ts) then Ends (Over Tokens) [] else Goes Done (record s { room = s.room - length ts }) (map Final ts)

abbrev pub end_of : Cause → End
end_of (ArgCount site) = Ill cause.ArgCount site
end_of (OpenCall site) = Ill cause.OpenCall site
end_of (BadPaste site) = Ill cause.BadPaste site
end_of MacrosOver = Over Macros

-- a role is told only where something is told behind it
abbrev pub role_before : Telling → List Telling → List Telling
role_before noted [] = []
role_before noted (e ∷ told) = noted ∷ e ∷ told

-- What is told of expansion that stops: what was noted up to its last use of a rule. A use tells its roles and then its rule, so
-- of a use that fails nothing is told.
abbrev pub told_by_uses : List Telling → List Telling
told_by_uses [] = []
told_by_uses (Rule ∷ events) = Rule ∷ told_by_uses events
told_by_uses (Taken text place role ∷ events) = role_before (Taken text place role) (told_by_uses events)

abbrev pub from_answer : {A : Type 0} → State → Answer A → Reply A
from_answer s (Gave a left events) = Goes a (record s { work = left }) (map Told events)
from_answer s (Stopped why events) = Ends (end_of why) (map Told (told_by_uses events))

-- work of macro expansion
abbrev pub does : {A : Type 0} → Work A → Task A
does m s = from_answer s (m s.work)

abbrev pub moved : Place → End → End
moved place (Ill why site) = Ill why place
moved place (Over limit) = Over limit
moved place (Needs paths) = Needs paths

abbrev pub at_place : {A : Type 0} → Place → Reply A → Reply A
at_place place (Goes a s events) = Goes a s events
at_place place (Ends end events) = Ends (moved place end) events

-- a cause that is found in a directive stands at its `#`
abbrev pub in_directive : {A : Type 0} → Place → Task A → Task A
in_directive hash m s = at_place hash (m s)

abbrev pub events_of : {A : Type 0} → Reply A → List Event
events_of (Goes a s events) = events
events_of (Ends end events) = events
