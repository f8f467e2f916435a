-- Tokens and macros with a new name in the place of an old one, and what that does to their expansion.
use Rattle.std.specs.Prelude.{◌≡◌, ℕ, Bool, true, false, ◌&&◌, if◌then◌else◌, List, map, bytes_eq, Some, None, option_map}
use Rattle.std.specs.List.{AllByRecursion}
use Rattle.cr_base.specs.Names.{is_reserved}
use Rattle.cr_base.specs.declared.token.PpKind.{PpKind}
use Rattle.cr_base.specs.declared.token.Place.{Place}
use Rattle.cr_base.specs.declared.token.Origin.{Origin}
use Rattle.cr_base.specs.declared.token.Origin.TheVariants.{At, Made}
use Rattle.cr_base.specs.declared.cause.Role.TheVariants.{Dropped, Final}
use Rattle.cr_macros.specs.Tokens.{Text, Token, MacroText, Event, Rule, Taken, is_ident, Gave}
use Rattle.cr_macros.specs.Substitution.{param}
use Rattle.cr_macros.specs.Expansion.{Table, expand}

-- A name, the one that takes its place, the places at which it does, and where each place is afterwards.
pub record Renaming : Type 0 where
  pub is_place : Place → Bool
  pub old : Text
  pub new : Text
  pub shift : Place → Place

-- the old name at one of the places
abbrev pub is_at : Renaming → Text → Place → Bool
is_at r text place = r.is_place place && bytes_eq text r.old

abbrev pub is_old : Renaming → PpKind → Text → Origin → Bool
is_old r kind text Made = false
is_old r kind text (At place) = is_ident kind && is_at r text place

-- the token is an identifier spelled old at one of the places
abbrev pub is_renamed : Renaming → Token → Bool
is_renamed r t = is_old r t.kind t.text t.origin

abbrev pub shifted_origin : Renaming → Origin → Origin
shifted_origin r Made = Made
shifted_origin r (At place) = At (r.shift place)

-- the offset behind a token of this origin
abbrev pub shifted_end : Renaming → ℕ → Origin → ℕ
shifted_end r end Made = end
shifted_end r end (At place) = (r.shift (record place { offset = end })).offset

-- a token that isn't renamed, where it stands afterwards
abbrev pub shifted : Renaming → Token → Token
shifted r t = record t { origin = shifted_origin r t.origin; site = r.shift t.site; end = shifted_end r t.end t.origin }

abbrev pub renamed : Renaming → Token → Token
renamed r t = record t {
  text = if is_renamed r t then r.new else t.text;
  origin = shifted_origin r t.origin;
  site = r.shift t.site;
  end = shifted_end r t.end t.origin;
}

abbrev pub all_renamed : Renaming → List Token → List Token
all_renamed r = map (renamed r)

abbrev pub renamed_macro : Renaming → MacroText → MacroText
renamed_macro r m = record m { body = all_renamed r m.body }

-- the macros have the names and parameters that they had
abbrev pub renamed_table : Renaming → Table → Table
renamed_table r table = record table { macro = λ name. option_map (renamed_macro r) (table.macro name) }

-- the same role of the identifier where it stands afterwards, with the new text at one of the places
abbrev pub renamed_event : Renaming → Event → Event
renamed_event r Rule = Rule
renamed_event r (Taken text place role) = Taken (if is_at r text place then r.new else text) (r.shift place) role

-- what is seen of a renamed identifier is at most that it is final, or that a call used no copy of its argument
abbrev pub IsHarmless : Renaming → Event → Type 0
IsHarmless r Rule = Unit {0}
IsHarmless r (Taken text place Dropped) = Unit {0}
IsHarmless r (Taken text place Final) = Unit {0}
IsHarmless r (Taken text place role) = is_at r text place ≡ false

-- a renamed token of a body is no parameter, neither by its old nor by its new name
abbrev pub IsNoParameter : Renaming → MacroText → Token → Type 0
IsNoParameter r m t = is_renamed r t ≡ true → (param m t ≡ None) × (param m (renamed r t) ≡ None)

-- the new name isn't reserved (C11 7.1.3), names no macro, and captures no parameter
pub record IsFree (r : Renaming) (table : Table) : Type 0 where
  pub not_reserved : is_reserved r.new ≡ false
  pub no_macro : table.macro r.new ≡ None
  pub no_parameter : (name : Text) (m : MacroText) → table.macro name ≡ Some m → AllByRecursion (IsNoParameter r m) m.body

-- Where the old list expands with harmless events, the renamed list expands by the renamed macros to the same but
-- for the name and the places, with the same work and the same events.
abbrev pub KeepsExpansion : Type 0
KeepsExpansion =
    (r : Renaming) (table : Table) (ts out : List Token) (left rest : ℕ) (events : List Event)
    → IsFree r table → expand table ts left ≡ Gave out rest events → AllByRecursion (IsHarmless r) events
    → expand (renamed_table r table) (all_renamed r ts) left ≡ Gave (all_renamed r out) rest (map (renamed_event r) events)
