-- Files with a new name in the place of an old one, and what that does to the preprocessing of a unit.
use Rattle.std.specs.Prelude.{◌≡◌, ℕ, true, false, List, length, map, bytes_eq, codes, None, option_map}
use Rattle.std.specs.List.{AllByRecursion}
use Rattle.cr_base.specs.Names.{is_identifier, is_reserved}
use Rattle.cr_base.specs.Substitution.{Rise, substituted, shifted as shifted_offset}
use Rattle.cr_base.specs.declared.unit.Unit.{Unit}
use Rattle.cr_lex.specs.Renaming.{is_among, IsPlace}
use Rattle.cr_snapshot.specs.Files.{Finding, Present, Absent, Unknown}
use Rattle.cr_macros.specs.Tokens.{Text, Token, MacroText}
use Rattle.cr_macros.specs.Substitution.{param}
use Rattle.cr_expand_law.specs.Renaming.{Renaming, is_renamed, renamed, all_renamed, renamed_macro, renamed_event as renamed_telling, IsHarmless}
use Rattle.cr_phase4.specs.Tasks.{End, Ill, Over, Needs, Event, Took, Opened, Looked, Defined, Told, Final, State, Goes, Done}
use Rattle.cr_phase4.specs.Lines.{File, place_in, Line, Plain, Conditional, Directive, Empty, Wordless, line_of}
use Rattle.cr_phase4.specs.Search.{World}
use Rattle.cr_phase4.specs.Preprocessing.{preprocessed}
use Rattle.cr_preproc_law.specs.Finals.{IsFinalPlace, IsNumbered}

-- offsets of places, by the number of the file
abbrev pub Places : Type 0
Places = ℕ → List ℕ

-- the old name becomes the new one at the places, and each place moves by those before it in its file
abbrev pub renaming_at : Places → Text → Text → Renaming
renaming_at places old new = record {
  is_place = λ place. is_among (places place.path.0) place.offset;
  old = old;
  new = new;
  shift = λ place. record place { offset = shifted_offset (places place.path.0) (length old) (length new) place.offset };
}

abbrev pub edited : Places → Text → Text → Finding → Finding
edited places old new (Present n bytes) = Present n (substituted (places n) (length old) new bytes)
edited places old new Absent = Absent
edited places old new Unknown = Unknown

-- the files, each with the new name at its places
abbrev pub edited_world : Places → Text → Text → World → World
edited_world places old new w = record w { find = λ path. edited places old new (w.find path) }

abbrev pub renamed_end : Renaming → End → End
renamed_end r (Ill why site) = Ill why (r.shift site)
renamed_end r (Over limit) = Over limit
renamed_end r (Needs paths) = Needs paths

abbrev pub renamed_file : Renaming → File → File
renamed_file r f = record { lines = map (all_renamed r) f.lines; fault = option_map (renamed_end r) f.fault }

abbrev pub renamed_state : Renaming → State → State
renamed_state r s = record s { macro = λ name. option_map (renamed_macro r) (s.macro name) }

-- the same happens, with the new name and places as they are afterwards
abbrev pub renamed_event : Renaming → Event → Event
renamed_event r Took = Took
renamed_event r (Opened path) = Opened path
renamed_event r (Looked paths) = Looked paths
renamed_event r (Defined t m) = Defined (renamed r t) (renamed_macro r m)
renamed_event r (Told e) = Told (renamed_telling r e)
renamed_event r (Final t) = Final (renamed r t)

-- a token of a body that is renamed isn't captured by a parameter that has the new name
abbrev pub IsUncaptured : Renaming → MacroText → Token → Type 0
IsUncaptured r m t = is_renamed r t ≡ true → param m (renamed r t) ≡ None

-- An event that does no harm: a renamed identifier is at most final, or dropped by a call; no macro has the new name, and
-- no parameter captures it.
abbrev pub IsFine : Renaming → Event → Type 0
IsFine r Took = Prim.Unit {0}
IsFine r (Opened path) = Prim.Unit {0}
IsFine r (Looked paths) = Prim.Unit {0}
IsFine r (Defined t m) = (bytes_eq t.text r.new ≡ false) × AllByRecursion (IsUncaptured r m) m.body
IsFine r (Told e) = IsHarmless r e
IsFine r (Final t) = Prim.Unit {0}

abbrev pub IsSame : Renaming → Token → Type 0
IsSame r t = is_renamed r t ≡ false

abbrev pub AreSame : Renaming → List Token → Type 0
AreSame r = AllByRecursion (IsSame r)

-- no place is on a directive's line, but behind the word of a `define`
abbrev pub IsApartIn : Renaming → Line → Type 0
IsApartIn r Plain = Prim.Unit {0}
IsApartIn r (Conditional hash t word ts) = IsSame r t × AreSame r ts
IsApartIn r (Directive hash t ts) = IsSame r t × (bytes_eq t.text (codes "define") ≡ false → AreSame r ts)
IsApartIn r Empty = Prim.Unit {0}
IsApartIn r (Wordless hash) = Prim.Unit {0}

abbrev pub IsApart : Renaming → List Token → Type 0
IsApart r line = IsApartIn r (line_of line)

abbrev pub AreApart : Renaming → File → Type 0
AreApart r f = AllByRecursion (IsApart r) f.lines

-- A file may be edited: the places rise, at each is an identifier spelled old that the new name can take the place of, and
-- it is a final token of some unit.
pub record MayBeEdited (w : World) (places : Places) (old new : Text) (n : ℕ) (bytes : List ℕ) : Type 0 where
  pub rise : Rise 0 (places n) (length old) (length bytes)
  pub spelled : AllByRecursion (IsPlace bytes old new) (places n)
  pub final : AllByRecursion (λ at. IsFinalPlace w (place_in n at)) (places n)

abbrev pub MayEdit : World → Places → Text → Text → Finding → Type 0
MayEdit w places old new (Present n bytes) = MayBeEdited w places old new n bytes
MayEdit w places old new Absent = Prim.Unit {0}
MayEdit w places old new Unknown = Prim.Unit {0}

-- Where a unit is preprocessed whole and nothing that happens does harm, the same happens in the edited files: the same
-- lines are live, the same files are opened and looked for, macros are used and tokens given as before, but for the new
-- name at the places, and the places.
abbrev pub KeepsPreprocessing : Type 0
KeepsPreprocessing =
    (places : Places) (old new : Text) (w : World) (u : Unit) (s : State) (events : List Event)
    → is_identifier old ≡ true → is_identifier new ≡ true → is_reserved new ≡ false
    → IsNumbered w → ((path : Text) → MayEdit w places old new (w.find path))
    → preprocessed w u ≡ Goes Done s events → AllByRecursion (IsFine (renaming_at places old new)) events
    → preprocessed (edited_world places old new w) u
    ≡ Goes Done (renamed_state (renaming_at places old new) s) (map (renamed_event (renaming_at places old new)) events)
