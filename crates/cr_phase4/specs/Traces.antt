-- What is kept of a unit's events for the renaming of one name to another: own rule of this project.
use Rattle.std.specs.Prelude.{Bool, ◌&&◌, ◌||◌, if◌then◌else◌, List, [], ◌∷◌, flat_map, bytes_eq, is_some}
use Rattle.cr_base.specs.declared.token.Place.{Place}
use Rattle.cr_base.specs.declared.token.Origin.{Origin}
use Rattle.cr_base.specs.declared.token.Origin.TheVariants.{At, Made}
use Rattle.cr_base.specs.declared.cause.Role.{Role}
use Rattle.cr_base.specs.declared.cause.Role.TheVariants as role
use Rattle.cr_macros.specs.declared.macros.Seen.{Seen}
use Rattle.cr_macros.specs.Tokens.{Text, Token, MacroText, Event as Telling, Rule, Taken, is_ident, takes}
use Rattle.cr_macros.specs.Substitution.{params_of, index_of, param}
use Rattle.cr_phase4.specs.Tasks.{Event, Took, Opened, Looked, Defined, Told, Final}

-- The identifiers spelled old or new: what each is taken for at its place, the places at which the new name is defined as
-- a macro, those at which the old one stands in the body of a macro with a parameter that is spelled new, and those in a
-- pragma.
pub record Trace : Type 0 where
  pub seen : List Seen
  pub new_macros : List Place
  pub body_params : List Place
  pub opaque : List Place

abbrev pub is_either : Text → Text → Text → Bool
is_either old new text = bytes_eq text old || bytes_eq text new

abbrev pub seen_telling : Text → Text → Telling → List Seen
seen_telling old new Rule = []
seen_telling old new (Taken text place as1) = if is_either old new text then record { place = place; role = as1 } ∷ [] else []

-- what is seen of a token that is taken in a role
abbrev pub seen_as : Text → Text → Role → Token → List Seen
seen_as old new role1 t = flat_map (seen_telling old new) (takes role1 t)

abbrev pub all_seen_as : Text → Text → Role → List Token → List Seen
all_seen_as old new role1 = flat_map (seen_as old new role1)

-- what is seen of a macro's body: its parameters
abbrev pub params_seen : Text → Text → MacroText → List Token → List Seen
params_seen old new m = flat_map (λ t. if is_some (param m t) then seen_as old new role.Param t else [])

abbrev pub seen_of : Text → Text → Event → List Seen
seen_of old new Took = []
seen_of old new (Opened path) = []
seen_of old new (Looked paths) = []
seen_of old new (Defined t m) = []
seen_of old new (Told e) = seen_telling old new e
seen_of old new (Final t) = seen_as old new role.Final t

abbrev pub all_events_seen : Text → Text → List Event → List Seen
all_events_seen old new = flat_map (seen_of old new)

abbrev pub new_macros_of : Text → Event → List Place
new_macros_of new Took = []
new_macros_of new (Opened path) = []
new_macros_of new (Looked paths) = []
new_macros_of new (Defined t m) = if bytes_eq t.text new then t.site ∷ [] else []
new_macros_of new (Told e) = []
new_macros_of new (Final t) = []

-- the place of a token spelled old
abbrev pub old_at : Text → Token → Origin → List Place
old_at old t Made = []
old_at old t (At place) = if is_ident t.kind && bytes_eq t.text old then place ∷ [] else []

abbrev pub all_old_at : Text → List Token → List Place
all_old_at old = flat_map (λ t. old_at old t t.origin)

-- one of the macro's parameters is spelled new
abbrev pub captures : Text → MacroText → Bool
captures new m = is_some (index_of (params_of m) new)

abbrev pub body_params_of : Text → Text → Event → List Place
body_params_of old new Took = []
body_params_of old new (Opened path) = []
body_params_of old new (Looked paths) = []
body_params_of old new (Defined t m) = if captures new m then all_old_at old m.body else []
body_params_of old new (Told e) = []
body_params_of old new (Final t) = []

abbrev pub opaque_place : Seen → Role → List Place
opaque_place s role.Opaque = s.place ∷ []
opaque_place s other = []

abbrev pub trace_of : Text → Text → List Event → Trace
trace_of old new events = record {
  seen = all_events_seen old new events;
  new_macros = flat_map (new_macros_of new) events;
  body_params = flat_map (body_params_of old new) events;
  opaque = flat_map (λ s. opaque_place s s.role) (all_events_seen old new events);
}
