-- How the two maps of the code hold the flat list of declarations. No contract of a public call cites it.
use Rattle.std.specs.Prelude.{◌≡◌, ℕ, ◌<◌, Bool, true, false, not, ◌&&◌, List, [], ◌∷◌, Option, Some, None, bytes_eq, if◌then◌else◌}
use Rattle.std.specs.Borrow.{Bor}
use Rattle.std.specs.List.{list_any}
use Rattle.std.specs.Option.{option_map}
use Rattle.std.specs.Map.{lookup as found_in}
use Rattle.cr_small.specs.Declarations.{Entry, is_linked, first_linked, last_in, both_or_neither}
use Rattle.cr_small.specs.Resolution.{Bindings, Bound, is_file_scope}
use Rattle.cr_small.specs.declared.grammar.Part.{Part}
use Rattle.cr_small.specs.declared.grammar.Part.TheVariants as part
use Rattle.cr_small.specs.declared.scopes.Symbol.{Symbol}
use Rattle.cr_small.specs.declared.scopes.Scopes.{Scopes}
use Rattle.cr_small.specs.declared.binder.Binding.{Binding}

abbrev pub symbol_of : Entry → Symbol
symbol_of e = record { function = e.function; token = e.token; internal = e.internal }

-- what a map gives for a name
abbrev pub symbol_in : List ℕ → List (Bor (List ℕ) × Symbol) → Option Symbol
symbol_in name entries = found_in (λ k. bytes_eq name k.now) entries

-- the scope of an entry is the file, or a body that was opened already
abbrev pub IsOpened : ℕ → List ℕ → Type 0
IsOpened next [] = Unit {0}
IsOpened next (scope ∷ []) = scope < next
IsOpened next (scope ∷ around ∷ rest) = ⊥

abbrev pub AllOpened : ℕ → List Entry → Type 0
AllOpened next [] = Unit {0}
AllOpened next (e ∷ es) = IsOpened next e.path × (e.linked ≡ is_file_scope e.path) × AllOpened next es

-- a declaration of the name with linkage, of the other kind or with the other linkage
abbrev pub other_kind : Bool → Bool → List ℕ → Entry → Bool
other_kind function internal name e = is_linked name e && not (both_or_neither function e.function && both_or_neither internal e.internal)

-- no declaration of a name with linkage is of another kind than the first, or has another linkage
abbrev pub IsOneKind : List Entry → Type 0
IsOneKind entries = (name : List ℕ) (first : Entry) → first_linked name entries ≡ Some first → list_any (other_kind first.function first.internal name) entries ≡ false

-- the present scope, as the code knows it
abbrev pub IsPresent : Bool → ℕ → List ℕ → Type 0
IsPresent true next [] = ⊥
IsPresent true next (scope ∷ []) = scope < next
IsPresent true next (scope ∷ around ∷ rest) = ⊥
IsPresent false next path = path ≡ []

-- the map of the open body holds what its scope declares
abbrev pub HoldsBody : Bool → List (Bor (List ℕ) × Symbol) → List ℕ → List Entry → Type 0
HoldsBody false block path entries = Unit {0}
HoldsBody true block path entries = (name : List ℕ) → symbol_in name block ≡ option_map symbol_of (last_in path name entries)

pub record Holds (s : Scopes) (b : Bindings) : Type 0 where
  pub file : (name : List ℕ) → symbol_in name s.file.entries ≡ option_map symbol_of (first_linked name b.entries)
  pub body : HoldsBody s.in_body s.body.entries b.path b.entries
  pub present : IsPresent s.in_body b.next b.path
  pub opened : AllOpened b.next b.entries
  pub one_kind : IsOneKind b.entries

abbrev pub answer : Symbol → Bool → Bool → Binding
answer symbol linked declares = record { denotes = Some (record { token = symbol.token; function = symbol.function; linked = linked; internal = symbol.internal; declares = declares }) }

abbrev pub linked_answer : Option Symbol → Option Binding
linked_answer None = None
linked_answer (Some symbol) = Some (answer symbol true false)

-- one more declaration of a name at file scope
abbrev pub again_answer : Symbol → Bool → Bool → Option Binding
again_answer first function internal =
    if both_or_neither first.function function && both_or_neither first.internal internal then Some (answer first true true) else None

-- the symbol that is seen has internal linkage
abbrev pub is_internal_symbol : Option Symbol → Bool
is_internal_symbol None = false
is_internal_symbol (Some symbol) = symbol.internal

-- a body is opened at file scope alone
abbrev pub MayStand : Part → Bool → Type 0
MayStand part.Plain in_body = Unit {0}
MayStand part.Opens in_body = in_body ≡ false
MayStand part.Closes in_body = Unit {0}
MayStand (part.DeclaresObject word) in_body = Unit {0}
MayStand (part.DeclaresFunction word) in_body = Unit {0}
MayStand part.Mentions in_body = Unit {0}

-- whether a body is open behind a token
abbrev pub level_behind : Part → Bool → Bool
level_behind part.Plain in_body = in_body
level_behind part.Opens in_body = true
level_behind part.Closes in_body = false
level_behind (part.DeclaresObject word) in_body = in_body
level_behind (part.DeclaresFunction word) in_body = in_body
level_behind part.Mentions in_body = in_body

-- no body is opened inside another
abbrev pub AreBraced : List Part → Bool → Type 0
AreBraced [] in_body = Unit {0}
AreBraced (p ∷ ps) in_body = MayStand p in_body × AreBraced ps (level_behind p in_body)

-- the code's answer is that of the flat list, and its maps hold what the list has become
abbrev pub Answers : Scopes → Option Bound → Option Binding → Type 0
Answers s None None = Unit {0}
Answers s None (Some answer) = ⊥
Answers s (Some bound) None = ⊥
Answers s (Some bound) (Some answer) = Holds s bound.after × (answer.denotes ≡ bound.denotes)
