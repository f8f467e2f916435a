-- A worked example: `foo` is renamed `bar` in the body of `#define F(x) foo x` and in `F(foo)`.
use Rattle.std.specs.Prelude.{◌≡◌, ℕ, Bool, true, false, ◌||◌, ◌==◌, ◌+◌, if◌then◌else◌, List, [], ◌∷◌, map, codes, bytes_eq, Option, Some, None, refl}
use Rattle.std.proofs.Common.{subst}
use Rattle.std.specs.List.{AllByRecursion}
use Rattle.cr_base.specs.declared.token.PpKind.{PpKind}
use Rattle.cr_base.specs.declared.token.PpKind.TheVariants.{Ident, Punct}
use Rattle.cr_base.specs.declared.token.Place.{Place}
use Rattle.cr_base.specs.declared.token.Origin.TheVariants.{At}
use Rattle.cr_macros.specs.Tokens.{Text, Token, MacroText, Event, Answer, Gave, Stopped}
use Rattle.cr_macros.specs.Expansion.{Table, expand}
use Rattle.cr_expand_law.specs.Renaming.{Renaming, all_renamed, renamed_table, IsHarmless, IsNoParameter, IsFree}

abbrev at : ℕ → Place
at offset = record { path = record { 0 = 0 }; offset = offset }

abbrev token : PpKind → Text → ℕ → Token
token kind text offset = record { kind = kind; text = text; origin = At (at offset); site = at offset; line = 1; end = 0; space = false; first = false; joined = false; hide = [] }

-- its body stands at 20
abbrev macro : MacroText
macro = record { params = Some (codes "x" ∷ []); variadic = false; body = token Ident (codes "foo") 20 ∷ token Ident (codes "x") 24 ∷ [] }

abbrev table : Table
table = record { macro = λ name. if bytes_eq name (codes "F") then Some macro else None; file = codes "\"a.c\"" }

abbrev call : List Token
call = token Ident (codes "F") 30 ∷ token Punct (codes "(") 31 ∷ token Ident (codes "foo") 32 ∷ token Punct (codes ")") 35 ∷ []

abbrev renaming : Renaming
renaming = record { is_place = λ place. place.offset == 20 || place.offset == 32; old = codes "foo"; new = codes "bar"; shift = λ place. record place { offset = place.offset + 100 } }

abbrev texts : Answer (List Token) → List Text
texts (Gave ts left events) = map {A = Token} (λ t. t.text) ts
texts (Stopped cause stopped) = []

abbrev events_of : Answer (List Token) → List Event
events_of (Gave ts left events) = events
events_of (Stopped cause stopped) = []

before : texts (expand table call 100) ≡ codes "foo" ∷ codes "foo" ∷ []
unfolding expand
before = refl

behind : texts (expand (renamed_table renaming table) (all_renamed renaming call) 100) ≡ codes "bar" ∷ codes "bar" ∷ []
unfolding expand
behind = refl

-- the law's conditions are met
abbrev Captures : Option MacroText → Type 0
Captures None = Unit {0}
Captures (Some m) = AllByRecursion (IsNoParameter renaming m) m.body

is_free : IsFree renaming table
is_free = record { not_reserved = refl; no_macro = refl; no_parameter = λ name m e. subst Captures e (go (bytes_eq name (codes "F"))) } where
  go : (b : Bool) → Captures (if b then Some macro else None)
  go true = ((λ e. (refl, refl)), ((λ e. absurd (let no : ⊥ = cc in no)), tt))
  go false = tt

is_harmless : AllByRecursion (IsHarmless renaming) (events_of (expand table call 100))
unfolding expand
is_harmless = (tt, (refl, (tt, (tt, (tt, tt)))))
