-- What identifiers of the old name tell, and entities of the new one, as binding means it.
use Rattle.std.specs.Prelude.{◌≡◌, ℕ, Bool, true, List, map, flat_map, Contains}
use Rattle.cr_base.specs.declared.token.Name.{Name}
use Rattle.cr_facts.specs.declared.fact.Fact.{Fact}
use Rattle.cr_facts.specs.declared.fact.Fact.TheVariants as fact
use Rattle.cr_binding.specs.Source.{Source, token_of, name_at}
use Rattle.cr_binding.specs.State.{Declaration, Member, State}
use Rattle.cr_binding.specs.Resolution.{Occurrence, Declared, InRecord, own_members, meant_by}
use Rattle.cr_binding.specs.Keys.{key_of}
use Rattle.cr_binding.specs.UnitFacts.{HasKind, IsAtFileScope, is_shared}
use Rattle.cr_unit_facts.specs.Occurring.{Says}

abbrev pub declared_in : State → List Occurrence
declared_in s = map {A = Declaration} (λ d. (d.token, Declared d)) s.declarations

abbrev pub members_in : State → List Occurrence
members_in s = map {A = Member} (λ m. (m.token, InRecord m)) (own_members s)

abbrev pub used_in : State → List Occurrence
used_in s = flat_map (meant_by s) s.uses

-- what an identifier of the old name tells
abbrev pub OccurrenceTells : ℕ → Source → State → Name → (declares : Bool) → Occurrence → Fact → Type 0
OccurrenceTells unit t s old declares x f =
    (name_at t x.0 ≡ old)
    × Says (declares ≡ true) (HasKind t s x.1) (IsAtFileScope t s x.1) (key_of unit t s x.0 x.1) (token_of t x.0) f

abbrev pub AnyTells : ℕ → Source → State → Name → (declares : Bool) → List Occurrence → Fact → Type 0
AnyTells unit t s old declares xs f = (x : Occurrence) × Contains xs x × OccurrenceTells unit t s old declares x f

-- what the declarations of the new name tell
abbrev pub AnyIsNew : ℕ → Source → State → Name → List Occurrence → Fact → Type 0
AnyIsNew unit t s new xs f =
    (x : Occurrence) × Contains xs x × (name_at t x.0 ≡ new) × (is_shared (key_of unit t s x.0 x.1) ≡ true)
    × (f ≡ fact.NewKey (key_of unit t s x.0 x.1))
