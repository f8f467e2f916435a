-- How the code files the places of a list of facts. No contract of a public call cites it.
use Rattle.std.specs.Prelude.{ℕ, List, [], ◌∷◌, ◌++◌, Option, Some, None, if◌then◌else◌, ◌==◌, slice_index_or, slice_set}
use Rattle.std.specs.List.{flat_map}
use Rattle.cr_base.specs.declared.token.Place.{Place}
use Rattle.cr_base.specs.declared.key.Key.{Key}
use Rattle.cr_base.specs.contracts.key.KeyPartialEq.TheImpl as key_eq
use Rattle.cr_facts.specs.declared.fact.Fact.{Fact}
use Rattle.cr_facts.specs.declared.fact.Fact.TheVariants as fact

-- the place at which a fact says that the entity of a key is denoted
abbrev pub place_of : Key → Fact → Option Place
place_of key (fact.Denotes p k) = if (key_eq.ghosts).eq k key then Some p else None
place_of key _ = None

-- its offset, if it is in the file of a number
abbrev pub offset_if : ℕ → Option Place → List ℕ
offset_if file None = []
offset_if file (Some p) = if file == p.path.0 then p.offset ∷ [] else []

-- the offsets of a list of facts
abbrev pub offsets_among : ℕ → Key → List Fact → List ℕ
offsets_among file key facts = flat_map (λ f. offset_if file (place_of key f)) facts

-- lists of offsets, with a place put to that of its file
abbrev pub with_place : Place → List (List ℕ) → List (List ℕ)
with_place p lists = slice_set lists p.path.0 (slice_index_or lists p.path.0 [] ++ p.offset ∷ [])
