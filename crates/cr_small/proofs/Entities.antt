-- The places of an entity by the number of its first declaring token. No contract cites it.
use Rattle.std.specs.Prelude.{ℕ, Bool, false, List, map, Option, Some, None, ◌==◌}
use Rattle.std.specs.List.{filter}
use Rattle.cr_lex.specs.Lexing.{Token}
use Rattle.cr_small.specs.declared.binder.Denotation.{Denotation}

abbrev pub denotes_entity : ℕ → Option Denotation → Bool
denotes_entity entity None = false
denotes_entity entity (Some d) = d.token == entity

-- the offsets of the tokens that denote an entity
abbrev pub places_of : ℕ → List (Token × Option Denotation) → List ℕ
places_of entity tokens = map (λ one. one.0.at) (filter (λ one. denotes_entity entity one.1) tokens)
