-- What the declarations of a unit mean (C11 6.2.1 to 6.2.3).
use Rattle.std.specs.Prelude.{ℕ, Bool, true, false, ◌&&◌, ◌||◌, Option, List, map}
use Rattle.std.specs.List.{find}
use Rattle.std.specs.Option.{option_map_or}
use Rattle.cr_base.specs.declared.Kind.{Kind}
use Rattle.cr_base.specs.declared.Kind.TheVariants as kind
use Rattle.cr_scope.specs.declared.Space.{Space}
use Rattle.cr_scope.specs.declared.Space.TheVariants as space
use Rattle.cr_scope.specs.Declarations as scopes
use Rattle.cr_scope.specs.Declarations.{Entry, same_space, same_name}
use Rattle.cr_scope.specs.Linkage.{has_linkage}
use Rattle.cr_scope.specs.Redeclaration.{same_path}
use Rattle.cr_binding.specs.Source.{Source, name_at}
use Rattle.cr_binding.specs.State.{Declaration}

-- a declaration with its spelling
abbrev pub entry : Source → Declaration → Entry
entry t d =
    record { path = d.path; decl = record { space = d.space; name = name_at t d.token; token = d.token; kind = d.kind; linkage = d.linkage; note = 0 } }

-- what the spelling of a token means in a scope: the number of the last visible declaration in the deepest scope
abbrev pub meaning : Source → List ℕ → Space → ℕ → List Declaration → Option ℕ
meaning t present s i ds = scopes.lookup present s (name_at t i) (map (entry t) ds)

abbrev pub is_linked : Declaration → Bool
is_linked d = has_linkage d.linkage

abbrev pub is_tag : Declaration → Bool
is_tag d = same_space d.space space.Tag

abbrev pub is_typedef_kind : Kind → Bool
is_typedef_kind kind.Typedef = true
is_typedef_kind _ = false

abbrev pub is_typedef : Declaration → Bool
is_typedef d = is_typedef_kind d.kind

-- the tag of a token's spelling in one scope
abbrev pub is_tag_here : Source → List ℕ → ℕ → Declaration → Bool
is_tag_here t path i d = is_tag d && (same_path d.path path && same_name (name_at t d.token) (name_at t i))

-- Two declarations of one name are of one entity where both have linkage (6.2.2p2), or where they stand in one scope and
-- are both of a tag (6.7.2.3) or both of a typedef name (6.7p3).
abbrev pub are_one : Source → Declaration → Declaration → Bool
are_one t d e =
    same_name (name_at t d.token) (name_at t e.token)
    && ((is_linked d && is_linked e) || (same_path d.path e.path && ((is_tag d && is_tag e) || (is_typedef d && is_typedef e))))

abbrev pub token_or : ℕ → Option Declaration → ℕ
token_or i d = option_map_or (λ e. e.token) d i

-- the first token that declares the entity of a declaration
abbrev pub first_token : Source → List Declaration → Declaration → ℕ
first_token t ds d = token_or d.token (find (are_one t d) ds)
