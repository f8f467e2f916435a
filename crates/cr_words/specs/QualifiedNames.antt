-- What `--qualified-name` names (our own rule).
use Rattle.std.specs.Prelude.{ℕ, ◌+◌, Bool, true, false, ◌&&◌, List, [], ◌∷◌, take, drop, Option, Some, None, if◌then◌else◌, ◌==◌, bytes_eq, codes}
use Rattle.std.specs.List.{position}
use Rattle.cr_base.specs.Names.{is_identifier}
use Rattle.cr_base.specs.declared.key.TagKind.{TagKind}
use Rattle.cr_base.specs.declared.key.TagKind.TheVariants as tag

-- an ordinary identifier, a tag, or a member of the structure or union with a tag (C11 6.2.3)
pub data QualifiedName : Type 0 where
  ordinary : List ℕ → QualifiedName
  tagged : TagKind → List ℕ → QualifiedName
  member_of : TagKind → List ℕ → List ℕ → QualifiedName

unfoldable pub tag_kind : List ℕ → Option TagKind
tag_kind word =
    if bytes_eq word (codes "struct") then Some tag.Struct
    else if bytes_eq word (codes "union") then Some tag.Union
    else if bytes_eq word (codes "enum") then Some tag.Enum
    else None

abbrev pub has_members : TagKind → Bool
has_members tag.Struct = true
has_members tag.Union = true
has_members tag.Enum = false

-- a member of this name, behind the colon at the front
abbrev pub member_behind : TagKind → List ℕ → List ℕ → Option QualifiedName
member_behind kind tag [] = None
member_behind kind tag (first ∷ []) = None
member_behind kind tag (first ∷ second ∷ name) =
    if has_members kind && second == 58 && is_identifier tag && is_identifier name then Some (member_of kind tag name) else None

abbrev pub member_at : TagKind → List ℕ → Option ℕ → Option QualifiedName
member_at kind text None = None
member_at kind text (Some colon) = member_behind kind (take colon text) (drop colon text)

-- TAG::NAME
abbrev pub member : TagKind → List ℕ → Option QualifiedName
member kind text = member_at kind text (position (λ b. b == 58) text)

-- NAME or TAG::NAME behind the keyword of a tag
abbrev pub of_tag : List ℕ → Option TagKind → Option QualifiedName
of_tag text None = None
of_tag text (Some kind) = if is_identifier text then Some (tagged kind text) else member kind text

abbrev pub of_blank : List ℕ → Option ℕ → Option QualifiedName
of_blank text None = None
of_blank text (Some blank) = of_tag (drop (blank + 1) text) (tag_kind (take blank text))

-- `NAME`, `struct NAME`, `union NAME`, `enum NAME`, `struct TAG::NAME` or `union TAG::NAME`, with one blank
abbrev pub qualified_name : List ℕ → Option QualifiedName
qualified_name text =
    if is_identifier text then Some (ordinary text) else of_blank text (position (λ b. b == 32) text)
