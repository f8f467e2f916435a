-- What the rows of a unit tell of its identifiers.
use Rattle.std.specs.Prelude.{◌≡◌, ◌⊎◌, ℕ, ◌<◌, Bool, true, false, eqb, cond, Option, Some, None, List, length, slice_get, is_some}
use Rattle.cr_base.specs.declared.token.Name.{Name}
use Rattle.cr_base.specs.declared.token.Origin.{Origin}
use Rattle.cr_base.specs.declared.token.Origin.TheVariants.{At, Made}
use Rattle.cr_base.specs.declared.token.Tok.{Tok}
use Rattle.cr_base.specs.declared.cause.Role.{Role}
use Rattle.cr_base.specs.declared.cause.Role.TheVariants as role
use Rattle.cr_base.specs.declared.key.Key.{Key}
use Rattle.cr_base.specs.declared.key.Key.TheVariants as key
use Rattle.cr_base.specs.declared.key.Kind.TheVariants as kind
use Rattle.cr_ll.specs.Guards.{is_name}
use Rattle.cr_facts.specs.declared.fact.Fact.{Fact}
use Rattle.cr_facts.specs.declared.fact.Fact.TheVariants as fact
use Rattle.cr_binding.specs.UnitConflicts.{place_by}
pub use Rattle.cr_binding.specs.UnitFacts.{is_shared}
use Rattle.cr_declared.specs.declared.rows.Row.{Row}
use Rattle.cr_declared.specs.declared.rows.UseRow.{UseRow}
use Rattle.cr_declared.specs.declared.rows.UseRow.TheVariants as row
use Rattle.cr_declared.specs.declared.rows.Slot.{Slot}
use Rattle.cr_declared.specs.Rows.{slot_of}
use Rattle.cr_groups.specs.declared.groups.Group.{Group}
use Rattle.cr_groups.specs.Firsts.{find_number, IsFirstOf}
use Rattle.cr_groups.specs.Groups.{find_group}
use Rattle.cr_groups.specs.Rows.{name_in, IsOneOf}
use Rattle.cr_conflicts.specs.Members.{member_key_in}
use Rattle.cr_conflicts.specs.declared.members.MemberRow.{MemberRow}
use Rattle.cr_unit_facts.specs.Occurring.{TokenSays, nature_of}
use Rattle.cr_unit_facts.specs.declared.nature.Nature.{Nature}

-- a token that means what a row declares
abbrev pub RowTells : List Tok → List (Slot × Group) → Nature → ℕ → Bool → Row → Fact → Type 0
RowTells tokens es linked i declares x f =
    (g : Group) × (find_group (slot_of x) es ≡ Some g) × TokenSays tokens i declares (nature_of linked x) g.key f

-- an entity that other units can have too has the new name
abbrev pub NewTells : List (Slot × Group) → Row → Fact → Type 0
NewTells es x f = (g : Group) × (find_group (slot_of x) es ≡ Some g) × (is_shared g.key ≡ true) × (f ≡ fact.NewKey g.key)

abbrev pub DeclaredTells : List Tok → List (Slot × Group) → (old new : Name) → Nature → Row → Fact → Type 0
DeclaredTells tokens es old new linked x f =
    ((x.decl.name ≡ old) × RowTells tokens es linked x.decl.token true x f) ⊎ ((x.decl.name ≡ new) × NewTells es x f)

-- ---- members

abbrev pub member_nature : Nature
member_nature = record { kind = Some kind.Member; other = None; file_scope = false }

-- what the compiler supplies has no kind
abbrev pub no_nature : Nature
no_nature = record { kind = None; other = None; file_scope = false }

-- a member by its key
abbrev pub NamedTells : List Tok → (old new : Name) → ℕ → Key → Fact → Type 0
NamedTells tokens old new i k f =
    ((name_in tokens i ≡ old) × TokenSays tokens i true member_nature k f) ⊎ ((name_in tokens i ≡ new) × (f ≡ fact.NewKey k))

-- a member of one of the names where it is written
abbrev pub IsTold : List Tok → (old new : Name) → MemberRow → Type 0
IsTold tokens old new m = (m.own ≡ m.holder) × IsOneOf old new (name_in tokens m.token)

-- a member where it is written
abbrev pub MemberTells : ℕ → List (List ℕ) → List Tok → List Row → List ℕ → (old new : Name) → MemberRow → Fact → Type 0
MemberTells unit texts tokens rows records old new m f =
    (m.own ≡ m.holder) × NamedTells tokens old new m.token (member_key_in unit texts tokens rows records m) f

-- the token of a member where it is written
abbrev pub own_token : MemberRow → Option ℕ
own_token m = cond (eqb m.own m.holder) (Some m.token) None

-- ---- uses

abbrev pub DenotedTells : List Tok → List Row → List (Slot × Group) → Name → Nature → ℕ → Option ℕ → Fact → Type 0
DenotedTells tokens rows es old linked i None f = ⊥
DenotedTells tokens rows es old linked i (Some c) f =
    (name_in tokens i ≡ old) × ((x : Row) × (slice_get rows c ≡ Some x) × RowTells tokens es linked i false x f)

-- the member that is declared at a token
abbrev pub SelectedTells : ℕ → List (List ℕ) → List Tok → List Row → List ℕ → List MemberRow → ℕ → ℕ → Fact → Type 0
SelectedTells unit texts tokens rows records members i member f =
    (c : ℕ) × (first : IsFirstOf own_token members (length members) member c)
    × TokenSays tokens i false member_nature (member_key_in unit texts tokens rows records first.itself.0) f

abbrev pub UseTells : ℕ → List (List ℕ) → List Tok → List Row → List (Slot × Group) → List ℕ → List MemberRow → Name → Nature → UseRow → Fact → Type 0
UseTells unit texts tokens rows es records members old linked (row.LookedUp sp i path before denoted) f =
    DenotedTells tokens rows es old linked i denoted f
UseTells unit texts tokens rows es records members old linked (row.GoesTo i label) f =
    DenotedTells tokens rows es old linked i (Some label) f
UseTells unit texts tokens rows es records members old linked (row.Selects i member) f =
    (name_in tokens i ≡ old) × SelectedTells unit texts tokens rows records members i member f
UseTells unit texts tokens rows es records members old linked (row.IsBuiltIn i) f =
    (name_in tokens i ≡ old) × TokenSays tokens i false no_nature (key.Made unit i) f
UseTells unit texts tokens rows es records members old linked _ f = ⊥

-- ---- tokens

-- a token is its own key
abbrev pub itself : ℕ → Option ℕ
itself i = Some i

-- a token is noted in a table
abbrev pub is_noted : List (ℕ × ℕ) → ℕ → Bool
is_noted fs i = is_some (find_number i fs)

abbrev pub role_of : Bool → Role
role_of true = role.Opaque
role_of false = role.Final

-- what an identifier was taken for, where it stands at a place
abbrev pub RoleAt : Role → Fact → Origin → Type 0
RoleAt r f (At p) = f ≡ fact.HasRole p r
RoleAt r f Made = ⊥

-- an identifier of one of the names, in the brackets of an attribute or elsewhere
abbrev pub SpelledTells : (old new : Name) → Bool → Tok → Fact → Type 0
SpelledTells old new hidden x f =
    (is_name x.kind ≡ true)
    × (((x.text ≡ old) × RoleAt (role_of hidden) f x.origin)
    ⊎ (IsOneOf old new x.text × (hidden ≡ true) × (f ≡ fact.OpaqueAt (place_by x.site x.origin))))

-- what the first n tokens tell
abbrev pub TokensTell : List Tok → (old new : Name) → (ℕ → Bool) → ℕ → Fact → Type 0
TokensTell tokens old new hidden n f =
    (i : ℕ) × (x : Tok) × (i < n) × (slice_get tokens i ≡ Some x) × SpelledTells old new (hidden i) x f
