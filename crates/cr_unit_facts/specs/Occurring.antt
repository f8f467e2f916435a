-- What is told of an identifier that means an entity.
use Rattle.std.specs.Prelude.{◌≡◌, ◌⊎◌, ℕ, Bool, true, false, ◌&&◌, eqb, if◌then◌else◌, cond, Option, Some, None, List, slice_index_or, position, is_some}
use Rattle.cr_base.specs.declared.token.Name.{Name}
use Rattle.cr_base.specs.declared.token.Place.{Place}
use Rattle.cr_base.specs.declared.token.Origin.{Origin}
use Rattle.cr_base.specs.declared.token.Origin.TheVariants.{At, Made}
use Rattle.cr_base.specs.declared.token.Tok.{Tok}
use Rattle.cr_base.specs.declared.key.Key.{Key}
use Rattle.cr_base.specs.declared.key.Kind.{Kind}
use Rattle.cr_base.specs.declared.key.Kind.TheVariants as kind
use Rattle.cr_scope.specs.Linkage.{has_linkage}
use Rattle.cr_facts.specs.declared.fact.Fact.{Fact}
use Rattle.cr_facts.specs.declared.fact.Fact.TheVariants as fact
use Rattle.cr_binding.specs.Source.{no_token}
use Rattle.cr_declared.specs.declared.rows.Row.{Row}
use Rattle.cr_groups.specs.Built.{is_linked_row}
use Rattle.cr_unit_facts.specs.declared.nature.Nature.{Nature}

-- what an identifier at a place tells of the entity of a key, which has these kinds, and a declaration at file scope or not
abbrev pub SaysAt : (declares : Type 0) → (kinds : Kind → Type 0) → (file_scope : Type 0) → Key → Place → Fact → Type 0
SaysAt declares kinds file_scope k p f =
    ((f ≡ fact.Denotes p k) ⊎ (declares × (f ≡ fact.Declares k p)))
    ⊎ (((c : Kind) × kinds c × (f ≡ fact.OfKind k c)) ⊎ (file_scope × (f ≡ fact.FileScope k)))

-- one that preprocessing made tells what it denotes alone
abbrev pub SaysBy : (declares : Type 0) → (kinds : Kind → Type 0) → (file_scope : Type 0) → Key → Place → Fact → Origin → Type 0
SaysBy declares kinds file_scope k site f (At p) = SaysAt declares kinds file_scope k p f
SaysBy declares kinds file_scope k site f Made = f ≡ fact.MadeDenotes k site

abbrev pub Says : (declares : Type 0) → (kinds : Kind → Type 0) → (file_scope : Type 0) → Key → Tok → Fact → Type 0
Says declares kinds file_scope k x f = SaysBy declares kinds file_scope k x.site f x.origin

-- ---- by rows

abbrev pub IsOfNature : Nature → Kind → Type 0
IsOfNature n c = (n.kind ≡ Some c) ⊎ (n.other ≡ Some c)

-- what is told by token i of an entity of this nature
abbrev pub TokenSays : List Tok → ℕ → Bool → Nature → Key → Fact → Type 0
TokenSays tokens i declares n k f =
    Says (declares ≡ true) (IsOfNature n) (n.file_scope ≡ true) k (slice_index_or tokens i no_token) f

abbrev pub is_function : Kind → Bool
is_function kind.Function = true
is_function _ = false

abbrev pub is_object : Kind → Bool
is_object kind.Object = true
is_object _ = false

-- declarations of a name that has linkage: of a function, of an object, at file scope
abbrev pub is_linked_function : Name → Row → Bool
is_linked_function name x = is_linked_row name x && is_function x.decl.kind

abbrev pub is_linked_object : Name → Row → Bool
is_linked_object name x = is_linked_row name x && is_object x.decl.kind

abbrev pub is_linked_outside : Name → Row → Bool
is_linked_outside name x = is_linked_row name x && eqb x.path 0

-- one of the rows passes a test
abbrev pub any_row : (Row → Bool) → List Row → Bool
any_row test rows = is_some (position test rows)

-- the nature of what has a name with linkage: an object or a function, declared at file scope or not (C11 6.2.2)
abbrev pub linked_nature : Name → List Row → Nature
linked_nature name rows = record {
  kind = cond (any_row (is_linked_function name) rows) (Some kind.Function) None;
  other = cond (any_row (is_linked_object name) rows) (Some kind.Object) None;
  file_scope = any_row (is_linked_outside name) rows;
}

-- the nature of what a row declares
abbrev pub nature_of : Nature → Row → Nature
nature_of linked x =
    if has_linkage x.decl.linkage then linked else record { kind = Some x.decl.kind; other = None; file_scope = eqb x.path 0 }

-- ---- in parts

abbrev pub KindSays : Key → Option Kind → Fact → Type 0
KindSays k kind f = (c : Kind) × (kind ≡ Some c) × (f ≡ fact.OfKind k c)

abbrev pub NatureSays : Key → Nature → Fact → Type 0
NatureSays k n f =
    ((c : Kind) × IsOfNature n c × (f ≡ fact.OfKind k c)) ⊎ ((n.file_scope ≡ true) × (f ≡ fact.FileScope k))

abbrev pub PlaceSays : Bool → Key → Place → Fact → Type 0
PlaceSays declares k p f = (f ≡ fact.Denotes p k) ⊎ ((declares ≡ true) × (f ≡ fact.Declares k p))
