-- How the declarations of the two names are grouped.
use Rattle.std.specs.Prelude.{◌≡◌, ◌⊎◌, ℕ, ◌<◌, ◌≤◌, Bool, true, ◌&&◌, eqb, cond, if◌then◌else◌, Option, Some, None, List, [], length, position, slice_get, slice_index_or}
use Rattle.cr_base.specs.declared.token.Name.{Name}
use Rattle.cr_base.specs.declared.token.Tok.{Tok}
use Rattle.cr_base.specs.declared.key.Key.{Key}
use Rattle.cr_base.specs.declared.key.Key.TheVariants as key
use Rattle.cr_scope.specs.declared.Space.TheVariants as space
use Rattle.cr_scope.specs.Declarations.{same_space, same_name}
pub use Rattle.cr_scope.specs.Linkage.{has_linkage}
use Rattle.cr_binding.specs.Source.{no_token}
pub use Rattle.cr_binding.specs.Entities.{is_typedef_kind}
use Rattle.cr_binding.specs.Keys.{key_by}
pub use Rattle.cr_binding.specs.Keys.{is_external, tag_kind}
use Rattle.cr_declared.specs.declared.rows.Row.{Row}
use Rattle.cr_declared.specs.declared.rows.Slot.{Slot}
use Rattle.cr_groups.specs.declared.groups.Group.{Group}
use Rattle.cr_groups.specs.declared.build.Linked.{Linked}
use Rattle.cr_declared.specs.Rows.{same_slot, slot_of, is_in}
use Rattle.cr_groups.specs.Groups.{find_group}
use Rattle.cr_groups.specs.Rows.{IsOneOf}

abbrev pub is_linked_row : Name → Row → Bool
is_linked_row name x = has_linkage x.decl.linkage && same_name x.decl.name name

abbrev pub is_file_tag_row : Row → Bool
is_file_tag_row x = same_space x.decl.space space.Tag && eqb x.path 0

abbrev pub token_by : Option Row → ℕ → ℕ
token_by None i = i
token_by (Some x) i = x.decl.token

abbrev pub token_at : List Row → Option ℕ → ℕ → ℕ
token_at rows None i = i
token_at rows (Some n) i = token_by (slice_get rows n) i

abbrev pub key_in : ℕ → List Tok → ℕ → Key
key_in unit tokens i = key_by unit i (slice_index_or tokens i no_token).origin

abbrev pub text_in : List (List ℕ) → Name → List ℕ
text_in texts name = slice_index_or texts name.0 []

-- the first token of the entity of the first declaration of a slot
abbrev pub row_token : List Row → Row → ℕ
row_token rows x =
    if has_linkage x.decl.linkage then token_at rows (position (is_linked_row x.decl.name) rows) x.decl.token else x.decl.token

abbrev pub row_key : ℕ → List (List ℕ) → List Tok → List Row → Row → Key
row_key unit texts tokens rows x =
    if is_external x.decl.linkage
    then key.Ext (text_in texts x.decl.name)
    else (if is_file_tag_row x then key.Tag (tag_kind x.decl.kind) (text_in texts x.decl.name) else key_in unit tokens (row_token rows x))

-- each row has a token and a text
abbrev pub AreSpelled : List (List ℕ) → List Tok → List Row → Type 0
AreSpelled texts tokens rows = (j : ℕ) (x : Row) → slice_get rows j ≡ Some x → (x.decl.token < length tokens) × (x.decl.name.0 < length texts)

abbrev pub group_of : ℕ → List (List ℕ) → List Tok → List Row → ℕ → Row → Group
group_of unit texts tokens rows n x =
    record { first = n; is_typedef = is_typedef_kind x.decl.kind; key = row_key unit texts tokens rows x }

-- the slot has this group afterwards, and each other one what it had
abbrev pub Puts : Slot → Option Group → List (Slot × Group) → List (Slot × Group) → Type 0
Puts s r es es' = (a : Slot) → find_group a es' ≡ cond (same_slot a s) r (find_group a es)

-- what is found when row x, which has number n, is grouped too
abbrev pub or_new : Option Group → Group → Option Group
or_new None g = Some g
or_new (Some h) g = Some h

abbrev pub AddsRow : (old new : Name) → Row → Group → List (Slot × Group) → List (Slot × Group) → Type 0
AddsRow old new x g es es' =
    (IsOneOf old new x.decl.name × Puts (slot_of x) (or_new (find_group (slot_of x) es) g) es es')
    ⊎ ((IsOneOf old new x.decl.name → ⊥) × (es' ≡ es))

-- what a group tells of the first n rows
pub record IsFirst (unit : ℕ) (texts : List (List ℕ)) (tokens : List Tok) (rows : List Row) (old new : Name) (n : ℕ) (a : Slot) (g : Group) : Type 0 where
  pub named : IsOneOf old new a.name
  pub before : g.first < n
  pub first : (x : Row) × (slice_get rows g.first ≡ Some x) × (is_in a x ≡ true) × (g ≡ group_of unit texts tokens rows g.first x)
  pub earliest : (j : ℕ) (x : Row) → slice_get rows j ≡ Some x → is_in a x ≡ true → g.first ≤ j

pub record IsBuilt (unit : ℕ) (texts : List (List ℕ)) (tokens : List Tok) (rows : List Row) (old new : Name) (es : List (Slot × Group)) (n : ℕ) : Type 0 where
  pub none : (a : Slot) → IsOneOf old new a.name → find_group a es ≡ None → (j : ℕ) (x : Row) → j < n → slice_get rows j ≡ Some x → is_in a x ≡ true → ⊥
  pub some : (a : Slot) (g : Group) → find_group a es ≡ Some g → IsFirst unit texts tokens rows old new n a g

pub record AreLinked (rows : List Row) (old new : Name) (l : Linked) : Type 0 where
  pub of_old : l.old ≡ position (is_linked_row old) rows
  pub of_new : l.new ≡ position (is_linked_row new) rows
