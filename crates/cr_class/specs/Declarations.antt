-- What the facts of a list say of declarations, in their order. No contract of a public call cites it.
use Rattle.std.specs.Prelude.{ℕ, ◌≡◌, Bool, ◌&&◌, List, [], ◌∷◌, length, slice_get, Option, Some, None, if◌then◌else◌}
use Rattle.std.specs.declared.cmp.Ordering.{Ordering}
use Rattle.std.specs.Ordering.{is_lt, is_eq}
use Rattle.cr_base.specs.declared.token.Place.{Place}
use Rattle.cr_base.specs.declared.key.Key.{Key}
use Rattle.cr_facts.specs.FactOrder.{Facts}
use Rattle.cr_facts.specs.declared.fact.Fact.{Fact}
use Rattle.cr_facts.specs.declared.fact.Fact.TheVariants.{Declares, Denotes, OfKind, FileScope}
use Rattle.std.specs.FinSet.{contains}
use Rattle.cr_snapshot.specs.declared.known.KnownFile.{KnownFile}
use Rattle.cr_class.specs.ShownOrder.{shown_cmp}
use Rattle.cr_class.specs.RenameClass.{Has, is_file_scope, is_renamable}

abbrev pub declared_key : Fact → Option Key
declared_key (Declares k p) = Some k
declared_key _ = None

abbrev pub declared_place : Fact → Option Place
declared_place (Declares k p) = Some p
declared_place _ = None

-- the keys and the places of all declarations, beside one another
pub record AreDeclarations (facts : Facts) (keys : List Key) (places : List Place) : Type 0 where
  pub count : length keys ≡ length places
  pub only : (i : ℕ) (k : Key) (p : Place) → slice_get keys i ≡ Some k → slice_get places i ≡ Some p → Has facts (Declares k p)
  pub all : (k : Key) (p : Place) → Has facts (Declares k p) → (i : ℕ) × (slice_get keys i ≡ Some k) × (slice_get places i ≡ Some p)

-- the place at which a fact declares an ordinary identifier of file scope
abbrev pub file_scope_place : Facts → Fact → Option Place
file_scope_place facts (Declares k p) = if is_file_scope facts k then Some p else None
file_scope_place facts _ = None

-- the key of an ordinary identifier that a fact puts at file scope
abbrev pub file_scope_key : Facts → Fact → Option Key
file_scope_key facts (FileScope k) = if is_file_scope facts k then Some k else None
file_scope_key facts _ = None

-- the lesser one of what was found and another
abbrev pub lesser : {T : Type 0} → (T → T → Ordering) → Option T → T → T
lesser R None x = x
lesser R (Some best) x = if is_lt (R x best) then x else best

abbrev pub least : {T : Type 0} → (T → T → Ordering) → Option T → List T → Option T
least R best [] = best
least R best (x ∷ xs) = least R (Some (lesser R best x)) xs

-- the key of a fact on a kind, where it can be renamed and a place denotes it
abbrev pub denoted_key : Facts → Place → Fact → Option Key
denoted_key facts p (OfKind k kind) = if is_renamable facts k && contains facts (Denotes p k) then Some k else None
denoted_key facts p _ = None

-- the key that a fact declares at file scope at a place that is shown where another one is
abbrev pub key_shown_at : List KnownFile → Facts → Place → Fact → Option Key
key_shown_at files facts first (Declares k p) = if is_file_scope facts k && is_eq (shown_cmp files p first) then Some k else None
key_shown_at files facts first _ = None

-- the place of a fact that says that it denotes an entity of a known key
abbrev pub known_place : (Key → Bool) → Fact → Option Place
known_place known (Denotes p k) = if known k then Some p else None
known_place known _ = None
