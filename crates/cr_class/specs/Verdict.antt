-- Whether the entities of a class may be renamed, over the facts of all units. Each refusal is stated by itself; the
-- answer is the first of them, in the order of their steps.
use Rattle.std.specs.Prelude.{ℕ, ◌≡◌, ◌≢◌, ◌⊎◌, ◌<◌, ◌+◌, Bool, true, false, not, ◌&&◌, ◌||◌, ◌==◌, List, [], ◌∷◌, length, drop, Option, Some, None, if◌then◌else◌, bytes_eq, nat_eq, nat_le}
use Rattle.std.specs.List.{Contains, list_any, starts_with}
use Rattle.std.specs.FinSet.{contains}
use Rattle.std.specs.declared.cmp.Ordering.{Ordering}
use Rattle.std.specs.declared.cmp.Ordering.TheVariants.{Less}
use Rattle.std.specs.Ordering.{eq_by_cmp, ordering_then}
use Rattle.cr_base.specs.Path.{is_rooted, is_slash}
use Rattle.cr_base.specs.declared.token.Place.{Place}
use Rattle.cr_base.specs.declared.key.Key.{Key}
use Rattle.cr_base.specs.declared.key.Key.TheVariants as key
use Rattle.cr_base.specs.declared.cause.Role.{Role}
use Rattle.cr_base.specs.declared.cause.Role.TheVariants as role
use Rattle.cr_base.specs.contracts.cause.RoleOrd.TheImpl as role_ord
use Rattle.cr_facts.specs.FactOrder.{Facts}
use Rattle.cr_facts.specs.declared.fact.Fact.{Fact}
use Rattle.cr_facts.specs.declared.fact.Fact.TheVariants.{Denotes, FileScope, HasRole, MadeDenotes, NewKey, NewMacro, BodyParam, OpaqueAt, Conflict}
use Rattle.cr_lex.specs.Renaming.{is_before_quote}
use Rattle.cr_lex.specs.Joins.{rest}
use Rattle.cr_snapshot.specs.declared.known.KnownFile.{KnownFile}
use Rattle.cr_snapshot.specs.Files.{Finding, Present, finding}
use Rattle.cr_snapshot.specs.IncludeSearch.{is_apart}
use Rattle.cr_class.specs.RenameClass.{Has, key_cmp, place_cmp}
use Rattle.cr_class.specs.ShownOrder.{shown_cmp, path_of}
use Rattle.cr_class.specs.declared.class.Class.{Class}
use Rattle.cr_class.specs.declared.uses.Use.{Use}
use Rattle.cr_class.specs.declared.refusal.Refusal.{Refusal}
use Rattle.cr_class.specs.declared.refusal.Refusal.TheVariants as refusal

abbrev pub role_cmp : Role → Role → Ordering
role_cmp = (role_ord.ghosts).cmp

abbrev pub is_in_class : Class → Key → Bool
is_in_class class k = list_any (eq_by_cmp key_cmp k) class.keys

abbrev pub is_renamed : Class → Place → Bool
is_renamed class p = list_any (eq_by_cmp place_cmp p) class.places

-- the key of an entity with the new name in the place of its own; the record of a member stays
abbrev pub renamed_key : List ℕ → Key → Key
renamed_key new (key.Ext name) = key.Ext new
renamed_key new (key.Tag kind name) = key.Tag kind new
renamed_key new (key.Member owner name) = key.Member owner new
renamed_key new k = k

abbrev pub is_underscored : List ℕ → Bool
is_underscored [] = false
is_underscored (first ∷ rest) = first == 95

-- the class has an ordinary identifier or a tag of file scope
abbrev pub HasFileScope : Facts → Class → Type 0
HasFileScope facts class = (k : Key) × Has facts (FileScope k) × (is_in_class class k ≡ true)

-- A name that begins with an underscore is kept for the implementation at file scope, as an ordinary identifier and as a
-- tag (C11 7.1.3).
abbrev pub IsReservedScope : Facts → Class → List ℕ → Type 0
IsReservedScope facts class new = (is_underscored new ≡ true) × HasFileScope facts class

-- a macro has the new name: it would replace what is renamed (C11 6.10.3)
abbrev pub macro_place : Fact → Option Place
macro_place (NewMacro p) = Some p
macro_place _ = None

-- one of the roles in which a name is no final token that can be renamed alone
abbrev pub is_mixed_role : Role → Bool
is_mixed_role role.MacroName = true
is_mixed_role role.Param = true
is_mixed_role role.Controlling = true
is_mixed_role role.Directive = true
is_mixed_role _ = false

-- A place of the class that is a final token for an entity outside it too, or has another role in preprocessing (C11
-- 6.10.1, 6.10.3): to rename it would change what isn't meant.
abbrev pub mixed_use : (Key → Bool) → (Place → Bool) → Fact → Option Use
mixed_use in_class renamed (Denotes p k) = if renamed p && not (in_class k) then Some (record { place = p; role = role.Final }) else None
mixed_use in_class renamed (HasRole p r) = if renamed p && is_mixed_role r then Some (record { place = p; role = r }) else None
mixed_use in_class renamed _ = None

abbrev pub is_made_role : Role → Bool
is_made_role role.Stringized = true
is_made_role role.Pasted = true
is_made_role _ = false

-- A token that preprocessing makes denotes the class, or a string or a token is made of a place of it (C11 6.10.3.2,
-- 6.10.3.3): an edit can't rename it.
abbrev pub made_place : (Key → Bool) → (Place → Bool) → Fact → Option Place
made_place in_class renamed (MadeDenotes k p) = if in_class k then Some p else None
made_place in_class renamed (HasRole p r) = if renamed p && is_made_role r then Some p else None
made_place in_class renamed _ = None

-- A pragma or an attribute has the old or the new name: what it means isn't known (C11 6.10.6).
abbrev pub opaque_place : Fact → Option Place
opaque_place (OpaqueAt p) = Some p
opaque_place _ = None

-- A mention would change what it denotes, or a name in a macro's body would become a parameter of it (C11 6.2.1, 6.10.3).
abbrev pub capture_place : (Key → Bool) → (Place → Bool) → Fact → Option Place
capture_place in_class renamed (Conflict k p) = if in_class k then Some p else None
capture_place in_class renamed (BodyParam p) = if renamed p then Some p else None
capture_place in_class renamed _ = None

-- An entity of the class would become one with another that has the new name (C11 6.2.2, 6.2.7).
abbrev pub has_clash : Facts → Class → List ℕ → Bool
has_clash facts class new = list_any (λ k. contains facts (NewKey (renamed_key new k))) class.keys

-- what a fact of the set gives
abbrev pub IsGiven : {X : Type 0} → (Fact → Option X) → Facts → X → Type 0
IsGiven give facts x = (f : Fact) × Has facts f × (give f ≡ Some x)

-- a path is that of a root, or below it
abbrev pub ends_component : List ℕ → Bool
ends_component [] = true
ends_component (byte ∷ rest) = is_slash byte

abbrev pub is_below : List ℕ → List ℕ → Bool
is_below root path = starts_with nat_eq path root && ends_component (drop (length root) path)

-- A path is inside a root: `/` holds each absolute path, the empty path each relative one, any other itself and what is
-- below it.
abbrev pub is_inside : List ℕ → List ℕ → Bool
is_inside [] path = not (is_rooted path)
is_inside (byte ∷ rest) path = if bytes_eq (byte ∷ rest) (47 ∷ []) then is_rooted path else is_below (byte ∷ rest) path

-- A file that no edit reaches: it stands beside all files, or outside the root that was given.
abbrev pub is_unwritable_path : Option (List ℕ) → List ℕ → Bool
is_unwritable_path None path = is_apart path
is_unwritable_path (Some root) path = is_apart path || not (is_inside root path)

abbrev pub present_bytes : Finding → List ℕ
present_bytes (Present n bytes) = bytes
present_bytes _ = []

-- the bytes of the file of a place
abbrev pub bytes_of : List KnownFile → Place → List ℕ
bytes_of files p = present_bytes (finding (path_of files p) files)

-- a name stands at an offset byte by byte
abbrev pub stands_at : List ℕ → List ℕ → ℕ → Bool
stands_at name bytes at = nat_le (at + length name) (length bytes) && starts_with nat_eq (drop at bytes) name

-- The new name can't be spelled at an offset: the old one doesn't stand there byte by byte, so that a joined line is
-- inside it, or the next byte in no join is a quote that the new name could prefix (C11 5.1.1.2, 6.4.4.4, 6.4.5).
abbrev pub is_unspellable_at : List ℕ → List ℕ → List ℕ → ℕ → Bool
is_unspellable_at old new bytes at = if stands_at old bytes at then is_before_quote new (rest bytes (at + length old)) else true

-- one that is least in an order
abbrev pub IsLeast : {X : Type 0} → (X → X → Ordering) → (X → Type 0) → X → Type 0
IsLeast {X} R P x = P x × ((y : X) → P y → R y x ≢ Less)

-- a fact says that a name would denote something else at a place
abbrev pub IsCaptured : Facts → Class → Place → Type 0
IsCaptured facts class = IsGiven (capture_place (is_in_class class) (is_renamed class)) facts

-- Where an entity would become one with another, each place of the class is one of a clash.
abbrev pub IsClashPlace : Facts → Class → List ℕ → Place → Type 0
IsClashPlace facts class new p = Contains class.places p × (has_clash facts class new ≡ true)

-- the order in which uses are shown: by place, then by role
abbrev pub use_cmp : List KnownFile → Use → Use → Ordering
use_cmp files u v = ordering_then (shown_cmp files u.place v.place) (role_cmp u.role v.role)

-- The refusal holds, with the least of its places.
abbrev pub Refuses : Facts → Class → List KnownFile → Option (List ℕ) → (old new : List ℕ) → Refusal → Type 0
Refuses facts class files root old new refusal.Reserved = IsReservedScope facts class new
Refuses facts class files root old new (refusal.NewIsMacro p) = IsLeast (shown_cmp files) (IsGiven macro_place facts) p
Refuses facts class files root old new (refusal.Mixed p r) = IsLeast (use_cmp files) (IsGiven (mixed_use (is_in_class class) (is_renamed class)) facts) (record { place = p; role = r })
Refuses facts class files root old new (refusal.Made p) = IsLeast (shown_cmp files) (IsGiven (made_place (is_in_class class) (is_renamed class)) facts) p
Refuses facts class files root old new (refusal.Unwritable p) =
    IsLeast (shown_cmp files) (λ q. Contains class.places q × (is_unwritable_path root (path_of files q) ≡ true)) p
Refuses facts class files root old new (refusal.Spelling p) =
    IsLeast (shown_cmp files) (λ q. Contains class.places q × (is_unspellable_at old new (bytes_of files q) q.offset ≡ true)) p
Refuses facts class files root old new (refusal.Opaque p) = IsLeast (shown_cmp files) (IsGiven opaque_place facts) p
Refuses facts class files root old new (refusal.Capture p) =
    IsLeast (shown_cmp files) (IsCaptured facts class) p
    ⊎ (((q : Place) → IsCaptured facts class q → ⊥) × IsLeast (shown_cmp files) (IsClashPlace facts class new) p)

-- the order of the refusals
abbrev pub step_of : Refusal → ℕ
step_of refusal.Reserved = 0
step_of (refusal.NewIsMacro p) = 1
step_of (refusal.Mixed p r) = 2
step_of (refusal.Made p) = 3
step_of (refusal.Unwritable p) = 4
step_of (refusal.Spelling p) = 5
step_of (refusal.Opaque p) = 6
step_of (refusal.Capture p) = 7

module _ (facts : Facts) (class : Class) (files : List KnownFile) (root : Option (List ℕ)) (old new : List ℕ) where
  -- no refusal of a step holds
  abbrev pub Passes : ℕ → Type 0
  Passes step = (r : Refusal) → step_of r ≡ step → Refuses facts class files root old new r → ⊥

  -- the refusal holds, and none of an earlier step does
  abbrev pub IsFirstRefusal : Refusal → Type 0
  IsFirstRefusal r = Refuses facts class files root old new r × ((step : ℕ) → step < step_of r → Passes step)

-- each place of the class is in a file whose number these files have
abbrev pub KnowsClass : List KnownFile → Class → Type 0
KnowsClass files class = (p : Place) → Contains class.places p → p.path.0 < length files
