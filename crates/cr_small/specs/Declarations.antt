-- The declarations of a translation unit as one flat list, and what a name means (C11 6.2.1, 6.2.2, 6.7).
use Rattle.std.specs.Prelude.{ℕ, Bool, true, false, not, ◌&&◌, ◌||◌, List, [], ◌∷◌, Option, Some, None, if◌then◌else◌, bytes_eq}
use Rattle.std.specs.List.{list_any, find}
use Rattle.std.specs.Option.{option_or}
use Rattle.cr_small.specs.declared.grammar.Storage.{Storage}
use Rattle.cr_small.specs.declared.grammar.Storage.TheVariants as storage

-- A declaration: the scope in which it stands, as the numbers of the scopes entered with the innermost first
-- (none at file scope); its name; the number of its token; whether it is a function, and else an object; whether it
-- has linkage; and whether that is internal, and else external.
pub record Entry : Type 0 where
  pub path : List ℕ
  pub name : List ℕ
  pub token : ℕ
  pub function : Bool
  pub linked : Bool
  pub internal : Bool

-- the entry is of this scope and name
abbrev pub is_in : List ℕ → List ℕ → Entry → Bool
is_in path name entry = bytes_eq entry.path path && bytes_eq entry.name name

-- the last entry of this scope and name
abbrev pub last_in : List ℕ → List ℕ → List Entry → Option Entry
last_in path name [] = None
last_in path name (entry ∷ entries) = option_or (last_in path name entries) (if is_in path name entry then Some entry else None)

-- What a name means in a scope: its last declaration there, else what it means in the scope around (C11 6.2.1p4).
abbrev pub lookup : List Entry → List ℕ → List ℕ → Option Entry
lookup entries name [] = last_in [] name entries
lookup entries name (scope ∷ around) = option_or (last_in (scope ∷ around) name entries) (lookup entries name around)

abbrev pub is_linked : List ℕ → Entry → Bool
is_linked name entry = entry.linked && bytes_eq entry.name name

-- the first declaration of a name with linkage
abbrev pub first_linked : List ℕ → List Entry → Option Entry
first_linked name entries = find (is_linked name) entries

abbrev pub token_or : ℕ → Option Entry → ℕ
token_or own None = own
token_or own (Some entry) = entry.token

-- The first declaring token of the entity that an entry declares: all declarations of a name with linkage are one
-- entity, and any other is one by itself (C11 6.2.2p2).
abbrev pub entity_of : List Entry → Entry → ℕ
entity_of entries entry = if entry.linked then token_or entry.token (first_linked entry.name entries) else entry.token

abbrev pub both_or_neither : Bool → Bool → Bool
both_or_neither true b = b
both_or_neither false b = not b

-- Whether a declaration at file scope has internal linkage: of a function or an object; where the visible declaration
-- of its name has internal linkage or not; with a storage word or none. With `static` it has (C11 6.2.2p3). With
-- `extern` (p4), and of a function without a word (p5), it has the linkage of the visible declaration, and else
-- external linkage. Of an object without a word it has external linkage (p5).
abbrev pub is_internal : Bool → Bool → Option Storage → Bool
is_internal function seen None = function && seen
is_internal function seen (Some storage.Static) = true
is_internal function seen (Some storage.Extern) = seen

-- the visible declaration of a name has internal linkage
abbrev pub is_seen_internal : Option Entry → Bool
is_seen_internal None = false
is_seen_internal (Some entry) = entry.internal

abbrev pub are_linked : Entry → Entry → Bool
are_linked new old = new.linked && old.linked

-- two declarations in one scope, unless both have linkage and are of one kind (C11 6.7p3)
abbrev pub is_second : Entry → Entry → Bool
is_second new old = bytes_eq old.path new.path && not (are_linked new old && both_or_neither new.function old.function)

-- one has internal and the other external linkage (C11 6.2.2p7)
abbrev pub are_opposite : Entry → Entry → Bool
are_opposite new old = are_linked new old && not (both_or_neither new.internal old.internal)

-- Two declarations of a name clash.
abbrev pub clashes : Entry → Entry → Bool
clashes new old = bytes_eq old.name new.name && (is_second new old || are_opposite new old)

abbrev pub is_redeclared : List Entry → Entry → Bool
is_redeclared entries new = list_any (clashes new) entries
