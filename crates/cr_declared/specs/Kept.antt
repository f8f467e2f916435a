-- How declarations are kept, and what is seen of it.
use Rattle.std.specs.Prelude.{◌≡◌, ℕ, ◌+◌, ◌<◌, not, Bool, true, false, Option, Some, None, List, [], ◌∷◌, length, take, map, slice_get, MatchOption, option_and_then}
use Rattle.std.specs.Map.{lookup}
use Rattle.cr_base.specs.declared.token.Name.{Name}
use Rattle.cr_scope.specs.declared.Space.{Space}
use Rattle.cr_scope.specs.declared.Space.TheVariants as space
use Rattle.cr_scope.specs.declared.Decl.{Decl}
use Rattle.cr_scope.specs.Declarations.{is_prefix, same_name}
use Rattle.cr_scope.specs.Linkage.{linked}
use Rattle.cr_scope.specs.Redeclaration.{may_repeat, are_opposite}
use Rattle.cr_paths.specs.Paths.{path_at, AreDistinct}
use Rattle.cr_declared.specs.Rows.{slot, same_slot, is_in, entry_of, AreApart, AreFormed}
use Rattle.cr_declared.specs.declared.rows.Row.{Row}
use Rattle.cr_declared.specs.declared.rows.Slot.{Slot}
use Rattle.cr_declared.specs.declared.table.Ends.{Ends}

abbrev pub find_slot : Slot → List (Slot × Ends) → Option Ends
find_slot s es = lookup (same_slot s) es

abbrev pub find_linked : Name → List (Name × ℕ) → Option ℕ
find_linked name ls = lookup (same_name name) ls

-- the number of the path that a declaration gets
abbrev pub number_for : ℕ → ℕ → Space → ℕ
number_for place function space.Label = function
number_for place function space.Tag = place
number_for place function space.Ordinary = place

-- ---- the nearest declarations of a name

abbrev pub Encloses : List (List ℕ) → ℕ → ℕ → Type 0
Encloses ps q place = (q < length ps) × (is_prefix (path_at ps q) (path_at ps place) ≡ true)

-- in a scope around, and each other scope around that has some is around that one
abbrev pub IsNearest : List (List ℕ) → List (Slot × Ends) → ℕ → Space → Name → Option Ends → Type 0
IsNearest ps es place sp name r =
    MatchOption r
    ((q : ℕ) → Encloses ps q place → find_slot (slot q sp name) es ≡ None)
    (λ e. (q : ℕ) × Encloses ps q place × (find_slot (slot q sp name) es ≡ Some e) × ((o : ℕ) (f : Ends) → Encloses ps o place → find_slot (slot o sp name) es ≡ Some f → is_prefix (path_at ps o) (path_at ps q) ≡ true))

-- ---- the first and the last of a slot, and the first with linkage

-- one declaration before others
abbrev pub before : Bool → ℕ → Option Ends → Option Ends
before false n r = r
before true n None = Some (record { first = n; last = n })
before true n (Some e) = Some (record { first = n; last = e.last })

-- and one behind them
abbrev pub behind : Bool → ℕ → Option Ends → Option Ends
behind false n r = r
behind true n None = Some (record { first = n; last = n })
behind true n (Some e) = Some (record { first = e.first; last = n })

-- where the first of the list has number n
abbrev pub ends_from : ℕ → Slot → List Row → Option Ends
ends_from n s [] = None
ends_from n s (x ∷ xs) = before (is_in s x) n (ends_from (n + 1) s xs)

-- a further one with linkage, if this is one of the name
abbrev pub or_else : Bool → ℕ → Option ℕ → Option ℕ
or_else false n r = r
or_else true n None = Some n
or_else true n (Some i) = Some i

-- ---- whether a declaration clashes with an earlier one

abbrev pub repeats_wrong : Decl → Option Row → Bool
repeats_wrong d None = false
repeats_wrong d (Some x) = not (may_repeat d x.decl)

abbrev pub links_wrong : Decl → Option Row → Bool
links_wrong d None = false
links_wrong d (Some x) = are_opposite d.linkage x.decl.linkage

abbrev pub last_row : List Row → Option Ends → Option Row
last_row xs None = None
last_row xs (Some e) = slice_get xs e.last

abbrev pub row_at : List Row → Option ℕ → Option Row
row_at xs r = option_and_then (slice_get xs) r

-- ---- all of it

pub record ArePlaced (ps : List (List ℕ)) (place function : ℕ) : Type 0 where
  pub there : place < length ps
  pub distinct : AreDistinct ps
  pub file_scope : path_at ps 0 ≡ []
  -- the outermost scope below file scope, or file scope
  pub outer_there : function < length ps
  pub outermost : path_at ps function ≡ take 1 (path_at ps place)

pub record AreFound (ps : List (List ℕ)) (rows : List Row) (es : List (Slot × Ends)) (ls : List (Name × ℕ)) : Type 0 where
  pub within : (i : ℕ) (x : Row) → slice_get rows i ≡ Some x → x.path < length ps
  pub here : (s : Slot) → find_slot s es ≡ ends_from 0 s rows
  pub linked : (n : Name) → find_linked n ls ≡ linked n (map (entry_of ps) rows)
  pub apart : AreApart (map (entry_of ps) rows)
  pub formed : AreFormed (map (entry_of ps) rows)

pub record IsKept (ps : List (List ℕ)) (place function : ℕ) (rows : List Row) (es : List (Slot × Ends)) (ls : List (Name × ℕ)) : Type 0 where
  pub placed : ArePlaced ps place function
  pub found : AreFound ps rows es ls
