-- Where a value is refused, and where it is not.
use Rattle.std.proofs.Common.{◌≡◌, ℕ, ◌+◌, true, false, List, [], ◌∷◌, length, refl, sym, ap, ◌∙◌, subst, arith, rules, tests, ◌<◌, ◌≤◌, ◌≢◌}
use Rattle.std.specs.Prelude.{Option, Some, None, Result, Ok, Err, is_some, codes, nat_lt, IfOk, IfErr}
use Rattle.serde_json.specs.Data.{Data, Items, Members}
use Rattle.serde_json.specs.Find.{as_object, as_array}
use Rattle.serde_json.specs.View.{view, items_view}
use Rattle.serde_json.specs.declared.value.Value.{Value}
use Rattle.cr_compdb.specs.declared.entry.Entry.{Entry}
use Rattle.cr_compdb.specs.declared.entry.FieldName.TheVariants as field
use Rattle.cr_compdb.specs.declared.entry.DbFault.{DbFault}
use Rattle.cr_compdb.specs.declared.entry.DbFault.TheVariants as fault
use Rattle.cr_compdb.specs.Database.{found_or, text_at, entry_of, entry_with, count_of, units_in, units_of, entries_from, json_of, database, Gives, UnlessMemory, ◌>>=◌}

-- what is made of an object, a directory and a file, each of which may be missing
abbrev entry_from : ℕ → Option Members → Option (List ℕ) → Option (List ℕ) → (List ℕ → List ℕ → Result Entry DbFault) → Result Entry DbFault
entry_from n members directory file made = do
  object ← found_or (fault.Field n field.Object) members
  directory ← found_or (fault.Field n field.Directory) directory
  file ← found_or (fault.Field n field.File) file
  made directory file

opened : (n : ℕ) (d : Data) → entry_of n d ≡ entry_from n (as_object d) (text_at (codes "directory") d) (text_at (codes "file") d) (entry_with n d)
unfolding entry_of
opened n d = refl

-- any answer of an option that is there
there : {X : Type 0} (o : Option X) → is_some o ≡ true → (x : X) × (o ≡ Some x)
there None h = absurd (cc)
there (Some x) h = (x, refl)

missing : {X : Type 0} (o : Option X) → is_some o ≡ false → o ≡ None
missing None h = refl
missing (Some x) h = absurd (cc)

pub no_object : (n : ℕ) (d : Data) → is_some (as_object d) ≡ false → entry_of n d ≡ Err (fault.Field n field.Object)
no_object n d h = let none = missing (as_object d) h in rw (opened n d, none) refl

pub no_directory : (n : ℕ) (d : Data) → is_some (as_object d) ≡ true → text_at (codes "directory") d ≡ None → entry_of n d ≡ Err (fault.Field n field.Directory)
no_directory n d h none = let o = there (as_object d) h in rw (opened n d, o.1, none) refl

pub no_file : (n : ℕ) (d : Data) (directory : List ℕ) → is_some (as_object d) ≡ true → text_at (codes "directory") d ≡ Some directory → text_at (codes "file") d ≡ None → entry_of n d ≡ Err (fault.Field n field.File)
no_file n d directory h a none = let o = there (as_object d) h in rw (opened n d, o.1, a, none) refl

pub has_all : (n : ℕ) (d : Data) (directory file : List ℕ) → is_some (as_object d) ≡ true → text_at (codes "directory") d ≡ Some directory → text_at (codes "file") d ≡ Some file → entry_of n d ≡ entry_with n d directory file
has_all n d directory file h a b = let o = there (as_object d) h in rw (opened n d, o.1, a, b) refl

pub count_of-items_view : (items : List Value) → count_of (items_view items) ≡ length items
count_of-items_view [] = refl
count_of-items_view (x ∷ xs) = ap (λ n. n + 1) (count_of-items_view xs) ∙ omega arith

pub too_many : (items : List Value) → 16384 < length items → units_in (items_view items) ≡ Err fault.LimitUnits
too_many items h = let more : nat_lt 16384 (count_of (items_view items)) ≡ true = rw (count_of-items_view items) (search (rules, tests)) in rw more refl

pub few : (items : List Value) → length items ≤ 16384 → units_in (items_view items) ≡ entries_from 0 (items_view items)
few items h = let less : nat_lt 16384 (count_of (items_view items)) ≡ false = rw (count_of-items_view items) (search (rules, tests)) in rw less refl

pub no_array : (d : Data) → as_array d ≡ None → units_of d ≡ Err fault.NotArray
unfolding units_of
no_array d none = rw none refl

pub has_array : (d : Data) (items : Items) → as_array d ≡ Some items → units_of d ≡ units_in items
unfolding units_of
has_array d items is = rw is refl

pub has_value : (bytes : List ℕ) (d : Data) → found_or fault.NotJson (json_of bytes) ≡ Ok d → database bytes ≡ units_of d
unfolding database
has_value bytes d is = ap (λ (r : Result Data DbFault). r >>= units_of) is

pub no_value : (bytes : List ℕ) (f : DbFault) → found_or fault.NotJson (json_of bytes) ≡ Err f → database bytes ≡ Err f
unfolding database
no_value bytes f is = ap (λ (r : Result Data DbFault). r >>= units_of) is

-- what is given is given under an equal definition
pub gives_same : {V X : Type 0} (view : V → X) (x y : Result X DbFault) (r : Result V DbFault) → y ≡ x → Gives view x r → Gives view y r
gives_same {V} {X} view x y r e h = subst (λ (d : Result X DbFault). Gives view d r) (sym e) h

-- the two sides of what is given
pub given_ok : {V X : Type 0} (view : V → X) (x : Result X DbFault) (r : Result V DbFault) → Gives view x r → IfOk r (λ v. x ≡ Ok (view v))
given_ok view x (Ok v) h = h
given_ok view x (Err f) h = tt

given_fault : (P : Type 0) (f : DbFault) → UnlessMemory P f → f ≢ fault.OutOfMemory → P
given_fault P fault.NotJson h ne = h
given_fault P fault.NotArray h ne = h
given_fault P (fault.Field n name) h ne = h
given_fault P (fault.Quote n) h ne = h
given_fault P fault.LimitUnits h ne = h
given_fault P fault.OutOfMemory h ne = absurd (ne refl)

pub given_err : {V X : Type 0} (view : V → X) (x : Result X DbFault) (r : Result V DbFault) → Gives view x r → IfErr r (λ f. f ≢ fault.OutOfMemory → x ≡ Err f)
given_err view x (Ok v) h = tt
given_err view x (Err f) h = λ ne. given_fault (x ≡ Err f) f h ne

-- a fault of the bytes themselves
pub given_no_value : (bytes : List ℕ) (f : DbFault) → UnlessMemory (found_or fault.NotJson (json_of bytes) ≡ Err f) f → f ≢ fault.OutOfMemory → database bytes ≡ Err f
given_no_value bytes f h ne = no_value bytes f (given_fault (found_or fault.NotJson (json_of bytes) ≡ Err f) f h ne)
