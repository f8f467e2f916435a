-- A run has at most 16,384 units.
use Rattle.std.proofs.Common.{◌≡◌, ℕ, suc, ◌+◌, ◌≤◌, Bool, true, false, List, [], ◌∷◌, ◌++◌, length, Option, Some, None, refl, sym, ap, ◌∙◌, subst, arith, Result, Ok, Err}
use Rattle.std.specs.Prelude.{if◌then◌else◌, nat_lt, codes}
use Rattle.std.proofs.lemmas.Bool.Decides.{nat_tests}
use Rattle.serde_json.specs.Data.{Items, no_items, item}
use Rattle.serde_json.specs.Find.{as_array}
use Rattle.cr_base.specs.declared.unit.Unit.{Unit as TranslationUnit}
use Rattle.cr_world.specs.Outside.{Files, Reading}
use Rattle.cr_compdb.specs.Database.{◌>>=◌, found_or, entry_of, entries_from, count_of, units_in as items_in, units_of, json_of, database}
use Rattle.cr_compdb.specs.declared.entry.Entry.{Entry}
use Rattle.cr_compdb.specs.declared.entry.Entry.TheVariants as entry
use Rattle.cr_compdb.specs.declared.entry.DbFault.{DbFault}
use Rattle.cr_compdb.specs.declared.entry.DbFault.TheVariants as fault
use Rattle.cr_goal.specs.Units.{entries_of, entries_in, entries_or_fault, of_fault, lone_entry, units_in}
use Rattle.cr_goal.specs.Refusals.{bad_database}
use Rattle.cr_goal.specs.Reading.{as_read, AreEntriesRead}
use Rattle.cr_goal.specs.declared.goal.Listing.{Listing}
use Rattle.cr_goal.specs.declared.goal.Listing.TheVariants as listing

both_ok : {A B : Type 0} (a : Result A DbFault) (next : A → Result B DbFault) (b : B) → (a >>= next) ≡ Ok b → (x : A) × (a ≡ Ok x) × (next x ≡ Ok b)
both_ok (Ok x) next b h = (x, refl, h)
both_ok (Err f) next b h = let bad : ⊥ = cc in absurd bad

entries_many : (n : ℕ) (items : Items) (es : List Entry) → entries_from n items ≡ Ok es → length es ≡ count_of items
entries_many n no_items es h = let same : [] ≡ es = cc in ap length (sym same)
entries_many n (item d more) es h =
    let one = both_ok (entry_of n d) _ es h in
    let two = both_ok (entries_from (n + 1) more) _ es one.2 in
    let same : one.0 ∷ two.0 ≡ es = let e : Ok (one.0 ∷ two.0) ≡ Ok es = two.2 in cc in
    let rest = entries_many (n + 1) more two.0 two.1 in
    sym (ap length same) ∙ (let e : suc (length two.0) ≡ count_of more + 1 = omega (arith, rest) in e)

items_few : (items : Items) (es : List Entry) → items_in items ≡ Ok es → length es ≤ 16384
items_few items es h = by (nat_lt 16384 (count_of items)) refl h
  where
    by : (b : Bool) → nat_lt 16384 (count_of items) ≡ b → (if b then Err fault.LimitUnits else entries_from 0 items) ≡ Ok es → length es ≤ 16384
    by true e g = let bad : ⊥ = cc in absurd bad
    by false e g = let m = entries_many 0 items es g in grind (arith, nat_tests)

database_few : (bytes : List ℕ) (es : List Entry) → database bytes ≡ Ok es → length es ≤ 16384
unfolding database units_of
database_few bytes es h =
    let one = both_ok (found_or fault.NotJson (json_of bytes)) units_of es h in
    let two = both_ok (found_or fault.NotArray (as_array one.0)) items_in es one.2 in
    items_few two.0 es two.2

entries_few : (files : Files) (units : Listing) (es : List Entry) → entries_of files units ≡ Ok es → length es ≤ 16384
entries_few files (listing.Alone source) es h = let same : lone_entry source ≡ es = cc in subst (λ (l : List Entry). length l ≤ 16384) same (omega arith)
entries_few files (listing.Database path) es h = at (files path) h
  where
    faulty : (f : DbFault) → of_fault {A = List Entry} f ≡ Ok es → ⊥
    faulty fault.NotJson g = cc
    faulty fault.NotArray g = cc
    faulty (fault.Field n name) g = cc
    faulty (fault.Quote n) g = cc
    faulty fault.LimitUnits g = cc
    faulty fault.OutOfMemory g = cc

    made : (r : Result (List Entry) DbFault) (bytes : List ℕ) → database bytes ≡ r → entries_or_fault r ≡ Ok es → length es ≤ 16384
    made (Ok xs) bytes e g = let same : xs ≡ es = cc in subst (λ (l : List Entry). length l ≤ 16384) same (database_few bytes xs e)
    made (Err f) bytes e g = absurd (faulty f g)

    at : (o : Option (List ℕ)) → entries_in o ≡ Ok es → length es ≤ 16384
    at None g = let bad : ⊥ = cc in absurd bad
    at (Some bytes) g = long (nat_lt 67108864 (length bytes)) refl
      where
        long : (b : Bool) → nat_lt 67108864 (length bytes) ≡ b → length es ≤ 16384
        long true e =
            let no : bad_database (codes "long") ≡ Ok es = sym (ap (λ (b : Bool). if b then bad_database {A = List Entry} (codes "long") else entries_or_fault (database bytes)) e) ∙ g in
            let bad : ⊥ = cc in absurd bad
        long false e = made (database bytes) bytes refl (sym (ap (λ (b : Bool). if b then bad_database {A = List Entry} (codes "long") else entries_or_fault (database bytes)) e) ∙ g)

units_few : (es : List Entry) → length (units_in es) ≤ length es
units_few [] = omega arith
units_few (entry.Unit u ∷ es) = let more = units_few es in omega (arith, more)
units_few (entry.Skipped n path ∷ es) = let more = units_few es in omega (arith, more)

-- the units of entries that were read
pub read_few : (units : Listing) (es : List Entry) (before now more : List Reading) (us : List TranslationUnit) → now ≡ before ++ more → AreEntriesRead units es before now → us ≡ units_in es → length us ≤ 16384
read_few units es before now more us e own same =
    let few = entries_few (as_read (more ++ [])) units es (own more [] e) in
    let units = units_few es in
    let count = ap length same in
    omega (arith, few, units, count)
