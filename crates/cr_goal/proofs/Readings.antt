-- The entries of the database as it was read.
use Rattle.std.proofs.Common.{◌≡◌, ℕ, ◌≤◌, Bool, true, false, List, [], ◌∷◌, ◌++◌, length, refl, sym, ap, ◌∙◌, subst, arith, Result, Some}
use Rattle.std.specs.Prelude.{Ok, Err, bytes_eq, nat_lt, if◌then◌else◌, IfOk, codes}
use Rattle.std.proofs.lemmas.List.{append_cancel_left}
use Rattle.std.proofs.lemmas.Slice.Eq.{bytes_eq-Decides}
use Rattle.cr_world.specs.Outside.{Reading}
use Rattle.cr_compdb.specs.Database.{database}
use Rattle.cr_compdb.specs.declared.entry.Entry.{Entry}
use Rattle.cr_goal.specs.Units.{entries_of, entries_in, entries_or_fault, lone_entry}
use Rattle.cr_goal.specs.Reading.{as_read, AreEntriesRead, AreEntriesReadAt}
use Rattle.cr_goal.specs.Refusals.{Answers, bad_database}
use Rattle.cr_goal.specs.declared.goal.Listing.{Listing}
use Rattle.cr_goal.specs.declared.goal.Listing.TheVariants as listing
use Rattle.cr_goal.specs.declared.refusal.Refusal.{Refusal}

same_bytes : (path : List ℕ) → bytes_eq path path ≡ true
same_bytes path = (bytes_eq-Decides path path).1 refl

short_enough : (size : ℕ) → size ≤ 67108864 → nat_lt 67108864 size ≡ false
short_enough size le = grind (arith)

-- a database of these bytes was read at a path
pub own_at : {V : Type 0} (view : V → List Entry) (path bytes : List ℕ) (before now : List Reading) → now ≡ before ++ (path, bytes) ∷ [] → length bytes ≤ 67108864
    → (r : Result V Refusal) → Answers view (entries_or_fault (database bytes)) r → IfOk r (λ v. AreEntriesReadAt path (view v) before now)
own_at view path bytes before now e short (Ok v) h = λ more later f.
    let same : more ≡ (path, bytes) ∷ [] = append_cancel_left before more ((path, bytes) ∷ []) (sym f ∙ e) in
    subst (λ m. entries_in (as_read (m ++ later) path) ≡ Ok (view v)) (sym same)
    (ap (λ b. entries_in (if b then Some bytes else as_read later path)) (same_bytes path)
    ∙ ap (λ (b : Bool). if b then bad_database (codes "long") else entries_or_fault (database bytes)) (short_enough (length bytes) short) ∙ h)
own_at view path bytes before now e short (Err r) h = tt

-- the database of a goal was read
pub own_of_database : {V : Type 0} (view : V → List Entry) (units : Listing) (path : List ℕ) (before now : List Reading) → units ≡ listing.Database path
    → (r : Result V Refusal) → IfOk r (λ v. AreEntriesReadAt path (view v) before now) → IfOk r (λ v. AreEntriesRead units (view v) before now)
own_of_database view units path before now is (Ok v) h = λ more later f.
    subst (λ u. entries_of (as_read (more ++ later)) u ≡ Ok (view v)) (sym is) (h more later f)
own_of_database view units path before now is (Err r) h = tt

-- a source alone has no database
pub own_lone : (units : Listing) (source : List ℕ) (before now : List Reading) (entries : List Entry) → units ≡ listing.Alone source → entries ≡ lone_entry source → AreEntriesRead units entries before now
own_lone units source before now entries alone is more later f =
    ap (entries_of (as_read (more ++ later))) alone ∙ ap (λ es. Ok es) (sym is)
