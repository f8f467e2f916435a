-- Look-ups by the bytes of a path, and what one more entry leaves of them.
use Rattle.std.proofs.Common.{◌≡◌, ◌≢◌, ℕ, Bool, true, false, List, refl, sym, ap, ◌∙◌, inr}
use Rattle.std.specs.Prelude.{Some, bytes_eq}
use Rattle.std.specs.Ordering.{is_eq, nat_cmp}
use Rattle.std.specs.Cmp.Lexicographic.{slice_cmp}
use Rattle.std.specs.BTreeMap.{BTreeMap, Updates}
use Rattle.std.proofs.lemmas.Slice.Eq.{bytes_eq-Decides}
use Rattle.std.proofs.lemmas.Map.Text.{is_eq-slice_cmp}
use Rattle.cr_world.specs.Memory.{files_of, PutIn}
use Rattle.cr_world.specs.Outside.{Files, ReplaceTells}
use Rattle.cr_world.specs.declared.outside.DoneEnd.TheVariants as done

not_true : (b : Bool) → (b ≡ true → ⊥) → b ≡ false
not_true true h = absurd (h refl)
not_true false h = refl

-- one path compared to another
differs : (path other : List ℕ) → other ≢ path → is_eq (slice_cmp nat_cmp path other) ≡ false
differs path other ne = is_eq-slice_cmp path other ∙ not_true (bytes_eq path other) (λ e. ne (sym ((bytes_eq-Decides path other).0 e)))

-- an update at a path puts its value there
pub put_in : (old new : BTreeMap (List ℕ) (List ℕ)) (path bytes : List ℕ) → Updates (slice_cmp nat_cmp) old new path (Some bytes) → PutIn path bytes (files_of old) (files_of new)
put_in old new path bytes h = (h.1, λ other ne. h.2 other (differs path other ne))

-- a failed replace that left all files
pub replace_failed : (old new : Files) (path bytes : List ℕ) → new ≡ old → ReplaceTells done.Failed path bytes (Some old) (Some new)
replace_failed old new path bytes same files e =
    let told : old ≡ files = cc in
    (new, refl, (inr (ap (λ (f : Files). f path) (same ∙ told)), λ other ne. ap (λ (f : Files). f other) (same ∙ told)))
