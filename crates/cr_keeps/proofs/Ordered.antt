-- Places of one file are ordered by their offsets.
use Rattle.std.specs.Prelude.{◌≡◌, ℕ, ◌<◌, Bool, true, false, ◌==◌, cond, nat_lt}
use Rattle.std.specs.declared.cmp.Ordering.TheVariants.{Less, Equal, Greater}
use Rattle.std.specs.Ordering.{nat_cmp, ordering_then}
use Rattle.std.specs.Cmp.{nat_cmp_total, tied_itself}
use Rattle.std.proofs.Common.{refl, sym, ◌∙◌, ap}
use Rattle.std.proofs.lemmas.Bool.{ltb-true}
use Rattle.cr_keeps.proofs.EditingStated.{PlacesAreOrdered}

less_is : (a b : ℕ) → nat_cmp a b ≡ Less → a < b
less_is a b = by (nat_lt a b) (a == b) refl
  where
    by : (x y : Bool) → nat_lt a b ≡ x → cond x Less (cond y Equal Greater) ≡ Less → a < b
    by true y h e = ltb-true a b h
    by false true h e = cc
    by false false h e = cc

pub places_are_ordered : PlacesAreOrdered
places_are_ordered p q less same = less_is p.offset q.offset (sym (ap (λ o. ordering_then o (nat_cmp p.offset q.offset)) (ap (nat_cmp p.path.0) (sym same) ∙ tied_itself nat_cmp_total p.path.0)) ∙ less)
