-- In a unit without conflicts of a class no mention has one.
use Rattle.std.specs.Prelude.{◌≡◌, ℕ, zero, suc, ◌+◌, ◌<◌, Bool, Some, None, List, [], ◌∷◌, length, map, take, slice_get}
use Rattle.std.proofs.Common.{refl, sym, ◌∙◌, ap, subst, add-one, arith}
use Rattle.std.proofs.lemmas.List.{length-map}
use Rattle.cr_base.specs.declared.Name.{Name}
use Rattle.cr_scope.specs.declared.DeclNo.{DeclNo}
use Rattle.cr_scope.specs.Declarations.{Entry, Flat, number}
use Rattle.cr_capture.specs.declared.Mention.{Mention}
use Rattle.cr_capture.specs.declared.Mention.TheVariants as mention
use Rattle.cr_capture.specs.Renaming.{IsFree, up_to}
use Rattle.cr_binding.specs.Source.{Source, name_at}
use Rattle.cr_binding.specs.State.{Declaration, State}
use Rattle.cr_binding.specs.Entities.{entry}
use Rattle.cr_binding.specs.UnitConflicts.{entries_at, scopes_at, Mentions}
use Rattle.cr_binding.specs.ActionsStay.{declared_by}
use Rattle.cr_binding.specs.FreeUnits.{IsFreeUnit, MentionsAreFree, NewTagsAreFree, AsksAreFree, DeclarationsAreFree, AllAreFree}
use Rattle.cr_binding.proofs.Asking.{declaration_of}

-- what stands in the front of a list stands in the list
from_front : (xs : List Declaration) (n i : ℕ) (d : Declaration) → slice_get (take n xs) i ≡ Some d → slice_get xs i ≡ Some d
from_front [] zero i d h = h
from_front [] (suc n) i d h = h
from_front (x ∷ xs) zero i d h = cc
from_front (x ∷ xs) (suc n) zero d h = h
from_front (x ∷ xs) (suc n) (suc i) d h = from_front xs n i d h

front_of_front : (t : Source) (xs : List Declaration) (n i : ℕ) → i < length (take n xs) → take (suc i) (map (entry t) (take n xs)) ≡ map (entry t) (take (suc i) xs)
front_of_front t [] zero i h = absurd (omega arith)
front_of_front t [] (suc n) i h = absurd (omega arith)
front_of_front t (x ∷ xs) zero i h = absurd (omega arith)
front_of_front t (x ∷ xs) (suc n) zero h = refl
front_of_front t (x ∷ xs) (suc n) (suc i) h = ap (λ es. entry t x ∷ es) (front_of_front t xs n i (omega arith))

front_within : (xs : List Declaration) (n i : ℕ) → i < length (take n xs) → i < length xs
front_within [] zero i h = h
front_within [] (suc n) i h = h
front_within (x ∷ xs) zero i h = absurd (omega arith)
front_within (x ∷ xs) (suc n) zero h = omega arith
front_within (x ∷ xs) (suc n) (suc i) h = let k : i < length xs = front_within xs n i (omega arith) in omega arith

module _ (class : ℕ → Bool) (old new : Name) (t : Source) (s : State) (free : IsFreeUnit class old new t s) where
  free_of : (f : Flat) (what : Mention) (n : ℕ) → f.entries ≡ entries_at t s n → Mentions t s f what → IsFree (declared_by class) f old new what
  free_of f what n at m d token e conflict is_entry cls =
      let c : (c : Declaration) × (slice_get (take n s.declarations) (number d) ≡ Some c) × (entry t c ≡ e) = declaration_of t (take n s.declarations) (number d) e (subst (λ es. slice_get es (number d) ≡ Some e) at is_entry) in
      free.mentions f what (Some d, token) c.0 m conflict (from_front s.declarations n (number d) c.0 c.1) (ap (λ (x : Entry). class x.decl.token) c.2 ∙ cls)

  one_free : (f : Flat) (d : DeclNo) → number d < length s.declarations → f.entries ≡ entries_at t s (number d + 1) → IsFree (declared_by class) f old new (mention.Declared d)
  one_free f d within at = free_of f (mention.Declared d) (number d + 1) at (within, at)

pub mentions_are_free : MentionsAreFree
mentions_are_free class old new t s free sp i path before d there =
    free_of class old new t s free (scopes_at t s path before) (mention.Named sp (name_at t i) i (Some d)) before refl (path, before, there, refl, (refl, refl))

pub new_tags_are_free : NewTagsAreFree
new_tags_are_free class old new t s free sp i path before there =
    free_of class old new t s free (scopes_at t s path (before + 1)) (mention.Named sp (name_at t i) i None) (before + 1) refl (path, before, there, refl, (refl, refl))

pub asks_are_free : AsksAreFree
asks_are_free class old new t s free i path before parameter there of =
    free_of class old new t s free (scopes_at t s path before) (mention.Asked (name_at t i) i parameter) before refl (path, before, there, refl, (refl, refl), of)

pub declarations_are_free : DeclarationsAreFree
declarations_are_free class old new t s free f d within at = one_free class old new t s free f d within at

pub all_are_free : AllAreFree
all_are_free class old new t s free path n c within =
    let w : number c < length (take n s.declarations) = subst (λ k. number c < k) (length-map (take n s.declarations) (entry t)) within in
    one_free class old new t s free (up_to (scopes_at t s path n) c) c (front_within s.declarations n (number c) w)
    (ap (λ k. take k (entries_at t s n)) (add-one (number c)) ∙ front_of_front t s.declarations n (number c) w ∙ ap (λ k. map (entry t) (take k s.declarations)) (sym (add-one (number c))))
