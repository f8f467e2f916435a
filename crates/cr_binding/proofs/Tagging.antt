-- A renaming without a conflict keeps the tag of the present scope.
use Rattle.std.specs.Prelude.{◌≡◌, ℕ, suc, Bool, true, false, cond, ◌&&◌, Option, Some, option_map, List, [], ◌∷◌, length, slice_get}
use Rattle.std.specs.List.{find}
use Rattle.std.proofs.Common.{refl, sym, ◌∙◌, ap, inl, inr}
use Rattle.cr_base.specs.declared.Name.{Name}
use Rattle.cr_scope.specs.declared.Space.TheVariants as space
use Rattle.cr_scope.specs.declared.DeclNo.{DeclNo}
use Rattle.cr_scope.specs.Declarations.{Entry, number, same_name}
use Rattle.cr_scope.specs.Redeclaration.{same_path}
use Rattle.cr_scope.proofs.Looked.{one_space}
use Rattle.cr_scope.proofs.Paths.{same_path_true}
use Rattle.cr_capture.specs.declared.Mention.TheVariants as mention
use Rattle.cr_capture.specs.Renaming.{IsRenaming, IsFree}
use Rattle.cr_capture.proofs.KeptLinkage.{same_names}
use Rattle.cr_capture.proofs.KeptTag.{at_front, at_end}
use Rattle.cr_binding.specs.Source.{Source, name_at}
use Rattle.cr_binding.specs.State.{Declaration, State}
use Rattle.cr_binding.specs.Entities.{entry, is_tag, is_tag_here}
use Rattle.cr_binding.specs.ActionsStay.{IsRespelled, declared_by, entries_of, scopes_with, tag_at, KeepsTagHere}
use Rattle.cr_binding.proofs.Renaming.{not_beside, entry_found}
use Rattle.cr_binding.proofs.Selecting.{both_alike, both_unlike}

-- two tests that agree find the same
same_find : (p q : Declaration → Bool) (xs : List Declaration) → ((k : ℕ) (n : Declaration) → slice_get xs k ≡ Some n → q n ≡ p n) → find q xs ≡ find p xs
same_find p q [] each = refl
same_find p q (x ∷ xs) each =
    ap (λ b. cond b (Some x) (find q xs)) (each 0 x refl)
    ∙ ap (λ o. cond (p x) (Some x) o) (same_find p q xs (λ k n at. each (suc k) n at))

abbrev mapped : Source → Option Declaration → Option Entry
mapped t d = option_map (entry t) d

behind_two : (a b x y : Bool) → (a ≡ true → b ≡ true → x ≡ y) → (a && (b && x)) ≡ (a && (b && y))
behind_two true true x y h = h refl refl
behind_two true false x y h = refl
behind_two false b x y h = refl

all_three : (a b c : Bool) → a ≡ true → b ≡ true → c ≡ true → (a && (b && c)) ≡ true
all_three a b c x y z = ap (λ p. p && (b && c)) x ∙ ap (λ p. p && c) y ∙ z

module _ (class : ℕ → Bool) (old new : Name) (t u : Source) (s : State) (i : ℕ) (own : DeclNo) (respelled : IsRespelled class new t u) (of : IsRenaming (declared_by class) old new (scopes_with t s (tag_at s i)).entries) (n : number own ≡ length (entries_of t s)) (free : IsFree (declared_by class) (scopes_with t s (tag_at s i)) old new (mention.Declared own)) (whole : (k : ℕ) (d : Declaration) → slice_get s.declarations k ≡ Some d → is_tag_here t s.present i d ≡ true → class i ≡ class d.token) where
  own_at : slice_get (scopes_with t s (tag_at s i)).entries (number own) ≡ Some (entry t (tag_at s i))
  own_at = ap (slice_get (scopes_with t s (tag_at s i)).entries) n ∙ at_end (entries_of t s) (entry t (tag_at s i))

  new_name : (j : ℕ) (b : Bool) → class j ≡ b → name_at u j ≡ cond b new (name_at t j)
  new_name j b e = respelled.names j ∙ ap (λ b. cond b new (name_at t j)) e

  -- the names of a tag of the present scope and of the token
  names_alike : (k : ℕ) (d : Declaration) → slice_get s.declarations k ≡ Some d → is_tag d ≡ true → same_path d.path s.present ≡ true → same_name (name_at u d.token) (name_at u i) ≡ same_name (name_at t d.token) (name_at t i)
  names_alike k d at tag path = by (class i) (class d.token) refl refl
    where
      there : slice_get (scopes_with t s (tag_at s i)).entries k ≡ Some (entry t d)
      there =
          at_front (entries_of t s) (entry t (tag_at s i)) k (entry t d) (sym (entry_found t s.declarations k) ∙ ap (mapped t) at)

      one_class : name_at t d.token ≡ name_at t i → class i ≡ class d.token
      one_class h =
          whole k d at (all_three (is_tag d) (same_path d.path s.present) (same_name (name_at t d.token) (name_at t i)) tag path (same_names (name_at t d.token) (name_at t i) h))

      by : (a b : Bool) → class i ≡ a → class d.token ≡ b → same_name (name_at u d.token) (name_at u i) ≡ same_name (name_at t d.token) (name_at t i)
      by true true ci cd =
          both_alike (name_at u d.token) (name_at u i) (name_at t d.token) (name_at t i) (new_name d.token true cd ∙ sym (new_name i true ci)) (of.named k (entry t d) there cd ∙ sym (of.named (number own) (entry t (tag_at s i)) own_at ci))
      by false false ci cd =
          ap (λ x. same_name x (name_at u i)) (new_name d.token false cd) ∙ ap (λ x. same_name (name_at t d.token) x) (new_name i false ci)
      by true false ci cd = both_unlike (name_at u d.token) (name_at u i) (name_at t d.token) (name_at t i) u_differ t_differ
        where
          u_differ : name_at u d.token ≡ name_at u i → ⊥
          u_differ h =
              not_beside (declared_by class) old new (scopes_with t s (tag_at s i)) own (entry t (tag_at s i)) of own_at free (number own) k (entry t (tag_at s i)) (entry t d) own_at there (inl refl) ci (of.named (number own) (entry t (tag_at s i)) own_at ci) (sym (new_name d.token false cd) ∙ h ∙ new_name i true ci) (sym (same_path_true d.path s.present path)) (sym (one_space d.space space.Tag tag))

          t_differ : name_at t d.token ≡ name_at t i → ⊥
          t_differ h = let e : true ≡ false = sym ci ∙ one_class h ∙ cd in cc
      by false true ci cd = both_unlike (name_at u d.token) (name_at u i) (name_at t d.token) (name_at t i) u_differ t_differ
        where
          u_differ : name_at u d.token ≡ name_at u i → ⊥
          u_differ h =
              not_beside (declared_by class) old new (scopes_with t s (tag_at s i)) own (entry t (tag_at s i)) of own_at free k (number own) (entry t d) (entry t (tag_at s i)) there own_at (inr refl) cd (of.named k (entry t d) there cd) (sym (new_name i false ci) ∙ sym h ∙ new_name d.token true cd) (same_path_true d.path s.present path) (one_space d.space space.Tag tag)

          t_differ : name_at t d.token ≡ name_at t i → ⊥
          t_differ h = let e : false ≡ true = sym ci ∙ one_class h ∙ cd in cc

pub keeps_tag_here : KeepsTagHere
keeps_tag_here class old new t u s i own respelled of n free whole =
    same_find (is_tag_here t s.present i) (is_tag_here u s.present i) s.declarations
    (λ k d at. behind_two (is_tag d) (same_path d.path s.present) (same_name (name_at u d.token) (name_at u i)) (same_name (name_at t d.token) (name_at t i)) (names_alike class old new t u s i own respelled of n free whole k d at))
