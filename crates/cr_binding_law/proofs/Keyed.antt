-- Tokens that mean entities of some keys are those of whole entities.
use Rattle.std.specs.Prelude.{◌≡◌, ◌⊎◌, ℕ, ◌<◌, Bool, true, false, cond, not, ◌&&◌, ◌||◌, ◌==◌, if◌then◌else◌, ltb, max, Option, Some, None, option_map, List, [], ◌∷◌, map, flat_map, slice_get, Contains}
use Rattle.std.specs.List.{find}
use Rattle.std.proofs.Common.{refl, sym, ◌∙◌, ap, subst, inl, inr, arith}
use Rattle.std.proofs.lemmas.Bool.{eqb-true, eq-eqb, ltb-true, lt-ltb}
use Rattle.std.proofs.lemmas.List.Elements.{Contains-append_left, Contains-append_right}
use Rattle.cr_base.specs.declared.Name.{Name}
use Rattle.cr_base.specs.declared.Kind.{Kind}
use Rattle.cr_base.specs.declared.Kind.TheVariants as kind
use Rattle.cr_base.specs.declared.key.TagKind.{TagKind}
use Rattle.cr_base.specs.declared.key.Key.{Key}
use Rattle.cr_base.specs.declared.key.Key.TheVariants as key
use Rattle.cr_scope.specs.declared.Space.{Space}
use Rattle.cr_scope.specs.declared.Space.TheVariants as space
use Rattle.cr_scope.specs.declared.Linkage.{Linkage}
use Rattle.cr_scope.specs.declared.Linkage.TheVariants as linkage
use Rattle.cr_scope.specs.Declarations.{number, same_name, same_space}
use Rattle.cr_scope.specs.Linkage.{has_linkage, is_file_scope}
use Rattle.cr_scope.specs.Redeclaration.{same_path, repeats, may_repeat, are_opposite, clashes}
use Rattle.cr_scope.proofs.Looked.{one_space}
use Rattle.cr_scope.proofs.Paths.{same_path_true, same_path_itself, and_both}
use Rattle.cr_capture.specs.Conflicts.{Pair}
use Rattle.cr_capture.proofs.KeptLinkage.{same_names, one_name}
use Rattle.cr_binding.specs.Source.{Source, name_at, text_at}
use Rattle.cr_binding.specs.State.{Declaration, Member, Use, LookedUp, GoesTo, Selects, IsBuiltIn, IsParameter, WasAsked, State}
use Rattle.cr_binding.specs.Entities.{entry, is_linked, is_tag, is_typedef, are_one, token_or, first_token}
use Rattle.cr_binding.specs.Declaring.{declaration_at}
use Rattle.cr_binding.specs.Binding.{bound}
use Rattle.cr_binding.specs.Resolution.{Declared, InRecord, BuiltIn, Occurrence, own_members, declaring, means_declared, means_member, meant_by, occurrences}
use Rattle.cr_binding.specs.Keys.{token_key, tag_kind, is_external, is_file_tag, declaration_key, record_key_at, record_token, member_key}
use Rattle.cr_binding.specs.UnitConflicts.{place_at, declaration_of}
use Rattle.cr_binding.specs.MembersStay.{AreSpelled}
use Rattle.cr_binding.specs.FreeUnits.{IsFreeUnit}
use Rattle.cr_binding.proofs.Renaming.{entry_found}
use Rattle.cr_binding_law.specs.Renaming.{text_of, AreEntities, GoesWith}
use Rattle.cr_binding_law.specs.ConsistentUnits.{IsWritten, IsConsistent}
use Rattle.cr_binding_law.specs.RenamingKeys.{EntitiesHaveOneKey, AreTokensOf, HaveNoConflict, KeysAreEntities, KeysAreFree}
use Rattle.cr_binding_law.proofs.Growth.{get_contains}
use Rattle.cr_binding_law.proofs.Consistent.{head_or_tail, in_tail, passing, units_are_consistent}
use Rattle.cr_binding_law.proofs.Resolving.{same_find, either, get_at}

-- ---- lists

mapped_there : {A B : Type 0} (f : A → B) (xs : List A) (x : A) → Contains xs x → Contains (map f xs) (f x)
mapped_there f [] x c = absurd (omega (arith, c.1))
mapped_there f (y ∷ xs) x c =
    elim (head_or_tail y x xs c) [
      | inl e ↦ (0, omega arith, ap f e)
      | inr d ↦ in_tail (f y) (f x) (map f xs) (mapped_there f xs x d)
    ]

flat_there : {A B : Type 0} (f : A → List B) (xs : List A) (x : A) (y : B) → Contains xs x → Contains (f x) y → Contains (flat_map f xs) y
flat_there f [] x y c d = absurd (omega (arith, c.1))
flat_there f (z ∷ xs) x y c d =
    elim (head_or_tail z x xs c) [
      | inl e ↦ Contains-append_left (f z) (flat_map f xs) y (subst (λ w. Contains (f w) y) (sym e) d)
      | inr c ↦ Contains-append_right (f z) (flat_map f xs) y (flat_there f xs x y c d)
    ]

-- what a test finds passes it and stands there
found_there : {A : Type 0} (p : A → Bool) (xs : List A) (x : A) → find p xs ≡ Some x → Contains xs x × (p x ≡ true)
found_there p [] x h = cc
found_there p (y ∷ xs) x h = by (p y) refl h (λ k. found_there p xs x k)
  where
    by : (b : Bool) → p y ≡ b → cond b (Some y) (find p xs) ≡ Some x → (find p xs ≡ Some x → Contains xs x × (p x ≡ true)) → Contains (y ∷ xs) x × (p x ≡ true)
    by true q h more = let e : y ≡ x = cc in ((0, omega arith, e), ap p (sym e) ∙ q)
    by false q h more = let m : Contains xs x × (p x ≡ true) = more h in (in_tail y x xs m.0, m.1)

-- where something passes, something is found
finds : {A : Type 0} (p : A → Bool) (xs : List A) (x : A) → Contains xs x → p x ≡ true → (y : A) × (find p xs ≡ Some y)
finds p [] x c h = absurd (omega (arith, c.1))
finds {A = A} p (z ∷ xs) x c h = by (p z) refl (head_or_tail z x xs c) (λ d. finds p xs x d h)
  where
    by : (b : Bool) → p z ≡ b → (z ≡ x) ⊎ Contains xs x → (Contains xs x → (y : A) × (find p xs ≡ Some y)) → (y : A) × (cond b (Some z) (find p xs) ≡ Some y)
    by true q o more = (z, refl)
    by false q (inl e) more = let k : true ≡ false = sym h ∙ ap p (sym e) ∙ q in cc
    by false q (inr d) more = more d

-- ---- keys of one entity

linkages_by : (k l : Linkage) → has_linkage k ≡ true → has_linkage l ≡ true → (are_opposite k l ≡ false) ⊎ (are_opposite l k ≡ false) → is_external k ≡ is_external l
linkages_by linkage.None l h g o = cc
linkages_by linkage.Internal linkage.None h g o = cc
linkages_by linkage.External linkage.None h g o = cc
linkages_by linkage.Internal linkage.Internal h g o = refl
linkages_by linkage.External linkage.External h g o = refl
linkages_by linkage.Internal linkage.External h g (inl o) = cc
linkages_by linkage.Internal linkage.External h g (inr o) = cc
linkages_by linkage.External linkage.Internal h g (inl o) = cc
linkages_by linkage.External linkage.Internal h g (inr o) = cc

unlinked_internal : (k : Linkage) → has_linkage k ≡ false → is_external k ≡ false
unlinked_internal linkage.None h = refl
unlinked_internal linkage.Internal h = cc
unlinked_internal linkage.External h = cc

repeated_kinds : (linked : Bool) (a b : Kind) → repeats linked a b ≡ true → tag_kind a ≡ tag_kind b
repeated_kinds linked kind.Function kind.Function h = refl
repeated_kinds linked kind.Object kind.Object h = refl
repeated_kinds linked kind.Typedef kind.Typedef h = refl
repeated_kinds linked kind.Struct kind.Struct h = refl
repeated_kinds linked kind.Union kind.Union h = refl
repeated_kinds linked kind.Enum kind.Enum h = refl
repeated_kinds linked kind.Function _ h = cc
repeated_kinds linked kind.Object _ h = cc
repeated_kinds linked kind.Typedef _ h = cc
repeated_kinds linked kind.Struct _ h = cc
repeated_kinds linked kind.Union _ h = cc
repeated_kinds linked kind.Enum _ h = cc
repeated_kinds linked kind.Enumerator b h = cc
repeated_kinds linked kind.Member b h = cc
repeated_kinds linked kind.Label b h = cc

space_itself : (s : Space) → same_space s s ≡ true
space_itself space.Label = refl
space_itself space.Tag = refl
space_itself space.Ordinary = refl

-- of a pair that doesn't clash
no_clash : (n p r o : Bool) → (n && ((p && not r) || o)) ≡ false → n ≡ true → (p ≡ true → r ≡ true) × (o ≡ false)
no_clash true true true true h g = cc
no_clash true true true false h g = (λ z. refl, refl)
no_clash true true false o h g = cc
no_clash true false r true h g = cc
no_clash true false r false h g = (λ z. cc, refl)
no_clash false p r o h g = cc

module _ (unit : ℕ) (t : Source) (s : State) (c : IsConsistent t s) where
  not_both : {P : Type 0} (b : Bool) → b ≡ true → b ≡ false → P
  not_both true h g = cc
  not_both false h g = cc

  -- a tag or a typedef name has no linkage
  tag_unlinked : (d : Declaration) → Contains s.declarations d → is_tag d ≡ true → is_linked d ≡ false
  tag_unlinked d there h = by (is_linked d) refl
    where
      differ : {P : Type 0} → space.Ordinary ≡ space.Tag → P
      differ e = cc

      by : (b : Bool) → is_linked d ≡ b → b ≡ false
      by false e = refl
      by true e = differ (sym (c.linked d there e).0 ∙ one_space d.space space.Tag h)

  typedef_unlinked : (d : Declaration) → Contains s.declarations d → is_typedef d ≡ true → is_linked d ≡ false
  typedef_unlinked d there h = by (is_linked d) refl
    where
      by : (b : Bool) → is_linked d ≡ b → b ≡ false
      by false e = refl
      by true e = not_both (is_typedef d) h (c.linked d there e).1

  ordinary_no_tag : (d : Declaration) → d.space ≡ space.Ordinary → is_tag d ≡ false
  ordinary_no_tag d e = ap (λ x. same_space x space.Tag) e

  module _ (d e : Declaration) (in_d : Contains s.declarations d) (in_e : Contains s.declarations e) (names : name_at t d.token ≡ name_at t e.token) where
    abbrev Fits : Declaration → Declaration → Type 0
    Fits x y =
        ((same_path x.path y.path ≡ true) → (same_space x.space y.space ≡ true) → may_repeat (entry t x).decl (entry t y).decl ≡ true) × (are_opposite x.linkage y.linkage ≡ false)

    fits_by : (x y : Declaration) → name_at t x.token ≡ name_at t y.token → clashes (entry t x) (entry t y) ≡ false → Fits x y
    fits_by x y n h =
        let r = may_repeat (entry t x).decl (entry t y).decl in
        let k = no_clash (same_name (name_at t x.token) (name_at t y.token)) (same_path x.path y.path && same_space x.space y.space) r (are_opposite x.linkage y.linkage) (turned (same_name (name_at t x.token) (name_at t y.token)) (same_path x.path y.path) (same_space x.space y.space) r (are_opposite x.linkage y.linkage) h) (same_names (name_at t x.token) (name_at t y.token) n) in
        (λ p q. k.0 (both (same_path x.path y.path) (same_space x.space y.space) p q), k.1)
      where
        turned : (n p q r o : Bool) → (n && ((p && (q && not r)) || o)) ≡ false → (n && (((p && q) && not r) || o)) ≡ false
        turned true true q r o h = h
        turned true false q r o h = h
        turned false p q r o h = h

        both : (a b : Bool) → a ≡ true → b ≡ true → (a && b) ≡ true
        both true true h g = refl
        both true false h g = cc
        both false b h g = cc

    -- they are one declaration, or the later one fits the earlier one
    order : (d ≡ e) ⊎ (Fits d e ⊎ Fits e d)
    order = by (ltb in_d.0 in_e.0) (ltb in_e.0 in_d.0) refl refl
      where
        at_d : slice_get (map (entry t) s.declarations) in_d.0 ≡ Some (entry t d)
        at_d = sym (entry_found t s.declarations in_d.0) ∙ ap (option_map (entry t)) (get_at s.declarations d in_d)

        at_e : slice_get (map (entry t) s.declarations) in_e.0 ≡ Some (entry t e)
        at_e = sym (entry_found t s.declarations in_e.0) ∙ ap (option_map (entry t)) (get_at s.declarations e in_e)

        one_of : {x y : Declaration} → Some x ≡ Some y → x ≡ y
        one_of e = cc

        by : (a b : Bool) → ltb in_d.0 in_e.0 ≡ a → ltb in_e.0 in_d.0 ≡ b → (d ≡ e) ⊎ (Fits d e ⊎ Fits e d)
        by true b h g =
            inr (inr (fits_by e d (sym names) (c.accepted in_e.0 in_d.0 (entry t e) (entry t d) (ltb-true in_d.0 in_e.0 h) at_e at_d)))
        by false true h g =
            inr (inl (fits_by d e names (c.accepted in_d.0 in_e.0 (entry t d) (entry t e) (ltb-true in_e.0 in_d.0 g) at_d at_e)))
        by false false h g =
            let x : in_d.0 < in_e.0 → ⊥ = λ w. not_both (ltb in_d.0 in_e.0) (lt-ltb in_d.0 in_e.0 w) h in
            let y : in_e.0 < in_d.0 → ⊥ = λ w. not_both (ltb in_e.0 in_d.0) (lt-ltb in_e.0 in_d.0 w) g in
            let same : in_d.0 ≡ in_e.0 = omega (arith, x, y) in
            inl (one_of (sym (get_at s.declarations d in_d) ∙ ap (slice_get s.declarations) same ∙ get_at s.declarations e in_e))

    external_alike : is_linked d ≡ true → is_linked e ≡ true → is_external d.linkage ≡ is_external e.linkage
    external_alike ld le = by order
      where
        by : (d ≡ e) ⊎ (Fits d e ⊎ Fits e d) → is_external d.linkage ≡ is_external e.linkage
        by (inl h) = ap (λ (x : Declaration). is_external x.linkage) h
        by (inr (inl h)) = linkages_by d.linkage e.linkage ld le (inl h.1)
        by (inr (inr h)) = linkages_by d.linkage e.linkage ld le (inr h.1)

    kinds_alike : d.path ≡ e.path → d.space ≡ e.space → tag_kind d.kind ≡ tag_kind e.kind
    kinds_alike p sp = by order
      where
        path : (x y : Declaration) → x.path ≡ y.path → same_path x.path y.path ≡ true
        path x y p = ap (λ q. same_path x.path q) (sym p) ∙ same_path_itself x.path

        spaces : (x y : Declaration) → x.space ≡ y.space → same_space x.space y.space ≡ true
        spaces x y e = ap (λ z. same_space x.space z) (sym e) ∙ space_itself x.space

        by : (d ≡ e) ⊎ (Fits d e ⊎ Fits e d) → tag_kind d.kind ≡ tag_kind e.kind
        by (inl h) = ap (λ (x : Declaration). tag_kind x.kind) h
        by (inr (inl h)) =
            repeated_kinds (is_linked d && is_linked e) d.kind e.kind (h.0 (path d e p) (spaces d e sp))
        by (inr (inr h)) =
            sym (repeated_kinds (is_linked e && is_linked d) e.kind d.kind (h.0 (path e d (sym p)) (spaces e d (sym sp))))

    -- what tells their keys
    pub record AreAlike : Type 0 where
      pub external : is_external d.linkage ≡ is_external e.linkage
      pub file_tag : is_file_tag d ≡ is_file_tag e
      pub tag : is_file_tag d ≡ true → tag_kind d.kind ≡ tag_kind e.kind
      pub others : (x : Declaration) → are_one t d x ≡ are_one t e x

    abbrev joined : Declaration → Declaration → Bool
    joined x y =
        (is_linked x && is_linked y) || (same_path x.path y.path && ((is_tag x && is_tag y) || (is_typedef x && is_typedef y)))

    abbrev joined_as : (linked : Bool) → List ℕ → (tag typedef : Bool) → Declaration → Bool
    joined_as l p a y x =
        (l && is_linked x) || (same_path p x.path && ((a && is_tag x) || (y && is_typedef x)))

    others_by : (x : Declaration) → joined d x ≡ joined e x → are_one t d x ≡ are_one t e x
    others_by x h =
        ap (λ n. same_name n (name_at t x.token) && joined d x) names ∙ ap (λ b. same_name (name_at t e.token) (name_at t x.token) && b) h

    -- the same of what joins them
    same_joins : is_linked d ≡ is_linked e → is_tag d ≡ is_tag e → is_typedef d ≡ is_typedef e → ((d.path ≡ e.path) ⊎ ((is_tag e ≡ false) × (is_typedef e ≡ false))) → (x : Declaration) → joined d x ≡ joined e x
    same_joins l a y p x =
        ap (λ b. joined_as b d.path (is_tag d) (is_typedef d) x) l
        ∙ ap (λ b. joined_as (is_linked e) d.path b (is_typedef d) x) a
        ∙ ap (λ b. joined_as (is_linked e) d.path (is_tag e) b x) y
        ∙ by p
      where
        nothing : (q : Bool) → (q && false) ≡ false
        nothing true = refl
        nothing false = refl

        none : (q : List ℕ) → joined_as (is_linked e) q false false x ≡ ((is_linked e && is_linked x) || false)
        none q = ap (λ b. (is_linked e && is_linked x) || b) (nothing (same_path q x.path))

        by : (d.path ≡ e.path) ⊎ ((is_tag e ≡ false) × (is_typedef e ≡ false)) → joined_as (is_linked e) d.path (is_tag e) (is_typedef e) x ≡ joined_as (is_linked e) e.path (is_tag e) (is_typedef e) x
        by (inl p) = ap (λ q. joined_as (is_linked e) q (is_tag e) (is_typedef e) x) p
        by (inr h) =
            ap (λ b. joined_as (is_linked e) d.path b (is_typedef e) x) h.0
            ∙ ap (λ b. joined_as (is_linked e) d.path false b x) h.1
            ∙ none d.path
            ∙ sym (none e.path)
            ∙ sym (ap (λ b. joined_as (is_linked e) e.path false b x) h.1)
            ∙ sym (ap (λ b. joined_as (is_linked e) e.path b (is_typedef e) x) h.0)

    both_linked : is_linked d ≡ true → is_linked e ≡ true → AreAlike
    both_linked ld le =
        let a : is_tag d ≡ false = ordinary_no_tag d (c.linked d in_d ld).0 in
        let b : is_tag e ≡ false = ordinary_no_tag e (c.linked e in_e le).0 in
        let f : is_file_tag d ≡ false = ap (λ x. x && is_file_scope d.path) a in
        record {
          external = external_alike ld le;
          file_tag = f ∙ sym (ap (λ x. x && is_file_scope e.path) b);
          tag = λ h. not_both (is_file_tag d) h f;
          others = λ x. others_by x (same_joins (ld ∙ sym le) (a ∙ sym b) ((c.linked d in_d ld).1 ∙ sym (c.linked e in_e le).1) (inr (b, (c.linked e in_e le).1)) x);
        }

    both_tags : d.path ≡ e.path → is_tag d ≡ true → is_tag e ≡ true → AreAlike
    both_tags p td te =
        let sp : d.space ≡ e.space = one_space d.space space.Tag td ∙ sym (one_space e.space space.Tag te) in
        record {
          external = unlinked_internal d.linkage (tag_unlinked d in_d td) ∙ sym (unlinked_internal e.linkage (tag_unlinked e in_e te));
          file_tag = ap (λ x. x && is_file_scope d.path) (td ∙ sym te) ∙ ap (λ q. is_tag e && is_file_scope q) p;
          tag = λ h. kinds_alike p sp;
          others = λ x. others_by x (same_joins (tag_unlinked d in_d td ∙ sym (tag_unlinked e in_e te)) (td ∙ sym te) (no_typedef d in_d td ∙ sym (no_typedef e in_e te)) (inl p) x);
        }
      where
        differ : {P : Type 0} → space.Ordinary ≡ space.Tag → P
        differ e = cc

        no_typedef : (x : Declaration) → Contains s.declarations x → is_tag x ≡ true → is_typedef x ≡ false
        no_typedef x there h = by (is_typedef x) refl
          where
            by : (b : Bool) → is_typedef x ≡ b → b ≡ false
            by false e = refl
            by true e = differ (sym (c.typedefs x there e) ∙ one_space x.space space.Tag h)

    both_typedefs : d.path ≡ e.path → is_typedef d ≡ true → is_typedef e ≡ true → AreAlike
    both_typedefs p td te =
        let a : is_tag d ≡ false = ordinary_no_tag d (c.typedefs d in_d td) in
        let b : is_tag e ≡ false = ordinary_no_tag e (c.typedefs e in_e te) in
        let f : is_file_tag d ≡ false = ap (λ x. x && is_file_scope d.path) a in
        record {
          external = unlinked_internal d.linkage (typedef_unlinked d in_d td) ∙ sym (unlinked_internal e.linkage (typedef_unlinked e in_e te));
          file_tag = f ∙ sym (ap (λ x. x && is_file_scope e.path) b);
          tag = λ h. not_both (is_file_tag d) h f;
          others = λ x. others_by x (same_joins (typedef_unlinked d in_d td ∙ sym (typedef_unlinked e in_e te)) (a ∙ sym b) (td ∙ sym te) (inl p) x);
        }

    alike : joined d e ≡ true → AreAlike
    alike h = by (either (is_linked d && is_linked e) (same_path d.path e.path && ((is_tag d && is_tag e) || (is_typedef d && is_typedef e))) h)
      where
        by_sort : d.path ≡ e.path → ((is_tag d && is_tag e) ≡ true) ⊎ ((is_typedef d && is_typedef e) ≡ true) → AreAlike
        by_sort p (inl h) = let q : (is_tag d ≡ true) × (is_tag e ≡ true) = and_both (is_tag d) (is_tag e) h in both_tags p q.0 q.1
        by_sort p (inr h) =
            let q : (is_typedef d ≡ true) × (is_typedef e ≡ true) = and_both (is_typedef d) (is_typedef e) h in both_typedefs p q.0 q.1

        by : ((is_linked d && is_linked e) ≡ true) ⊎ ((same_path d.path e.path && ((is_tag d && is_tag e) || (is_typedef d && is_typedef e))) ≡ true) → AreAlike
        by (inl h) = let q : (is_linked d ≡ true) × (is_linked e ≡ true) = and_both (is_linked d) (is_linked e) h in both_linked q.0 q.1
        by (inr h) =
            let q : (same_path d.path e.path ≡ true) × (((is_tag d && is_tag e) || (is_typedef d && is_typedef e)) ≡ true) = and_both (same_path d.path e.path) ((is_tag d && is_tag e) || (is_typedef d && is_typedef e)) h in
            by_sort (same_path_true d.path e.path q.0) (either (is_tag d && is_tag e) (is_typedef d && is_typedef e) q.1)

    first_alike : are_one t d e ≡ true → AreAlike → first_token t s.declarations d ≡ first_token t s.declarations e
    first_alike one a =
        let f : (y : Declaration) × (find (are_one t d) s.declarations ≡ Some y) = finds (are_one t d) s.declarations e in_e one in
        let g : find (are_one t e) s.declarations ≡ Some f.0 = same_find (are_one t d) (are_one t e) s.declarations (λ x there. sym (a.others x)) ∙ f.1 in
        ap (token_or d.token) f.1 ∙ sym (ap (token_or e.token) g)

    abbrev key_as : (external file_tag : Bool) → List ℕ → TagKind → ℕ → Key
    key_as x f text k i = if x then key.Ext text else (if f then key.Tag k text else token_key unit t i)

    keys_alike : are_one t d e ≡ true → AreAlike → declaration_key unit t s d ≡ declaration_key unit t s e
    keys_alike one a =
        ap (λ b. key_as b (is_file_tag d) (text_at t d.token) (tag_kind d.kind) (first_token t s.declarations d)) a.external
        ∙ by_tag (is_file_tag d) refl
        ∙ ap (λ b. key_as (is_external e.linkage) b (text_at t d.token) (tag_kind e.kind) (first_token t s.declarations d)) a.file_tag
        ∙ ap (λ n. key_as (is_external e.linkage) (is_file_tag e) n (tag_kind e.kind) (first_token t s.declarations d)) (ap (λ (n : Name). text_of t n) names)
        ∙ ap (λ i. key_as (is_external e.linkage) (is_file_tag e) (text_at t e.token) (tag_kind e.kind) i) (first_alike one a)
      where
        by_tag : (b : Bool) → is_file_tag d ≡ b → key_as (is_external e.linkage) (is_file_tag d) (text_at t d.token) (tag_kind d.kind) (first_token t s.declarations d) ≡ key_as (is_external e.linkage) (is_file_tag d) (text_at t d.token) (tag_kind e.kind) (first_token t s.declarations d)
        by_tag true h =
            ap (λ k. key_as (is_external e.linkage) (is_file_tag d) (text_at t d.token) k (first_token t s.declarations d)) (a.tag h)
        by_tag false h =
            ap (λ b. key_as (is_external e.linkage) b (text_at t d.token) (tag_kind d.kind) (first_token t s.declarations d)) h
            ∙ sym (ap (λ b. key_as (is_external e.linkage) b (text_at t d.token) (tag_kind e.kind) (first_token t s.declarations d)) h)

  pub one_key : (d e : Declaration) → Contains s.declarations d → Contains s.declarations e → are_one t d e ≡ true → declaration_key unit t s d ≡ declaration_key unit t s e
  one_key d e in_d in_e one =
      let q = and_both (same_name (name_at t d.token) (name_at t e.token)) ((is_linked d && is_linked e) || (same_path d.path e.path && ((is_tag d && is_tag e) || (is_typedef d && is_typedef e)))) one in
      let names : name_at t d.token ≡ name_at t e.token = one_name (name_at t d.token) (name_at t e.token) q.0 in
      keys_alike d e in_d in_e names one (alike d e in_d in_e names q.1)

-- ---- tokens

abbrev as_declared : Declaration → Occurrence
as_declared d = (d.token, Declared d)

abbrev as_member : Member → Occurrence
as_member m = (m.token, InRecord m)

module _ (keys : Key → Bool) (class : ℕ → Bool) (unit : ℕ) (t : Source) (s : State) (c : IsConsistent t s) (of : AreTokensOf keys class unit t s) where
  declared_occurs : (d : Declaration) → Contains s.declarations d → Contains (occurrences s) (d.token, Declared d)
  declared_occurs d there =
      Contains-append_left (declaring s) (flat_map (meant_by s) s.uses) (as_declared d)
      (Contains-append_left (map as_declared s.declarations) (map as_member (own_members s)) (as_declared d) (mapped_there as_declared s.declarations d there))

  member_occurs : (m : Member) → Contains (own_members s) m → Contains (occurrences s) (m.token, InRecord m)
  member_occurs m there =
      Contains-append_left (declaring s) (flat_map (meant_by s) s.uses) (as_member m)
      (Contains-append_right (map as_declared s.declarations) (map as_member (own_members s)) (as_member m) (mapped_there as_member (own_members s) m there))

  use_occurs : (x : Use) (o : Occurrence) → Contains s.uses x → Contains (meant_by s x) o → Contains (occurrences s) o
  use_occurs x o there means =
      Contains-append_right (declaring s) (flat_map (meant_by s) s.uses) o (flat_there (meant_by s) s.uses x o there means)

  of_declaration : (d : Declaration) → Contains s.declarations d → class d.token ≡ keys (declaration_key unit t s d)
  of_declaration d there = of.meant d.token (Declared d) (declared_occurs d there)

  of_own : (m : Member) → Contains (own_members s) m → class m.token ≡ keys (member_key unit t s m)
  of_own m there = of.meant m.token (InRecord m) (member_occurs m there)

  own_there : (m : Member) → Contains s.members m → m.own ≡ m.holder → Contains (own_members s) m
  own_there m there h = passing (λ m. m.own == m.holder) s.members m there (eq-eqb m.own m.holder h)

  of_member : (m : Member) → Contains s.members m → class m.token ≡ keys (member_key unit t s m)
  of_member m there =
      let w : IsWritten s.members m = c.written m there in
      ap class (sym w.same_token)
      ∙ of_own w.itself (own_there w.itself w.there w.own)
      ∙ ap (λ r. keys (key.Member (record_key_at unit t s (record_token s r)) (text_at t w.itself.token))) w.same_record
      ∙ ap (λ i. keys (key.Member (record_key_at unit t s (record_token s m.own)) (text_at t i))) w.same_token

  -- ---- whole entities

  goes_declared : (i : ℕ) (x : Use) (k : Option ℕ) (d : Declaration) → Contains s.uses x → meant_by s x ≡ means_declared i (declaration_at s k) → declaration_at s k ≡ Some d → class i ≡ class d.token
  goes_declared i x k d there means at =
      of.meant i (Declared d) (use_occurs x (i, Declared d) there (subst (λ l. Contains l (i, Declared d)) (sym (means ∙ ap (means_declared i) at)) (0, omega arith, refl)))
      ∙ sym (of_declaration d (by k at))
    where
      by : (k : Option ℕ) → declaration_at s k ≡ Some d → Contains s.declarations d
      by None at = cc
      by (Some j) at = get_contains s.declarations j d at

  goes_member : (i member : ℕ) (m : Member) → Contains s.uses (Selects i member) → Contains s.members m → m.token ≡ member → class i ≡ class m.token
  goes_member i member m there in_m own =
      let w : IsWritten s.members m = c.written m in_m in
      let p : Member → Bool = λ m. m.token == member in
      let f : (y : Member) × (find p (own_members s) ≡ Some y) = finds p (own_members s) w.itself (own_there w.itself w.there w.own) (eq-eqb w.itself.token member (w.same_token ∙ own)) in
      let g : Contains (own_members s) f.0 × ((f.0.token == member) ≡ true) = found_there p (own_members s) f.0 f.1 in
      of.meant i (InRecord f.0) (use_occurs (Selects i member) (i, InRecord f.0) there (subst (λ l. Contains l (i, InRecord f.0)) (sym (ap (means_member i) f.1)) (0, omega arith, refl)))
      ∙ sym (of_own f.0 g.0)
      ∙ ap class (eqb-true f.0.token member g.1 ∙ sym own)

  goes_with : (x : Use) → Contains s.uses x → GoesWith class s x
  goes_with (LookedUp sp i path before denoted) there =
      λ d at. goes_declared i (LookedUp sp i path before denoted) denoted d there refl at
  goes_with (GoesTo i label) there = λ d at. goes_declared i (GoesTo i label) (Some label) d there refl at
  goes_with (Selects i member) there = λ m in_m own. goes_member i member m there in_m own
  goes_with (IsBuiltIn i) there =
      of.meant i BuiltIn (use_occurs (IsBuiltIn i) (i, BuiltIn) there (0, omega arith, refl)) ∙ of.supplied i there
  goes_with (IsParameter i) there = tt
  goes_with (WasAsked i path before answer) there = tt

  pub entities : AreEntities class t s
  entities =
      record {
        together = λ d e in_d in_e one. of_declaration d in_d ∙ ap keys (one_key unit t s c d e in_d in_e one) ∙ sym (of_declaration e in_e);
        uses = goes_with;
      }

  -- ---- conflicts

  named_there : (x : Pair) (d : Declaration) → declaration_of s x ≡ Some d → Contains s.declarations d
  named_there (Some k, i) d h = get_contains s.declarations (number k) d h
  named_there (None, i) d h = (found_there (λ (d : Declaration). d.token == i) s.declarations d h).0

  pub free_unit : (old new : Name) → AreSpelled class old t → HaveNoConflict keys unit t s old new → IsFreeUnit class old new t s
  free_unit old new spelled none =
      record {
        mentions = λ f what x d mentions conflict at cls. none (declaration_key unit t s d) (place_at t x.1) (sym (of_declaration d (named_there x d at)) ∙ cls) (inl (f, what, x, d, mentions, conflict, at, refl, refl));
        members = λ m k in_m in_k held cls name. none (member_key unit t s m) (place_at t (max m.token k.token)) (sym (of_member m in_m) ∙ cls) (inr (m, k, in_m, in_k, held, spelled m.token cls, name, refl, refl));
      }

pub entities_have_one_key : EntitiesHaveOneKey
entities_have_one_key unit t tree d e in_d in_e one = one_key unit t (bound t tree) (units_are_consistent t tree) d e in_d in_e one

pub keys_are_entities : KeysAreEntities
keys_are_entities keys class unit t tree of = entities keys class unit t (bound t tree) (units_are_consistent t tree) of

pub keys_are_free : KeysAreFree
keys_are_free keys class old new unit t tree of spelled none =
    free_unit keys class unit t (bound t tree) (units_are_consistent t tree) of old new spelled none
