-- Identifiers have the same first declarations after a renaming.
use Rattle.std.specs.Prelude.{◌≡◌, ◌⊎◌, ℕ, suc, Bool, true, false, cond, ◌&&◌, ◌||◌, ◌==◌, Option, Some, None, List, [], ◌∷◌, ◌++◌, map, flat_map, slice_get, Contains}
use Rattle.std.specs.List.{find}
use Rattle.std.proofs.Common.{refl, sym, ◌∙◌, ap, inl, inr, arith}
use Rattle.std.proofs.lemmas.Option.{slice_get-get_or}
use Rattle.cr_base.specs.declared.Name.{Name}
use Rattle.cr_scope.specs.declared.Space.TheVariants as space
use Rattle.cr_scope.specs.Declarations.{same_name}
use Rattle.cr_scope.specs.Redeclaration.{same_path}
use Rattle.cr_scope.proofs.Looked.{one_space}
use Rattle.cr_scope.proofs.Paths.{same_path_true, and_both}
use Rattle.cr_capture.proofs.KeptLinkage.{same_names}
use Rattle.cr_binding.specs.Source.{Source, name_at}
use Rattle.cr_binding.specs.State.{Declaration, Member, Use, LookedUp, GoesTo, Selects, IsBuiltIn, IsParameter, WasAsked, State}
use Rattle.cr_binding.specs.Entities.{is_linked, is_tag, is_typedef, are_one, token_or, first_token}
use Rattle.cr_binding.specs.Declaring.{declaration_at}
use Rattle.cr_binding.specs.Resolution.{Thing, Declared, InRecord, BuiltIn, Occurrence, own_members, declaring, means_declared, means_member, meant_by, occurrences, origin_of, resolution}
use Rattle.cr_binding.specs.FreeUnits.{IsFreeUnit}
use Rattle.cr_binding.proofs.Selecting.{both_alike, both_unlike}
use Rattle.cr_binding_law.specs.Renaming.{IsRenamed, AreEntities}
use Rattle.cr_binding_law.proofs.Growth.{get_contains}
use Rattle.cr_binding_law.proofs.Renamed.{Laws}
use Rattle.cr_binding_law.proofs.Apart.{Meet, apart}

pub same_find : (p q : Declaration → Bool) (xs : List Declaration) → ((n : Declaration) → Contains xs n → q n ≡ p n) → find q xs ≡ find p xs
same_find p q [] each = refl
same_find p q (x ∷ xs) each =
    ap (λ b. cond b (Some x) (find q xs)) (each x (0, omega arith, refl))
    ∙ ap (λ o. cond (p x) (Some x) o) (same_find p q xs (λ n c. each n (suc c.0, omega (arith, c.1), c.2)))

pub either : (a b : Bool) → (a || b) ≡ true → (a ≡ true) ⊎ (b ≡ true)
either true b h = inl refl
either false b h = inr h

and_alike : (a b r : Bool) → (r ≡ true → b ≡ a) → (b && r) ≡ (a && r)
and_alike a b true h = ap (λ x. x && true) (h refl)
and_alike true true false h = refl
and_alike true false false h = refl
and_alike false true false h = refl
and_alike false false false h = refl

pub get_at : (xs : List Declaration) (x : Declaration) → (c : Contains xs x) → slice_get xs c.0 ≡ Some x
get_at xs x c = slice_get-get_or xs c.0 x c.1 ∙ ap Some c.2

abbrev with_origin : ℕ → Option ℕ → ℕ × Option ℕ
with_origin i o = (i, o)

module _ (law : Laws) (class : ℕ → Bool) (old new : Name) (t u : Source) (ren : IsRenamed class old new t u) (end : State) (ents : AreEntities class t end) (free : IsFreeUnit class old new t end) (typedefs : (d : Declaration) → Contains end.declarations d → is_typedef d ≡ true → d.space ≡ space.Ordinary) where
  -- what joins two declarations of one name
  abbrev joins : Declaration → Declaration → Bool
  joins d e =
      (is_linked d && is_linked e) || (same_path d.path e.path && ((is_tag d && is_tag e) || (is_typedef d && is_typedef e)))

  -- ---- two declarations of the unit

  module _ (d e : Declaration) (in_d : Contains end.declarations d) (in_e : Contains end.declarations e) where
    meeting : joins d e ≡ true → Meet d e
    meeting h = by (either (is_linked d && is_linked e) (same_path d.path e.path && ((is_tag d && is_tag e) || (is_typedef d && is_typedef e))) h)
      where
        spaces : (is_tag d && is_tag e) ≡ true ⊎ ((is_typedef d && is_typedef e) ≡ true) → d.space ≡ e.space
        spaces (inl h) =
            let p : (is_tag d ≡ true) × (is_tag e ≡ true) = and_both (is_tag d) (is_tag e) h in
            one_space d.space space.Tag p.0 ∙ sym (one_space e.space space.Tag p.1)
        spaces (inr h) =
            let p : (is_typedef d ≡ true) × (is_typedef e ≡ true) = and_both (is_typedef d) (is_typedef e) h in
            typedefs d in_d p.0 ∙ sym (typedefs e in_e p.1)

        by : ((is_linked d && is_linked e) ≡ true) ⊎ ((same_path d.path e.path && ((is_tag d && is_tag e) || (is_typedef d && is_typedef e))) ≡ true) → Meet d e
        by (inl h) = inr (and_both (is_linked d) (is_linked e) h)
        by (inr h) =
            let p : (same_path d.path e.path ≡ true) × (((is_tag d && is_tag e) || (is_typedef d && is_typedef e)) ≡ true) = and_both (same_path d.path e.path) ((is_tag d && is_tag e) || (is_typedef d && is_typedef e)) h in
            inl (same_path_true d.path e.path p.0, spaces (either (is_tag d && is_tag e) (is_typedef d && is_typedef e) p.1))

    turned : Meet d e → Meet e d
    turned (inl h) = inl (sym h.0, sym h.1)
    turned (inr h) = inr (h.1, h.0)

    names_alike : joins d e ≡ true → same_name (name_at u d.token) (name_at u e.token) ≡ same_name (name_at t d.token) (name_at t e.token)
    names_alike h = by (class d.token) (class e.token) refl refl
      where
        after : (i : ℕ) (b : Bool) → class i ≡ b → name_at u i ≡ cond b new (name_at t i)
        after i b c = ren.names i ∙ ap (λ b. cond b new (name_at t i)) c

        one : name_at t d.token ≡ name_at t e.token → class d.token ≡ class e.token
        one n =
            ents.together d e in_d in_e (ap (λ b. b && joins d e) (same_names (name_at t d.token) (name_at t e.token) n) ∙ h)

        by : (a b : Bool) → class d.token ≡ a → class e.token ≡ b → same_name (name_at u d.token) (name_at u e.token) ≡ same_name (name_at t d.token) (name_at t e.token)
        by true true cd ce =
            both_alike (name_at u d.token) (name_at u e.token) (name_at t d.token) (name_at t e.token) (after d.token true cd ∙ sym (after e.token true ce)) (ren.spelled d.token cd ∙ sym (ren.spelled e.token ce))
        by false false cd ce =
            ap (λ x. same_name x (name_at u e.token)) (after d.token false cd) ∙ ap (λ x. same_name (name_at t d.token) x) (after e.token false ce)
        by true false cd ce =
            both_unlike (name_at u d.token) (name_at u e.token) (name_at t d.token) (name_at t e.token)
            (λ n. apart law class old new t u ren end ents free in_d.0 in_e.0 d e (get_at end.declarations d in_d) (get_at end.declarations e in_e) cd (sym (after e.token false ce) ∙ sym n ∙ after d.token true cd) (meeting h))
            (λ n. differ (sym cd ∙ one n ∙ ce))
          where
            differ : true ≡ false → ⊥
            differ e = cc
        by false true cd ce =
            both_unlike (name_at u d.token) (name_at u e.token) (name_at t d.token) (name_at t e.token)
            (λ n. apart law class old new t u ren end ents free in_e.0 in_d.0 e d (get_at end.declarations e in_e) (get_at end.declarations d in_d) ce (sym (after d.token false cd) ∙ n ∙ after e.token true ce) (turned (meeting h)))
            (λ n. differ (sym ce ∙ sym (one n) ∙ cd))
          where
            differ : true ≡ false → ⊥
            differ e = cc

    one_alike : are_one u d e ≡ are_one t d e
    one_alike =
        and_alike (same_name (name_at t d.token) (name_at t e.token)) (same_name (name_at u d.token) (name_at u e.token)) (joins d e) names_alike

  first_alike : (d : Declaration) → Contains end.declarations d → first_token u end.declarations d ≡ first_token t end.declarations d
  first_alike d in_d =
      ap (token_or d.token) (same_find (are_one t d) (are_one u d) end.declarations (λ e in_e. one_alike d e in_d in_e))

  -- ---- occurrences

  -- a thing that is declared is of the unit
  abbrev IsKnown : Thing → Type 0
  IsKnown (Declared d) = Contains end.declarations d
  IsKnown _ = Unit {0}

  abbrev AreKnown : List Occurrence → Type 0
  AreKnown [] = Unit {0}
  AreKnown (x ∷ xs) = IsKnown x.1 × AreKnown xs

  known_append : (xs ys : List Occurrence) → AreKnown xs → AreKnown ys → AreKnown (xs ++ ys)
  known_append [] ys h k = k
  known_append (x ∷ xs) ys h k = (h.0, known_append xs ys h.1 k)

  known_declared : (ds : List Declaration) → ((d : Declaration) → Contains ds d → Contains end.declarations d) → AreKnown (map {A = Declaration} (λ d. (d.token, Declared d)) ds)
  known_declared [] each = tt
  known_declared (d ∷ ds) each =
      (each d (0, omega arith, refl), known_declared ds (λ e c. each e (suc c.0, omega (arith, c.1), c.2)))

  known_members : (ms : List Member) → AreKnown (map {A = Member} (λ m. (m.token, InRecord m)) ms)
  known_members [] = tt
  known_members (m ∷ ms) = (tt, known_members ms)

  meant_declared : (i : ℕ) (k : Option ℕ) → AreKnown (means_declared i (declaration_at end k))
  meant_declared i None = tt
  meant_declared i (Some k) = by (slice_get end.declarations k) refl
    where
      by : (o : Option Declaration) → slice_get end.declarations k ≡ o → AreKnown (means_declared i o)
      by None e = tt
      by (Some d) e = (get_contains end.declarations k d e, tt)

  meant_member : (i : ℕ) (o : Option Member) → AreKnown (means_member i o)
  meant_member i None = tt
  meant_member i (Some m) = (tt, tt)

  known_meant : (x : Use) → AreKnown (meant_by end x)
  known_meant (LookedUp sp i path before denoted) = meant_declared i denoted
  known_meant (GoesTo i label) = meant_declared i (Some label)
  known_meant (Selects i member) = meant_member i (find (λ m. m.token == member) (own_members end))
  known_meant (IsBuiltIn i) = (tt, tt)
  known_meant (IsParameter i) = tt
  known_meant (WasAsked i path before answer) = tt

  known_uses : (xs : List Use) → AreKnown (flat_map (meant_by end) xs)
  known_uses [] = tt
  known_uses (x ∷ xs) = known_append (meant_by end x) (flat_map (meant_by end) xs) (known_meant x) (known_uses xs)

  all_known : AreKnown (occurrences end)
  all_known =
      known_append (declaring end) (flat_map (meant_by end) end.uses)
      (known_append (map {A = Declaration} (λ d. (d.token, Declared d)) end.declarations) (map {A = Member} (λ m. (m.token, InRecord m)) (own_members end)) (known_declared end.declarations (λ d c. c)) (known_members (own_members end)))
      (known_uses end.uses)

  origin_alike : (x : Thing) → IsKnown x → origin_of u end x ≡ origin_of t end x
  origin_alike (Declared d) h = ap Some (first_alike d h)
  origin_alike (InRecord m) h = refl
  origin_alike BuiltIn h = refl

  abbrev origin_in : Source → Occurrence → ℕ × Option ℕ
  origin_in v x = (x.0, origin_of v end x.1)

  resolved : (xs : List Occurrence) → AreKnown xs → map (origin_in u) xs ≡ map (origin_in t) xs
  resolved [] h = refl
  resolved (x ∷ xs) h =
      ap (λ (o : Option ℕ). with_origin x.0 o ∷ map (origin_in u) xs) (origin_alike x.1 h.0)
      ∙ ap (λ l. origin_in t x ∷ l) (resolved xs h.1)

  pub resolution_alike : resolution u end ≡ resolution t end
  resolution_alike = resolved (occurrences end) all_known
