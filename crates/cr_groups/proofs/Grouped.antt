-- Groups of rows that show what is bound.
use Rattle.std.proofs.Common.{◌≡◌, ◌⊎◌, inl, inr, ℕ, zero, suc, ◌+◌, ◌<◌, ◌≤◌, Bool, true, false, ◌&&◌, ◌||◌, eqb, Some, None, List, [], ◌∷◌, length, get_or, nat_lt, refl, sym, ap, subst, ◌∙◌, arith, true≢false}
use Rattle.std.specs.Prelude.{slice_get, slice_index_or, cond, position, if◌then◌else◌, not}
use Rattle.std.specs.List.{find, position_or_len}
use Rattle.std.proofs.lemmas.List.Quantifiers.{position-Some}
use Rattle.std.proofs.lemmas.Bool.{eqb-true, eq-eqb, ne_eqb, lt-ltb}
use Rattle.std.proofs.lemmas.Option.{slice_get_within, slice_get-get_or, get_or_from_slice_get}
use Rattle.cr_base.specs.declared.token.Name.{Name}
use Rattle.cr_base.specs.declared.key.Key.TheVariants as key
use Rattle.cr_scope.specs.declared.Space.TheVariants as space
use Rattle.cr_scope.specs.Declarations.{Entry, same_space, same_name}
use Rattle.cr_scope.specs.Linkage.{has_linkage, is_file_scope}
use Rattle.cr_scope.specs.Redeclaration.{same_path}
use Rattle.cr_binding.specs.Source.{Source, name_at}
use Rattle.cr_binding.specs.State.{Declaration, State}
use Rattle.cr_binding.specs.Entities.{entry, is_linked, is_tag, is_typedef, is_typedef_kind, are_one, token_or, first_token}
use Rattle.cr_binding.specs.Keys.{declaration_key, token_key, tag_kind, is_external}
use Rattle.cr_paths.specs.Paths.{path_at}
use Rattle.cr_declared.specs.declared.rows.Row.{Row}
use Rattle.cr_declared.specs.declared.rows.UseRow.{UseRow}
use Rattle.cr_declared.specs.declared.rows.Slot.{Slot}
use Rattle.cr_groups.specs.declared.groups.Group.{Group}
use Rattle.cr_declared.specs.Rows.{entry_of, slot_of, is_in, is_tag_kind, is_linked_kind, AreRows}
use Rattle.cr_groups.proofs.Shown.{Views, IsWell, AreWell}
use Rattle.cr_groups.specs.Rows.{IsGroup, AreGroups}
use Rattle.cr_groups.specs.Built.{is_file_tag_row, is_linked_row, token_by, token_at, row_token, row_key, IsFirst, IsBuilt}
use Rattle.cr_base.specs.declared.Kind.{Kind}
use Rattle.cr_base.specs.declared.Kind.TheVariants as kind
use Rattle.cr_scope.proofs.Paths.{and_both}
use Rattle.cr_groups.proofs.Taken.{mapped, to_mapped, spaces_same, eqb_turned, slots_same, parts_in}
use Rattle.cr_groups.proofs.OneKey.{one_key, one_sort}

-- ---- the first that has linkage

pub first_at : {A : Type 0} (p : A → Bool) (es : List A) (i : ℕ) (e : A) → slice_get es i ≡ Some e → p e ≡ true → position_or_len p es ≤ i
first_at p [] i e h t = cc
first_at {A} p (a ∷ es) i e h t = by (p a) refl i h (λ j at. first_at p es j e at t)
  where
    by : (b : Bool) → p a ≡ b → (i : ℕ) → slice_get (a ∷ es) i ≡ Some e → ((j : ℕ) → slice_get es j ≡ Some e → position_or_len p es ≤ j) → position_or_len p (a ∷ es) ≤ i
    by true k i h more = subst (λ b. cond (not b) (1 + position_or_len p es) 0 ≤ i) (sym k) (omega arith)
    by false k zero h more = (let same : a ≡ e = cc in absurd (true≢false (sym t ∙ ap p (sym same) ∙ k)))
    by false k (suc i) h more = subst (λ b. cond (not b) (1 + position_or_len p es) 0 ≤ suc i) (sym k) (let l : position_or_len p es ≤ i = more i h in omega (arith, l))

-- what passes is found by its position
pub first_position : {A : Type 0} (p : A → Bool) (es : List A) (i : ℕ) (e : A) → slice_get es i ≡ Some e → p e ≡ true
    → (k : ℕ) × (g : A) × (position p es ≡ Some k) × (slice_get es k ≡ Some g) × (p g ≡ true) × ((j : ℕ) (f : A) → j < k → slice_get es j ≡ Some f → p f ≡ false)
first_position {A} p es i e h t =
    let l : position_or_len p es ≤ i = first_at p es i e h t in
    let m : i < length es = slice_get_within es i e h in
    let lt : nat_lt (position_or_len p es) (length es) ≡ true = lt-ltb (position_or_len p es) (length es) (omega (arith, l, m)) in
    let at : position p es ≡ Some (position_or_len p es) = ap (λ b. cond b (Some (position_or_len p es)) None) lt in
    let r : (position_or_len p es < length es) × (p (get_or es (position_or_len p es) e) ≡ true) × ((k : ℕ) → k < position_or_len p es → p (get_or es k e) ≡ false) = position-Some p es (position_or_len p es) e at in (
      position_or_len p es,
      get_or es (position_or_len p es) e,
      at,
      slice_get-get_or es (position_or_len p es) e r.0,
      r.1,
      (λ j f lt at. subst (λ z. p z ≡ false) (get_or_from_slice_get es j f e at) (r.2 j lt)),
    )

pub find_at : {A : Type 0} (q : A → Bool) (ds : List A) (k : ℕ) (e : A) → slice_get ds k ≡ Some e → q e ≡ true → ((j : ℕ) (f : A) → j < k → slice_get ds j ≡ Some f → q f ≡ false) → find q ds ≡ Some e
find_at q [] k e at t f = cc
find_at q (d ∷ ds) zero e at t f = (let same : d ≡ e = cc in ap (λ b. cond b (Some d) (find q ds)) (ap q same ∙ t) ∙ ap Some same)
find_at q (d ∷ ds) (suc k) e at t f =
    ap (λ b. cond b (Some d) (find q ds)) (f 0 d (omega arith) refl) ∙ find_at q ds k e at t (λ j g lt bt. f (suc j) g (omega (arith, lt)) bt)

pub find_none : {A : Type 0} (q : A → Bool) (ds : List A) → ((j : ℕ) (f : A) → slice_get ds j ≡ Some f → q f ≡ false) → find q ds ≡ None
find_none q [] f = refl
find_none q (d ∷ ds) f = ap (λ b. cond b (Some d) (find q ds)) (f 0 d refl) ∙ find_none q ds (λ j g bt. f (suc j) g bt)

-- ---- small facts

pub same_name_sym : (a b : Name) → same_name a b ≡ same_name b a
same_name_sym a b = eqb_turned a.0 b.0

pub names_same : (a b : Name) → same_name a b ≡ true → a ≡ b
names_same a b h = ap (λ n. record { 0 = n }) (eqb-true a.0 b.0 h)

path_refl : (p : List ℕ) → same_path p p ≡ true
path_refl [] = refl
path_refl (a ∷ p) = ap (λ z. z && same_path p p) (eq-eqb a a refl) ∙ path_refl p

paths_same : (p q : List ℕ) → same_path p q ≡ true → p ≡ q
paths_same [] [] h = refl
paths_same [] (b ∷ q) h = absurd (true≢false (sym h))
paths_same (a ∷ p) [] h = absurd (true≢false (sym h))
paths_same (a ∷ p) (b ∷ q) h =
    let x : (eqb a b ≡ true) × (same_path p q ≡ true) = and_both (eqb a b) (same_path p q) h in
    let e : a ≡ b = eqb-true a b x.0 in
    let f : p ≡ q = paths_same p q x.1 in
    cc

not_true : (b : Bool) → (b ≡ true → ⊥) → b ≡ false
not_true true f = absurd (f refl)
not_true false f = refl

-- number 0 is file scope's
pub is_first_path : (ps : List (List ℕ)) (rows : List Row) → AreRows ps rows → (i : ℕ) (x : Row) → slice_get rows i ≡ Some x → eqb x.path 0 ≡ is_file_scope (path_at ps x.path)
is_first_path ps rows kept i x ax = by (path_at ps x.path) refl
  where
    by : (p : List ℕ) → path_at ps x.path ≡ p → eqb x.path 0 ≡ is_file_scope (path_at ps x.path)
    by [] e =
        let z : 0 < length ps = (let w : x.path < length ps = kept.within i x ax in omega (arith, w)) in
        eq-eqb x.path 0 (kept.distinct x.path 0 (kept.within i x ax) z (e ∙ sym kept.file_scope)) ∙ ap is_file_scope (sym e)
    by (n ∷ p) e =
        ne_eqb x.path 0 (λ h. let q : [] ≡ n ∷ p = sym kept.file_scope ∙ ap (path_at ps) (sym h) ∙ e in cc) ∙ ap is_file_scope (sym e)

-- ---- rows and declarations

module _ (unit : ℕ) (t : Source) (s : State) (old new : Name) (ps : List (List ℕ)) (rows : List Row) (uses : List UseRow)
    (shown : Views t s ps rows uses) (kept : AreRows ps rows) (apart : AreWell t s.declarations) where
  -- a row and its declaration
  pub both : (j : ℕ) (x : Row) → slice_get rows j ≡ Some x → (d : Declaration) × (slice_get s.declarations j ≡ Some d) × (entry_of ps x ≡ entry t d)
  both j x h = mapped (entry t) s.declarations j (entry_of ps x) (subst (λ z. slice_get z j ≡ Some (entry_of ps x)) shown.entries (to_mapped (entry_of ps) rows j x h))

  pub row_both : (j : ℕ) (d : Declaration) → slice_get s.declarations j ≡ Some d → (x : Row) × (slice_get rows j ≡ Some x) × (entry t d ≡ entry_of ps x)
  row_both j d h = mapped (entry_of ps) rows j (entry t d) (subst (λ z. slice_get z j ≡ Some (entry t d)) (sym shown.entries) (to_mapped (entry t) s.declarations j d h))

  pub alike_row : (j : ℕ) (x : Row) (d : Declaration) → slice_get rows j ≡ Some x → slice_get s.declarations j ≡ Some d → entry_of ps x ≡ entry t d
  alike_row j x d h g =
      let r : (e : Declaration) × (slice_get s.declarations j ≡ Some e) × (entry_of ps x ≡ entry t e) = both j x h in
      let k : Some r.0 ≡ Some d = sym r.1 ∙ g in
      let m : r.0 ≡ d = cc in
      r.2 ∙ ap (entry t) m

  -- the declarations of one slot have one path, name space and name
  slot_parts : (a : Slot) (i j : ℕ) (x y : Row) (d e : Declaration) → slice_get rows i ≡ Some x → slice_get rows j ≡ Some y → slice_get s.declarations i ≡ Some d → slice_get s.declarations j ≡ Some e
      → is_in a x ≡ true → is_in a y ≡ true → (d.path ≡ e.path) × (d.space ≡ e.space) × (name_at t d.token ≡ name_at t e.token)
  slot_parts a i j x y d e ax ay ad ae isx isy =
      let p : a ≡ slot_of x = slots_same a (slot_of x) isx in
      let q : a ≡ slot_of y = slots_same a (slot_of y) isy in
      let r : slot_of x ≡ slot_of y = sym p ∙ q in
      let ex : entry_of ps x ≡ entry t d = alike_row i x d ax ad in
      let ey : entry_of ps y ≡ entry t e = alike_row j y e ay ae in
      let path : x.path ≡ y.path = ap (λ (z : Slot). z.path) r in
      let sp : x.decl.space ≡ y.decl.space = ap (λ (z : Slot). z.space) r in
      let name : x.decl.name ≡ y.decl.name = ap (λ (z : Slot). z.name) r in (
        sym (ap (λ (z : Entry). z.path) ex) ∙ ap (path_at ps) path ∙ ap (λ (z : Entry). z.path) ey,
        sym (ap (λ (z : Entry). z.decl.space) ex) ∙ sp ∙ ap (λ (z : Entry). z.decl.space) ey,
        sym (ap (λ (z : Entry). z.decl.name) ex) ∙ name ∙ ap (λ (z : Entry). z.decl.name) ey,
      )

  -- so one key
  pub slot_key : (a : Slot) (i j : ℕ) (x y : Row) (d e : Declaration) → slice_get rows i ≡ Some x → slice_get rows j ≡ Some y → slice_get s.declarations i ≡ Some d → slice_get s.declarations j ≡ Some e
      → is_in a x ≡ true → is_in a y ≡ true → i ≤ j → declaration_key unit t s d ≡ declaration_key unit t s e
  slot_key a i j x y d e ax ay ad ae isx isy le =
      let p : (d.path ≡ e.path) × (d.space ≡ e.space) × (name_at t d.token ≡ name_at t e.token) = slot_parts a i j x y d e ax ay ad ae isx isy in
      one_key unit t s apart i j d e ad ae le p.0 p.1 p.2

  -- and one kind
  pub slot_kind : (a : Slot) (i j : ℕ) (x y : Row) → slice_get rows i ≡ Some x → slice_get rows j ≡ Some y → is_in a x ≡ true → is_in a y ≡ true → i ≤ j → y.decl.kind ≡ x.decl.kind
  slot_kind a i j x y ax ay isx isy le =
      let d : (d : Declaration) × (slice_get s.declarations i ≡ Some d) × (entry_of ps x ≡ entry t d) = both i x ax in
      let e : (e : Declaration) × (slice_get s.declarations j ≡ Some e) × (entry_of ps y ≡ entry t e) = both j y ay in
      let p : (d.0.path ≡ e.0.path) × (d.0.space ≡ e.0.space) × (name_at t d.0.token ≡ name_at t e.0.token) = slot_parts a i j x y d.0 e.0 ax ay d.1 e.1 isx isy in
      ap (λ (z : Entry). z.decl.kind) e.2 ∙ sym (one_sort t s.declarations apart i j d.0 e.0 d.1 e.1 le p.0 p.1 p.2) ∙ sym (ap (λ (z : Entry). z.decl.kind) d.2)

  -- ---- the first of a slot

  module _ (i : ℕ) (x : Row) (d : Declaration) (ax : slice_get rows i ≡ Some x) (ad : slice_get s.declarations i ≡ Some d) where
    same : entry_of ps x ≡ entry t d
    same = alike_row i x d ax ad

    of_name : x.decl.name ≡ name_at t d.token
    of_name = ap (λ (z : Entry). z.decl.name) same

    of_token : x.decl.token ≡ d.token
    of_token = ap (λ (z : Entry). z.decl.token) same

    of_linkage : x.decl.linkage ≡ d.linkage
    of_linkage = ap (λ (z : Entry). z.decl.linkage) same

    of_kind : x.decl.kind ≡ d.kind
    of_kind = ap (λ (z : Entry). z.decl.kind) same

    of_space : x.decl.space ≡ d.space
    of_space = ap (λ (z : Entry). z.decl.space) same

    of_path : path_at ps x.path ≡ d.path
    of_path = ap (λ (z : Entry). z.path) same

    formed : IsWell d
    formed = apart.formed i d ad

    -- its entity has linkage
    linked_token : has_linkage d.linkage ≡ true → token_at rows (position (is_linked_row x.decl.name) rows) x.decl.token ≡ first_token t s.declarations d
    linked_token has =
        let r = first_position (is_linked_row x.decl.name) rows i x ax (ap (λ l. has_linkage l && same_name x.decl.name x.decl.name) of_linkage ∙ ap (λ b. b && same_name x.decl.name x.decl.name) has ∙ eq-eqb x.decl.name.0 x.decl.name.0 refl) in
        let k : ℕ = r.0 in
        let g : Row = r.1 in
        let e : (e : Declaration) × (slice_get s.declarations k ≡ Some e) × (entry_of ps g ≡ entry t e) = both k g r.3 in
        let f : find (are_one t d) s.declarations ≡ Some e.0 = find_at (are_one t d) s.declarations k e.0 e.1 (one_is e.0 g e.2 ∙ r.4) (λ j h lt at. let y : (y : Row) × (slice_get rows j ≡ Some y) × (entry t h ≡ entry_of ps y) = row_both j h at in one_is h y.0 (sym y.2) ∙ r.5 j y.0 lt y.1) in
        ap (λ o. token_at rows o x.decl.token) r.2 ∙ ap (λ o. token_by o x.decl.token) r.3 ∙ ap (λ (z : Entry). z.decl.token) e.2 ∙ ap (token_or d.token) (sym f)
      where
        linked_kind : (k : Kind) → is_linked_kind k ≡ true → (is_tag_kind k ≡ false) × (is_typedef_kind k ≡ false)
        linked_kind kind.Function h = (refl, refl)
        linked_kind kind.Object h = (refl, refl)
        linked_kind _ h = absurd (true≢false (sym h))

        turned : (n l p a b : Bool) → (n && ((true && l) || (p && ((false && a) || (false && b))))) ≡ (l && n)
        turned true true p a b = refl
        turned true false true a b = refl
        turned true false false a b = refl
        turned false true p a b = refl
        turned false false p a b = refl

        same_name_turned : (a b : Name) → same_name a b ≡ same_name b a
        same_name_turned a b = eqb_turned a.0 b.0

        -- one test is the other one
        one_is : (h : Declaration) (y : Row) → entry_of ps y ≡ entry t h → are_one t d h ≡ is_linked_row x.decl.name y
        one_is h y e =
            let q : (is_tag_kind d.kind ≡ false) × (is_typedef_kind d.kind ≡ false) = linked_kind d.kind (formed.linked has) in
            ap (λ b. same_name (name_at t d.token) (name_at t h.token) && ((b && is_linked h) || (same_path d.path h.path && ((is_tag d && is_tag h) || (is_typedef d && is_typedef h))))) has
            ∙ ap (λ b. same_name (name_at t d.token) (name_at t h.token) && ((true && is_linked h) || (same_path d.path h.path && ((b && is_tag h) || (is_typedef d && is_typedef h))))) (formed.tags ∙ q.0)
            ∙ ap (λ b. same_name (name_at t d.token) (name_at t h.token) && ((true && is_linked h) || (same_path d.path h.path && ((false && is_tag h) || (b && is_typedef h))))) q.1
            ∙ turned (same_name (name_at t d.token) (name_at t h.token)) (is_linked h) (same_path d.path h.path) (is_tag h) (is_typedef h)
            ∙ ap (λ b. is_linked h && b) (same_name_turned (name_at t d.token) (name_at t h.token))
            ∙ ap (λ n. is_linked h && same_name (name_at t h.token) n) (sym of_name)
            ∙ ap (λ (z : Entry). has_linkage z.decl.linkage && same_name z.decl.name x.decl.name) (sym e)

    -- what has no linkage is declared first where its slot is
    first_itself : has_linkage d.linkage ≡ false → ((j : ℕ) (y : Row) → slice_get rows j ≡ Some y → is_in (slot_of x) y ≡ true → i ≤ j) → first_token t s.declarations d ≡ d.token
    first_itself none earliest = by (is_tag d || is_typedef d) refl
      where
        plain : (n l p z k a b : Bool) → z ≡ true → ((z && a) || (k && b)) ≡ false → (n && ((false && l) || (p && ((z && a) || (k && b))))) ≡ false
        plain true l true z k a b g h = h
        plain true l false z k a b g h = refl
        plain false l p z k a b g h = refl

        nothing : (n l p z k a b : Bool) → (z || k) ≡ false → (n && ((false && l) || (p && ((z && a) || (k && b))))) ≡ false
        nothing true l true false false a b h = refl
        nothing true l false z k a b h = refl
        nothing false l p z k a b h = refl
        nothing true l true true k a b h = absurd (true≢false h)
        nothing true l true false true a b h = absurd (true≢false h)

        parts : (n l p z k a b : Bool) → (n && ((false && l) || (p && ((z && a) || (k && b))))) ≡ true → (n ≡ true) × (p ≡ true) × (((z ≡ true) × (a ≡ true)) ⊎ ((k ≡ true) × (b ≡ true)))
        parts true l true true k true b h = (refl, refl, inl (refl, refl))
        parts true l true z true a true h = (refl, refl, inr (refl, refl))
        parts true l true true true false false h = absurd (true≢false (sym h))
        parts true l true true false false b h = absurd (true≢false (sym h))
        parts true l true false true a false h = absurd (true≢false (sym h))
        parts true l true false false a b h = absurd (true≢false (sym h))
        parts true l false z k a b h = absurd (true≢false (sym h))
        parts false l p z k a b h = absurd (true≢false (sym h))

        whole : (n l p z k : Bool) → n ≡ true → p ≡ true → (z || k) ≡ true → (n && ((false && l) || (p && ((z && z) || (k && k))))) ≡ true
        whole true l true true k g h e = refl
        whole true l true false true g h e = refl
        whole true l true false false g h e = absurd (true≢false (sym e))
        whole true l false z k g h e = absurd (true≢false (sym h))
        whole false l p z k g h e = absurd (true≢false (sym g))

        as_is : (f : Declaration) → are_one t d f ≡ (same_name (name_at t d.token) (name_at t f.token) && ((false && is_linked f) || (same_path d.path f.path && ((is_tag d && is_tag f) || (is_typedef d && is_typedef f)))))
        as_is f = ap (λ b. same_name (name_at t d.token) (name_at t f.token) && ((b && is_linked f) || (same_path d.path f.path && ((is_tag d && is_tag f) || (is_typedef d && is_typedef f))))) none

        -- an earlier one of the entity would be in the slot
        in_slot : (j : ℕ) (f : Declaration) → slice_get s.declarations j ≡ Some f → are_one t d f ≡ true → i ≤ j
        in_slot j f at is =
            let y : (y : Row) × (slice_get rows j ≡ Some y) × (entry t f ≡ entry_of ps y) = row_both j f at in
            let p = parts (same_name (name_at t d.token) (name_at t f.token)) (is_linked f) (same_path d.path f.path) (is_tag d) (is_typedef d) (is_tag f) (is_typedef f) (sym (as_is f) ∙ is) in
            let path : path_at ps y.0.path ≡ path_at ps x.path = sym (ap (λ (z : Entry). z.path) y.2) ∙ sym (paths_same d.path f.path p.1) ∙ sym of_path in
            let number : y.0.path ≡ x.path = kept.distinct y.0.path x.path (kept.within j y.0 y.1) (kept.within i x ax) path in
            let sp : f.space ≡ d.space = elim p.2 [
              | inl h ↦ spaces_same f.space space.Tag h.1 ∙ sym (spaces_same d.space space.Tag h.0)
              | inr h ↦ (apart.formed j f at).types h.1 ∙ sym (formed.types h.0)
            ] in
            let z : y.0.decl.space ≡ x.decl.space = sym (ap (λ (z : Entry). z.decl.space) y.2) ∙ sp ∙ sym of_space in
            let n : y.0.decl.name ≡ x.decl.name = sym (ap (λ (z : Entry). z.decl.name) y.2) ∙ names_same (name_at t f.token) (name_at t d.token) (sym (same_name_sym (name_at t d.token) (name_at t f.token)) ∙ p.0) ∙ sym of_name in
            earliest j y.0 y.1 (parts_in x.path x.decl.space x.decl.name y.0 number z n)

        by : (b : Bool) → (is_tag d || is_typedef d) ≡ b → first_token t s.declarations d ≡ d.token
        by false e = ap (token_or d.token) (find_none (are_one t d) s.declarations (λ j f at. as_is f ∙ nothing (same_name (name_at t d.token) (name_at t f.token)) (is_linked f) (same_path d.path f.path) (is_tag d) (is_typedef d) (is_tag f) (is_typedef f) e))
        by true e =
            ap (token_or d.token) (find_at (are_one t d) s.declarations i d ad
            (as_is d ∙ whole (same_name (name_at t d.token) (name_at t d.token)) (is_linked d) (same_path d.path d.path) (is_tag d) (is_typedef d) (eq-eqb (name_at t d.token).0 (name_at t d.token).0 refl) (path_refl d.path) e)
            (λ j f lt at. not_true (are_one t d f) (λ h. let l : i ≤ j = in_slot j f at h in omega (arith, lt, l))))

    file_scope_is : eqb x.path 0 ≡ is_file_scope d.path
    file_scope_is = is_first_path ps rows kept i x ax ∙ ap is_file_scope of_path

    pub first_key_is : ((j : ℕ) (y : Row) → slice_get rows j ≡ Some y → is_in (slot_of x) y ≡ true → i ≤ j) → row_key unit t.texts t.tokens rows x ≡ declaration_key unit t s d
    first_key_is earliest =
        ap (λ b. if b then key.Ext (slice_index_or t.texts x.decl.name.0 []) else (if is_file_tag_row x then key.Tag (tag_kind x.decl.kind) (slice_index_or t.texts x.decl.name.0 []) else token_key unit t (row_token rows x))) (ap is_external of_linkage)
        ∙ ap (λ (n : Name). if is_external d.linkage then key.Ext (slice_index_or t.texts n.0 []) else (if is_file_tag_row x then key.Tag (tag_kind x.decl.kind) (slice_index_or t.texts n.0 []) else token_key unit t (row_token rows x))) of_name
        ∙ ap (λ b. if is_external d.linkage then key.Ext (slice_index_or t.texts (name_at t d.token).0 []) else (if b then key.Tag (tag_kind x.decl.kind) (slice_index_or t.texts (name_at t d.token).0 []) else token_key unit t (row_token rows x))) (ap (λ z. same_space z space.Tag && eqb x.path 0) of_space ∙ ap (λ z. is_tag d && z) file_scope_is)
        ∙ ap (λ k. if is_external d.linkage then key.Ext (slice_index_or t.texts (name_at t d.token).0 []) else (if is_tag d && is_file_scope d.path then key.Tag (tag_kind k) (slice_index_or t.texts (name_at t d.token).0 []) else token_key unit t (row_token rows x))) of_kind
        ∙ ap (λ i. if is_external d.linkage then key.Ext (slice_index_or t.texts (name_at t d.token).0 []) else (if is_tag d && is_file_scope d.path then key.Tag (tag_kind d.kind) (slice_index_or t.texts (name_at t d.token).0 []) else token_key unit t i)) (token_is (has_linkage d.linkage) refl)
      where
        token_is : (b : Bool) → has_linkage d.linkage ≡ b → row_token rows x ≡ first_token t s.declarations d
        token_is true has = ap (λ b. if b then token_at rows (position (is_linked_row x.decl.name) rows) x.decl.token else x.decl.token) (ap has_linkage of_linkage ∙ has) ∙ linked_token has
        token_is false has = ap (λ b. if b then token_at rows (position (is_linked_row x.decl.name) rows) x.decl.token else x.decl.token) (ap has_linkage of_linkage ∙ has) ∙ of_token ∙ sym (first_itself has earliest)

  -- ---- all groups

  pub are_groups : (es : List (Slot × Group)) → IsBuilt unit t.texts t.tokens rows old new es (length rows) → AreGroups unit t s old new rows es
  are_groups es built = record {
    none = λ a one h j x at is. built.none a one h j x (slice_get_within rows j x at) at is;
    some = λ a g h. is_group a g (built.some a g h);
  }
    where
      is_group : (a : Slot) (g : Group) → IsFirst unit t.texts t.tokens rows old new (length rows) a g → IsGroup unit t s rows a g
      is_group a g f =
          let x : Row = f.first.0 in
          let ax : slice_get rows g.first ≡ Some x = f.first.1 in
          let isx : is_in a x ≡ true = f.first.2 in
          let d : (d : Declaration) × (slice_get s.declarations g.first ≡ Some d) × (entry_of ps x ≡ entry t d) = both g.first x ax in
          let here : a ≡ slot_of x = slots_same a (slot_of x) isx in
          let key : g.key ≡ declaration_key unit t s d.0 = ap (λ (z : Group). z.key) f.first.3 ∙ first_key_is g.first x d.0 ax d.1 (λ j y at is. f.earliest j y at (subst (λ z. is_in z y ≡ true) (sym here) is)) in
          record {
            first = (x, ax, isx);
            earliest = f.earliest;
            sort = λ j y at is. ap is_typedef_kind (slot_kind a g.first j x y ax at isx is (f.earliest j y at is)) ∙ sym (ap (λ (z : Group). z.is_typedef) f.first.3);
            keyed = λ j y e at is ae. key ∙ slot_key a g.first j x y d.0 e ax at d.1 ae isx is (f.earliest j y at is);
          }
