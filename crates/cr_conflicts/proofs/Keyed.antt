-- Keys of records and members by rows are those that are meant.
use Rattle.std.proofs.Common.{◌≡◌, ℕ, zero, suc, ◌<◌, ◌≤◌, Bool, true, false, ◌&&◌, eqb, cond, Option, Some, None, List, [], ◌∷◌, length, map, arith, refl, sym, ap, subst, ◌∙◌}
use Rattle.std.specs.Prelude.{slice_get, slice_index_or, option_map, option_and_then, if◌then◌else◌, MatchOption, IfSome}
use Rattle.std.specs.List.{find}
use Rattle.std.specs.Option.{option_map_or}
use Rattle.std.proofs.lemmas.Bool.{eqb-true, eq-eqb}
use Rattle.std.proofs.lemmas.Option.{slice_get_within}
use Rattle.cr_base.specs.declared.token.Tok.{Tok}
use Rattle.cr_base.specs.declared.key.Key.TheVariants as key
use Rattle.cr_base.specs.declared.key.RecordKey.TheVariants as record_key
use Rattle.cr_scope.specs.declared.Space.TheVariants as space
use Rattle.cr_scope.specs.Declarations.{Entry, same_space}
use Rattle.cr_scope.specs.Linkage.{is_file_scope}
use Rattle.cr_scope.proofs.Paths.{and_both}
use Rattle.cr_binding.specs.Source.{Source, name_at, text_at}
use Rattle.cr_binding.specs.State.{Declaration, Member, Record, State}
use Rattle.cr_binding.specs.Entities.{entry}
use Rattle.cr_binding.specs.Keys.{tag_kind, is_tag_of, token_record_key, tag_record_key, record_key_at, record_token, member_key}
use Rattle.cr_declared.specs.declared.rows.Row.{Row}
use Rattle.cr_declared.specs.declared.rows.UseRow.{UseRow}
use Rattle.cr_declared.specs.Rows.{entry_of, AreRows}
use Rattle.cr_groups.specs.Built.{text_in, AreSpelled}
use Rattle.cr_groups.specs.Firsts.{find_number, IsFirstOf, NoneOf, AreFirsts}
use Rattle.cr_groups.proofs.Grouped.{find_at, find_none, is_first_path}
use Rattle.cr_groups.proofs.Shown.{Views}
use Rattle.cr_conflicts.specs.Members.{row_of, AreMembers, is_tag_row, tag_token, record_key_of, record_key_in, member_key_in}
use Rattle.cr_conflicts.specs.declared.members.MemberRow.{MemberRow}
use Rattle.cr_conflicts.proofs.Asked.{find_means}

-- ---- the table of tags

tag_is : (b : Bool) (k i : ℕ) → cond b (Some k) None ≡ Some i → (b ≡ true) × (k ≡ i)
tag_is true k i h = (refl, cc)
tag_is false k i h = cc

tag_row : (i : ℕ) (x : Row) → tag_token x ≡ Some i → is_tag_row i x ≡ true
tag_row i x h =
    let q = tag_is (same_space x.decl.space space.Tag) x.decl.token i h in
    ap (λ b. b && eqb x.decl.token i) q.0 ∙ eq-eqb x.decl.token i q.1

row_tag : (i : ℕ) (x : Row) → is_tag_row i x ≡ true → tag_token x ≡ Some i
row_tag i x h =
    let q = and_both (same_space x.decl.space space.Tag) (eqb x.decl.token i) h in
    ap (λ b. cond b (Some x.decl.token) None) q.0 ∙ ap Some (eqb-true x.decl.token i q.1)

not_tag : (b : Bool) → (b ≡ true → ⊥) → b ≡ false
not_tag true f = absurd (f refl)
not_tag false f = refl

-- what the table has is what is found
pub tag_found : (rows : List Row) (fs : List (ℕ × ℕ)) (i : ℕ) → AreFirsts tag_token rows fs (length rows)
    → option_and_then (slice_get rows) (find_number i fs) ≡ find (is_tag_row i) rows
tag_found rows fs i firsts = by (find_number i fs) (firsts i)
  where
    by : (o : Option ℕ) → MatchOption o (NoneOf tag_token rows (length rows) i) (IsFirstOf tag_token rows (length rows) i) → option_and_then (slice_get rows) o ≡ find (is_tag_row i) rows
    by None h = sym (find_none (is_tag_row i) rows (λ j x at. not_tag (is_tag_row i x) (λ e. h j x (slice_get_within rows j x at) at (row_tag i x e))))
    by (Some c) h =
        let x : Row = h.itself.0 in
        h.itself.1
        ∙ sym (find_at (is_tag_row i) rows c x h.itself.1 (tag_row i x h.itself.2) (λ j y lt at. not_tag (is_tag_row i y) (λ e.
        let le : c ≤ j = h.earliest j y at (row_tag i y e) in
        omega (arith, lt, le))))

-- ---- what is meant

-- what is found by a test on what things are mapped to
find_mapped : {A B : Type 0} (f : A → B) (p : B → Bool) (xs : List A) → find p (map f xs) ≡ option_map f (find (λ x. p (f x)) xs)
find_mapped f p [] = refl
find_mapped {A} {B} f p (x ∷ xs) = by (p (f x)) refl (find_mapped f p xs)
  where
    by : (b : Bool) → p (f x) ≡ b → find p (map f xs) ≡ option_map f (find (λ y. p (f y)) xs)
        → cond (p (f x)) (Some (f x)) (find p (map f xs)) ≡ option_map f (cond (p (f x)) (Some x) (find (λ y. p (f y)) xs))
    by true e h = ap (λ b. cond b (Some (f x)) (find p (map f xs))) e ∙ sym (ap (λ b. option_map f (cond b (Some x) (find (λ y. p (f y)) xs))) e)
    by false e h = ap (λ b. cond b (Some (f x)) (find p (map f xs))) e ∙ h ∙ sym (ap (λ b. option_map f (cond b (Some x) (find (λ y. p (f y)) xs))) e)

module _ (unit : ℕ) (t : Source) (s : State) (ps : List (List ℕ)) (rows : List Row) (uses : List UseRow) (shown : Views t s ps rows uses) (kept : AreRows ps rows) where
  abbrev is_tag_at : ℕ → Entry → Bool
  is_tag_at i e = same_space e.decl.space space.Tag && eqb e.decl.token i

  -- the tag at a token, as a row and as a declaration
  one_tag : (i : ℕ) → option_map (entry_of ps) (find (is_tag_row i) rows) ≡ option_map (entry t) (find (is_tag_of i) s.declarations)
  one_tag i =
      sym (find_mapped (entry_of ps) (is_tag_at i) rows)
      ∙ ap (find (is_tag_at i)) shown.entries
      ∙ find_mapped (entry t) (is_tag_at i) s.declarations

  pub record_key_is : (i : ℕ) → record_key_in unit t.texts t.tokens rows i ≡ record_key_at unit t s i
  record_key_is i = by (find (is_tag_row i) rows) refl (find (is_tag_of i) s.declarations) refl (one_tag i)
    where
      by : (o : Option Row) → find (is_tag_row i) rows ≡ o → (r : Option Declaration) → find (is_tag_of i) s.declarations ≡ r → option_map (entry_of ps) o ≡ option_map (entry t) r
          → record_key_of unit t.texts t.tokens i o ≡ tag_record_key unit t i r
      by None e None g h = refl
      by None e (Some d) g h = cc
      by (Some x) e None g h = cc
      by (Some x) e (Some d) g h =
          let same : entry_of ps x ≡ entry t d = cc in
          let m = find_means (is_tag_row i) rows x e in
          let q = and_both (same_space x.decl.space space.Tag) (eqb x.decl.token i) m.2 in
          let dt : d.token ≡ i = sym (ap (λ (z : Entry). z.decl.token) same) ∙ eqb-true x.decl.token i q.1 in
          let name : x.decl.name ≡ name_at t i = ap (λ (z : Entry). z.decl.name) same ∙ ap (name_at t) dt in
          let scope : eqb x.path 0 ≡ is_file_scope d.path = is_first_path ps rows kept m.0 x m.1 ∙ ap (λ (z : Entry). is_file_scope z.path) same in
          let sort : x.decl.kind ≡ d.kind = ap (λ (z : Entry). z.decl.kind) same in
          ap (λ b. if b then record_key.Tag (tag_kind x.decl.kind) (text_in t.texts x.decl.name) else token_record_key unit t i) scope
          ∙ ap (λ k. if is_file_scope d.path then record_key.Tag (tag_kind k) (text_in t.texts x.decl.name) else token_record_key unit t i) sort
          ∙ ap (λ n. if is_file_scope d.path then record_key.Tag (tag_kind d.kind) (text_in t.texts n) else token_record_key unit t i) name

  -- the first token of a record
  first_is : (rs : List Record) (n : ℕ) → slice_index_or (map {A = Record} (λ r. r.token) rs) n 0 ≡ option_map_or (λ (r : Record). r.token) (slice_get rs n) 0
  first_is [] n = refl
  first_is (r ∷ rs) zero = refl
  first_is (r ∷ rs) (suc n) = first_is rs n

  pub member_key_is : (members : List MemberRow) (records : List ℕ) (m : Member) → AreMembers s members records → member_key_in unit t.texts t.tokens rows records (row_of m) ≡ member_key unit t s m
  member_key_is members records m are =
      let first : slice_index_or records m.own 0 ≡ record_token s m.own = ap (λ z. slice_index_or z m.own 0) are.records_are ∙ first_is s.records m.own in
      ap (λ z. key.Member z (text_at t m.token)) (ap (record_key_in unit t.texts t.tokens rows) first ∙ record_key_is (record_token s m.own))

-- the name of a tag that is found is spelled
pub tag_spelled : (texts : List (List ℕ)) (tokens : List Tok) (rows : List Row) (i : ℕ) (o : Option Row) → o ≡ find (is_tag_row i) rows → AreSpelled texts tokens rows → IfSome o (λ x. x.decl.name.0 < length texts)
tag_spelled texts tokens rows i o e spelled = subst (λ z. IfSome z (λ x. x.decl.name.0 < length texts)) (sym e) (by (find (is_tag_row i) rows) refl)
  where
    by : (r : Option Row) → find (is_tag_row i) rows ≡ r → IfSome r (λ x. x.decl.name.0 < length texts)
    by None h = tt
    by (Some x) h = (let m = find_means (is_tag_row i) rows x h in (spelled m.0 x m.1).1)
