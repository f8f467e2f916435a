-- What is kept of a unit shows what is bound of it.
use Rattle.std.proofs.Common.{◌≡◌, ◌<◌, ◌≤◌, ℕ, zero, suc, Option, Some, None, List, [], ◌∷◌, length, map, slice_get, refl, sym, ap, subst, ◌∙◌, arith}
use Rattle.std.specs.Prelude.{option_map, slice_index_or}
use Rattle.std.specs.List.{Contains}
use Rattle.std.proofs.lemmas.Option.{slice_get-map, slice_get-get_or}
use Rattle.std.proofs.lemmas.List.{length-map}
use Rattle.cr_base.specs.declared.token.Name.{Name}
use Rattle.cr_base.specs.declared.token.Tok.{Tok}
use Rattle.cr_scope.specs.declared.Space.{Space}
use Rattle.cr_scope.specs.Declarations.{Entry, is_prefix}
use Rattle.cr_types.specs.declared.TypeNo.{TypeNo}
use Rattle.cr_types.specs.Types.{Table}
use Rattle.cr_ll.specs.Derivation.{Trees}
use Rattle.cr_paths.specs.Paths.{path_at}
use Rattle.cr_declared.specs.declared.rows.Row.{Row}
use Rattle.cr_declared.specs.declared.rows.UseRow.{UseRow}
use Rattle.cr_declared.specs.declared.rows.UseRow.TheVariants as row
use Rattle.cr_declared.specs.Known.{Known}
use Rattle.cr_declared.specs.Rows.{entry_of, AreApart, AreFormed}
use Rattle.cr_binding.specs.Source.{Source, no_token}
use Rattle.cr_binding.specs.State.{Declaration, Member, Record, Use, State}
use Rattle.cr_binding.specs.Entities.{entry}
use Rattle.cr_binding.specs.Binding.{bound}
use Rattle.cr_binding.specs.WellFormed.{IsWellFormed}
use Rattle.cr_names.specs.Kept.{IsPlaced, ArePlaced, AreBare, AreSpelledBy}
use Rattle.cr_names.specs.Kept as names
use Rattle.cr_names.specs.Names.{declaration_by, declarations_by, use_by}
use Rattle.cr_records.specs.Kept.{RecordTable}
use Rattle.cr_records.specs.declared.rows.RecordRow.{RecordRow}
use Rattle.cr_records.specs.Records.{members_by, record_of}
use Rattle.cr_conflicts.specs.declared.members.MemberRow.{MemberRow}
use Rattle.cr_conflicts.specs.Members.{row_of, AreMembers, AreAllMembers, AreUnique}
use Rattle.cr_groups.specs.Rows.{source_of, name_in, use_of, IsDenoted, IsSound, AreSound, AreShown}
use Rattle.cr_groups.specs.Built.{AreSpelled}
use Rattle.cr_sound_law.specs.Sound as law
use Rattle.cr_sound_law.specs.Sound.{UsesAreSound, DeclarationsAreAtTokens, MembersAreAtTokens, RecordsAreAtTokens, MembersAreUnique}
use Rattle.cr_bound.specs.declared.bound.Bound.{Bound}
use Rattle.cr_bound_facts.specs.Bound.{HaveTexts, IsKeptOf, member_rows, record_tokens}

-- ---- lists

at_place : {A : Type 0} (xs : List A) (i : ℕ) (x : A) → slice_get xs i ≡ Some x → Contains xs x
at_place [] i x h = cc
at_place (y ∷ xs) zero x h = (zero, grind arith, (let e : y ≡ x = cc in e))
at_place (y ∷ xs) (suc i) x h = (let c = at_place xs i x h in (suc c.0, omega (arith, c.1), c.2))

-- an element of a list of images
image_at : {A B : Type 0} (f : A → B) (xs : List A) (k : ℕ) (y : B) → slice_get (map f xs) k ≡ Some y → (x : A) × (slice_get xs k ≡ Some x) × (f x ≡ y)
image_at f [] k y h = cc
image_at f (x ∷ xs) zero y h = (x, refl, (let e : f x ≡ y = cc in e))
image_at f (x ∷ xs) (suc k) y h = image_at f xs k y h

pub image_of : {A B : Type 0} (f : A → B) (xs : List A) (k : ℕ) (x : A) → slice_get xs k ≡ Some x → slice_get (map f xs) k ≡ Some (f x)
image_of f xs k x h = slice_get-map f xs k ∙ ap (option_map f) h

-- ---- declarations

entries_same : (t : Source) (ty : Table) (es : List Entry) (ns : List TypeNo) → length ns ≡ length es → AreBare es → AreSpelledBy t es
    → es ≡ map (entry t) (declarations_by ty es ns)
entries_same t ty [] ns len bare spelled = refl
entries_same t ty (e ∷ es) [] len bare spelled = (let x : zero ≡ suc (length es) = len in grind arith)
entries_same t ty (e ∷ es) (n ∷ ns) len bare spelled =
    let l : length ns ≡ length es = (let x : suc (length ns) ≡ suc (length es) = len in grind arith) in
    ap (λ k. (record { path = e.path; decl = record { space = e.decl.space; name = e.decl.name; token = e.decl.token; kind = e.decl.kind; linkage = e.decl.linkage; note = k } }) ∷ es) bare.0
    ∙ ap (λ k. (record { path = e.path; decl = record { space = e.decl.space; name = k; token = e.decl.token; kind = e.decl.kind; linkage = e.decl.linkage; note = 0 } }) ∷ es) spelled.0
    ∙ ap (λ zs. entry t (declaration_by ty e n) ∷ zs) (entries_same t ty es ns l bare.1 spelled.1)

-- ---- uses

same_use : (ps : List (List ℕ)) (u : UseRow) → use_of ps u ≡ use_by ps u
same_use ps (row.LookedUp sp i path before denoted) = refl
same_use ps (row.GoesTo i label) = refl
same_use ps (row.Selects i member) = refl
same_use ps (row.IsBuiltIn i) = refl
same_use ps (row.IsParameter i) = refl
same_use ps (row.WasAsked i path before answer) = refl

same_uses : (ps : List (List ℕ)) (us : List UseRow) → map (use_of ps) us ≡ map (use_by ps) us
same_uses ps [] = refl
same_uses ps (u ∷ us) = ap (λ z. z ∷ map (use_of ps) us) (same_use ps u) ∙ ap (λ zs. use_by ps u ∷ zs) (same_uses ps us)

placed_at : (n : ℕ) (us : List UseRow) → ArePlaced n us → (j : ℕ) (u : UseRow) → slice_get us j ≡ Some u → IsPlaced n u
placed_at n [] h j u is = cc
placed_at n (x ∷ us) h zero u is = subst (IsPlaced n) (let e : x ≡ u = cc in e) h.0
placed_at n (x ∷ us) h (suc j) u is = placed_at n us h.1 j u is

-- ---- a unit

module _ (texts : List (List ℕ)) (tokens : List Tok) (b : Bound) (rows : List Row) (tree : Trees)
    (have : HaveTexts texts tokens) (well : IsWellFormed (source_of texts tokens) tree) (kept : IsKeptOf (source_of texts tokens) b tree)
    (entries : map (entry_of b.names.declared.paths) rows ≡ b.names.declared.entries) (is_kept : names.IsKept b.names) where
  abbrev t : Source
  t = source_of texts tokens

  abbrev s : State
  s = bound t tree

  abbrev ps : List (List ℕ)
  ps = b.names.declared.paths

  declarations_are : declarations_by kept.types b.names.declared.entries b.names.types_of ≡ s.declarations
  declarations_are = ap (λ (x : State). x.declarations) kept.state

  uses_are : map (use_by ps) b.names.uses ≡ s.uses
  uses_are = ap (λ (x : State). x.uses) kept.state

  pub hidden_are : b.names.hidden ≡ s.hidden
  hidden_are = ap (λ (x : State). x.hidden) kept.state

  entries_are : map (entry_of ps) rows ≡ map (entry t) s.declarations
  entries_are =
      entries
      ∙ entries_same t kept.types b.names.declared.entries b.names.types_of is_kept.counted is_kept.bare kept.spelled.0
      ∙ ap (map (entry t)) declarations_are

  pub shown : AreShown t s ps rows b.names.uses
  shown = record { entries = entries_are; used = same_uses ps b.names.uses ∙ uses_are }

  rows_count : length rows ≡ length s.declarations
  rows_count = sym (length-map rows (entry_of ps)) ∙ ap length entries_are ∙ length-map s.declarations (entry t)

  -- the row of a declaration
  row_at : (c : ℕ) (d : Declaration) → slice_get s.declarations c ≡ Some d → (x : Row) × (slice_get rows c ≡ Some x) × (entry_of ps x ≡ entry t d)
  row_at c d h = image_at (entry_of ps) rows c (entry t d) (ap (λ (zs : List Entry). slice_get zs c) entries_are ∙ image_of (entry t) s.declarations c d h)

  -- and the declaration of a row
  declaration_at : (j : ℕ) (x : Row) → slice_get rows j ≡ Some x → (d : Declaration) × (slice_get s.declarations j ≡ Some d) × (entry t d ≡ entry_of ps x)
  declaration_at j x h = image_at (entry t) s.declarations j (entry_of ps x) (ap (λ (zs : List Entry). slice_get zs j) (sym entries_are) ∙ image_of (entry_of ps) rows j x h)

  denoted : (sp : Space) (i path before : ℕ) (o : Option ℕ) → law.IsDenoted t s.declarations sp i (path_at ps path) before o → IsDenoted tokens ps rows sp i path before o
  denoted sp i path before None h = subst (λ n. before < n) (sym rows_count) h
  denoted sp i path before (Some c) h =
      let x = row_at c h.1 h.2 in (
        h.0,
        x.0,
        x.1,
        ap (λ (e : Entry). e.decl.space) x.2 ∙ h.3,
        ap (λ (e : Entry). e.decl.name) x.2 ∙ h.4,
        ap (λ (e : Entry). is_prefix e.path (path_at ps path)) x.2 ∙ h.5,
      )

  within : (n : ℕ) → n ≤ length s.declarations → n ≤ length rows
  within n h = subst (λ m. n ≤ m) (sym rows_count) h

  sound_use : (u : UseRow) → IsPlaced (length ps) u → law.IsSound t s.declarations (use_by ps u) → IsSound tokens ps rows u
  sound_use (row.LookedUp sp i path before o) placed h = (h.0, placed, within before h.1, denoted sp i path before o h.2)
  sound_use (row.GoesTo i label) placed h = (let x = row_at label h.1.0 h.1.1 in (h.0, (x.0, x.1, ap (λ (e : Entry). e.decl.name) x.2 ∙ h.1.2)))
  sound_use (row.Selects i member) placed h = h
  sound_use (row.IsBuiltIn i) placed h = h
  sound_use (row.IsParameter i) placed h = h
  sound_use (row.WasAsked i path before answer) placed h = (h.0, placed, within before h.1)

  pub sound : UsesAreSound → AreSound tokens ps rows b.names.uses
  sound uses j u is =
      sound_use u (placed_at (length ps) b.names.uses is_kept.placed j u is)
      (uses t tree well (use_by ps u) (at_place s.uses j (use_by ps u) (ap (λ (zs : List Use). slice_get zs j) (sym uses_are) ∙ image_of (use_by ps) b.names.uses j u is)))

  -- ---- texts

  has_text : (i : ℕ) → i < length tokens → (name_in tokens i).0 < length texts
  has_text i h = have i (slice_index_or tokens i no_token) (slice_get-get_or tokens i no_token h)

  pub spelled : DeclarationsAreAtTokens → AreSpelled texts tokens rows
  spelled at j x is =
      let d = declaration_at j x is in
      let k : d.0.token < length tokens = at t tree well d.0 (at_place s.declarations j d.0 d.1) in
      let e : d.0.token ≡ x.decl.token = ap (λ (z : Entry). z.decl.token) d.2 in (
        subst (λ n. n < length tokens) e k,
        subst (λ (n : Name). n.0 < length texts) (ap (λ (z : Entry). z.decl.name) d.2) (has_text d.0.token k),
      )

-- ---- members

module _ (texts : List (List ℕ)) (tokens : List Tok) (b : Bound) (tree : Trees)
    (have : HaveTexts texts tokens) (well : IsWellFormed (source_of texts tokens) tree) (kept : IsKeptOf (source_of texts tokens) b tree)
    (members : List MemberRow) (records : List ℕ) (are_rows : (ty : Table) → members ≡ member_rows ty b.records) (are_tokens : records ≡ record_tokens b.records.records) where
  text_at : (i : ℕ) → i < length tokens → (name_in tokens i).0 < length texts
  text_at i h = have i (slice_index_or tokens i no_token) (slice_get-get_or tokens i no_token h)

  abbrev u : Source
  u = source_of texts tokens

  abbrev r : State
  r = bound u tree

  written_are : members_by kept.types b.records ≡ r.members
  written_are = ap (λ (x : State). x.members) kept.state

  firsts_are : map record_of b.records.records ≡ r.records
  firsts_are = ap (λ (x : State). x.records) kept.state

  members_shown : members ≡ map row_of r.members
  members_shown = are_rows kept.types ∙ ap (map row_of) written_are

  tokens_of_records : (rs : List RecordRow) → record_tokens rs ≡ map {A = Record} (λ z. z.token) (map record_of rs)
  tokens_of_records [] = refl
  tokens_of_records (x ∷ rs) = ap (λ zs. x.token ∷ zs) (tokens_of_records rs)

  records_shown : records ≡ map {A = Record} (λ z. z.token) r.records
  records_shown = are_tokens ∙ tokens_of_records b.records.records ∙ ap (map {A = Record} (λ z. z.token)) firsts_are

  pub members_are_shown : AreMembers r members records
  members_are_shown = record { members_are = members_shown; records_are = records_shown }

  member_at : (j : ℕ) (m : MemberRow) → slice_get members j ≡ Some m → (x : Member) × (slice_get r.members j ≡ Some x) × (row_of x ≡ m)
  member_at j m h = image_at row_of r.members j m (ap (λ (zs : List MemberRow). slice_get zs j) (sym members_shown) ∙ h)

  records_count : length records ≡ length r.records
  records_count = ap length records_shown ∙ length-map r.records (λ (z : Record). z.token)

  first_is_token : RecordsAreAtTokens → (n : ℕ) → n < length records → slice_index_or records n 0 < length tokens
  first_is_token at n h =
      let x = image_at (λ (z : Record). z.token) r.records n (slice_index_or records n 0) (ap (λ (zs : List ℕ). slice_get zs n) (sym records_shown) ∙ slice_get-get_or records n 0 h) in
      subst (λ k. k < length tokens) x.2 (at u tree well x.0 (at_place r.records n x.0 x.1))

  pub all_members : MembersAreAtTokens → RecordsAreAtTokens → AreAllMembers texts tokens records members
  all_members at firsts j m is =
      let x = member_at j m is in
      let h = at u tree well x.0 (at_place r.members j x.0 x.1) in
      let token : m.token < length tokens = subst (λ (z : MemberRow). z.token < length tokens) x.2 h.0 in
      let own : m.own < length records = subst (λ n. m.own < n) (sym records_count) (subst (λ (z : MemberRow). z.own < length r.records) x.2 h.1) in
      record { token = token; spelled = text_at m.token token; own = own; first = first_is_token firsts m.own own }

  pub unique : MembersAreUnique → AreUnique tokens members
  unique one i j m n is_m is_n holders names_same =
      let x = member_at i m is_m in
      let y = member_at j n is_n in
      one u tree well i j x.0 y.0 x.1 y.1
      (ap (λ (z : MemberRow). z.holder) x.2 ∙ holders ∙ sym (ap (λ (z : MemberRow). z.holder) y.2))
      (ap (λ (z : MemberRow). name_in tokens z.token) x.2 ∙ names_same ∙ sym (ap (λ (z : MemberRow). name_in tokens z.token) y.2))

-- ---- as the calls say it

-- what rows show of a unit, and what holds of them
pub record Shows (texts : List (List ℕ)) (tokens : List Tok) (s : State) (paths : List (List ℕ)) (rows : List Row) (uses : List UseRow) (hidden : List ℕ) : Type 0 where
  pub apart : AreApart (map (entry_of paths) rows)
  pub formed : AreFormed (map (entry_of paths) rows)
  pub sound : AreSound tokens paths rows uses
  pub spelled : AreSpelled texts tokens rows
  pub shown : AreShown (source_of texts tokens) s paths rows uses
  pub hidden_are : hidden ≡ s.hidden

module _ (texts : List (List ℕ)) (tokens : List Tok) (b : Bound) (tree : Trees) (have : HaveTexts texts tokens)
    (well : IsWellFormed (source_of texts tokens) tree) (kept : IsKeptOf (source_of texts tokens) b tree)
    (uses_law : UsesAreSound) (declarations_law : DeclarationsAreAtTokens) where
  -- by the very names that are kept
  shows_kept : (rows : List Row) → map (entry_of b.names.declared.paths) rows ≡ b.names.declared.entries
      → AreApart b.names.declared.entries → AreFormed b.names.declared.entries → names.IsKept b.names
      → Shows texts tokens (bound (source_of texts tokens) tree) b.names.declared.paths rows b.names.uses b.names.hidden
  shows_kept rows entries apart formed is_kept = record {
    apart = subst AreApart (sym entries) apart;
    formed = subst AreFormed (sym entries) formed;
    sound = sound texts tokens b rows tree have well kept entries is_kept uses_law;
    spelled = spelled texts tokens b rows tree have well kept entries is_kept declarations_law;
    shown = shown texts tokens b rows tree have well kept entries is_kept;
    hidden_are = hidden_are texts tokens b rows tree have well kept entries is_kept;
  }

  -- by what the calls give
  pub shows : (d : Known) → d ≡ b.names.declared → names.IsKept b.names → (paths : List (List ℕ)) → paths ≡ d.paths
      → (rows : List Row) → map (entry_of d.paths) rows ≡ d.entries → AreApart d.entries → AreFormed d.entries
      → (uses : List UseRow) → uses ≡ b.names.uses → (hidden : List ℕ) → hidden ≡ b.names.hidden
      → Shows texts tokens (bound (source_of texts tokens) tree) paths rows uses hidden
  shows d is_d is_kept paths is_paths rows entries apart formed uses is_uses hidden is_hidden =
      let e : map (entry_of b.names.declared.paths) rows ≡ b.names.declared.entries =
      ap (λ (z : Known). map (entry_of z.paths) rows) (sym is_d) ∙ entries ∙ ap (λ (z : Known). z.entries) is_d
      in
      let k = shows_kept rows e (subst (λ (z : Known). AreApart z.entries) is_d apart) (subst (λ (z : Known). AreFormed z.entries) is_d formed) is_kept in
      subst (λ h. Shows texts tokens (bound (source_of texts tokens) tree) paths rows uses h) (sym is_hidden)
      (subst (λ u. Shows texts tokens (bound (source_of texts tokens) tree) paths rows u b.names.hidden) (sym is_uses)
      (subst (λ p. Shows texts tokens (bound (source_of texts tokens) tree) p rows b.names.uses b.names.hidden) (sym (is_paths ∙ ap (λ (z : Known). z.paths) is_d)) k))

  -- members and records
  pub record ShowsMembers (members : List MemberRow) (records : List ℕ) : Type 0 where
    pub all : AreAllMembers texts tokens records members
    pub unique : AreUnique tokens members
    pub are : AreMembers (bound (source_of texts tokens) tree) members records

  pub shows_members : MembersAreAtTokens → RecordsAreAtTokens → MembersAreUnique → (x : RecordTable) → x ≡ b.records → (members : List MemberRow) → ((ty : Table) → members ≡ member_rows ty x)
      → (y : RecordTable) → y ≡ b.records → (rs : List RecordRow) → rs ≡ y.records → (records : List ℕ) → records ≡ record_tokens rs → ShowsMembers members records
  shows_members at firsts one x is_x members are_rows y is_y rs is_rs records are_tokens =
      let m : (ty : Table) → members ≡ member_rows ty b.records = λ ty. are_rows ty ∙ ap (member_rows ty) is_x in
      let r : records ≡ record_tokens b.records.records = are_tokens ∙ ap record_tokens (is_rs ∙ ap (λ (z : RecordTable). z.records) is_y) in
      record {
        all = all_members texts tokens b tree have well kept members records m r at firsts;
        unique = unique texts tokens b tree have well kept members records m r one;
        are = members_are_shown texts tokens b tree have well kept members records m r;
      }
