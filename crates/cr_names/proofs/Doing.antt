-- What one change of the names does.
use Rattle.std.proofs.Common.{◌≡◌, ℕ, ◌<◌, ◌≤◌, Bool, true, false, if◌then◌else◌, Option, Some, None, List, [], ◌∷◌, ◌++◌, length, map, sym, ap, subst, ◌∙◌, arith}
use Rattle.std.specs.Prelude.{slice_get, position, option_and_then}
use Rattle.std.specs.List.{list_any}
use Rattle.std.proofs.lemmas.List.{map-append, length-append, length-map}
use Rattle.std.proofs.lemmas.Option.{slice_get_past}
use Rattle.cr_base.specs.declared.token.Name.{Name}
use Rattle.cr_base.specs.declared.cause.IllCause.TheVariants as cause
use Rattle.cr_scope.specs.declared.Space.{Space}
use Rattle.cr_scope.specs.declared.Space.TheVariants as space
use Rattle.cr_scope.specs.declared.Decl.{Decl}
use Rattle.cr_scope.specs.Declarations.{Entry, lookup, path_for}
use Rattle.cr_scope.specs.Redeclaration.{clashes}
use Rattle.cr_types.specs.declared.TypeNo.{TypeNo}
use Rattle.cr_types.specs.Types.{Table, IsTypeNo, type_at}
use Rattle.cr_paths.specs.Paths.{path_at}
use Rattle.cr_declared.specs.Known.{Known, Becomes, is_redeclared, is_here, entry as known_entry}
use Rattle.cr_declared.specs.Rows.{entry_of}
use Rattle.cr_declared.specs.declared.rows.Row.{Row}
use Rattle.cr_declared.specs.declared.rows.UseRow.{UseRow}
use Rattle.cr_declared.specs.declared.rows.UseRow.TheVariants as row
use Rattle.cr_binding.specs.Source.{Source, name_at}
use Rattle.cr_binding.specs.State.{Declaration, LookedUp, WasAsked, State}
use Rattle.cr_ll.specs.Derivation.{Asked}
use Rattle.cr_binding.specs.Binding.{asked}
use Rattle.cr_binding.specs.Entities.{entry, is_tag_here}
use Rattle.cr_binding.specs.Declaring.{failed, used, looked_up, declaration, declaration_at}
use Rattle.cr_names.specs.Kept.{KnownNames, IsKept, AreBare, AreGiven, AreSpelledBy, AreSpelled, IsPlaced, ArePlaced}
use Rattle.cr_names.specs.Names.{declarations_by, use_by, with_names, IsNamed, Does, Moves, Fails, IsMeaning, IsTagHere, IsDeclaration, declared_as, hiding}
use Rattle.cr_names.proofs.Seen.{entries_same, length_declarations, declarations_more, typed_past, got, position_map, find_position}
use Rattle.cr_names.proofs.Staying.{uses_stay, placed_stay, placed_more, given_more, bare_more, spelled_more}

-- the same by what it is in these names
pub as_moves : (x y : KnownNames) (f g : State → State) → ((t : Table) (s : State) → f (with_names t x s) ≡ g (with_names t x s)) → Moves x g y → Moves x f y
as_moves x y f g e m t = record {
  state = λ source s p sound spelled. (m t).state source s p sound spelled ∙ sym (e t s);
  spelled = (m t).spelled;
  typed = (m t).typed;
}

module _ (x : KnownNames) (kept : IsKept x) where
  -- ---- scopes

  module _ (d : Known) (n : ℕ) (path : List ℕ) (b : Becomes x.declared n path x.declared.entries d) where
    moves : Moves x (λ s. record s { scopes = n; present = path }) (record x { declared = d })
    moves t = record {
      state = λ source s p sound spelled j. record s {
        declarations = declarations_by t (b.entries j) x.types_of;
        uses = uses_stay x.declared.paths d.paths b.paths x.uses kept.placed j;
        hidden = x.hidden;
        scopes = b.scopes j;
        present = b.present j;
      };
      spelled = λ source p h. subst (AreSpelledBy source) (sym b.entries) h;
      typed = λ h. h;
    }

    pub moved : (f : State → State) → ((t : Table) (s : State) → f (with_names t x s) ≡ record (with_names t x s) { scopes = n; present = path }) → Moves x f (record x { declared = d })
    moved f e = as_moves x _ f (λ s. record s { scopes = n; present = path }) e moves

    pub moved_keeps : IsKept (record x { declared = d })
    moved_keeps = record {
      counted = kept.counted ∙ ap length (sym b.entries);
      placed = placed_stay x.declared.paths d.paths b.paths x.uses kept.placed;
      bare = subst AreBare (sym b.entries) kept.bare;
    }

  -- ---- uses, and what is hidden

  module _ (u : UseRow) (us : List UseRow) (items : us ≡ x.uses ++ u ∷ []) where
    pub used_more : Moves x (used (use_by x.declared.paths u)) (record x { uses = us })
    used_more t = record {
      state = λ source s p sound spelled j. record s {
        declarations = declarations_by t x.declared.entries x.types_of;
        uses = (ap (map (use_by x.declared.paths)) items ∙ map-append (use_by x.declared.paths) x.uses (u ∷ [])) j;
        hidden = x.hidden;
        scopes = x.declared.scopes;
        present = x.declared.present;
      };
      spelled = λ source p h. h;
      typed = λ h. h;
    }

    pub used_keeps : IsPlaced (length x.declared.paths) u → IsKept (record x { uses = us })
    used_keeps h = record {
      counted = kept.counted;
      placed = subst (ArePlaced (length x.declared.paths)) (sym items) (placed_more (length x.declared.paths) x.uses u kept.placed h);
      bare = kept.bare;
    }

  -- as what is looked up and asked here
  module _ (y : KnownNames) (i place before : ℕ) (path : path_at x.declared.paths place ≡ x.declared.present) (count : before ≡ length x.declared.entries) where
    counts : (t : Table) → before ≡ length (declarations_by t x.declared.entries x.types_of)
    counts t = count ∙ sym (length_declarations t x.declared.entries x.types_of kept.counted)

    pub as_looked_up : (sp : Space) (k : Option ℕ) → Moves x (used (use_by x.declared.paths (row.LookedUp sp i place before k))) y → Moves x (looked_up sp i k) y
    as_looked_up sp k = as_moves x y _ _ (λ t s j. used (LookedUp sp i (sym path j) (sym (counts t) j) k) (with_names t x s))

    pub as_asked : (b : Bool) → Moves x (used (use_by x.declared.paths (row.WasAsked i place before b))) y → Moves x (asked (Asked i b ∷ [])) y
    as_asked b = as_moves x y _ _ (λ t s j. used (WasAsked i (sym path j) (sym (counts t) j) b) (with_names t x s))

  module _ (i : ℕ) (hs : List ℕ) (items : hs ≡ x.hidden ++ i ∷ []) where
    pub hidden_more : Moves x (hiding i) (record x { hidden = hs })
    hidden_more t = record {
      state = λ source s p sound spelled j. record s {
        declarations = declarations_by t x.declared.entries x.types_of;
        uses = map (use_by x.declared.paths) x.uses;
        hidden = items j;
        scopes = x.declared.scopes;
        present = x.declared.present;
      };
      spelled = λ source p h. h;
      typed = λ h. h;
    }

    pub hidden_keeps : IsKept (record x { hidden = hs })
    hidden_keeps = record { counted = kept.counted; placed = kept.placed; bare = kept.bare }

  -- ---- what names mean

  pub spelled_entries : (t : Table) (source : Source) → AreSpelled source x → map (entry source) (declarations_by t x.declared.entries x.types_of) ≡ x.declared.entries
  spelled_entries t source h = entries_same source t x.declared.entries x.types_of kept.counted kept.bare h

  pub meaning_is : (sp : Space) (name : Name) (r : Option ℕ) → r ≡ lookup x.declared.present sp name x.declared.entries → IsMeaning x sp name r
  meaning_is sp name r e t source s i named spelled =
      (λ j. lookup x.declared.present sp (named j) (spelled_entries t source spelled j)) ∙ sym e

  pub tag_is : (name : Name) (r : Option ℕ) → r ≡ position (is_here x.declared.present space.Tag name) x.declared.entries → IsTagHere x name r
  tag_is name r e t source s i named spelled =
      find_position (is_tag_here source x.declared.present i) (declarations_by t x.declared.entries x.types_of)
      ∙ ap (option_and_then (slice_get (declarations_by t x.declared.entries x.types_of)))
      (sym (position_map (is_here x.declared.present space.Tag (name_at source i)) (entry source) (declarations_by t x.declared.entries x.types_of))
      ∙ (λ j. position (is_here x.declared.present space.Tag (named j)) (spelled_entries t source spelled j))
      ∙ sym e)

  -- ---- declarations

  module _ (d : Decl) (bare : d.note ≡ 0) (n : TypeNo) where
    -- the declaration as it is seen
    abbrev as_seen : Table → Source → State → Declaration
    as_seen t source s = declaration d.space d.kind d.linkage d.token (type_at t n) (with_names t x s)

    entry_seen : (t : Table) (source : Source) (s : State) → IsNamed d.token d.name source → entry source (as_seen t source s) ≡ known_entry x.declared d
    entry_seen t source s named = λ j. record {
      path = path_for x.declared.present d.space;
      decl = record { space = d.space; name = named j; token = d.token; kind = d.kind; linkage = d.linkage; note = sym bare j };
    }

    clash_seen : (t : Table) (source : Source) (s : State) → IsNamed d.token d.name source → AreSpelled source x
        → list_any (clashes (entry source (as_seen t source s))) (map (entry source) (with_names t x s).declarations) ≡ is_redeclared x.declared d
    clash_seen t source s named spelled = λ j. list_any (clashes (entry_seen t source s named j)) (spelled_entries t source spelled j)

    pub declared_fails : is_redeclared x.declared d ≡ true → Fails (IsNamed d.token d.name) x (declared_as d n) cause.Redeclared d.token
    declared_fails e t source s named sound spelled =
        ap (λ b. (if b then failed cause.Redeclared d.token (with_names t x s) else record (with_names t x s) { declarations = (with_names t x s).declarations ++ as_seen t source s ∷ [] }).fault)
        (clash_seen t source s named spelled ∙ e)

    module _ (k : Known) (ns : List TypeNo) (b : Becomes x.declared x.declared.scopes x.declared.present (x.declared.entries ++ known_entry x.declared d ∷ []) k) (items : ns ≡ x.types_of ++ n ∷ []) where
      abbrev grown : KnownNames
      grown = record x { declared = k; types_of = ns }

      pub declared_more : is_redeclared x.declared d ≡ false → (t : Table) → IsTypeNo t n → Does t (IsNamed d.token d.name) x (declared_as d n t) grown
      declared_more e t given = record {
        state = λ source s named sound spelled. (λ j. record s {
          declarations = ((λ i. declarations_by t (b.entries i) (items i)) ∙ declarations_more t x.declared.entries x.types_of (known_entry x.declared d) n kept.counted) j;
          uses = uses_stay x.declared.paths k.paths b.paths x.uses kept.placed j;
          hidden = x.hidden;
          scopes = b.scopes j;
          present = b.present j;
        })
            ∙ sym (ap (λ z. if z then failed cause.Redeclared d.token (with_names t x s) else record (with_names t x s) { declarations = (with_names t x s).declarations ++ as_seen t source s ∷ [] })
            (clash_seen t source s named spelled ∙ e));
        spelled = λ source named h. subst (AreSpelledBy source) (sym b.entries) (spelled_more source x.declared.entries (known_entry x.declared d) h (sym named, tt));
        typed = λ h. subst (AreGiven t) (sym items) (given_more t x.types_of n h (given, tt));
      }

      pub declared_keeps : IsKept grown
      declared_keeps = record {
        counted = ap length items ∙ (let h : length x.types_of ≡ length x.declared.entries = kept.counted in omega (arith, length-append {A = TypeNo}, length-append {A = Entry}, h)) ∙ ap length (sym b.entries);
        placed = placed_stay x.declared.paths k.paths b.paths x.uses kept.placed;
        bare = subst AreBare (sym b.entries) (bare_more x.declared.entries (known_entry x.declared d) kept.bare bare);
      }

-- ---- what is looked up and asked, in the names as they are seen

module _ (x z : KnownNames) (same : x ≡ z) (kept : IsKept x) (y : KnownNames) (i place before : ℕ) (path : path_at x.declared.paths place ≡ x.declared.present) (count : before ≡ length x.declared.entries) where
  pub looked_up_at : (sp : Space) (k : Option ℕ) → Moves z (used (use_by z.declared.paths (row.LookedUp sp i place before k))) y → Moves z (looked_up sp i k) y
  looked_up_at sp k =
      subst (λ (w : KnownNames). Moves w (used (use_by w.declared.paths (row.LookedUp sp i place before k))) y → Moves w (looked_up sp i k) y) same
      (as_looked_up x kept y i place before path count sp k)

  pub asked_at : (b : Bool) → Moves z (used (use_by z.declared.paths (row.WasAsked i place before b))) y → Moves z (asked (Asked i b ∷ [])) y
  asked_at b =
      subst (λ (w : KnownNames). Moves w (used (use_by w.declared.paths (row.WasAsked i place before b))) y → Moves w (asked (Asked i b ∷ [])) y) same
      (as_asked x kept y i place before path count b)

-- ---- a declaration by its number

module _ (x : KnownNames) (kept : IsKept x) where
  pub rows_within : (rows : List Row) → map (entry_of x.declared.paths) rows ≡ x.declared.entries → (k : ℕ) → k < length x.types_of → k < length rows
  rows_within rows e k h =
      let c : length x.types_of ≡ length x.declared.entries = kept.counted in
      let l : length rows ≡ length x.declared.entries = sym (length-map rows (entry_of x.declared.paths)) ∙ ap length e in
      omega (arith, h, c, l)

  pub found : (rows : List Row) → map (entry_of x.declared.paths) rows ≡ x.declared.entries → (n : Option ℕ) (k : ℕ) → n ≡ Some k → (r : Row) (ty : TypeNo)
      → slice_get rows k ≡ Some r → slice_get x.types_of k ≡ Some ty → IsDeclaration x n (Some (record { row = r; ty = ty }))
  found rows e n k is r ty at given t s = ap (declaration_at (with_names t x s)) is ∙ got t x.declared.paths rows x.declared.entries x.types_of k r ty e at given

  pub not_found : (n : Option ℕ) (k : ℕ) → n ≡ Some k → length x.types_of ≤ k → IsDeclaration x n None
  not_found n k is h t s = ap (declaration_at (with_names t x s)) is ∙ typed_past t x.declared.entries x.types_of k (slice_get_past x.types_of k h)
