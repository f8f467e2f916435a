-- What an accepted verdict over the facts of all units gives for each of them.
use Rattle.std.specs.Prelude.{◌≡◌, ◌⊎◌, ℕ, zero, suc, Bool, true, false, ◌&&◌, ◌||◌, ◌==◌, cond, if◌then◌else◌, nat_eq, bytes_eq, Option, Some, None, List, [], ◌∷◌, ◌++◌, map, filter, flat_map, slice_get, slice_index_or, Contains}
use Rattle.std.specs.List.{list_any, find, AllByRecursion}
use Rattle.std.proofs.Common.{refl, sym, ◌∙◌, ap, subst, inl, inr, arith}
use Rattle.std.proofs.lemmas.Bool.{eqb-true, eq-eqb}
use Rattle.std.proofs.lemmas.List.Folds.{find_at}
use Rattle.std.proofs.lemmas.List.Elements.{Contains-append_left, Contains-append_right}
use Rattle.std.proofs.lemmas.Slice.Eq.{bytes_eq-Decides}
use Rattle.std.specs.FinSet.{contains}
use Rattle.cr_base.specs.NameTable.{IsDistinct}
use Rattle.cr_base.specs.Names.{is_identifier as is_identifier_text}
use Rattle.cr_base.specs.declared.token.Name.{Name}
use Rattle.cr_base.specs.declared.token.Place.{Place}
use Rattle.cr_base.specs.declared.token.Origin.{Origin}
use Rattle.cr_base.specs.declared.token.Origin.TheVariants.{At, Made}
use Rattle.cr_base.specs.declared.cause.Role.{Role}
use Rattle.cr_base.specs.declared.cause.Role.TheVariants as role
use Rattle.cr_base.specs.declared.key.Key.{Key}
use Rattle.cr_base.specs.declared.key.Key.TheVariants as key
use Rattle.cr_base.specs.declared.key.Kind.{Kind}
use Rattle.cr_base.specs.declared.unit.Unit.{Unit}
use Rattle.cr_snapshot.specs.declared.known.KnownFile.{KnownFile}
use Rattle.cr_macros.specs.Tokens.{Text}
use Rattle.cr_macros.specs.declared.macros.Seen.{Seen}
use Rattle.cr_phase4.specs.Search.{world_of}
use Rattle.cr_phase4.specs.Traces.{trace_of, opaque_place}
use Rattle.cr_facts.specs.FactOrder.{Facts}
use Rattle.cr_facts.specs.declared.fact.Fact.{Fact}
use Rattle.cr_facts.specs.declared.fact.Fact.TheVariants as fact
use Rattle.cr_preproc_law.specs.Renaming.{IsFine}
use Rattle.cr_preproc_law.specs.Traces.{IsFree, IsFreeTrace, TracesAreFine}
use Rattle.cr_binding.specs.Source.{Source, token_of, name_at, is_identifier}
use Rattle.cr_binding.specs.State.{Declaration, Member, State}
use Rattle.cr_binding.specs.Entities.{are_one, token_or, first_token}
use Rattle.cr_binding.specs.Resolution.{Thing, Declared, InRecord, BuiltIn, Occurrence, own_members, declaring, occurrences}
use Rattle.cr_binding.specs.Keys.{key_by, token_key, tag_kind, is_external, is_file_tag, declaration_key, key_of}
use Rattle.cr_binding.specs.UnitFacts.{Denotes, Tells, HasKind}
use Rattle.cr_binding_law.specs.Renaming.{text_of}
use Rattle.cr_binding_law.specs.RenamingKeys.{AreTokensOf, EntitiesHaveOneKey}
use Rattle.cr_keys_law.specs.Spelled.{IdentifiersAreSpelled}
use Rattle.cr_keys_law.proofs.Telling.{first_named, is_spelled}
use Rattle.cr_keys_law.specs.SpelledAlike.{TellsName, KeysTellNames}
use Rattle.cr_keys_law.proofs.Spelled.{found_there, in_tail, head_or_tail}
use Rattle.cr_keys_law.proofs.Moving.{of_unit, declared_occurs}
use Rattle.cr_class.specs.RenameClass.{Has, InClass, targeted, shares, renamable_kinds}
use Rattle.cr_class.specs.Verdict.{is_in_class, is_mixed_role, is_made_role}
use Rattle.cr_class.specs.declared.class.Class.{Class}
use Rattle.cr_class.specs.declared.target.Target.{Target}
use Rattle.cr_keeps.specs.UnitMeaning.{Names, Tables, number_of, source, binding}
use Rattle.cr_keeps.specs.UnitFacts.{IsToldHere, TraceTells, UnitTells, Meanings}
use Rattle.cr_keeps.specs.Keeps.{offsets_by_file, is_place_of}
use Rattle.cr_keeps.specs.AcceptedRenames.{IsAcceptedRename}
use Rattle.cr_keeps.proofs.PremisesStated.{ClassTokens, Conflicts, Events}
use Rattle.cr_keeps.proofs.Chain.{renaming_of, is_class_token, PlacesHaveOneName, NamesAreIdentifiers, NoUnitHasConflicts}
use Rattle.cr_class.specs.Accepted.{ClassTestsTell}

-- ---- lists

pub differ : {P : Type 0} → true ≡ false → P
differ e = cc

pub finds : {A : Type 0} (p : A → Bool) (xs : List A) (x : A) → Contains xs x → p x ≡ true → (y : A) × (find p xs ≡ Some y)
finds p [] x c h = absurd (omega (arith, c.1))
finds {A = A} p (z ∷ xs) x c h = by (p z) refl (head_or_tail z x xs c) (λ d. finds p xs x d h)
  where
    by : (b : Bool) → p z ≡ b → (z ≡ x) ⊎ Contains xs x → (Contains xs x → (y : A) × (find p xs ≡ Some y)) → (y : A) × (cond b (Some z) (find p xs) ≡ Some y)
    by true q o more = (z, refl)
    by false q (inl e) more = differ (sym h ∙ ap p (sym e) ∙ q)
    by false q (inr d) more = more d

pub any_found : {A : Type 0} (p : A → Bool) (xs : List A) → list_any p xs ≡ true → (x : A) × (p x ≡ true)
any_found p [] h = cc
any_found {A = A} p (x ∷ xs) h = by (p x) refl h (any_found p xs)
  where
    by : (b : Bool) → p x ≡ b → (b || list_any p xs) ≡ true → (list_any p xs ≡ true → (y : A) × (p y ≡ true)) → (y : A) × (p y ≡ true)
    by true q h more = (x, q)
    by false q h more = more h

-- ---- places

module _ (n k : ℕ) where
  abbrev is_in_file : Place → Bool
  is_in_file p = nat_eq p.path.0 n

  abbrev FoundIn : List Place → Type 0
  FoundIn xs = (p : Place) × Contains xs p × (p.path.0 ≡ n) × (p.offset ≡ k)

  pub among_there : (ps : List Place) → list_any (λ o. o == k) (offsets_by_file ps n) ≡ true → (p : Place) × Contains ps p × (p.path.0 ≡ n) × (p.offset ≡ k)
  among_there [] h = cc
  among_there (q ∷ ps) h = by (is_in_file q) refl h (among_there ps)
    where
      at : (b : Bool) → (q.offset == k) ≡ b → q.path.0 ≡ n → (b || list_any (λ o. o == k) (offsets_by_file ps n)) ≡ true → (list_any (λ o. o == k) (offsets_by_file ps n) ≡ true → (FoundIn ps)) → (FoundIn (q ∷ ps))
      at true e f h more = (q, (0, omega arith, refl), f, eqb-true q.offset k e)
      at false e f h more = let m = more h in (m.0, in_tail q m.0 ps m.1, m.2, m.3)

      by : (b : Bool) → is_in_file q ≡ b → list_any (λ o. o == k) (map {A = Place} (λ p. p.offset) (if b then q ∷ filter is_in_file ps else filter is_in_file ps)) ≡ true → (list_any (λ o. o == k) (offsets_by_file ps n) ≡ true → (FoundIn ps)) → (FoundIn (q ∷ ps))
      by true e h more = at (q.offset == k) refl (eqb-true q.path.0 n e) h more
      by false e h more = let m = more h in (m.0, in_tail q m.0 ps m.1, m.2, m.3)

  pub there_among : (ps : List Place) (p : Place) → Contains ps p → p.path.0 ≡ n → p.offset ≡ k → list_any (λ o. o == k) (offsets_by_file ps n) ≡ true
  there_among [] p c f e = absurd (omega (arith, c.1))
  there_among (q ∷ ps) p c f e = by (is_in_file q) refl (head_or_tail q p ps c) (λ d. there_among ps p d f e)
    where
      at : (b : Bool) → (q.offset == k) ≡ b → (q ≡ p) ⊎ Contains ps p → (Contains ps p → list_any (λ o. o == k) (offsets_by_file ps n) ≡ true) → (b || list_any (λ o. o == k) (offsets_by_file ps n)) ≡ true
      at true h o more = refl
      at false h (inl s) more = differ (sym (eq-eqb q.offset k (ap (λ (x : Place). x.offset) s ∙ e)) ∙ h)
      at false h (inr d) more = more d

      by : (b : Bool) → is_in_file q ≡ b → (q ≡ p) ⊎ Contains ps p → (Contains ps p → list_any (λ o. o == k) (offsets_by_file ps n) ≡ true)
          → list_any (λ o. o == k) (map {A = Place} (λ p. p.offset) (if b then q ∷ filter is_in_file ps else filter is_in_file ps)) ≡ true
      by true h o more = at (q.offset == k) refl o more
      by false h (inl s) more = differ (sym (eq-eqb q.path.0 n (ap (λ (x : Place). x.path.0) s ∙ f)) ∙ h)
      by false h (inr d) more = more d

pub same_place : (p q : Place) → p.path.0 ≡ q.path.0 → p.offset ≡ q.offset → p ≡ q
same_place p q f e = ap (λ (n : ℕ). let x : Place = record { path = record { 0 = n }; offset = p.offset } in x) f ∙ ap (λ (k : ℕ). let x : Place = record { path = q.path; offset = k } in x) e

-- ---- names

module _ (names : Names) (distinct : IsDistinct names) where
  pub number_at : (text : Text) → Contains names text → slice_get names (number_of names text).0 ≡ Some text
  number_at text c =
      let f = finds (bytes_eq text) names text c ((bytes_eq-Decides text text).1 refl) in
      let own = found_there (bytes_eq text) names f.0 f.1 in
      sym (find_at (bytes_eq text) names) ∙ f.1 ∙ ap Some (sym ((bytes_eq-Decides text f.0).0 own.1))

  read_at : (xs : List Text) (i : ℕ) (first : ℕ) (rest : Text) → slice_index_or xs i [] ≡ first ∷ rest → slice_get xs i ≡ Some (first ∷ rest)
  read_at [] i first rest h = cc
  read_at (x ∷ xs) zero first rest h = ap Some h
  read_at (x ∷ xs) (suc i) first rest h = read_at xs i first rest h

  same_number : (a b : Name) → a.0 ≡ b.0 → a ≡ b
  same_number a b e = ap (λ (n : ℕ). let m : Name = record { 0 = n } in m) e

  -- a name with a text that isn't empty is the number of that
  pub is_number : (a : Name) (text : Text) → Contains names text → is_identifier_text text ≡ true → slice_index_or names a.0 [] ≡ text → a ≡ number_of names text
  is_number a [] c i h = cc
  is_number a (first ∷ rest) c i h = same_number a (number_of names (first ∷ rest)) (distinct a.0 (number_of names (first ∷ rest)).0 (first ∷ rest) (read_at names a.0 first rest h) (number_at (first ∷ rest) c))

  pub text_at_number : (text : Text) → Contains names text → slice_index_or names (number_of names text).0 [] ≡ text
  text_at_number text c = by names (number_of names text).0 (number_at text c)
    where
      by : (xs : List Text) (i : ℕ) → slice_get xs i ≡ Some text → slice_index_or xs i [] ≡ text
      by [] i h = cc
      by (x ∷ xs) zero h = cc
      by (x ∷ xs) (suc i) h = by xs i h

-- ---- things that can be renamed

abbrev pub IsReal : Thing → Type 0
IsReal (Declared d) = Prim.Unit {0}
IsReal (InRecord m) = Prim.Unit {0}
IsReal BuiltIn = ⊥

pub real_by_kind : (t : Source) (s : State) (x : Thing) (c : Kind) → HasKind t s x c → IsReal x
real_by_kind t s (Declared d) c h = tt
real_by_kind t s (InRecord m) c h = tt
real_by_kind t s BuiltIn c h = h

module _ (s : State) where
  abbrev AreReal : List Occurrence → Type 0
  AreReal = AllByRecursion (λ (x : Occurrence). IsReal x.1)

  real_append : (xs ys : List Occurrence) → AreReal xs → AreReal ys → AreReal (xs ++ ys)
  real_append [] ys h k = k
  real_append (x ∷ xs) ys h k = (h.0, real_append xs ys h.1 k)

  real_declared : (ds : List Declaration) → AreReal (map {A = Declaration} (λ d. (d.token, Declared d)) ds)
  real_declared [] = tt
  real_declared (d ∷ ds) = (tt, real_declared ds)

  real_members : (ms : List Member) → AreReal (map {A = Member} (λ m. (m.token, InRecord m)) ms)
  real_members [] = tt
  real_members (m ∷ ms) = (tt, real_members ms)

  real_there : (xs : List Occurrence) (x : Occurrence) → AreReal xs → Contains xs x → IsReal x.1
  real_there [] x h c = absurd (omega (arith, c.1))
  real_there (y ∷ xs) x h c = elim (head_or_tail y x xs c) [
    | inl e ↦ subst (λ (z : Occurrence). IsReal z.1) e h.0
    | inr d ↦ real_there xs x h.1 d
  ]

  pub real_by_declaring : (x : Occurrence) → Contains (declaring s) x → IsReal x.1
  real_by_declaring x c = real_there (declaring s) x (real_append (map {A = Declaration} (λ d. (d.token, Declared d)) s.declarations) (map {A = Member} (λ m. (m.token, InRecord m)) (own_members s)) (real_declared s.declarations) (real_members (own_members s))) c

  -- the first declaration of an entity
  pub first_of : (t : Source) (d : Declaration) → Contains s.declarations d → (e : Declaration) × Contains s.declarations e × (e.token ≡ first_token t s.declarations d) × ((d ≡ e) ⊎ (are_one t d e ≡ true))
  first_of t d there = by (find (are_one t d) s.declarations) refl
    where
      by : (o : Option Declaration) → find (are_one t d) s.declarations ≡ o → (e : Declaration) × Contains s.declarations e × (e.token ≡ token_or d.token o) × ((d ≡ e) ⊎ (are_one t d e ≡ true))
      by None h = (d, there, refl, inl refl)
      by (Some e) h = let f = found_there (are_one t d) s.declarations e h in (e, f.0, refl, inr f.1)

-- ---- conflicts

pub no_conflicts :
    (tests : ClassTestsTell) (names : Tables) (files : List KnownFile) (units : List Unit) (old new : Text) (target : Target) (facts : Facts) (class : Class) (means : Meanings names (world_of files) units)
    → NoUnitHasConflicts names files units old new target facts class means
no_conflicts tests names files units old new target facts class means j u there k p inside tells =
    j.accepted.no_conflict k p ((j.table (fact.Conflict k p)).1 (u, there, inr tells)) ((tests class k).0 inside)

-- ---- places of a class

module _ (class : Class) (old new : Text) where
  pub place_in_class : (p : Place) → is_place_of (renaming_of class old new) (At p) ≡ true → Contains class.places p
  place_in_class p h =
      let a = among_there p.path.0 p.offset class.places h in
      subst (Contains class.places) (same_place a.0 p a.2 a.3) a.1

  pub in_place : (p : Place) → Contains class.places p → is_place_of (renaming_of class old new) (At p) ≡ true
  in_place p c = there_among p.path.0 p.offset class.places p c refl refl

-- ---- the premises

module _ (names : Tables) (files : List KnownFile) (units : List Unit) (old new : Text) (target : Target) (facts : Facts) (class : Class) (means : Meanings names (world_of files) units)
    (named : IdentifiersAreSpelled) (tell : KeysTellNames) (one_key : EntitiesHaveOneKey) (tests : ClassTestsTell) (places : PlacesHaveOneName names files) (identifiers : NamesAreIdentifiers names files old)
    (j : IsAcceptedRename names files units old new target facts class means) where
  abbrev old_name : Unit → Name
  old_name u = number_of (names u) old

  abbrev new_name : Unit → Name
  new_name u = number_of (names u) new

  module _ (u : Unit) (there : Contains units u) where
    abbrev t : Source
    t = source (means u there)

    abbrev s : State
    s = binding (means u there)

    abbrev key_at : ℕ → Thing → Key
    key_at i x = key_of u.number t s i x

    pub told : (f : Fact) → Tells u.number t s (old_name u) (new_name u) f → Has facts f
    told f h = (j.table f).1 (u, there, inr h)

  -- a token that shows that an entity of a key has the old name
  record Shown (k : Key) : Type 0 where
    unit : Unit
    there : Contains units unit
    of : Occurrence
    place : Place
    denotes : Denotes unit.number (t unit there) (s unit there) (old_name unit) (new_name unit) place k of
    real : IsReal of.1

  shown_by_kind : (k : Key) (c : Kind) → Has facts (fact.OfKind k c) → Shown k
  shown_by_kind k c h = by ((j.table (fact.OfKind k c)).0 h)
    where
      by : ((u : Unit) × (there : Contains units u) × UnitTells (means u there) old new (fact.OfKind k c)) → Shown k
      by (u, there, inl none) = absurd none
      by (u, there, inr (x, p, d, kind)) = record { unit = u; there = there; of = x; place = p; denotes = d; real = real_by_kind (t u there) (s u there) x.1 c kind }

  shown_by_place : (k : Key) (p : Place) → Has facts (fact.Declares k p) → Shown k
  shown_by_place k p h = by ((j.table (fact.Declares k p)).0 h)
    where
      by : ((u : Unit) × (there : Contains units u) × UnitTells (means u there) old new (fact.Declares k p)) → Shown k
      by (u, there, inl none) = absurd none
      by (u, there, inr (x, d, declares)) = record { unit = u; there = there; of = x; place = p; denotes = d; real = real_by_declaring (s u there) x declares }

  shown : (k : Key) → InClass files facts old target k → Shown k
  shown k (targeted h) = let a : (kind : Kind) × (contains facts (fact.OfKind k kind) ≡ true) = any_found (λ kind. contains facts (fact.OfKind k kind)) renamable_kinds h.1 in shown_by_kind k a.0 a.1
  shown l (shares p c h g) = shown_by_place l p g

  shown_in : (k : Key) → Contains class.keys k → Shown k
  shown_in k c = shown k ((j.of_target.keys k).0 c)

  pub denoted : (k : Key) → Contains class.keys k → (p : Place) × Has facts (fact.Denotes p k)
  denoted k c = let w : Shown k = shown_in k c in (w.place, told w.unit w.there (fact.Denotes w.place k) (w.of, w.denotes))

  -- ---- no key of the class is of made tokens

  key_is_made : (u : Unit) (there : Contains units u) (d : Declaration) (v b : ℕ) → declaration_key u.number (t u there) (s u there) d ≡ key.Made v b → (token_of (t u there) (first_token (t u there) (s u there).declarations d)).origin ≡ Made
  key_is_made u there d v b h = by (is_external d.linkage) (is_file_tag d) h
    where
      at : (o : Origin) → key_by u.number (first_token (t u there) (s u there).declarations d) o ≡ key.Made v b → o ≡ Made
      at Made h = refl
      at (At p) h = cc

      by : (x f : Bool) → (if x then key.Ext (text_of (t u there) (name_at (t u there) d.token)) else (if f then key.Tag (tag_kind d.kind) (text_of (t u there) (name_at (t u there) d.token)) else token_key u.number (t u there) (first_token (t u there) (s u there).declarations d))) ≡ key.Made v b → (token_of (t u there) (first_token (t u there) (s u there).declarations d)).origin ≡ Made
      by true f h = cc
      by false true h = cc
      by false false h = at (token_of (t u there) (first_token (t u there) (s u there).declarations d)).origin h

  not_made : (k : Key) (v b : ℕ) → k ≡ key.Made v b → Contains class.keys k → ⊥
  not_made k v b made k_in = by w.of refl w.real
    where
      w : Shown k
      w = shown_in k k_in

      one : (d e : Declaration) → Contains (s w.unit w.there).declarations d → Contains (s w.unit w.there).declarations e → (d ≡ e) ⊎ (are_one (t w.unit w.there) d e ≡ true) → declaration_key w.unit.number (t w.unit w.there) (s w.unit w.there) d ≡ declaration_key w.unit.number (t w.unit w.there) (s w.unit w.there) e
      one d e in_d in_e (inl h) = ap (declaration_key w.unit.number (t w.unit w.there) (s w.unit w.there)) h
      one d e in_d in_e (inr h) = one_key w.unit.number (t w.unit w.there) (means w.unit w.there).tree d e in_d in_e h

      declared : (d : Declaration) → w.of.1 ≡ Declared d → ⊥
      declared d e =
          let occurs : Contains (occurrences (s w.unit w.there)) (w.of.0, Declared d) = subst (λ x. Contains (occurrences (s w.unit w.there)) (w.of.0, x)) e w.denotes.occurs in
          let keyed : k ≡ declaration_key w.unit.number (t w.unit w.there) (s w.unit w.there) d = w.denotes.keyed ∙ ap (key_of w.unit.number (t w.unit w.there) (s w.unit w.there) w.of.0) e in
          let in_d : Contains (s w.unit w.there).declarations d = of_unit (s w.unit w.there) w.of.0 (Declared d) occurs in
          let f = first_of (s w.unit w.there) (t w.unit w.there) d in_d in
          let origin : (token_of (t w.unit w.there) f.0.token).origin ≡ Made = ap (λ i. (token_of (t w.unit w.there) i).origin) f.2 ∙ key_is_made w.unit w.there d v b (sym keyed ∙ made) in
          let spelled : name_at (t w.unit w.there) f.0.token ≡ old_name w.unit = ap (name_at (t w.unit w.there)) f.2 ∙ first_named (t w.unit w.there) (s w.unit w.there) (named (t w.unit w.there) (means w.unit w.there).tree) d ∙ sym (is_spelled (t w.unit w.there) (s w.unit w.there) (named (t w.unit w.there) (means w.unit w.there).tree) w.of.0 (Declared d) occurs) ∙ w.denotes.placed.spelled in
          let same : k ≡ declaration_key w.unit.number (t w.unit w.there) (s w.unit w.there) f.0 = keyed ∙ one d f.0 in_d f.1 f.3 in
          j.accepted.not_made k (token_of (t w.unit w.there) f.0.token).site (told w.unit w.there (fact.MadeDenotes k (token_of (t w.unit w.there) f.0.token).site) ((f.0.token, Declared f.0), declared_occurs (s w.unit w.there) f.0 f.1, spelled, origin, refl, same)) k_in

      by : (x : Occurrence) → w.of ≡ x → IsReal x.1 → ⊥
      by (i, Declared d) e real = declared d (ap (λ (y : Occurrence). y.1) e)
      by (i, InRecord m) e real = let no : key_of w.unit.number (t w.unit w.there) (s w.unit w.there) w.of.0 (InRecord m) ≡ key.Made v b = sym (w.denotes.keyed ∙ ap (λ (y : Occurrence). key_of w.unit.number (t w.unit w.there) (s w.unit w.there) w.of.0 y.1) e) ∙ made in cc
      by (i, BuiltIn) e real = real

  -- ---- what means an entity of the class has the old name

  -- a name that is the number of the old one, and its text
  reads_old : (u : Unit) (there : Contains units u) (i : ℕ) → name_at (t u there) i ≡ old_name u → text_of (t u there) (name_at (t u there) i) ≡ old
  reads_old u there i e = ap (text_of (t u there)) e ∙ text_at_number (names u) (j.distinct u) old (j.has_old u)

  is_old : (u : Unit) (there : Contains units u) (i : ℕ) → text_of (t u there) (name_at (t u there) i) ≡ old → name_at (t u there) i ≡ old_name u
  is_old u there i h = is_number (names u) (j.distinct u) (name_at (t u there) i) old (j.has_old u) j.may.was h

  pub spelled_old : (u : Unit) (there : Contains units u) (i : ℕ) (x : Thing) → Contains (occurrences (s u there)) (i, x) → Contains class.keys (key_at u there i x) → name_at (t u there) i ≡ old_name u
  spelled_old u there i x c k_in = by (key_at u there i x) refl (tell u.number (t u there) (means u there).tree i x c) (subst (λ k. TellsName (t w.unit w.there) (name_at (t w.unit w.there) w.of.0) k) (sym w.denotes.keyed) (tell w.unit.number (t w.unit w.there) (means w.unit w.there).tree w.of.0 w.of.1 w.denotes.occurs))
    where
      w : Shown (key_at u there i x)
      w = shown_in (key_at u there i x) k_in

      by_text : (text : List ℕ) → text_of (t u there) (name_at (t u there) i) ≡ text → text_of (t w.unit w.there) (name_at (t w.unit w.there) w.of.0) ≡ text → name_at (t u there) i ≡ old_name u
      by_text text h g = is_old u there i (h ∙ sym g ∙ reads_old w.unit w.there w.of.0 w.denotes.placed.spelled)

      by : (k : Key) → key_at u there i x ≡ k → TellsName (t u there) (name_at (t u there) i) k → TellsName (t w.unit w.there) (name_at (t w.unit w.there) w.of.0) k → name_at (t u there) i ≡ old_name u
      by (key.Ext text) e h g = by_text text h g
      by (key.Tag kind text) e h g = by_text text h g
      by (key.Member owner text) e h g = by_text text h g
      by (key.At p) e h g =
          is_old u there i (ap (text_of (t u there)) (sym h.2) ∙ places u w.unit (means u there) (means w.unit w.there) h.0 g.0 p h.1 g.1 ∙ ap (text_of (t w.unit w.there)) g.2 ∙ reads_old w.unit w.there w.of.0 w.denotes.placed.spelled)
      by (key.Made v b) e h g = absurd (not_made (key_at u there i x) v b e k_in)

  -- ---- places and tokens of the class

  -- a token that comes from a place of the class has the old name
  pub old_there : (u : Unit) (there : Contains units u) (i : ℕ) (p : Place) → (token_of (t u there) i).origin ≡ At p → Contains class.places p → name_at (t u there) i ≡ old_name u
  old_there u there i p e c = by ((j.of_target.places p).0 c)
    where
      of_told : (k : Key) → ((v : Unit) × (in_v : Contains units v) × UnitTells (means v in_v) old new (fact.Denotes p k)) → name_at (t u there) i ≡ old_name u
      of_told k (v, in_v, inl none) = absurd none
      of_told k (v, in_v, inr (x, d)) =
          is_old u there i (places u v (means u there) (means v in_v) i x.0 p e d.placed.comes ∙ reads_old v in_v x.0 d.placed.spelled)

      by : ((k : Key) × InClass files facts old target k × Has facts (fact.Denotes p k)) → name_at (t u there) i ≡ old_name u
      by (k, inside, has) = of_told k ((j.table (fact.Denotes p k)).0 has)

  and_parts : (a b : Bool) → (a && b) ≡ true → (a ≡ true) × (b ≡ true)
  and_parts true true h = (refl, refl)
  and_parts true false h = cc
  and_parts false b h = cc

  both_true : (a b : Bool) → a ≡ true → b ≡ true → (a && b) ≡ true
  both_true true true h g = refl
  both_true true false h g = cc
  both_true false b h g = cc

  and_false : (a : Bool) → (a && false) ≡ false
  and_false true = refl
  and_false false = refl

  meant : (u : Unit) (there : Contains units u) (i : ℕ) (x : Thing) → Contains (occurrences (s u there)) (i, x) → is_class_token class old new (t u there) i ≡ is_in_class class (key_at u there i x)
  meant u there i x c = by_origin (token_of (t u there) i).origin refl
    where
      inside : is_in_class class (key_at u there i x) ≡ true → Contains class.keys (key_at u there i x)
      inside h = (tests class (key_at u there i x)).0 h

      denotes : (p : Place) → (token_of (t u there) i).origin ≡ At p → name_at (t u there) i ≡ old_name u → Has facts (fact.Denotes p (key_at u there i x))
      denotes p e n = told u there (fact.Denotes p (key_at u there i x)) ((i, x), record { occurs = c; placed = record { spelled = n; comes = e }; keyed = refl })

      made : (token_of (t u there) i).origin ≡ Made → (b : Bool) → is_in_class class (key_at u there i x) ≡ b → (is_identifier (t u there) i && false) ≡ b
      made e false h = and_false (is_identifier (t u there) i)
      made e true h = absurd (j.accepted.not_made (key_at u there i x) (token_of (t u there) i).site (told u there (fact.MadeDenotes (key_at u there i x) (token_of (t u there) i).site) ((i, x), c, spelled_old u there i x c (inside h), e, refl, refl)) (inside h))

      placed : (p : Place) → (token_of (t u there) i).origin ≡ At p → (b : Bool) → is_in_class class (key_at u there i x) ≡ b → (is_identifier (t u there) i && (is_place_of (renaming_of class old new)) (At p)) ≡ b
      placed p e true h =
          let n = spelled_old u there i x c (inside h) in
          let in_p : Contains class.places p = (j.of_target.places p).1 ((key_at u there i x), (j.of_target.keys (key_at u there i x)).0 (inside h), denotes p e n) in
          both_true (is_identifier (t u there) i) ((is_place_of (renaming_of class old new)) (At p)) (identifiers u (means u there) i p e n) (in_place class old new p in_p)
      placed p e false h = no (is_identifier (t u there) i && (is_place_of (renaming_of class old new)) (At p)) refl
        where
          no : (b : Bool) → (is_identifier (t u there) i && (is_place_of (renaming_of class old new)) (At p)) ≡ b → b ≡ false
          no false q = refl
          no true q =
              let in_p : Contains class.places p = place_in_class class old new p (and_parts (is_identifier (t u there) i) ((is_place_of (renaming_of class old new)) (At p)) q).1 in
              differ (sym ((tests class (key_at u there i x)).1 (j.accepted.alone p (key_at u there i x) (denotes p e (old_there u there i p e in_p)) in_p)) ∙ h)

      by_origin : (o : Origin) → (token_of (t u there) i).origin ≡ o → (is_identifier (t u there) i && (is_place_of (renaming_of class old new)) (token_of (t u there) i).origin) ≡ is_in_class class (key_at u there i x)
      by_origin Made e = ap (λ o. is_identifier (t u there) i && (is_place_of (renaming_of class old new)) o) e ∙ made e (is_in_class class (key_at u there i x)) refl
      by_origin (At p) e = ap (λ o. is_identifier (t u there) i && (is_place_of (renaming_of class old new)) o) e ∙ placed p e (is_in_class class (key_at u there i x)) refl

  supplied : (u : Unit) (i : ℕ) → is_in_class class (key.Made u.number i) ≡ false
  supplied u i = by (is_in_class class (key.Made u.number i)) refl
    where
      by : (b : Bool) → is_in_class class (key.Made u.number i) ≡ b → b ≡ false
      by false h = refl
      by true h = absurd (not_made (key.Made u.number i) u.number i refl ((tests class (key.Made u.number i)).0 h))

  pub tokens_of_keys : (u : Unit) (there : Contains units u) → AreTokensOf (is_in_class class) (is_class_token class old new (t u there)) u.number (t u there) (s u there)
  tokens_of_keys u there = record { meant = meant u there; supplied = λ i c. supplied u i }

-- ---- traces

module _ (names : Tables) (files : List KnownFile) (units : List Unit) (old new : Text) (target : Target) (facts : Facts) (class : Class) (means : Meanings names (world_of files) units) (j : IsAcceptedRename names files units old new target facts class means) where
  traced : (u : Unit) (there : Contains units u) (f : Fact) → TraceTells (trace_of old new (means u there).events) f → Has facts f
  traced u there f h = (j.table f).1 (u, there, inl h)

  each : {A : Type 0} (P : A → Type 0) (xs : List A) → ((x : A) → Contains xs x → P x) → AllByRecursion P xs
  each P [] h = tt
  each P (x ∷ xs) h = (h x (0, omega arith, refl), each P xs (λ y c. h y (in_tail x y xs c)))

  none_there : {A : Type 0} (xs : List A) → ((x : A) → Contains xs x → ⊥) → xs ≡ []
  none_there [] h = refl
  none_there (x ∷ xs) h = absurd (h x (0, omega arith, refl))

  flat_there : {A B : Type 0} (f : A → List B) (xs : List A) (x : A) (y : B) → Contains xs x → Contains (f x) y → Contains (flat_map f xs) y
  flat_there f [] x y c d = absurd (omega (arith, c.1))
  flat_there f (z ∷ xs) x y c d =
      elim (head_or_tail z x xs c) [
        | inl e ↦ Contains-append_left (f z) (flat_map f xs) y (subst (λ w. Contains (f w) y) (sym e) d)
        | inr c ↦ Contains-append_right (f z) (flat_map f xs) y (flat_there f xs x y c d)
      ]

  free_trace : (u : Unit) (there : Contains units u) → IsFreeTrace (renaming_of class old new) (trace_of old new (means u there).events)
  free_trace u there =
      record {
        seen = each (λ (x : Seen). (renaming_of class old new).is_place x.place ≡ true → IsFree x.role) (trace_of old new (means u there).events).seen (λ x c h. role_free x.place x.role c (place_in_class class old new x.place h));
        new_macros = none_there (trace_of old new (means u there).events).new_macros (λ p c. j.accepted.no_macro p (traced u there (fact.NewMacro p) c));
        body_params = each (λ p. (renaming_of class old new).is_place p ≡ false) (trace_of old new (means u there).events).body_params (λ p c. elsewhere p c ((renaming_of class old new).is_place p) refl);
      }
    where
      elsewhere : (p : Place) → Contains (trace_of old new (means u there).events).body_params p → (b : Bool) → (renaming_of class old new).is_place p ≡ b → b ≡ false
      elsewhere p c false h = refl
      elsewhere p c true h = absurd (j.accepted.no_parameter p (traced u there (fact.BodyParam p) c) (place_in_class class old new p h))

      mixed : (p : Place) (r : Role) → IsToldHere r → is_mixed_role r ≡ true → Contains (trace_of old new (means u there).events).seen (record { place = p; role = r }) → Contains class.places p → ⊥
      mixed p r here is c in_p = differ (sym is ∙ (j.accepted.roles p r (traced u there (fact.HasRole p r) (here, c)) in_p).0)

      made : (p : Place) (r : Role) → IsToldHere r → is_made_role r ≡ true → Contains (trace_of old new (means u there).events).seen (record { place = p; role = r }) → Contains class.places p → ⊥
      made p r here is c in_p = differ (sym is ∙ (j.accepted.roles p r (traced u there (fact.HasRole p r) (here, c)) in_p).1)

      role_free : (p : Place) (r : Role) → Contains (trace_of old new (means u there).events).seen (record { place = p; role = r }) → Contains class.places p → IsFree r
      role_free p role.Final c in_p = tt
      role_free p role.Dropped c in_p = tt
      role_free p role.MacroName c in_p = mixed p role.MacroName tt refl c in_p
      role_free p role.Param c in_p = mixed p role.Param tt refl c in_p
      role_free p role.Controlling c in_p = mixed p role.Controlling tt refl c in_p
      role_free p role.Directive c in_p = mixed p role.Directive tt refl c in_p
      role_free p role.Stringized c in_p = made p role.Stringized tt refl c in_p
      role_free p role.Pasted c in_p = made p role.Pasted tt refl c in_p
      role_free p role.Opaque c in_p =
          j.accepted.clear p (traced u there (fact.OpaqueAt p) (flat_there (λ (x : Seen). opaque_place x x.role) (trace_of old new (means u there).events).seen (record { place = p; role = role.Opaque }) p c (0, omega arith, refl)))

  pub all_fine : TracesAreFine → (u : Unit) (there : Contains units u) → AllByRecursion (IsFine (renaming_of class old new)) (means u there).events
  all_fine fine u there = fine (renaming_of class old new) (means u there).events (free_trace u there)

pub class_tokens : ClassTokens
class_tokens named tell one_key tests names files units old new target facts class means places identifiers j u there =
    tokens_of_keys names files units old new target facts class means named tell one_key tests places identifiers j u there

pub conflicts : Conflicts
conflicts = no_conflicts

pub events : Events
events fine names files units old new target facts class means j u there = all_fine names files units old new target facts class means j fine u there
