-- Conflicts of some keys, by the tokens of their entities.
use Rattle.std.specs.Prelude.{◌≡◌, ◌⊎◌, ℕ, Bool, true, false, ◌==◌, Option, Some, None, MatchOption, if◌then◌else◌, List, [], ◌∷◌, ◌++◌, flat_map, filter, take, slice_get, Contains}
use Rattle.std.specs.List.{find}
use Rattle.std.proofs.Common.{refl, sym, ◌∙◌, ap, subst, inl, inr, arith}
use Rattle.std.proofs.lemmas.Bool.{eqb-true, eq-eqb}
use Rattle.std.proofs.lemmas.List.Elements.{Contains-append_left, Contains-append_right}
use Rattle.cr_base.specs.declared.token.Name.{Name}
use Rattle.cr_base.specs.declared.token.Place.{Place}
use Rattle.cr_base.specs.declared.key.Key.{Key}
use Rattle.cr_base.specs.declared.key.Key.TheVariants as key
use Rattle.cr_ll.specs.Derivation.{Trees}
use Rattle.cr_scope.specs.declared.Space.TheVariants as space
use Rattle.cr_scope.specs.declared.DeclNo.{DeclNo}
use Rattle.cr_scope.specs.Declarations.{Entry, Flat, number}
use Rattle.cr_scope.specs.Meaning.{SeesNone, IsLookup, LookupMeans}
use Rattle.cr_capture.specs.declared.Mention.{Mention}
use Rattle.cr_capture.specs.declared.Mention.TheVariants as mention
use Rattle.cr_capture.specs.Conflicts.{Pair, Shows, IsConflict}
use Rattle.cr_binding.specs.Source.{Source, text_at, name_at}
use Rattle.cr_binding.specs.State.{Declaration, Member, Use, LookedUp, WasAsked, IsBuiltIn, State}
use Rattle.cr_binding.specs.Entities.{entry, meaning}
use Rattle.cr_binding.specs.Binding.{bound}
use Rattle.cr_binding.specs.Resolution.{Thing, Declared, InRecord, BuiltIn, own_members, declaring, means_declared, meant_by, occurrences}
use Rattle.cr_binding.specs.WellFormed.{IsWellFormed}
use Rattle.cr_binding.specs.UnitConflicts.{entries_at, Mentions, declaration_of, MeetsAMember}
use Rattle.cr_binding.specs.Keys.{declaration_key, member_key, record_key_at, record_token, key_of, HasKey}
use Rattle.cr_binding_law.specs.AskedIdentifiers.{IsLookedUpLater, IsParameterLater, IsSuppliedLater, AskedIdentifiersAreUsed}
use Rattle.cr_binding_law.specs.ConsistentUnits.{IsWritten, UnitsAreConsistent}
use Rattle.cr_binding_law.specs.RenamingKeys.{AreTokensOf, KeysAreEntities}
use Rattle.cr_binding_law.specs.UnitStays.{MeansTheSame}
use Rattle.cr_keys_law.proofs.Spelled.{in_tail, head_or_tail, found_there}
use Rattle.cr_keys_law.proofs.Moving.{declared_occurs, member_occurs}
use Rattle.cr_same_law.specs.SameMeaning.{IsRespelledAs, IsNoAsk, finds, uncovers, takes, HasNoNeededConflict, UnitsDeclareTags}
use Rattle.cr_same_law.specs.Asks.{IsKeyOf, IsCase, finds_one, uncovers_one, takes_one, IsPromisedAsk, TellsNothingNeeded, SameMeaningsTellNothing}
use Rattle.cr_same_law.proofs.SameMeaning.{same_meanings_are_free, get_contains, mapped_get, taken_get, one_got, is_false}

flat_there : {A B : Type 0} (f : A → List B) (xs : List A) (x : A) (y : B) → Contains xs x → Contains (f x) y → Contains (flat_map f xs) y
flat_there f [] x y c d = absurd (omega (arith, c.1))
flat_there f (z ∷ xs) x y c d =
    elim (head_or_tail z x xs c) [
      | inl e ↦ Contains-append_left (f z) (flat_map f xs) y (subst (λ w. Contains (f w) y) (sym e) d)
      | inr c ↦ Contains-append_right (f z) (flat_map f xs) y (flat_there f xs x y c d)
    ]

kept_there : {A : Type 0} (p : A → Bool) (xs : List A) (x : A) → Contains xs x → p x ≡ true → Contains (filter p xs) x
kept_there p [] x c h = absurd (omega (arith, c.1))
kept_there p (y ∷ xs) x c h = by (p y) refl (head_or_tail y x xs c) (λ d. kept_there p xs x d h)
  where
    by : (b : Bool) → p y ≡ b → (y ≡ x) ⊎ Contains xs x → (Contains xs x → Contains (filter p xs) x) → Contains (if b then y ∷ filter p xs else filter p xs) x
    by true q (inl e) more = (0, omega arith, e)
    by true q (inr d) more = in_tail y x (filter p xs) (more d)
    by false q (inl e) more = let no : false ≡ true = sym q ∙ ap p e ∙ h in cc
    by false q (inr d) more = more d

-- what a spelling means is declared
no_gap : LookupMeans → (t : Source) (s : State) (path : List ℕ) (i before k : ℕ) → meaning t path space.Ordinary i (take before s.declarations) ≡ Some k → slice_get s.declarations k ≡ None → ⊥
no_gap means t s path i before k e absent = by (meaning t path space.Ordinary i (take before s.declarations)) e (means path space.Ordinary (name_at t i) (entries_at t s before))
  where
    by : (o : Option ℕ) → o ≡ Some k → MatchOption o (SeesNone path space.Ordinary (name_at t i) (entries_at t s before)) (λ k. (e : Entry) × IsLookup path space.Ordinary (name_at t i) (entries_at t s before) k e) → ⊥
    by None e h = cc
    by (Some n) e h =
        let same : n ≡ k = cc in
        let d = mapped_get (entry t) (take before s.declarations) n h.0 h.1.seen.there in
        let no : Some d.0 ≡ None = sym (taken_get before s.declarations n d.0 d.1).0 ∙ ap (slice_get s.declarations) same ∙ absent in
        cc

module _ (means : LookupMeans) (consistent : UnitsAreConsistent) (entities : KeysAreEntities) (asked : AskedIdentifiersAreUsed) (declare_tags : UnitsDeclareTags)
    (keys : Key → Bool) (class : ℕ → Bool) (old new : Name) (unit : ℕ) (t u : Source) (tree : Trees)
    (r : IsRespelledAs class old new t u) (well : IsWellFormed t tree) (of : AreTokensOf keys class unit t (bound t tree)) (same : MeansTheSame t u tree) where
  abbrev s : State
  s = bound t tree

  free : HasNoNeededConflict class old new t s
  free = same_meanings_are_free means consistent declare_tags class old new t u tree r well (entities keys class unit t tree of) same

  declared_of : (d : Declaration) → Contains s.declarations d → class d.token ≡ keys (declaration_key unit t s d)
  declared_of d c = of.meant d.token (Declared d) (declared_occurs s d c)

  pair_there : (x : Pair) (d : Declaration) → declaration_of s x ≡ Some d → Contains s.declarations d
  pair_there (Some c, i) d h = get_contains s.declarations (number c) d h
  pair_there (None, i) d h = (found_there (λ (d : Declaration). d.token == i) s.declarations d h).0

  mentions : (f : Flat) (what : Mention) (x : Pair) (d : Declaration) → IsNoAsk what → Mentions t s f what → IsConflict f old new x what → declaration_of s x ≡ Some d → keys (declaration_key unit t s d) ≡ true → ⊥
  mentions f what x d no_ask m conflict found inside = free.mentions f what x d no_ask m conflict found (declared_of d (pair_there x d found) ∙ inside)

  member_of : (m : Member) → Contains s.members m → class m.token ≡ keys (member_key unit t s m)
  member_of m c =
      let w : IsWritten s.members m = (consistent t tree).written m c in
      let o : Contains (own_members s) w.itself = kept_there (λ (x : Member). x.own == x.holder) s.members w.itself w.there (eq-eqb w.itself.own w.itself.holder w.own) in
      ap class (sym w.same_token) ∙ of.meant w.itself.token (InRecord w.itself) (member_occurs s w.itself o)
      ∙ ap (λ n. keys (key.Member (record_key_at unit t s (record_token s n)) (text_at t w.itself.token))) w.same_record
      ∙ ap (λ n. keys (key.Member (record_key_at unit t s (record_token s m.own)) (text_at t n))) w.same_token

  members : (k : Key) (p : Place) → MeetsAMember unit t s old new k p → keys k ≡ true → ⊥
  members k p (m, n, in_m, in_n, one, is_old, is_new, e, at) inside = free.members m n in_m in_n one (member_of m in_m ∙ ap keys (sym e) ∙ inside) is_new

  -- ---- asks

  -- an asked identifier means something
  has_meaning : (i : ℕ) (path : List ℕ) (before : ℕ) → Contains s.uses (WasAsked i path before false) → (x : Thing) × Contains (occurrences s) (i, x)
  has_meaning i path before used = by (asked t tree well i path before false used)
    where
      in_uses : (y : Use) (x : Thing) → Contains s.uses y → Contains (meant_by s y) (i, x) → (x : Thing) × Contains (occurrences s) (i, x)
      in_uses y x c d = (x, Contains-append_right (declaring s) (flat_map (meant_by s) s.uses) (i, x) (flat_there (meant_by s) s.uses y (i, x) c d))

      looked : (path : List ℕ) (k : ℕ) → Contains s.uses (LookedUp space.Ordinary i path before (Some k)) → class i ≡ class i → (o : Option Declaration) → slice_get s.declarations k ≡ o → (o ≡ None → ⊥) → (x : Thing) × Contains (occurrences s) (i, x)
      looked path k c e None h never = absurd (never refl)
      looked path k c e (Some d) h never = in_uses (LookedUp space.Ordinary i path before (Some k)) (Declared d) c (subst (λ o. Contains (means_declared i o) (i, Declared d)) (sym h) (0, omega arith, refl))

      by : IsLookedUpLater t s i path before ⊎ (IsParameterLater s i false ⊎ IsSuppliedLater t s i) → (x : Thing) × Contains (occurrences s) (i, x)
      by (inl l) = looked (path ++ l.inner) l.denoted l.used refl (slice_get s.declarations l.denoted) refl (λ h. no_gap means t s path i before l.denoted l.means h)
      by (inr (inl l)) = (Declared l.itself, subst (λ n. Contains (occurrences s) (n, Declared l.itself)) l.own (declared_occurs s l.itself l.declared))
      by (inr (inr l)) = in_uses (IsBuiltIn i) BuiltIn l.used (0, omega arith, refl)

  -- what is shown, with its key
  shown_key : (f : Flat) (n : ℕ) (name : Name) (c : DeclNo) (g : Entry) → f.entries ≡ entries_at t s n → Shows f space.Ordinary name c g → (d : Declaration) × (slice_get s.declarations (number c) ≡ Some d) × (class g.decl.token ≡ keys (declaration_key unit t s d))
  shown_key f n name c g es see =
      let d = mapped_get (entry t) (take n s.declarations) (number c) g (ap (λ l. slice_get l (number c)) (sym es) ∙ see.there) in
      let at = (taken_get n s.declarations (number c) d.0 d.1).0 in
      (d.0, at, ap (λ (x : Entry). class x.decl.token) (sym d.2) ∙ declared_of d.0 (get_contains s.declarations (number c) d.0 at))

  asks : (f : Flat) (name : Name) (i : ℕ) (parameter : Bool) → Mentions t s f (mention.Asked name i parameter) → IsPromisedAsk keys unit t s old new f name i parameter → ⊥
  asks f name i parameter (path, before, used, n, (p, es), of_ask) q = by q.case
    where
      k : Key
      k = declaration_key unit t s q.of

      -- what is shown and renamed has the key
      is_key : (c : DeclNo) (g : Entry) → Shows f space.Ordinary old c g → class g.decl.token ≡ true → IsKeyOf keys unit t s old new c k
      is_key c g see h =
          let d = shown_key f before old c g es see in
          (d.0, d.1, sym (q.alone (declaration_key unit t s d.0) (inl (c, g, see, (d.0, d.1, refl))) (sym d.2 ∙ h)))

      -- and the other way about
      of_key : (c : DeclNo) (g : Entry) → Shows f space.Ordinary old c g → IsKeyOf keys unit t s old new c k → class g.decl.token ≡ true
      of_key c g see (e, at, h) =
          let d = shown_key f before old c g es see in
          d.2 ∙ ap (λ (x : Declaration). keys (declaration_key unit t s x)) (one_got d.1 at) ∙ ap keys (sym h) ∙ q.inside

      itself_key : name ≡ old → class i ≡ true → HasKey unit t s i k
      itself_key is_old h =
          let x = has_meaning i path before used in
          (x.0, x.1, sym (q.alone (key_of unit t s i x.0) (inr (is_old, (x.0, x.1, refl))) (sym (of.meant i x.0 x.1) ∙ h)))

      by : IsCase keys unit t s old new f name i parameter q.pair k → ⊥
      by (finds_one (is_new, d, e, over) sorts) =
          free.asks f name i parameter (path, before, used, n, (p, es), of_ask)
          (finds is_new d over.itself over over.seen (of_key d over.itself over.seen (q.of, subst (λ z. declaration_of s z ≡ Some q.of) e q.found, refl)) (λ c g see h. sorts c g see (is_key c g see h)))
      by (uncovers_one (is_old, d, e, over) apart m x last sort) =
          free.asks f name i parameter (path, before, used, n, (p, es), of_ask)
          (uncovers is_old (is_false (class i) (λ h. apart (itself_key is_old h))) m x
          (record { seen = last.seen; outside = is_false (class x.decl.token) (λ h. last.other (is_key m x last.seen h)); best = λ j g see h. last.best j g see (λ w. (let no : true ≡ false = sym (of_key j g see w) ∙ h in cc)) }) sort)
      by (takes_one (is_old, is_parameter, e, type_name) never) =
          let found : find (λ (d : Declaration). d.token == i) s.declarations ≡ Some q.of = subst (λ z. declaration_of s z ≡ Some q.of) e q.found in
          let there = found_there (λ (d : Declaration). d.token == i) s.declarations q.of found in
          free.asks f name i parameter (path, before, used, n, (p, es), of_ask)
          (takes is_old (ap class (sym (eqb-true q.of.token i there.1)) ∙ declared_of q.of there.0 ∙ q.inside) type_name (λ c g see h. never c g see (is_key c g see h)))

  nothing_needed : TellsNothingNeeded keys unit t s old new
  nothing_needed = record { mentions = mentions; members = members; asks = asks }

pub same_meanings_tell_nothing : LookupMeans → UnitsAreConsistent → KeysAreEntities → AskedIdentifiersAreUsed → UnitsDeclareTags → SameMeaningsTellNothing
same_meanings_tell_nothing means consistent entities asked declare_tags keys class old new unit t u tree r well of same =
    nothing_needed means consistent entities asked declare_tags keys class old new unit t u tree r well of same
