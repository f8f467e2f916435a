-- The files of an accepted rename may be edited, and no two places of tokens come together.
use Rattle.std.specs.Prelude.{◌≡◌, ◌⊎◌, ℕ, ◌+◌, ◌<◌, ◌≤◌, ◌==◌, Bool, true, false, ◌||◌, if◌then◌else◌, nat_eq, List, [], ◌∷◌, length, map, filter, slice_get, Contains}
use Rattle.std.specs.List.{list_any, AllByRecursion}
use Rattle.std.specs.List.Sorted.{IsStrictlySortedBy}
use Rattle.std.specs.declared.cmp.Ordering.TheVariants.{Less}
use Rattle.std.proofs.Common.{refl, sym, ◌∙◌, ap, subst, inl, inr, arith}
use Rattle.std.proofs.lemmas.Bool.{eqb-true, eq-eqb}
use Rattle.cr_base.specs.Names.{is_identifier}
use Rattle.cr_base.specs.Substitution.{Rise}
use Rattle.cr_base.specs.declared.token.PpKind.TheVariants.{Ident}
use Rattle.cr_base.specs.declared.token.Place.{Place}
use Rattle.cr_base.specs.declared.token.Origin.TheVariants.{At}
use Rattle.cr_base.specs.declared.key.Key.{Key}
use Rattle.cr_base.specs.declared.unit.Unit.{Unit}
use Rattle.cr_lex.specs.Lexing as lexing
use Rattle.cr_lex.specs.Lexing.{lexed}
use Rattle.cr_lex.specs.Joins.{rest}
use Rattle.cr_lex.specs.Order.{AreInOrder, StandsInOrder}
use Rattle.cr_lex.specs.Renaming.{IsPlace, is_before_quote}
use Rattle.cr_snapshot.specs.declared.known.KnownFile.{KnownFile}
use Rattle.cr_snapshot.specs.Files.{Finding, Present, Absent, Unknown, finding, NumbersItsPath}
use Rattle.cr_macros.specs.Tokens.{Text, Token}
use Rattle.cr_phase4.specs.Lines.{place_in}
use Rattle.cr_phase4.specs.Search.{world_of}
use Rattle.cr_phase7_law.specs.TokensStay.{KeepsTokens}
use Rattle.cr_preproc_law.specs.Standing.{StandsIn, FinalsStand}
use Rattle.cr_facts.specs.FactOrder.{Facts}
use Rattle.cr_facts.specs.declared.fact.Fact.TheVariants as fact
use Rattle.cr_preproc_law.specs.Finals.{IsFinalPlace}
use Rattle.cr_preproc_law.specs.Renaming.{MayBeEdited, MayEdit}
use Rattle.cr_class.specs.RenameClass.{Has, InClass, place_cmp}
use Rattle.cr_class.specs.ShownOrder.{path_or, path_of}
use Rattle.cr_class.specs.Verdict.{present_bytes, bytes_of, stands_at, is_unspellable_at}
use Rattle.cr_class.specs.declared.class.Class.{Class}
use Rattle.cr_class.specs.declared.target.Target.{Target}
use Rattle.cr_keys_law.proofs.Spelled.{in_tail, head_or_tail}
use Rattle.cr_keeps.specs.UnitMeaning.{Tables, finals}
use Rattle.cr_keeps.specs.UnitFacts.{UnitTells, Meanings}
use Rattle.cr_keeps.specs.Keeps.{offsets_by_file}
use Rattle.cr_keeps.specs.AcceptedRenames.{IsAcceptedRename}
use Rattle.cr_keeps.proofs.EditingStated.{NamesStandWhole, PlacesAreOrdered, FilesAreEditable}
use Rattle.cr_keeps.proofs.Texts.{HasText, tokens_have_text}
use Rattle.cr_keeps.proofs.Cutting.{IsCut, identifiers_are_cut}
use Rattle.cr_keeps.proofs.Premises.{among_there}
use Rattle.cr_keeps.proofs.Places.{behind, ends_before, ComesFrom, final, ends, from_place, one_file, old_final, same_text}

any_there : (k : ℕ) (xs : List ℕ) → Contains xs k → list_any (λ o. o == k) xs ≡ true
any_there k [] c = absurd (omega (arith, c.1))
any_there k (y ∷ xs) c = by (y == k) refl (head_or_tail y k xs c) (λ d. any_there k xs d)
  where
    by : (b : Bool) → (y == k) ≡ b → (y ≡ k) ⊎ Contains xs k → (Contains xs k → list_any (λ o. o == k) xs ≡ true) → (b || list_any (λ o. o == k) xs) ≡ true
    by true h o more = refl
    by false h (inl e) more = let w : true ≡ false = sym (eq-eqb y k e) ∙ h in cc
    by false h (inr d) more = more d

each : {A : Type 0} (P : A → Type 0) (xs : List A) → ((x : A) → Contains xs x → P x) → AllByRecursion P xs
each P [] h = tt
each P (x ∷ xs) h = (h x (0, omega arith, refl), each P xs (λ y c. h y (in_tail x y xs c)))

one_of : {A : Type 0} (P : A → Type 0) (xs : List A) (x : A) → AllByRecursion P xs → Contains xs x → P x
one_of P [] x h c = absurd (omega (arith, c.1))
one_of P (y ∷ xs) x h c = elim (head_or_tail y x xs c) [ inl e ↦ subst P e h.0 | inr d ↦ one_of P xs x h.1 d ]

-- of two tokens in order the one that begins first ends before the other begins
ends_first : (from : ℕ) (ts : List lexing.Token) (end : ℕ) (t u : lexing.Token) → AreInOrder from ts end → AllByRecursion HasText ts → Contains ts t → Contains ts u → t.at < u.at → t.end ≤ u.at
ends_first from [] end t u o h c d e = absurd (omega (arith, c.1))
ends_first from (x ∷ ts) end t u o h c d e = by (head_or_tail x t ts c) (head_or_tail x u ts d) (λ a b. ends_first x.end ts end t u o.2 h.1 a b e)
  where
    by : (x ≡ t) ⊎ Contains ts t → (x ≡ u) ⊎ Contains ts u → (Contains ts t → Contains ts u → t.end ≤ u.at) → t.end ≤ u.at
    by (inl a) (inl b) more = let same : t.at ≡ u.at = ap (λ (z : lexing.Token). z.at) (sym a ∙ b) in absurd (omega (arith, same, e))
    by (inr a) (inr b) more = more a b
    by (inl a) (inr b) more = let w : x.end ≤ u.at = behind 0 x.end ts end u o.2 b in subst (λ (z : lexing.Token). z.end ≤ u.at) a w
    by (inr a) (inl b) more = let w : x.end ≤ t.at = behind 0 x.end ts end t o.2 a in let v : x.at ≡ u.at = ap (λ (z : lexing.Token). z.at) b in absurd (omega (arith, w, v, e, o.1, h.0))

ends_within : (from : ℕ) (ts : List lexing.Token) (end : ℕ) (t : lexing.Token) → AreInOrder from ts end → Contains ts t → t.end ≤ end
ends_within from [] end t o c = absurd (omega (arith, c.1))
ends_within from (x ∷ ts) end t o c = by (head_or_tail x t ts c) (λ d. ends_within x.end ts end t o.2 d)
  where
    by : (x ≡ t) ⊎ Contains ts t → (Contains ts t → t.end ≤ end) → t.end ≤ end
    by (inl e) more = subst (λ (z : lexing.Token). z.end ≤ end) e (ends_before 0 x.end ts end o.2)
    by (inr d) more = more d

module _ (numbers : NumbersItsPath) (order : StandsInOrder) (stand : FinalsStand) (keeps : KeepsTokens) (names : Tables) (files : List KnownFile) (units : List Unit) (old new : Text) (target : Target) (facts : Facts) (class : Class) (means : Meanings names (world_of files) units)
    (j : IsAcceptedRename names files units old new target facts class means) where
  -- a final token of a unit at a place of the class
  record Placed (p : Place) : Type 0 where
    unit : Unit
    there : Contains units unit
    token : Token
    among : Contains (finals (means unit there)) token
    origin : token.origin ≡ At p
    stands : StandsIn files p token
    text : token.text ≡ old

  placed : (p : Place) → Contains class.places p → Placed p
  placed p c = by ((j.of_target.places p).0 c)
    where
      of_told : (k : Key) → ((v : Unit) × (in_v : Contains units v) × UnitTells (means v in_v) old new (fact.Denotes p k)) → Placed p
      of_told k (v, in_v, inl none) = absurd none
      of_told k (v, in_v, inr (x, d)) = at (from_place numbers order stand keeps names files (means v in_v) x.0 p d.placed.comes)
        where
          nothing : [] ≡ old → ⊥
          nothing h = let w : false ≡ true = ap is_identifier h ∙ j.may.was in cc

          at : ComesFrom numbers order stand keeps names files (means v in_v) x.0 p → Placed p
          at (final t c a n q) = record {
            unit = v;
            there = in_v;
            token = t;
            among = c;
            origin = a.0;
            stands = a.1;
            text = (old_final numbers order stand keeps names files old j.distinct j.has_old j.may.was v v (means v in_v) (means v in_v) t x.0 p c a.0 d.placed.comes d.placed.spelled).1;
          }
          at (ends q n) =
              absurd (nothing (same_text numbers order stand keeps names files old j.distinct j.has_old j.may.was v [] (means v in_v).held.empty (sym n ∙ d.placed.spelled)))

      by : ((k : Key) × InClass files facts old target k × Has facts (fact.Denotes p k)) → Placed p
      by (k, inside, has) = of_told k ((j.table (fact.Denotes p k)).0 has)

  module _ (whole : NamesStandWhole) (ordered : PlacesAreOrdered) (path : Text) (n : ℕ) (bytes : List ℕ) (known : finding path files ≡ Present n bytes) where
    -- the token at a place of the class in the file
    record Stands (p : Place) : Type 0 where
      token : lexing.Token
      among : Contains (lexed bytes).tokens token
      at : token.at ≡ p.offset
      text : token.text ≡ old
      kind : token.kind ≡ Ident
      joined : token.joined ≡ false
      end : token.end ≡ p.offset + length old
      before : is_before_quote new (rest bytes token.end) ≡ false

    stands : (p : Place) → Contains class.places p → p.path.0 ≡ n → Stands p
    stands p c own = by (stands_at old bytes p.offset) refl spell
      where
        w : Placed p
        w = placed p c

        same : w.stands.bytes ≡ bytes
        same = one_file numbers order stand keeps names files w.stands.path path n w.stands.bytes bytes (w.stands.found ∙ ap (λ i. Present i w.stands.bytes) own) known

        among : Contains (lexed bytes).tokens w.stands.token
        among = subst (λ l. Contains (lexed l).tokens w.stands.token) same w.stands.among

        path_is : path_of files p ≡ path
        path_is = ap (λ i. path_or (slice_get files i)) own ∙ ap path_or (numbers path files n bytes known).1

        bytes_is : bytes_of files p ≡ bytes
        bytes_is = ap (λ q. present_bytes (finding q files)) path_is ∙ ap present_bytes known

        spell : (if stands_at old bytes p.offset then is_before_quote new (rest bytes (p.offset + length old)) else true) ≡ false
        spell = ap (λ l. is_unspellable_at old new l p.offset) (sym bytes_is) ∙ j.accepted.spellable p c

        by : (b : Bool) → stands_at old bytes p.offset ≡ b → (if b then is_before_quote new (rest bytes (p.offset + length old)) else true) ≡ false → Stands p
        by false h s = cc
        by true h s =
            let text : w.stands.token.text ≡ old = w.stands.text ∙ w.text in
            let q = whole bytes old w.stands.token j.may.was among text (ap (stands_at old bytes) w.stands.at ∙ h) in
            let end : w.stands.token.end ≡ p.offset + length old = q.1 ∙ ap (λ i. i + length old) w.stands.at in
            record {
              token = w.stands.token;
              among = among;
              at = w.stands.at;
              text = text;
              kind = one_of IsCut (lexed bytes).tokens w.stands.token (identifiers_are_cut bytes) among (ap is_identifier text ∙ j.may.was);
              joined = q.0;
              end = end;
              before = ap (λ i. is_before_quote new (rest bytes i)) end ∙ s;
            }

    at_offset : (at : ℕ) → Contains (offsets_by_file class.places n) at → (p : Place) × Contains class.places p × (p.path.0 ≡ n) × (p.offset ≡ at)
    at_offset at c = among_there n at class.places (any_there at (offsets_by_file class.places n) c)

    spelled : (at : ℕ) → Contains (offsets_by_file class.places n) at → IsPlace bytes old new at
    spelled at c =
        let p = at_offset at c in
        let w : Stands p.0 = stands p.0 p.1 p.2 in
        (w.token, w.among, w.at ∙ p.3, record { kind = w.kind; text = w.text; spelling = ap (λ b. b || is_before_quote new (rest bytes w.token.end)) w.joined ∙ w.before })

    finals_there : (at : ℕ) → Contains (offsets_by_file class.places n) at → IsFinalPlace (world_of files) (place_in n at)
    finals_there at c =
        let p = at_offset at c in
        let w : Placed p.0 = placed p.0 p.1 in
        (w.unit, (means w.unit w.there).left, (means w.unit w.there).events, w.token, (means w.unit w.there).whole, w.among, w.origin ∙ ap (λ i. At (place_in i p.0.offset)) p.2 ∙ ap (λ i. At (place_in n i)) p.3)

    rise : (ps : List Place) (from : ℕ) → IsStrictlySortedBy place_cmp ps → ((p : Place) → Contains ps p → p.path.0 ≡ n → Stands p) → ((p : Place) → Contains ps p → p.path.0 ≡ n → from ≤ p.offset) → from ≤ length bytes
        → Rise from (offsets_by_file ps n) (length old) (length bytes)
    unfolding IsStrictlySortedBy
    rise [] from sorted st above w = w
    rise (q ∷ ps) from sorted st above w = by (nat_eq q.path.0 n) refl (λ f g v. rise ps f sorted.1 (λ p c e. st p (in_tail q p ps c) e) g v)
      where
        by : (b : Bool) → nat_eq q.path.0 n ≡ b → ((f : ℕ) → ((p : Place) → Contains ps p → p.path.0 ≡ n → f ≤ p.offset) → f ≤ length bytes → Rise f (offsets_by_file ps n) (length old) (length bytes))
            → Rise from (map {A = Place} (λ p. p.offset) (if b then q ∷ filter (λ (p : Place). nat_eq p.path.0 n) ps else filter (λ (p : Place). nat_eq p.path.0 n) ps)) (length old) (length bytes)
        by false h more = more from (λ p c e. above p (in_tail q p ps c) e) w
        by true h more =
            let own : q.path.0 ≡ n = eqb-true q.path.0 n h in
            let s : Stands q = st q (0, omega arith, refl) own in
            (above q (0, omega arith, refl) own, more (q.offset + length old) (λ p c e. (let v : Stands p = st p (in_tail q p ps c) e in let less : q.offset < p.offset = ordered q p (one_of (λ y. place_cmp q y ≡ Less) ps p sorted.0 c) (own ∙ sym e) in let f : s.token.end ≤ v.token.at = ends_first 0 (lexed bytes).tokens (length bytes) s.token v.token (order bytes) (tokens_have_text bytes) s.among v.among (omega (arith, s.at, v.at, less)) in omega (arith, f, s.end, v.at))) (let f : s.token.end ≤ length bytes = ends_within 0 (lexed bytes).tokens (length bytes) s.token (order bytes) s.among in omega (arith, f, s.end)))

    may_be_edited : MayBeEdited (world_of files) (offsets_by_file class.places) old new n bytes
    may_be_edited = record {
      rise = rise class.places 0 j.of_target.rise stands (λ p c e. omega arith) (omega arith);
      spelled = each (IsPlace bytes old new) (offsets_by_file class.places n) spelled;
      final = each (λ at. IsFinalPlace (world_of files) (place_in n at)) (offsets_by_file class.places n) finals_there;
    }

  may_edit : NamesStandWhole → PlacesAreOrdered → (path : Text) (f : Finding) → finding path files ≡ f → MayEdit (world_of files) (offsets_by_file class.places) old new f
  may_edit whole ordered path (Present n bytes) e = may_be_edited whole ordered path n bytes e
  may_edit whole ordered path Absent e = tt
  may_edit whole ordered path Unknown e = tt

pub files_are_editable : FilesAreEditable
files_are_editable numbers order stand keeps whole ordered names files units old new target facts class means j path =
    may_edit numbers order stand keeps names files units old new target facts class means j whole ordered path (finding path files) refl
