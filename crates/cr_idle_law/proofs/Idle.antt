-- No edit of an accepted rename is idle.
use Rattle.std.specs.Prelude.{◌≡◌, ◌≢◌, ◌⊎◌, ℕ, suc, Bool, true, false, cond, if◌then◌else◌, Option, Some, Ok, List, [], ◌∷◌, length, map, slice_get, slice_index_or, Contains}
use Rattle.std.specs.Ordering.{nat_cmp, ordering_then, ordering_reverse}
use Rattle.std.specs.FinMap.{nat_cmp-IsAntisymmetric, slice_cmp-IsAntisymmetric}
use Rattle.std.specs.Cmp.Lexicographic.{slice_cmp}
use Rattle.std.specs.declared.cmp.Ordering.{Ordering}
use Rattle.std.specs.declared.cmp.Ordering.TheVariants.{Less, Equal, Greater}
use Rattle.std.proofs.Common.{refl, sym, ◌∙◌, ap, subst, inl, inr, arith}
use Rattle.cr_base.specs.Names.{is_identifier as is_identifier_text}
use Rattle.cr_base.specs.NameTable.{IsDistinct}
use Rattle.cr_base.specs.declared.token.Name.{Name}
use Rattle.cr_base.specs.declared.token.Place.{Place}
use Rattle.cr_base.specs.declared.token.Origin.{Origin}
use Rattle.cr_base.specs.declared.token.Origin.TheVariants.{At, Made}
use Rattle.cr_base.specs.declared.token.PpTok.{PpTok}
use Rattle.cr_base.specs.declared.token.Tok.{Tok}
use Rattle.cr_base.specs.declared.token.TokKind.TheVariants as tok_kind
use Rattle.cr_base.specs.declared.key.Key.{Key}
use Rattle.cr_base.specs.declared.key.Key.TheVariants as key
use Rattle.cr_base.specs.declared.unit.Unit.{Unit}
use Rattle.cr_lex.specs.Order.{StandsInOrder}
use Rattle.cr_snapshot.specs.declared.known.KnownFile.{KnownFile}
use Rattle.cr_snapshot.specs.Files.{NumbersItsPath, finding, Present}
use Rattle.cr_macros.specs.Tokens.{Text, Token, is_ident}
use Rattle.cr_expand_law.specs.Renaming.{Renaming, shifted_origin}
use Rattle.cr_preproc_law.specs.Renaming.{renaming_at}
use Rattle.cr_phase4.specs.Lines.{place_in}
use Rattle.cr_phase4.specs.Search.{world_of}
use Rattle.cr_phase7.specs.Tokens.{text_of, end_token, tokens_of}
use Rattle.cr_phase7_law.specs.TokensStay.{IsPlainName, IsReadAs, AllTwo, Pairs, firsts, seconds, Become, KeepsTokens}
use Rattle.cr_preproc_law.specs.Standing.{FinalsStand}
use Rattle.cr_facts.specs.FactOrder.{Facts, FactsAreOrdered}
use Rattle.cr_facts.specs.declared.fact.Fact.TheVariants as fact
use Rattle.cr_binding.specs.Source.{Source, token_of, name_at, text_at, no_token}
use Rattle.cr_binding.specs.State.{Declaration, State}
use Rattle.cr_binding.specs.Entities.{first_token}
use Rattle.cr_binding.specs.Resolution.{Thing, Declared, InRecord, BuiltIn, Occurrence, occurrences, origin_of}
use Rattle.cr_binding.specs.Keys.{key_by, token_key, tag_kind, is_external, is_file_tag, key_of}
use Rattle.cr_binding.specs.UnitFacts.{Denotes}
use Rattle.cr_keys_law.specs.Spelled.{IdentifiersAreSpelled}
use Rattle.cr_keys_law.specs.SpelledAlike.{TellsName, KeysTellNames}
use Rattle.cr_keys_law.proofs.Spelled.{in_tail, head_or_tail}
use Rattle.cr_keys_law.proofs.Moving.{mapped_there}
use Rattle.cr_keys_law.proofs.Telling.{is_spelled, first_named}
use Rattle.cr_class.specs.RenameClass.{Has, InClass, targeted, shares, IsTargetKey, MeansInternal, means_by, is_renamable}
use Rattle.cr_class.specs.ShownOrder.{shown_cmp, path_of, path_or}
use Rattle.cr_class.specs.RenameClass.{key_cmp}
use Rattle.cr_class.specs.declared.class.Class.{Class}
use Rattle.cr_class.specs.declared.target.Target.{Target}
use Rattle.cr_class.specs.declared.target.Target.TheVariants as target
use Rattle.cr_keeps.specs.UnitMeaning.{Names, Tables, number_of, numbered, Meaning, finals, source, binding}
use Rattle.cr_keeps.specs.UnitFacts.{Meanings, UnitTells, IsTable}
use Rattle.cr_keeps.specs.Keeps.{offsets_by_file, edited_files, is_place_of, IsSpelledAs, KeepsToken, AreOne, KeepsFiles}
use Rattle.cr_keeps.specs.AcceptedRenames.{MayTakeThePlace, IsClassOf}
use Rattle.cr_keeps.proofs.Premises.{differ, among_there, there_among, same_place, number_at, text_at_number}
use Rattle.cr_keeps.proofs.Renamed.{contained, Both, becomes, ends, nothing, both_at, is_ident_kind}
use Rattle.cr_keeps.proofs.Places.{places_have_one_name, ident_there, ComesFrom, final, ends as file_ends, from_place}
use Rattle.cr_class.proofs.Candidates.{shown_total}
use Rattle.cr_class.proofs.Accepting.{key_total, key_ties}
use Rattle.cr_keeps.proofs.Joined.{get_there}
use Rattle.cr_keeps.proofs.OneMeaning.{one_source}
use Rattle.cr_keeps.proofs.NewNames.{new_names}
use Rattle.cr_idle_law.specs.Idle.{HoldsTarget, HaveOwnNumbers, NoEditIsIdle}

-- ---- lists

pub mapped_from : {A B : Type 0} (f : A → B) (xs : List A) (y : B) → Contains (map f xs) y → (x : A) × Contains xs x × (f x ≡ y)
mapped_from f [] y c = absurd (omega (arith, c.1))
mapped_from {A} {B} f (x ∷ xs) y c = by (head_or_tail (f x) y (map f xs) c) (λ d. mapped_from f xs y d)
  where
    by : (f x ≡ y) ⊎ Contains (map f xs) y → (Contains (map f xs) y → (z : A) × Contains xs z × (f z ≡ y)) → (z : A) × Contains (x ∷ xs) z × (f z ≡ y)
    by (inl e) more = (x, (0, omega arith, refl), e)
    by (inr d) more = let m = more d in (m.0, in_tail x m.0 xs m.1, m.2)

-- ---- final tokens, two by two

module _ (names : Names) where
  abbrev pub pairs_of : List Token → List Token → Pairs
  pairs_of [] ys = []
  pairs_of (x ∷ xs) [] = []
  pairs_of (x ∷ xs) (y ∷ ys) = (numbered names x, numbered names y) ∷ pairs_of xs ys

  firsts_of : (xs ys : List Token) → length ys ≡ length xs → firsts (pairs_of xs ys) ≡ map (numbered names) xs
  firsts_of [] ys h = refl
  firsts_of (x ∷ xs) [] h = cc
  firsts_of (x ∷ xs) (y ∷ ys) h = ap (λ l. numbered names x ∷ l) (firsts_of xs ys (let e : length ys ≡ length xs = cc in e))

  seconds_of : (xs ys : List Token) → length ys ≡ length xs → seconds (pairs_of xs ys) ≡ map (numbered names) ys
  seconds_of [] [] h = refl
  seconds_of [] (y ∷ ys) h = cc
  seconds_of (x ∷ xs) [] h = cc
  seconds_of (x ∷ xs) (y ∷ ys) h = ap (λ l. numbered names y ∷ l) (seconds_of xs ys (let e : length ys ≡ length xs = cc in e))

  pub record Pair (xs ys : List Token) (x y : PpTok) : Type 0 where
    pub index : ℕ
    pub of : Token
    pub other : Token
    pub at : slice_get xs index ≡ Some of
    pub there : slice_get ys index ≡ Some other
    pub first : x ≡ numbered names of
    pub second : y ≡ numbered names other

  paired_from : (xs ys : List Token) (x y : PpTok) → Contains (pairs_of xs ys) (x, y) → Pair xs ys x y
  paired_from [] ys x y c = absurd (omega (arith, c.1))
  paired_from (a ∷ xs) [] x y c = absurd (omega (arith, c.1))
  paired_from (a ∷ xs) (b ∷ ys) x y c = by (head_or_tail (numbered names a, numbered names b) (x, y) (pairs_of xs ys) c) (λ d. paired_from xs ys x y d)
    where
      by : (◌≡◌ {A = PpTok × PpTok} (numbered names a, numbered names b) (x, y)) ⊎ Contains (pairs_of xs ys) (x, y) → (Contains (pairs_of xs ys) (x, y) → Pair xs ys x y) → Pair (a ∷ xs) (b ∷ ys) x y
      by (inl e) more = record { index = 0; of = a; other = b; at = refl; there = refl; first = ap (λ (q : PpTok × PpTok). q.0) (sym e); second = ap (λ (q : PpTok × PpTok). q.1) (sym e) }
      by (inr d) more = let w : Pair xs ys x y = more d in record { index = suc w.index; of = w.of; other = w.other; at = w.at; there = w.there; first = w.first; second = w.second }

-- ---- tokens

module _ (numbers : NumbersItsPath) (order : StandsInOrder) (stand : FinalsStand) (keeps : KeepsTokens) (named : IdentifiersAreSpelled) (tell : KeysTellNames)
    (names : Tables) (files : List KnownFile) (units : List Unit) (old new : Text) (distinct : (u : Unit) → IsDistinct (names u)) (has_old : (u : Unit) → Contains (names u) old) (has_new : (u : Unit) → Contains (names u) new) (may : MayTakeThePlace old new)
    (plain : IsPlainName old) (own : HaveOwnNumbers units) (before : Meanings names (world_of files) units) (others : List Place) (kept : KeepsFiles others old new names files units before) where
  abbrev r : Renaming
  r = renaming_at (offsets_by_file others) old new

  abbrev after_files : List KnownFile
  after_files = edited_files (offsets_by_file others) old new files

  abbrev old_name : Unit → Name
  old_name u = number_of (names u) old

  abbrev new_name : Unit → Name
  new_name u = number_of (names u) new

  is_other : (p : Place) → r.is_place p ≡ true → Contains others p
  is_other p h = let a = among_there p.path.0 p.offset others h in subst (Contains others) (same_place a.0 p a.2 a.3) a.1

  pub same_text : (u : Unit) (a b : Text) → Contains (names u) a → Contains (names u) b → number_of (names u) a ≡ number_of (names u) b → a ≡ b
  same_text u a b ca cb e =
      let f : Some a ≡ Some b = sym (number_at (names u) (distinct u) a ca) ∙ ap (λ (n : Name). slice_get (names u) n.0) e ∙ number_at (names u) (distinct u) b cb in cc

  names_differ : (u : Unit) → old_name u ≡ new_name u → ⊥
  names_differ u e = may.differ (same_text u old new (has_old u) (has_new u) e)

  module _ (u : Unit) (there : Contains units u) where
    abbrev m : Meaning names (world_of files) u
    m = before u there

    abbrev m' : Meaning names (world_of after_files) u
    m' = kept.after u there

    abbrev s : Source
    s = source m

    abbrev s' : Source
    s' = source m'

    abbrev pairs : Pairs
    pairs = pairs_of (names u) (finals m) (finals m')

    token_kept : (x y : PpTok) (w : Pair (names u) (finals m) (finals m') x y) → KeepsToken r w.of w.other
    token_kept x y w = (kept.kept u there).tokens w.index w.of w.other w.at w.there

    held_text : (t : Token) → Contains (finals m) t → text_of (names u) (numbered (names u) t) ≡ t.text
    held_text t c = text_at_number (names u) (distinct u) t.text (contained (λ (x : Token). Contains (names u) x.text) (finals m) t m.held.spellings c)

    held_after : (t : Token) → Contains (finals m') t → text_of (names u) (numbered (names u) t) ≡ t.text
    held_after t c = text_at_number (names u) (distinct u) t.text (contained (λ (x : Token). Contains (names u) x.text) (finals m') t m'.held.spellings c)

    reads : (x y : PpTok) → Contains pairs (x, y) → IsReadAs (names u) x y
    reads x y c = by w.of.origin refl t.spelling
      where
        w : Pair (names u) (finals m) (finals m') x y
        w = paired_from (names u) (finals m) (finals m') x y c

        t : KeepsToken r w.of w.other
        t = token_kept x y w

        kind : y.kind ≡ x.kind
        kind = ap (λ (q : PpTok). q.kind) w.second ∙ t.kind ∙ ap (λ (q : PpTok). q.kind) (sym w.first)

        same : w.other.text ≡ w.of.text → IsReadAs (names u) x y
        same e = record { kind = kind; text = inl (ap (λ (q : PpTok). q.text) w.second ∙ ap (number_of (names u)) e ∙ ap (λ (q : PpTok). q.text) (sym w.first)) }

        changed : (q : Place) → w.of.origin ≡ At q → w.of.text ≡ old → w.other.text ≡ new → IsReadAs (names u) x y
        changed q e a b =
            let in_m : Contains (finals m) w.of = get_there (finals m) w.index w.of w.at in
            let in_after : Contains (finals m') w.other = get_there (finals m') w.index w.other w.there in
            let ident : is_ident w.of.kind ≡ true = ident_there numbers order stand keeps names files old distinct has_old may.was q w.of (stand files u m.left m.events w.of q m.whole in_m e) a in
            let first : text_of (names u) x ≡ old = ap (text_of (names u)) w.first ∙ held_text w.of in_m ∙ a in
            let second : text_of (names u) y ≡ new = ap (text_of (names u)) w.second ∙ held_after w.other in_after ∙ b in
            record { kind = kind; text = inr (ap (λ (z : PpTok). z.kind) w.first ∙ is_ident_kind w.of.kind ident, subst IsPlainName (sym first) plain, subst IsPlainName (sym second) (new_names old new may).plain) }

        by : (o : Origin) → w.of.origin ≡ o → IsSpelledAs r w.of.text w.other.text (is_place_of r w.of.origin) → IsReadAs (names u) x y
        by Made e h = same (subst (λ o. IsSpelledAs r w.of.text w.other.text (is_place_of r o)) e h)
        by (At q) e h = at (r.is_place q) (subst (λ o. IsSpelledAs r w.of.text w.other.text (is_place_of r o)) e h)
          where
            at : (b : Bool) → IsSpelledAs r w.of.text w.other.text b → IsReadAs (names u) x y
            at true h = changed q e h.0 h.1
            at false h = same h

    stay : (us : List Tok) × (tokens_of (names u) (seconds pairs) ≡ Ok us) × AllTwo (Become (names u) pairs) m.before us
    stay = keeps (names u) pairs m.before reads (ap (tokens_of (names u)) (firsts_of (names u) (finals m) (finals m') (kept.kept u there).count) ∙ m.become)

    same_tokens : stay.0 ≡ m'.before
    same_tokens = let e = sym stay.1 ∙ ap (tokens_of (names u)) (seconds_of (names u) (finals m) (finals m') (kept.kept u there).count) ∙ m'.become in cc

    abbrev ending : Place → Tok
    ending q = end_token (number_of (names u) []) q

    at_index : (i : ℕ) → Both (names u) pairs (ending (place_in m.number (length m.bytes))) (ending (place_in m'.number (length m'.bytes))) (token_of s i) (token_of s' i)
    at_index i = both_at (names u) pairs (ending (place_in m.number (length m.bytes))) (ending (place_in m'.number (length m'.bytes))) m.before m'.before i (subst (AllTwo (Become (names u) pairs) m.before) same_tokens stay.2)

    -- the final tokens that token i of the unit is, before and afterwards
    pub record Comes (i : ℕ) : Type 0 where
      pub of : Token
      pub other : Token
      pub among : Contains (finals m) of
      pub token : KeepsToken r of other
      pub name : name_at s i ≡ number_of (names u) of.text
      pub after : name_at s' i ≡ number_of (names u) other.text
      pub origin : (token_of s i).origin ≡ of.origin
      pub moved : (token_of s' i).origin ≡ other.origin
      pub sort : (token_of s' i).kind ≡ (token_of s i).kind

    pub data At_index (i : ℕ) : Type 0 where
      comes : Comes i → At_index i
      at_end : (p q : Place) → (token_of s i).origin ≡ At p → (token_of s' i).origin ≡ At q → name_at s i ≡ number_of (names u) [] → (name_at s' i ≡ number_of (names u) []) × ((token_of s i).kind ≡ tok_kind.End) × ((token_of s' i).kind ≡ tok_kind.End) → (p ≡ place_in m.number (length m.bytes)) × (q ≡ place_in m'.number (length m'.bytes)) → At_index i
      behind : token_of s i ≡ no_token → token_of s' i ≡ no_token → At_index i

    pub which : (i : ℕ) → At_index i
    which i = by (at_index i)
      where
        by : Both (names u) pairs (ending (place_in m.number (length m.bytes))) (ending (place_in m'.number (length m'.bytes))) (token_of s i) (token_of s' i) → At_index i
        by (becomes b) =
            let w : Pair (names u) (finals m) (finals m') b.from b.other = paired_from (names u) (finals m) (finals m') b.from b.other b.paired in
            comes (record {
              of = w.of;
              other = w.other;
              among = get_there (finals m) w.index w.of w.at;
              token = token_kept b.from b.other w;
              name = ap (λ (y : Tok). y.text) b.own ∙ ap (λ (y : PpTok). y.text) w.first;
              after = ap (λ (y : Tok). y.text) b.others ∙ ap (λ (y : PpTok). y.text) w.second;
              origin = ap (λ (y : Tok). y.origin) b.own ∙ ap (λ (y : PpTok). y.origin) w.first;
              moved = ap (λ (y : Tok). y.origin) b.others ∙ ap (λ (y : PpTok). y.origin) w.second;
              sort = ap (λ (y : Tok). y.kind) b.others ∙ sym (ap (λ (y : Tok). y.kind) b.own);
            })
        by (ends a b) = at_end (place_in m.number (length m.bytes)) (place_in m'.number (length m'.bytes)) (ap (λ (y : Tok). y.origin) a) (ap (λ (y : Tok). y.origin) b) (ap (λ (y : Tok). y.text) a) (ap (λ (y : Tok). y.text) b, ap (λ (y : Tok). y.kind) a, ap (λ (y : Tok). y.kind) b) (refl, refl)
        by (nothing a b) = behind a b

    no_old_end : number_of (names u) [] ≡ (old_name u) → ⊥
    no_old_end e = differ (sym may.was ∙ ap is_identifier_text (sym (same_text u [] old m.held.empty (has_old u) e)))

    -- a made token keeps its spelling
    made_stays : (i : ℕ) → (token_of s' i).origin ≡ Made → name_at s' i ≡ name_at s i
    made_stays i h = by (which i)
      where
        spelled : (o : Origin) (a b : Text) → shifted_origin r o ≡ Made → IsSpelledAs r a b (is_place_of r o) → b ≡ a
        spelled Made a b e g = g
        spelled (At q) a b e g = cc

        by : At_index i → name_at s' i ≡ name_at s i
        by (comes c) = c.after ∙ ap (number_of (names u)) (spelled c.of.origin c.of.text c.other.text (sym c.token.origin ∙ sym c.moved ∙ h) c.token.spelling) ∙ sym c.name
        by (at_end p q a b e more places) = let no : At q ≡ Made = sym b ∙ h in cc
        by (behind a b) = ap (λ (y : Tok). y.text) b ∙ sym (ap (λ (y : Tok). y.text) a)

    placed_stays : (i : ℕ) (p : Place) → (token_of s i).origin ≡ At p → name_at s i ≡ (old_name u) → (token_of s' i).origin ≡ Made → ⊥
    placed_stays i p e n h = by (which i)
      where
        by : At_index i → ⊥
        by (comes c) = let no : At (r.shift p) ≡ Made = ap (shifted_origin r) (sym e ∙ c.origin) ∙ sym c.token.origin ∙ sym c.moved ∙ h in cc
        by (at_end q q' a b g more places) = no_old_end (sym g ∙ n)
        by (behind a b) = let no : Made ≡ At p = sym (ap (λ (y : Tok). y.origin) a) ∙ e in cc

    -- a token of the old name has the new one afterwards where it is at one of the places
    spelling : (i : ℕ) (p : Place) → (token_of s i).origin ≡ At p → name_at s i ≡ (old_name u) → name_at s' i ≡ cond (r.is_place p) (new_name u) (old_name u)
    spelling i p e n = by (which i)
      where
        by : At_index i → name_at s' i ≡ cond (r.is_place p) (new_name u) (old_name u)
        by (comes c) = c.after ∙ at (r.is_place p) (subst (λ o. IsSpelledAs r c.of.text c.other.text (is_place_of r o)) (sym c.origin ∙ e) c.token.spelling)
          where
            at : (b : Bool) → IsSpelledAs r c.of.text c.other.text b → number_of (names u) c.other.text ≡ cond b (new_name u) (old_name u)
            at true h = ap (number_of (names u)) h.1
            at false h = ap (number_of (names u)) h ∙ sym c.name ∙ n
        by (at_end q q' a b g more places) = absurd (no_old_end (sym g ∙ n))
        by (behind a b) = let no : Made ≡ At p = sym (ap (λ (y : Tok). y.origin) a) ∙ e in cc

    -- ---- what a token of the new name means

    first_spelled : (i f : ℕ) (x : Thing) → Contains (occurrences (binding m)) (i, x) → origin_of s (binding m) x ≡ Some f → name_at s i ≡ name_at s f
    first_spelled i f (Declared d) c e =
        let g : first_token s (binding m).declarations d ≡ f = cc in
        is_spelled s (binding m) (named s m.tree) i (Declared d) c ∙ sym (first_named s (binding m) (named s m.tree) d) ∙ ap (name_at s) g
    first_spelled i f (InRecord x) c e =
        let g : x.token ≡ f = cc in
        is_spelled s (binding m) (named s m.tree) i (InRecord x) c ∙ ap (name_at s) g
    first_spelled i f BuiltIn c e = cc

    -- the first token that declares it isn't made
    not_made : (i : ℕ) (d : Declaration) → Contains (occurrences (binding m')) (i, Declared d) → name_at s i ≡ (old_name u) → name_at s' i ≡ (new_name u) → (token_of s' (first_token s' (binding m').declarations d)).origin ≡ Made → ⊥
    not_made i d c n n' h = names_differ u (sym n ∙ first_spelled i f x.0.1 found (ap (λ (z : ℕ × Option ℕ). z.1) x.2) ∙ sym (made_stays f h) ∙ spelled')
      where
        f : ℕ
        f = first_token s' (binding m').declarations d

        spelled' : name_at s' f ≡ (new_name u)
        spelled' = first_named s' (binding m') (named s' m'.tree) d ∙ sym (is_spelled s' (binding m') (named s' m'.tree) i (Declared d) c) ∙ n'

        x : (x : Occurrence) × Contains (occurrences (binding m)) x × (◌≡◌ {A = ℕ × Option ℕ} (x.0, origin_of s (binding m) x.1) (i, Some f))
        x =
            mapped_from {A = Occurrence} (λ z. (z.0, origin_of s (binding m) z.1)) (occurrences (binding m)) (i, Some f)
            (subst (λ l. Contains l (i, Some f)) (kept.kept u there).resolution (mapped_there {A = Occurrence} (λ z. (z.0, origin_of s' (binding m') z.1)) (occurrences (binding m')) (i, Declared d) c))

        found : Contains (occurrences (binding m)) (i, x.0.1)
        found = subst (λ n. Contains (occurrences (binding m)) (n, x.0.1)) (ap (λ (z : ℕ × Option ℕ). z.0) x.2) x.1

  -- ---- two units

  -- a made key
  made_by : (unit l f n : ℕ) (t : Source) → key.Made unit l ≡ key_by n f (token_of t f).origin → ((token_of t f).origin ≡ Made) × (unit ≡ n) × (l ≡ f)
  made_by unit l f n t m = go (token_of t f).origin refl m
    where
      go : (w : Origin) → (token_of t f).origin ≡ w → key.Made unit l ≡ key_by n f w → ((token_of t f).origin ≡ Made) × (unit ≡ n) × (l ≡ f)
      go (At z) h m = cc
      go Made h m = (h, (let e : unit ≡ n = cc in e), (let e : l ≡ f = cc in e))

  made_declared : (number : ℕ) (t : Source) (b : State) (unit l i : ℕ) (z : Declaration) → key.Made unit l ≡ key_of number t b i (Declared z)
      → ((token_of t (first_token t b.declarations z)).origin ≡ Made) × (unit ≡ number) × (l ≡ first_token t b.declarations z)
  made_declared number t b unit l i z m = go (is_external z.linkage) (is_file_tag z) m
    where
      go : (x y : Bool) → key.Made unit l ≡ (if x then key.Ext (text_at t z.token) else (if y then key.Tag (tag_kind z.kind) (text_at t z.token) else token_key number t (first_token t b.declarations z)))
          → ((token_of t (first_token t b.declarations z)).origin ≡ Made) × (unit ≡ number) × (l ≡ first_token t b.declarations z)
      go true y m = cc
      go false true m = cc
      go false false m = made_by unit l (first_token t b.declarations z) number t m

  -- two tokens of the old name that mean one entity get the new one together
  module _ (u v : Unit) (in_u : Contains units u) (in_v : Contains units v) (i j : ℕ) (p q : Place)
      (n : name_at (source (before u in_u)) i ≡ old_name u)
      (o : name_at (source (before v in_v)) j ≡ old_name v)
      (a : (token_of (source (before u in_u)) i).origin ≡ At p)
      (b : (token_of (source (before v in_v)) j).origin ≡ At q)
      (h : r.is_place p ≡ true) (f : r.is_place q ≡ false) where
    abbrev su' : Source
    su' = source (kept.after u in_u)

    abbrev sv' : Source
    sv' = source (kept.after v in_v)

    one : name_at su' i ≡ new_name u
    one = spelling u in_u i p a n ∙ ap (λ z. cond z (new_name u) (old_name u)) h

    two : name_at sv' j ≡ old_name v
    two = spelling v in_v j q b o ∙ ap (λ z. cond z (new_name v) (old_name v)) f

    texts : slice_index_or (names u) (name_at su' i).0 [] ≡ slice_index_or (names v) (name_at sv' j).0 [] → ⊥
    texts t = may.differ (sym (ap (λ (n : Name). slice_index_or (names v) n.0 []) two ∙ text_at_number (names v) (distinct v) old (has_old v)) ∙ sym t ∙ ap (λ (n : Name). slice_index_or (names u) n.0 []) one ∙ text_at_number (names u) (distinct u) new (has_new u))

    own_place : u ≡ v → i ≡ j → ⊥
    own_place t w =
        subst (λ (z : Unit). (in_z : Contains units z) → name_at (source (kept.after z in_z)) j ≡ old_name z → ⊥) t
        (λ in_z g. names_differ u (sym g ∙ ap (λ (z : Source). name_at z j) (one_source (kept.after u in_z) (kept.after u in_u)) ∙ ap (λ (n : ℕ). name_at su' n) (sym w) ∙ one)) in_v two

    own_token : u ≡ v → (token_of sv' i).origin ≡ Made → ⊥
    own_token t w =
        subst (λ (z : Unit). (in_z : Contains units z) → (token_of (source (kept.after z in_z)) i).origin ≡ Made → ⊥) t
        (λ in_z g. placed_stays u in_u i p a n (ap (λ (z : Source). (token_of z i).origin) (one_source (kept.after u in_u) (kept.after u in_z)) ∙ g)) in_v w

    apart : (k : Key) (x' y' : Thing) → Contains (occurrences (binding (kept.after u in_u))) (i, x') → Contains (occurrences (binding (kept.after v in_v))) (j, y')
        → k ≡ key_of u.number su' (binding (kept.after u in_u)) i x' → k ≡ key_of v.number sv' (binding (kept.after v in_v)) j y'
        → TellsName su' (name_at su' i) k → TellsName sv' (name_at sv' j) k → ⊥
    apart (key.Ext text) x' y' c d e g s t = texts (s ∙ sym t)
    apart (key.Tag kind text) x' y' c d e g s t = texts (s ∙ sym t)
    apart (key.Member owner text) x' y' c d e g s t = texts (s ∙ sym t)
    apart (key.At z) x' y' c d e g s t =
        texts (ap (λ (n : Name). slice_index_or (names u) n.0 []) (sym s.2) ∙ places_have_one_name numbers order stand keeps names after_files distinct u v (kept.after u in_u) (kept.after v in_v) s.0 t.0 z s.1 t.1 ∙ ap (λ (n : Name). slice_index_or (names v) n.0 []) t.2)
    apart (key.Made unit l) (InRecord z) y' c d e g s t = cc
    apart (key.Made unit l) (Declared z) y' c d e g s t = not_made u in_u i z c n one (made_declared u.number su' (binding (kept.after u in_u)) unit l i z e).0
    apart (key.Made unit l) BuiltIn (InRecord z) c d e g s t = cc
    apart (key.Made unit l) BuiltIn BuiltIn c d e g s t = own_place (own u v in_u in_v (let f : u.number ≡ v.number = cc in f)) (let f : i ≡ j = cc in f)
    apart (key.Made unit l) BuiltIn (Declared z) c d e g s t =
        let w = made_declared v.number sv' (binding (kept.after v in_v)) unit l j z g in
        let number : u.number ≡ unit = cc in
        let at : i ≡ l = cc in
        own_token (own u v in_u in_v (number ∙ w.1)) (ap (λ (n : ℕ). (token_of sv' n).origin) (at ∙ w.2) ∙ w.0)

    no_link : AreOne u (kept.after u in_u) i v (kept.after v in_v) j → ⊥
    no_link (k, (x, c, e), (y, d, g)) =
        apart k x y c d e g (subst (TellsName su' (name_at su' i)) (sym e) (tell u.number su' (kept.after u in_u).tree i x c)) (subst (TellsName sv' (name_at sv' j)) (sym g) (tell v.number sv' (kept.after v in_v).tree j y d))

  together : (u v : Unit) (in_u : Contains units u) (in_v : Contains units v) (i j : ℕ) (p q : Place)
      → AreOne u (before u in_u) i v (before v in_v) j
      → name_at (source (before u in_u)) i ≡ old_name u
      → name_at (source (before v in_v)) j ≡ old_name v
      → (token_of (source (before u in_u)) i).origin ≡ At p
      → (token_of (source (before v in_v)) j).origin ≡ At q
      → r.is_place p ≡ true
      → r.is_place q ≡ true
  together u v in_u in_v i j p q l n o a b h = by (r.is_place q) refl
    where
      by : (z : Bool) → r.is_place q ≡ z → z ≡ true
      by true f = refl
      by false f = absurd (no_link u v in_u in_v i j p q n o a b h f ((kept.links u v in_u in_v i j).0 l))

  -- ---- the class

  module _ (ordered : FactsAreOrdered) (t : Target) (facts : Facts) (class : Class) (table : IsTable names (world_of files) units before old new facts) where
    -- some place that denotes the entity of a key is among the places, and then each is
    abbrev Some_place : Key → Type 0
    Some_place k = (p : Place) × Has facts (fact.Denotes p k) × Contains others p

    abbrev All_places : Key → Type 0
    All_places k = (p : Place) → Has facts (fact.Denotes p k) → Contains others p

    -- what a fact tells
    record Told (p : Place) (k : Key) : Type 0 where
      unit : Unit
      there : Contains units unit
      of : Occurrence
      denotes : Denotes unit.number (source (before unit there)) (binding (before unit there)) (old_name unit) (new_name unit) p k of

    told_of : (p : Place) (k : Key) → Has facts (fact.Denotes p k) → Told p k
    told_of p k h = by ((table (fact.Denotes p k)).0 h)
      where
        by : ((u : Unit) × (there : Contains units u) × UnitTells (before u there) old new (fact.Denotes p k)) → Told p k
        by (u, there, inl none) = absurd none
        by (u, there, inr (x, d)) = record { unit = u; there = there; of = x; denotes = d }

    denotes_of : (p : Place) (k : Key) → Has facts (fact.Declares k p) → Has facts (fact.Denotes p k)
    denotes_of p k h = by ((table (fact.Declares k p)).0 h)
      where
        by : ((u : Unit) × (there : Contains units u) × UnitTells (before u there) old new (fact.Declares k p)) → Has facts (fact.Denotes p k)
        by (u, there, inl none) = absurd none
        by (u, there, inr (x, d, c)) = (table (fact.Denotes p k)).1 (u, there, inr (x, d))

    all_of_some : (k : Key) → Some_place k → All_places k
    all_of_some k (p, h, c) q g =
        let a : Told p k = told_of p k h in
        let b : Told q k = told_of q k g in
        is_other q (together a.unit b.unit a.there b.there a.of.0 b.of.0 p q (k, (a.of.1, a.denotes.occurs, a.denotes.keyed), (b.of.1, b.denotes.occurs, b.denotes.keyed))
        a.denotes.placed.spelled b.denotes.placed.spelled a.denotes.placed.comes b.denotes.placed.comes (there_among p.path.0 p.offset others p c refl refl))

    -- a place that denotes an entity is a place of a file
    path_told : (p : Place) (k : Key) → Has facts (fact.Denotes p k) → (path : Text) × (bytes : List ℕ) × (finding path files ≡ Present p.path.0 bytes)
    path_told p k h = by (from_place numbers order stand keeps names files (before a.unit a.there) a.of.0 p a.denotes.placed.comes)
      where
        a : Told p k
        a = told_of p k h

        by : ComesFrom numbers order stand keeps names files (before a.unit a.there) a.of.0 p → (path : Text) × (bytes : List ℕ) × (finding path files ≡ Present p.path.0 bytes)
        by (final x c e n o) = (e.1.path, e.1.bytes, e.1.found)
        by (file_ends e n) = (a.unit.main, (before a.unit a.there).bytes, (before a.unit a.there).main ∙ ap (λ (z : Place). Present z.path.0 (before a.unit a.there).bytes) (sym e))

    -- two such places of which neither is shown in front of the other are one
    one_shown : (p q : Place) (k l : Key) → Has facts (fact.Denotes p k) → Has facts (fact.Denotes q l) → shown_cmp files p q ≢ Less → shown_cmp files q p ≢ Less → p ≡ q
    one_shown p q k l h g a b = same_place p q numbers_same offsets_same
      where
        hp : (path : Text) × (bytes : List ℕ) × (finding path files ≡ Present p.path.0 bytes)
        hp = path_told p k h

        hq : (path : Text) × (bytes : List ℕ) × (finding path files ≡ Present q.path.0 bytes)
        hq = path_told q l g

        tie : shown_cmp files p q ≡ Equal
        tie = by (shown_cmp files p q) refl
          where
            by : (o : Ordering) → shown_cmp files p q ≡ o → shown_cmp files p q ≡ Equal
            by Less e = absurd (a e)
            by Equal e = e
            by Greater e = absurd (b ((shown_total files).antisymm q p ∙ ap ordering_reverse e))

        parts : (slice_cmp nat_cmp (path_of files p) (path_of files q) ≡ Equal) × (nat_cmp p.offset q.offset ≡ Equal)
        parts = by (slice_cmp nat_cmp (path_of files p) (path_of files q)) refl tie
          where
            by : (o : Ordering) → slice_cmp nat_cmp (path_of files p) (path_of files q) ≡ o → ordering_then o (nat_cmp p.offset q.offset) ≡ Equal → (slice_cmp nat_cmp (path_of files p) (path_of files q) ≡ Equal) × (nat_cmp p.offset q.offset ≡ Equal)
            by Less e h = cc
            by Equal e h = (e, h)
            by Greater e h = cc

        offsets_same : p.offset ≡ q.offset
        offsets_same = nat_cmp-IsAntisymmetric p.offset q.offset parts.1

        path_at : (z : Place) (path : Text) (bytes : List ℕ) → finding path files ≡ Present z.path.0 bytes → path_of files z ≡ path
        path_at z path bytes e = ap path_or (numbers path files z.path.0 bytes e).1

        paths : hp.0 ≡ hq.0
        paths = sym (path_at p hp.0 hp.1 hp.2) ∙ slice_cmp-IsAntisymmetric nat_cmp-IsAntisymmetric (path_of files p) (path_of files q) parts.0 ∙ path_at q hq.0 hq.1 hq.2

        numbers_same : p.path.0 ≡ q.path.0
        numbers_same = let e = sym hp.2 ∙ ap (λ z. finding z files) paths ∙ hq.2 in cc

    -- what an ordinary name means without external linkage
    some_internal : (k l : Key) → Some_place k → MeansInternal files facts k → MeansInternal files facts l → Some_place l
    some_internal k l has (inl (p, d, first)) (inl (q, e, leading)) =
        let one : p ≡ q = one_shown p q k l (denotes_of p k d.1) (denotes_of q l e.1) (leading k p d) (first l q e) in
        (q, denotes_of q l e.1, subst (Contains others) one (all_of_some k has p (denotes_of p k d.1)))
    some_internal k l has (inl (p, d, first)) (inr (e, (none, least))) = absurd (none k p d)
    some_internal k l has (inr (d, (none, least))) (inl (q, e, leading)) = absurd (none l q e)
    some_internal k l has (inr (d, (none, least))) (inr (e, (none', least'))) = subst Some_place one has
      where
        one : k ≡ l
        one = by (key_cmp k l) refl
          where
            by : (o : Ordering) → key_cmp k l ≡ o → k ≡ l
            by Less g = absurd (least' k d g)
            by Equal g = key_ties ordered k l g
            by Greater g = absurd (least l e ((key_total ordered).antisymm l k ∙ ap ordering_reverse g))

    -- each key of the target has a place among the places
    some_of_target : HoldsTarget files facts old t others → (k : Key) → IsTargetKey files facts old t k → Some_place k
    some_of_target holds k is = by t holds is
      where
        by : (t : Target) → HoldsTarget files facts old t others → IsTargetKey files facts old t k → Some_place k
        by (target.At p) h g = (p, g.0, h)
        by target.Ordinary (l, p, m, d, c) g = ordinary (is_renamable facts (key.Ext old)) m.0 g.0
          where
            ordinary : (b : Bool) → means_by files facts old l b → means_by files facts old k b → Some_place k
            ordinary true e f = subst Some_place (e ∙ sym f) (p, d, c)
            ordinary false e f = some_internal l k (p, d, c) e f
        by (target.Tagged kind) (l, p, m, d, c) g = subst Some_place (m.0 ∙ sym g.0) (p, d, c)
        by (target.MemberOf kind tag) (l, p, m, d, c) g = subst Some_place (m.0 ∙ sym g.0) (p, d, c)

    all_of_class : HoldsTarget files facts old t others → (k : Key) → InClass files facts old t k → All_places k
    all_of_class holds k (targeted h) = all_of_some k (some_of_target holds k h)
    all_of_class holds l (shares {k} p c h g) = all_of_some l (p, denotes_of p l g, all_of_class holds k c p (denotes_of p k h))

    no_edit : IsClassOf files facts old t class → HoldsTarget files facts old t others → (p : Place) → Contains class.places p → Contains others p
    no_edit of_target holds p c = by ((of_target.places p).0 c)
      where
        by : ((k : Key) × InClass files facts old t k × Has facts (fact.Denotes p k)) → Contains others p
        by (k, inside, has) = all_of_class holds k inside p has

pub no_edit_is_idle : NumbersItsPath → StandsInOrder → FinalsStand → KeepsTokens → IdentifiersAreSpelled → KeysTellNames → FactsAreOrdered → NoEditIsIdle
no_edit_is_idle numbers order stand keeps named tell ordered names files units old new t facts class before others distinct has_old has_new may plain own table of_target holds kept =
    no_edit numbers order stand keeps named tell names files units old new distinct has_old has_new may plain own before others kept ordered t facts class table of_target holds
