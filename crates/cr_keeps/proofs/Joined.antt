-- The laws on one layer, joined: an accepted verdict keeps the meaning of all units.
use Rattle.std.specs.Prelude.{◌≡◌, ◌↔◌, ℕ, zero, suc, ◌+◌, ◌<◌, Bool, true, false, ◌&&◌, cond, not, if◌then◌else◌, Option, Some, None, option_map, List, [], ◌∷◌, length, map, bytes_eq, slice_get, Contains}
use Rattle.std.specs.List.{AllByRecursion}
use Rattle.std.proofs.Common.{refl, sym, ◌∙◌, ap, subst, inr, arith}
use Rattle.std.proofs.lemmas.Slice.Eq.{bytes_eq-Decides}
use Rattle.cr_base.specs.Names.{is_identifier}
use Rattle.cr_base.specs.Substitution.{Rise, substituted}
use Rattle.cr_base.specs.declared.token.Origin.{Origin}
use Rattle.cr_base.specs.declared.token.Origin.TheVariants.{At, Made}
use Rattle.cr_base.specs.declared.key.Key.{Key}
use Rattle.cr_base.specs.declared.unit.Unit.{Unit}
use Rattle.cr_snapshot.specs.declared.known.KnownFile.{KnownFile}
use Rattle.cr_snapshot.specs.Files.{Present, told, finding_from}
use Rattle.cr_macros.specs.Tokens.{Text, Token, is_ident}
use Rattle.cr_expand_law.specs.Renaming.{Renaming, is_old, is_renamed, renamed, all_renamed}
use Rattle.cr_phase4.specs.Tasks.{Event, Took, Opened, Looked, Defined, Told, Final, Reply, Goes, Nothing, Done}
use Rattle.cr_phase4.specs.Lines.{place_in}
use Rattle.cr_phase4.specs.Search.{World, world_of, number_among}
use Rattle.cr_phase4.specs.Preprocessing.{preprocessed}
use Rattle.cr_phase4.specs.PreprocessingRun.{final_tokens, Agrees, IsLarger}
use Rattle.cr_preproc_law.specs.Renaming.{Places, edited, edited_world, renamed_state, renamed_event, MayEdit}
use Rattle.cr_phase7.specs.Tokens.{tokens_of}
use Rattle.cr_facts.specs.FactOrder.{Facts}
use Rattle.cr_binding.specs.Source.{Source}
use Rattle.cr_binding.specs.State.{State}
use Rattle.cr_binding.specs.Binding.{bound}
use Rattle.cr_binding.specs.Resolution.{Thing, occurrences, answers}
use Rattle.cr_binding.specs.Keys.{key_of, HasKey}
use Rattle.cr_binding_law.specs.UnitStays.{MeansTheSame}
use Rattle.cr_keys_law.specs.KeysMove.{moved_key}
use Rattle.cr_keys_law.proofs.Spelled.{in_tail}
use Rattle.cr_class.specs.Verdict.{is_in_class}
use Rattle.cr_class.specs.declared.class.Class.{Class}
use Rattle.cr_class.specs.declared.target.Target.{Target}
use Rattle.cr_keeps.specs.OnlyNames.{IsOnlyName}
use Rattle.cr_keeps.specs.UnitMeaning.{Names, Tables, number_of, numbered, Meaning, finals, source, binding, source_of}
use Rattle.cr_keeps.specs.UnitFacts.{Meanings}
use Rattle.cr_keeps.specs.Keeps.{offsets_by_file, edited_from, edited_files, is_place_of, IsSpelledAs, KeepsToken, KeepsUnit, AreOne, KeepsFiles}
use Rattle.cr_keeps.proofs.Chain.{renaming_of, is_class_token}
use Rattle.cr_keeps.specs.AcceptedRenames.{IsAcceptedRename}
use Rattle.cr_keeps.proofs.RenamedStated.{IsAfter}
use Rattle.cr_keeps.proofs.JoinedStated.{Laws, Lemmas, LawsJoin}
use Rattle.cr_keeps.proofs.Premises.{place_in_class, text_at_number}

-- ---- edited files

module _ (places : Places) (old new : Text) where
  pub found_edited : (path : Text) (n : ℕ) (files : List KnownFile) → finding_from n path (edited_from n places old new files) ≡ edited places old new (finding_from n path files)
  found_edited path n [] = refl
  found_edited path n (file ∷ files) = by (bytes_eq path file.path) file.found (found_edited path (n + 1) files)
    where
      one : (o : Option (List ℕ)) → told n (option_map (substituted (places n) (length old) new) o) ≡ edited places old new (told n o)
      one None = refl
      one (Some bytes) = refl

      by : (b : Bool) (o : Option (List ℕ)) → finding_from (n + 1) path (edited_from (n + 1) places old new files) ≡ edited places old new (finding_from (n + 1) path files)
          → (if b then told n (option_map (substituted (places n) (length old) new) o) else finding_from (n + 1) path (edited_from (n + 1) places old new files)) ≡ edited places old new (if b then told n o else finding_from (n + 1) path files)
      by true o rest = one o
      by false o rest = rest

  pub number_edited : (path : Text) (n : ℕ) (files : List KnownFile) → number_among path (edited_from n places old new files) ≡ number_among path files
  number_edited path n [] = refl
  number_edited path n (file ∷ files) = ap (λ k. cond (not (bytes_eq path file.path)) (1 + k) 0) (number_edited path (n + 1) files)

  agrees : (files : List KnownFile) → Agrees (edited_world places old new (world_of files)) (world_of (edited_files places old new files))
  agrees files = record { known = λ path. inr (found_edited path 0 files, number_edited path 0 files) }

-- ---- final tokens

module _ (r : Renaming) where
  finals_renamed : (events : List Event) → final_tokens (map (renamed_event r) events) ≡ all_renamed r (final_tokens events)
  finals_renamed [] = refl
  finals_renamed (Took ∷ events) = finals_renamed events
  finals_renamed (Opened path ∷ events) = finals_renamed events
  finals_renamed (Looked paths ∷ events) = finals_renamed events
  finals_renamed (Defined t m ∷ events) = finals_renamed events
  finals_renamed (Told e ∷ events) = finals_renamed events
  finals_renamed (Final t ∷ events) = ap (λ l. renamed r t ∷ l) (finals_renamed events)

  same_length : (ts : List Token) → length (all_renamed r ts) ≡ length ts
  same_length [] = refl
  same_length (t ∷ ts) = ap suc (same_length ts)

  renamed_get : (ts : List Token) (i : ℕ) (t t' : Token) → slice_get ts i ≡ Some t → slice_get (all_renamed r ts) i ≡ Some t' → t' ≡ renamed r t
  renamed_get [] i t t' h g = cc
  renamed_get (x ∷ ts) zero t t' h g = let a : x ≡ t = cc in let b : renamed r x ≡ t' = cc in sym b ∙ ap (renamed r) a
  renamed_get (x ∷ ts) (suc i) t t' h g = renamed_get ts i t t' h g

  renamed_held : (names : Names) (ts : List Token) → Contains names r.new → AllByRecursion (λ (t : Token). Contains names t.text) ts → AllByRecursion (λ (t : Token). Contains names t.text) (all_renamed r ts)
  renamed_held names [] n h = tt
  renamed_held names (t ∷ ts) n h = (by (is_renamed r t), renamed_held names ts n h.1)
    where
      by : (b : Bool) → Contains names (if b then r.new else t.text)
      by true = n
      by false = h.0

pub get_there : {A : Type 0} (xs : List A) (i : ℕ) (x : A) → slice_get xs i ≡ Some x → Contains xs x
get_there [] i x h = cc
get_there (y ∷ xs) zero x h = (0, omega arith, (let e : y ≡ x = cc in e))
get_there (y ∷ xs) (suc i) x h = in_tail y x xs (get_there xs i x h)

pub longer : (old : Text) → is_identifier old ≡ true → 0 < length old
longer [] h = cc
longer (b ∷ bs) h = omega arith

module _ (laws : Laws) (lemmas : Lemmas) (names : Tables) (files : List KnownFile) (units : List Unit) (old new : Text) (target : Target) (facts : Facts) (class : Class) (before : Meanings names (world_of files) units)
    (j : IsAcceptedRename names files units old new target facts class before) (only_old : IsOnlyName old) where
  abbrev r : Renaming
  r = renaming_of class old new

  abbrev places : Places
  places = offsets_by_file class.places

  abbrev edited_w : World
  edited_w = world_of (edited_files places old new files)

  only_new : IsOnlyName new
  only_new = lemmas.only_new old new j.may

  module _ (u : Unit) (there : Contains units u) where
    abbrev m : Meaning names (world_of files) u
    m = before u there

    abbrev bytes_after : List ℕ
    bytes_after = substituted (places m.number) (length old) new m.bytes

    -- preprocessing
    in_world : preprocessed (edited_world places old new (world_of files)) u ≡ Goes Done (renamed_state r m.left) (map (renamed_event r) m.events)
    in_world =
        laws.preprocessing places old new (world_of files) u m.left m.events j.may.was j.may.is j.may.not_reserved (laws.numbers files)
        (lemmas.editable names files units old new target facts class before j) m.whole (laws.events laws.traces names files units old new target facts class before j u there)

    whole : preprocessed edited_w u ≡ Goes Done (renamed_state r m.left) (map (renamed_event r) m.events)
    whole = subst (λ (q : Reply Nothing). IsLarger q (preprocessed edited_w u)) in_world (laws.goes_on (edited_world places old new (world_of files)) edited_w u (agrees places old new files))

    main : edited_w.find u.main ≡ Present m.number bytes_after
    main = found_edited places old new u.main 0 files ∙ ap (edited places old new) m.main

    -- tokens
    end_moves : place_in m.number (length bytes_after) ≡ r.shift (place_in m.number (length m.bytes))
    end_moves = ap (place_in m.number) (lemmas.lengths (places m.number) (length old) new m.bytes (longer old j.may.was) rises)
      where
        rises : Rise 0 (places m.number) (length old) (length m.bytes)
        rises = (subst (MayEdit (world_of files) places old new) m.main (lemmas.editable names files units old new target facts class before j u.main)).rise

    after : IsAfter names files class old new u m (place_in m.number (length bytes_after))
    after = laws.renamed laws.spelled laws.tell laws.one_key lemmas.tests laws.tokens7 names files units old new target facts class before (laws.one_spelling names files j.distinct) (laws.identifiers names files old j.distinct j.has_old j.may.was only_old) j only_old only_new u there (place_in m.number (length bytes_after)) end_moves

    abbrev v : Source
    v = source_of (names u) after.tokens (place_in m.number (length bytes_after))

    -- binding
    same : MeansTheSame (source m) v m.tree
    same =
        laws.units (is_in_class class) (is_class_token class old new (source m)) (number_of (names u) old) (number_of (names u) new) u.number (source m) v m.tree after.renamed m.well_formed
        (laws.class_tokens laws.spelled laws.tell laws.one_key lemmas.tests names files units old new target facts class before (laws.one_spelling names files j.distinct) (laws.identifiers names files old j.distinct j.has_old j.may.was only_old) j u there)
        (laws.conflicts lemmas.tests names files units old new target facts class before j u there)

    meaning : Meaning names edited_w u
    meaning = record {
      number = m.number;
      bytes = bytes_after;
      main = main;
      left = renamed_state r m.left;
      events = map (renamed_event r) m.events;
      whole = whole;
      held = record {
        spellings = subst (AllByRecursion (λ (t : Token). Contains (names u) t.text)) (sym (finals_renamed r m.events)) (renamed_held r (names u) (finals m) (j.has_new u) m.held.spellings);
        empty = m.held.empty;
      };
      before = after.tokens;
      become = ap (λ ts. tokens_of (names u) (map (numbered (names u)) ts)) (finals_renamed r m.events) ∙ after.become;
      tree = m.tree;
      well_formed = same.well_formed;
    }

    token_kept : (t : Token) → Contains (finals m) t → KeepsToken r t (renamed r t)
    token_kept t c = record { kind = refl; origin = refl; spelling = by t.origin refl }
      where
        stays : (o : Origin) → is_old r t.kind t.text o ≡ false → (if is_old r t.kind t.text o then new else t.text) ≡ t.text
        stays o h = ap (λ b. if b then new else t.text) h

        and_false : (a : Bool) → (a && false) ≡ false
        and_false true = refl
        and_false false = refl

        by : (o : Origin) → t.origin ≡ o → IsSpelledAs r t.text (if is_old r t.kind t.text t.origin then new else t.text) (is_place_of r t.origin)
        by Made e = subst (λ o. IsSpelledAs r t.text (if is_old r t.kind t.text o then new else t.text) (is_place_of r o)) (sym e) refl
        by (At q) e = subst (λ o. IsSpelledAs r t.text (if is_old r t.kind t.text o then new else t.text) (is_place_of r o)) (sym e) (at (r.is_place q) refl)
          where
            at : (b : Bool) → r.is_place q ≡ b → IsSpelledAs r t.text (if is_old r t.kind t.text (At q) then new else t.text) (r.is_place q)
            at false g = subst (λ b. IsSpelledAs r t.text (if is_ident t.kind && (b && bytes_eq t.text old) then new else t.text) b) (sym g) (stays_by (is_ident t.kind))
              where
                stays_by : (a : Bool) → (if a && false then new else t.text) ≡ t.text
                stays_by true = refl
                stays_by false = refl
            at true g =
                let o = laws.placed names files units old new target facts class before j u m t c q e (place_in_class class old new q g) in
                subst (λ b. IsSpelledAs r t.text (if is_ident t.kind && (b && bytes_eq t.text old) then new else t.text) b) (sym g) (o.1, changes (is_ident t.kind) (bytes_eq t.text old) o.0 ((bytes_eq-Decides t.text old).1 o.1))
              where
                changes : (a b : Bool) → a ≡ true → b ≡ true → (if a && b then new else t.text) ≡ new
                changes true true h k = refl
                changes true false h k = cc
                changes false b h k = cc

    kept : KeepsUnit r names (world_of files) edited_w u m meaning
    unfolding meaning
    kept = record {
      count = ap length (finals_renamed r m.events) ∙ same_length r (finals m);
      tokens = λ i t t' h g. subst (KeepsToken r t) (sym (renamed_get r (finals m) i t t' h (ap (λ ts. slice_get ts i) (sym (finals_renamed r m.events)) ∙ g))) (token_kept t (get_there (finals m) i t h));
      tree = refl;
      resolution = same.resolution;
      answers = ap answers same.binding;
    }

    -- keys
    abbrev gone : Key → Key
    gone = moved_key (is_in_class class) new r.shift

    abbrev key_before : ℕ → Thing → Key
    key_before i x = key_of u.number (source m) (binding m) i x

    key_gone : (i : ℕ) (x : Thing) → Contains (occurrences (binding m)) (i, x) → key_of u.number v (bound v m.tree) i x ≡ gone (key_before i x)
    key_gone i x c =
        laws.move (is_in_class class) (is_class_token class old new (source m)) (number_of (names u) old) (number_of (names u) new) r.shift u.number (source m) v m.tree after.renamed after.moved
        (laws.class_tokens laws.spelled laws.tell laws.one_key lemmas.tests names files units old new target facts class before (laws.one_spelling names files j.distinct) (laws.identifiers names files old j.distinct j.has_old j.may.was only_old) j u there) same i x c
        ∙ ap (λ text. moved_key (is_in_class class) text r.shift (key_before i x)) (text_at_number (names u) (j.distinct u) new (j.has_new u))

    -- what a token means has the key gone where it had a key
    forth : (i : ℕ) (k : Key) → HasKey u.number (source m) (binding m) i k → HasKey u.number v (bound v m.tree) i (gone k)
    forth i k (x, c, e) = (x, subst (λ (b : State). Contains (occurrences b) (i, x)) (sym same.binding) c, ap gone e ∙ sym (key_gone i x c))

    back : (i : ℕ) (k : Key) → HasKey u.number v (bound v m.tree) i k → (l : Key) × HasKey u.number (source m) (binding m) i l × (k ≡ gone l)
    back i k (x, c, e) = let d = subst (λ (b : State). Contains (occurrences b) (i, x)) same.binding c in (key_before i x, (x, d, refl), e ∙ key_gone i x d)

  abbrev afters : Meanings names edited_w units
  afters u there = meaning u there

  one_key_back : (u v : Unit) (in_u : Contains units u) (in_v : Contains units v) (i n : ℕ) (k l : Key) → HasKey u.number (source (before u in_u)) (binding (before u in_u)) i k → HasKey v.number (source (before v in_v)) (binding (before v in_v)) n l
      → moved_key (is_in_class class) new r.shift k ≡ moved_key (is_in_class class) new r.shift l → k ≡ l
  one_key_back u v in_u in_v i n k l (x, c, e) (y, d, f) h =
      laws.apart laws.spelled laws.tell laws.one_key laws.consistent lemmas.tests names files units old new target facts class before (laws.one_spelling names files j.distinct) (laws.identifiers names files old j.distinct j.has_old j.may.was only_old) j r.shift
      (lemmas.shifts names files units old new target facts class before j) k l (u, in_u, i, x, c, e) (v, in_v, n, y, d, f) h

  links : (u v : Unit) (in_u : Contains units u) (in_v : Contains units v) (i n : ℕ) → AreOne u (before u in_u) i v (before v in_v) n ↔ AreOne u (afters u in_u) i v (afters v in_v) n
  unfolding meaning
  links u v in_u in_v i n = (to, from)
    where
      to : AreOne u (before u in_u) i v (before v in_v) n → AreOne u (afters u in_u) i v (afters v in_v) n
      to (k, a, b) = (moved_key (is_in_class class) new r.shift k, forth u in_u i k a, forth v in_v n k b)

      from : AreOne u (afters u in_u) i v (afters v in_v) n → AreOne u (before u in_u) i v (before v in_v) n
      from (k, a, b) =
          let x = back u in_u i k a in
          let y = back v in_v n k b in
          let same : x.0 ≡ y.0 = one_key_back u v in_u in_v i n x.0 y.0 x.1 y.1 (sym x.2 ∙ y.2) in
          (x.0, x.1, subst (HasKey v.number (source (before v in_v)) (binding (before v in_v)) n) (sym same) y.1)

  keeps : KeepsFiles class.places old new names files units before
  keeps = record { after = afters; kept = kept; links = links }

pub laws_join : LawsJoin
laws_join laws lemmas names files units old new target facts class before j =
    keeps laws lemmas names files units old new target facts class before j j.only_old
