-- An accepted rename keeps the meaning of each unit, and the links between them.
use Rattle.std.proofs.Common.{◌≡◌, inl, inr, ◌⊎◌, ℕ, zero, suc, ◌+◌, ◌*◌, ◌/◌, ◌%◌, ◌<◌, Bool, true, false, not, ◌||◌, ◌&&◌, List, [], ◌∷◌, ◌++◌, length, map, take, drop, find, Option, Some, None, Result, slice_get, get_or, refl, sym, ap, ◌∙◌, subst, arith, append-nil}
use Rattle.std.specs.Prelude.{Ok, Err, bytes_eq, codes, if◌then◌else◌, nat_lt, is_some, ◌↔◌}
use Rattle.std.specs.Option.{option_map, option_or}
use Rattle.std.specs.List.{list_any, filter, flat_map, Contains}
use Rattle.std.proofs.lemmas.Option.{slice_get_read}
use Rattle.std.proofs.lemmas.Bool.Decides.{nat_tests}
use Rattle.std.proofs.lemmas.Slice.Eq.{bytes_eq-Decides}
use Rattle.cr_base.specs.Names.{is_identifier, is_keyword, is_reserved}
use Rattle.cr_base.specs.Substitution.{offsets_in, substituted, shifted}
use Rattle.cr_base.specs.declared.unit.Unit.{Unit as TranslationUnit}
use Rattle.cr_world.specs.Outside.{Files}
use Rattle.cr_compdb.specs.declared.entry.Entry.{Entry}
use Rattle.cr_words.specs.Requests.{Request, Task, Rename as WordsRename, Aim, renames, generates, at_offset, name_in_file, name_in_database, read_words}
use Rattle.cr_lex.specs.Lexing.{Token, Lexed, lexed}
use Rattle.cr_small.specs.Terminals.{is_name}
use Rattle.cr_small.specs.Keys.{Key, external, at, has_external_linkage, key_of_token, key_of, is_key}
use Rattle.cr_small.specs.Renaming.{Target, target_at, places_of, first_unspellable, has_text}
use Rattle.cr_small.specs.SmallForm.{IsSmallForm, Resolves}
use Rattle.cr_lex.specs.Renaming.{renamed_token}
use Rattle.cr_small.specs.KeepsMeaning.{AreLinked, KeepsMeaning}
use Rattle.cr_small.specs.Laws.{IsNameOf, NamesItsKey, RenamingKeepsMeaning, KeysMove, moved_key}
use Rattle.cr_small.specs.declared.binder.Denotation.{Denotation}
use Rattle.cr_run.specs.Goal.{Goal, Refused, refused, reserved, is_refused, goal_at, goal_of_task, goal_of_request, goal_of, ◌>>=◌}
use Rattle.cr_run.specs.Units.{units_in, mains, entries_of}
use Rattle.cr_run.specs.Renames.{FileEdit, Rename, places_of_edit, places, renamed_files}
use Rattle.cr_run.specs.Survey.{Meaning, IsMeaning, files_so_far, is_too_long, is_empty, is_clear_file, is_clear, refusal_of_batch, refusal_below, refusal_of_units, batches, key_in, places_in_text, places_in_file, unspellable_in_text, unspellable_in_file, unspellable_at, is_over}
use Rattle.cr_run.specs.Outcome.{may_rename, renamable, named, is_main_source, begins_with_underscore, has_offsets, edit_at, refusal_of_spelling, rename_of, of_target, of_meaning, of_text, of_source, of_entries, of_goal, outcome, or_refused}
use Rattle.cr_run.specs.Report.{contents}
use Rattle.cr_run.specs.Keeps.{EntityKey, named as by_name, at_place, entity_key, tokens_at, AreLinkedOver, KeepsFile, KeepsUnits, Keeps, AcceptedKeeps}
use Rattle.cr_run.proofs.Surveys.{eq_self}
use Rattle.cr_run.proofs.Lookups.{main_of, met}
use Rattle.cr_run.proofs.Spelled.{none-refuses}
use Rattle.cr_run.specs.Planning.{Apart}
use Rattle.cr_run.proofs.Editings.{order_apart, offsets_both, own_offsets, no_offsets, none_there, fewer, apart_sym, or_false_left, or_false_right}

-- a new name that isn't refused is a name
fine-name : (new : List ℕ) → is_refused new ≡ false → is_name new ≡ true
unfolding is_refused is_name
fine-name new h = by (is_identifier new) (is_keyword new) (bytes_eq new (codes "defined")) (bytes_eq new (codes "main")) (is_reserved new) h
  where
    by : (a b c d e : Bool) → (not a || b || c || d || e) ≡ false → (a && not b) ≡ true
    by true false c d e h = refl
    by true true true true true h = let no : ⊥ = cc in absurd no
    by true true true true false h = let no : ⊥ = cc in absurd no
    by true true true false true h = let no : ⊥ = cc in absurd no
    by true true true false false h = let no : ⊥ = cc in absurd no
    by true true false true true h = let no : ⊥ = cc in absurd no
    by true true false true false h = let no : ⊥ = cc in absurd no
    by true true false false true h = let no : ⊥ = cc in absurd no
    by true true false false false h = let no : ⊥ = cc in absurd no
    by false b c d e h = let no : ⊥ = cc in absurd no

-- the new name of a goal is a name
goal_named : (words : List (List ℕ)) (goal : Goal) → goal_of words ≡ Ok goal → is_name goal.new ≡ true
unfolding goal_of
goal_named words goal h = of_request (read_words words) h
  where
    of_root : (rename : WordsRename) (aim : Aim) (root : Option (List ℕ)) → goal_at rename aim root ≡ Ok goal → goal.new ≡ rename.new_name
    of_root rename (name_in_file source n) root e = let bad : ⊥ = cc in absurd bad
    of_root rename (name_in_database database n) root e = let bad : ⊥ = cc in absurd bad
    of_root rename (at_offset source offset database) (Some root) e = let bad : ⊥ = cc in absurd bad
    of_root rename (at_offset source offset database) None e = by _ e
      where
        by : (g : Goal) → ◌≡◌ {A = Result Goal Refused} (Ok g) (Ok goal) → goal.new ≡ g.new
        by g k = let same : g ≡ goal = cc in ap (λ (x : Goal). x.new) (sym same)

    of_rename : (rename : WordsRename) (b : Bool) → is_refused rename.new_name ≡ b → (if b then reserved rename.new_name else goal_at rename rename.aim rename.root) ≡ Ok goal → is_name goal.new ≡ true
    of_rename rename true k e = let bad : ⊥ = cc in absurd bad
    of_rename rename false k e = ap is_name (of_root rename rename.aim rename.root e) ∙ fine-name rename.new_name k

    of_task : (task : Task) → goal_of_task task ≡ Ok goal → is_name goal.new ≡ true
    of_task (renames rename) e = of_rename rename (is_refused rename.new_name) refl e
    of_task (generates n) e = let bad : ⊥ = cc in absurd bad

    of_request : (r : Result Request (List ℕ)) → goal_of_request r ≡ Ok goal → is_name goal.new ≡ true
    of_request (Err word) e = let bad : ⊥ = cc in absurd bad
    of_request (Ok request) e = of_task request.task e

-- each unit of an accepted rename is clear
find_none : {X : Type 0} (p : X → Bool) (xs : List X) (i : ℕ) (x : X) → find p xs ≡ None → slice_get xs i ≡ Some x → p x ≡ false
find_none p [] i x h k = let bad : ⊥ = cc in absurd bad
find_none p (y ∷ xs) i x h k = by (p y) refl h i k (λ j. find_none p xs j x)
  where
    by : (b : Bool) → p y ≡ b → (if b then Some y else find p xs) ≡ None → (i : ℕ) → slice_get (y ∷ xs) i ≡ Some x → ((j : ℕ) → find p xs ≡ None → slice_get xs j ≡ Some x → p x ≡ false) → p x ≡ false
    by true e h i k more = let bad : ⊥ = cc in absurd bad
    by false e h zero k more = let same : y ≡ x = cc in ap p (sym same) ∙ e
    by false e h (suc j) k more = more j h k

below_none : (f : ℕ → Option Refused) (n k : ℕ) → refusal_below f n ≡ None → k < n → f k ≡ None
below_none f zero k h lt = absurd (omega (arith, lt))
below_none f (suc n) k h lt = by (refusal_below f n) refl h (λ e l. below_none f n k e l)
  where
    by : (o : Option Refused) → refusal_below f n ≡ o → option_or o (f n) ≡ None → (refusal_below f n ≡ None → k < n → f k ≡ None) → f k ≡ None
    by (Some r) e h more = let bad : ⊥ = cc in absurd bad
    by None e h more = last (either k n lt)
      where
        either : (a b : ℕ) → a < suc b → (a ≡ b) ⊎ (a < b)
        either a b l = split (nat_lt a b) refl
          where
            split : (c : Bool) → nat_lt a b ≡ c → (a ≡ b) ⊎ (a < b)
            split true q = inr (grind (arith, nat_tests))
            split false q = inl (grind (arith, nat_tests))

        none : (o : Option Refused) → option_or None o ≡ None → o ≡ None
        none None g = refl
        none (Some r) g = g

        last : (k ≡ n) ⊎ (k < n) → f k ≡ None
        last (inl same) = ap f same ∙ none (f n) h
        last (inr l) = more e l

get_take : {X : Type 0} (xs : List X) (n i : ℕ) (x : X) → slice_get xs i ≡ Some x → i < n → slice_get (take n xs) i ≡ Some x
get_take [] n i x h lt = let bad : ⊥ = cc in absurd bad
get_take (y ∷ xs) zero i x h lt = absurd (omega (arith, lt))
get_take (y ∷ xs) (suc n) zero x h lt = h
get_take (y ∷ xs) (suc n) (suc i) x h lt = get_take xs n i x h (omega (arith, lt))

get_drop : {X : Type 0} (xs : List X) (n i : ℕ) (x : X) → slice_get xs (n + i) ≡ Some x → slice_get (drop n xs) i ≡ Some x
get_drop xs zero i x h = ap (slice_get xs) (let e : i ≡ 0 + i = omega arith in e) ∙ h
get_drop [] (suc n) i x h = h
get_drop (y ∷ xs) (suc n) i x h = get_drop xs n i x (ap (slice_get (y ∷ xs)) (let e : suc (n + i) ≡ suc n + i = omega arith in e) ∙ h)

all_clear : (meaning : Meaning) (files : Files) (source new : List ℕ) (units : List TranslationUnit) (i : ℕ) (u : TranslationUnit) → refusal_of_units meaning files source new units ≡ None → slice_get units i ≡ Some u → i < length units → is_clear meaning files new u ≡ true
unfolding refusal_of_units
all_clear meaning files source new units i u h there inside =
    truly (is_clear meaning files new u) (find_none (λ unit. not (is_clear meaning files new unit)) (take 64 (drop (64 * (i / 64)) units)) (i % 64) u none here)
  where
    lt : i / 64 < batches units
    lt = omega (arith, inside)

    parts : (b : Bool) (o : Option Refused) → (if b then Some (record { status = 19; text = codes "limit: files" }) else o) ≡ None → o ≡ None
    parts true o e = let bad : ⊥ = cc in absurd bad
    parts false o e = e

    mapped : (o : Option TranslationUnit) → option_map {U = Refused} (λ (unit : TranslationUnit). record { status = 20; text = codes "unbuilt: " ++ unit.main }) o ≡ None → o ≡ None
    mapped None e = refl
    mapped (Some x) e = let bad : ⊥ = cc in absurd bad

    none : find (λ unit. not (is_clear meaning files new unit)) (take 64 (drop (64 * (i / 64)) units)) ≡ None
    none = mapped (find (λ unit. not (is_clear meaning files new unit)) (take 64 (drop (64 * (i / 64)) units))) (parts (is_over files source (take (64 * (i / 64) + 64) units)) _ (below_none (refusal_of_batch meaning files source new units) (batches units) (i / 64) h lt))

    here : slice_get (take 64 (drop (64 * (i / 64)) units)) (i % 64) ≡ Some u
    here = get_take (drop (64 * (i / 64)) units) 64 (i % 64) u (get_drop units (64 * (i / 64)) (i % 64) u (ap (slice_get units) (let e : 64 * (i / 64) + i % 64 ≡ i = omega arith in e) ∙ there)) (omega arith)

    truly : (b : Bool) → not b ≡ false → b ≡ true
    truly true e = refl
    truly false e = let bad : ⊥ = cc in absurd bad

-- the offsets at a path among the edits of the files so far
offsets_append : (path : List ℕ) (e : FileEdit) (rest : List FileEdit) → offsets_in path (flat_map places_of_edit (e ∷ rest)) ≡ offsets_in path (places_of_edit e) ++ offsets_in path (flat_map places_of_edit rest)
offsets_append path e rest = offsets_both path (places_of_edit e) (flat_map places_of_edit rest)

module _ (look : List ℕ → FileEdit) (own : (p : List ℕ) → (look p).path ≡ p) (path : List ℕ) where
  abbrev kept_edits : List (List ℕ) → List FileEdit
  kept_edits ps = filter has_offsets (map look ps)

  away : (ps : List (List ℕ)) → list_any (bytes_eq path) ps ≡ false → offsets_in path (flat_map places_of_edit (kept_edits ps)) ≡ []
  away ps h = none_there path (kept_edits ps) (fewer look own (bytes_eq path) ps h)

  pub offsets_all : (ps : List (List ℕ)) → Apart ps → list_any (bytes_eq path) ps ≡ true → offsets_in path (flat_map places_of_edit (kept_edits ps)) ≡ (look path).offsets
  offsets_all [] all h = let bad : ⊥ = cc in absurd bad
  offsets_all (p ∷ ps) all h = by (bytes_eq path p) refl h (offsets_all ps all.1)
    where
      head : path ≡ p → (b : Bool) → has_offsets (look p) ≡ b → offsets_in path (flat_map places_of_edit (if b then look p ∷ kept_edits ps else kept_edits ps)) ≡ (look path).offsets
      head same true k =
          offsets_append path (look p) (kept_edits ps)
          ∙ ap (λ l. offsets_in path (places_of_edit (look p)) ++ l) (away ps (ap (λ q. list_any (bytes_eq q) ps) same ∙ all.0))
          ∙ append-nil (offsets_in path (places_of_edit (look p)))
          ∙ ap (λ q. offsets_in q (places_of_edit (look p))) (same ∙ sym (own p)) ∙ own_offsets (look p).path (look p).offsets ∙ ap (λ q. (look q).offsets) (sym same)
      head same false k =
          away ps (ap (λ q. list_any (bytes_eq q) ps) same ∙ all.0) ∙ sym (empty (look p).offsets (let z : nat_lt 0 (length (look p).offsets) ≡ false = k in grind (arith, nat_tests))) ∙ ap (λ q. (look q).offsets) (sym same)
        where
          empty : (os : List ℕ) → length os ≡ 0 → os ≡ []
          empty [] e = refl
          empty (o ∷ os) e = absurd (omega (arith, e))

      tail : bytes_eq path p ≡ false → (b : Bool) → offsets_in path (flat_map places_of_edit (kept_edits ps)) ≡ (look path).offsets → offsets_in path (flat_map places_of_edit (if b then look p ∷ kept_edits ps else kept_edits ps)) ≡ (look path).offsets
      tail apart true more = offsets_append path (look p) (kept_edits ps) ∙ ap (λ l. l ++ offsets_in path (flat_map places_of_edit (kept_edits ps))) (no_offsets path (look p).path (look p).offsets (ap (λ q. bytes_eq q path) (own p) ∙ apart_sym path p apart)) ∙ more
      tail apart false more = more

      by : (b : Bool) → bytes_eq path p ≡ b → (b || list_any (bytes_eq path) ps) ≡ true → (list_any (bytes_eq path) ps ≡ true → offsets_in path (flat_map places_of_edit (kept_edits ps)) ≡ (look path).offsets) → offsets_in path (flat_map places_of_edit (kept_edits (p ∷ ps))) ≡ (look path).offsets
      by true e h more = head ((bytes_eq-Decides path p).0 e) (has_offsets (look p)) refl
      by false e h more = tail e (has_offsets (look p)) (more h)

-- a text in which nothing is renamed keeps its meaning
kept-tokens : (name new : List ℕ) (ts : List Token) → ts ≡ map (renamed_token [] name new) ts
kept-tokens name new [] = refl
kept-tokens name new (t ∷ ts) = ap (λ l. t ∷ l) (kept-tokens name new ts)

still : (text : Lexed) (ds : List (Option Denotation)) (name new : List ℕ) → IsSmallForm text ds → (k : KeepsMeaning text text [] name new) × (k.denotes ≡ ds)
still text ds name new small = (
  record {
    was_whole = small.0;
    is_whole = small.0;
    tokens = kept-tokens name new text.tokens;
    spelled = λ i t h p. let no : false ≡ true = p in let bad : ⊥ = cc in absurd bad;
    tree = small.2.0;
    denotes = ds;
    was_well_formed = small.2.1;
    is_well_formed = small.2.1;
    links = λ i j. (λ h. h, λ h. h);
  },
  refl,
)

abbrev pub or_nothing : Option (List (Option Denotation)) → List (Option Denotation)
or_nothing None = []
or_nothing (Some ds) = ds

-- a file of the small form in which no token is spelled as the new name
pub record ClearFile (meaning : Meaning) (files : Files) (new path : List ℕ) : Type 0 where
  pub bytes : List ℕ
  pub ds : List (Option Denotation)
  pub was : files path ≡ Some bytes
  pub meant : meaning (lexed bytes) ≡ Some ds
  pub small : IsSmallForm (lexed bytes) ds
  pub fresh : has_text new (lexed bytes).tokens ≡ false

clear-file : (meaning : Meaning) (files : Files) (new : List ℕ) (unit : TranslationUnit) → IsMeaning meaning → is_clear meaning files new unit ≡ true → ClearFile meaning files new unit.main
clear-file meaning files new unit is h = of-file (files unit.main) refl (both (is_empty unit.words) (is_clear_file meaning new (files unit.main)) h)
  where
    both : (a b : Bool) → (a && b) ≡ true → b ≡ true
    both true b e = e
    both false b e = let bad : ⊥ = cc in absurd bad

    of-text : (bytes : List ℕ) → files unit.main ≡ Some bytes → (o : Option (List (Option Denotation))) → meaning (lexed bytes) ≡ o → (b : Bool) → has_text new (lexed bytes).tokens ≡ b → (is_some o && not b) ≡ true → ClearFile meaning files new unit.main
    of-text bytes was None m b t e = let bad : ⊥ = cc in absurd bad
    of-text bytes was (Some ds) m true t e = let bad : ⊥ = cc in absurd bad
    of-text bytes was (Some ds) m false t e = record { bytes = bytes; ds = ds; was = was; meant = m; small = subst (Resolves (lexed bytes)) m (is (lexed bytes)); fresh = t }

    of-file : (o : Option (List ℕ)) → files unit.main ≡ o → is_clear_file meaning new o ≡ true → ClearFile meaning files new unit.main
    of-file None was e = let bad : ⊥ = cc in absurd bad
    of-file (Some bytes) was e = of-text bytes was (meaning (lexed bytes)) refl (has_text new (lexed bytes).tokens) refl e

module _ (law : RenamingKeepsMeaning) (moves : KeysMove) (names : NamesItsKey) (meaning : Meaning) (is : IsMeaning meaning) (files : Files) (goal : Goal) (es : List Entry) (target : Target)
    (new_name : is_name goal.new ≡ true) (sbytes : List ℕ) (sdenotes : List (Option Denotation)) (there : files goal.source ≡ Some sbytes) (source_small : IsSmallForm (lexed sbytes) sdenotes) (source_meant : meaning (lexed sbytes) ≡ Some sdenotes)
    (aim : target_at goal.offset (lexed sbytes).tokens sdenotes ≡ Some target) (spelled : refusal_of_spelling meaning files goal (units_in es) target.key ≡ None) where
  abbrev r : Rename
  r = rename_of meaning files goal es target

  abbrev offsets_of : List ℕ → List ℕ
  offsets_of path = offsets_in path (places r)

  abbrev denotes_of : List ℕ → List (Option Denotation)
  denotes_of path = or_nothing (meaning (lexed (contents (files path))))

  -- a key of a file after the rename, by the offsets at which it is renamed
  abbrev moved_in : List ℕ → EntityKey → EntityKey
  moved_in os (by_name n) = by_name (if is_key target.key (external n) then goal.new else n)
  moved_in os (at_place p o) = at_place p (shifted os (length target.name) (length goal.new) o)

  key-in : (path : List ℕ) (key k : Key) → key_in goal.source key path ≡ Some k → key ≡ k
  key-in path (external n) k h = cc
  key-in path (at o) k h = by (bytes_eq goal.source path) h
    where
      by : (b : Bool) → (if b then Some (at o) else None) ≡ Some k → at o ≡ k
      by true e = cc
      by false e = let bad : ⊥ = cc in absurd bad

  -- the target's name is that of its key in each file
  name-of : (path bytes : List ℕ) (ds : List (Option Denotation)) (k : Key) → files path ≡ Some bytes → meaning (lexed bytes) ≡ Some ds → key_in goal.source target.key path ≡ Some k → IsNameOf target.name k (lexed bytes).tokens ds
  name-of path bytes ds k was meant h = by target.key refl h
    where
      by : (key : Key) → target.key ≡ key → key_in goal.source key path ≡ Some k → IsNameOf target.name k (lexed bytes).tokens ds
      by (external n) e g = let same : external n ≡ k = cc in inl (sym same ∙ ap external (names sbytes n sdenotes goal.offset target source_small aim e))
      by (at o) e g = here (bytes_eq goal.source path) refl g
        where
          here : (b : Bool) → bytes_eq goal.source path ≡ b → (if b then Some (at o) else None) ≡ Some k → IsNameOf target.name k (lexed bytes).tokens ds
          here false q f = let bad : ⊥ = cc in absurd bad
          here true q f =
              let paths : goal.source ≡ path = (bytes_eq-Decides goal.source path).0 q in
              let files_same : Some sbytes ≡ Some bytes = sym there ∙ ap files paths ∙ was in
              let bytes_same : sbytes ≡ bytes = cc in
              let denotes_same : Some sdenotes ≡ Some ds = sym source_meant ∙ ap (λ b. meaning (lexed b)) bytes_same ∙ meant in
              let ds_same : sdenotes ≡ ds = cc in
              let keys : at o ≡ k = cc in
              inr (goal.offset, target, ap (λ b. target_at goal.offset (lexed b).tokens ds) (sym bytes_same) ∙ ap (target_at goal.offset (lexed sbytes).tokens) (sym ds_same) ∙ aim, refl, e ∙ keys)

  module _ (path : List ℕ) (c : ClearFile meaning files goal.new path) (met_there : list_any (bytes_eq path) (files_so_far goal.source (units_in es)) ≡ true) where
    abbrev before : List Token
    before = (lexed c.bytes).tokens

    abbrev after : List Token
    after = (lexed (substituted (offsets_of path) (length target.name) goal.new c.bytes)).tokens

    offsets_are : offsets_of path ≡ places_in_text (key_in goal.source target.key path) before (Some c.ds)
    offsets_are =
        offsets_all (edit_at meaning files goal target.key) (λ p. refl) path (files_so_far goal.source (units_in es)) (order_apart (goal.source ∷ mains (units_in es))) met_there
        ∙ ap (places_in_file meaning (key_in goal.source target.key path)) c.was ∙ ap (places_in_text (key_in goal.source target.key path) before) c.meant

    -- the new name can be spelled at each place
    spellable : (k : Key) → key_in goal.source target.key path ≡ Some k → first_unspellable c.bytes goal.new k before c.ds ≡ None
    spellable k e =
        sym (
        ap (unspellable_in_file meaning goal.new (key_in goal.source target.key path)) c.was
        ∙ ap (unspellable_in_text c.bytes goal.new (key_in goal.source target.key path) before) c.meant
        ∙ ap (λ o. unspellable_in_text c.bytes goal.new o before (Some c.ds)) e
        )
        ∙ none-refuses (unspellable_at meaning files goal.source goal.new target.key) (files_so_far goal.source (units_in es)) path spelled met_there

    abbrev KeptAt : List ℕ → Type 0
    KeptAt os = (k : KeepsMeaning (lexed c.bytes) (lexed (substituted os (length target.name) goal.new c.bytes)) os target.name goal.new) × (k.denotes ≡ c.ds)

    kept-by : (o : Option Key) → key_in goal.source target.key path ≡ o → KeptAt (places_in_text o before (Some c.ds))
    kept-by None e = still (lexed c.bytes) c.ds target.name goal.new c.small
    kept-by (Some k) e = law c.bytes target.name goal.new k c.ds c.small (name-of path c.bytes c.ds k c.was c.meant e) new_name c.fresh (spellable k e)

    kept_at : KeptAt (offsets_of path)
    kept_at = subst KeptAt (sym offsets_are) (kept-by (key_in goal.source target.key path) refl)

    is-renamed : renamed_files r files path ≡ Some (substituted (offsets_of path) (length target.name) goal.new c.bytes)
    is-renamed = ap (option_map (substituted (offsets_of path) (length target.name) goal.new)) c.was

    tokens-before : tokens_at files path ≡ before
    tokens-before = ap (λ o. (lexed (contents o)).tokens) c.was

    tokens-after : tokens_at (renamed_files r files) path ≡ after
    tokens-after = ap (λ o. (lexed (contents o)).tokens) is-renamed

    denotes-are : denotes_of path ≡ c.ds
    denotes-are = ap (λ o. or_nothing (meaning (lexed (contents o)))) c.was ∙ ap or_nothing c.meant

    pub file-kept : KeepsFile files r path (denotes_of path)
    file-kept = record { before = c.bytes; after = substituted (offsets_of path) (length target.name) goal.new c.bytes; was = c.was; is = is-renamed; kept = kept_at.0; means = kept_at.1 ∙ sym denotes-are }

    -- the key of what a token denotes afterwards
    moved-text : (o : Option Key) → key_in goal.source target.key path ≡ o → (i : ℕ) (d : Denotation) → slice_get c.ds i ≡ Some (Some d)
        → option_map (entity_key path) (key_of (lexed (substituted (places_in_text o before (Some c.ds)) (length target.name) goal.new c.bytes)).tokens d) ≡ option_map (moved_in (places_in_text o before (Some c.ds))) (option_map (entity_key path) (key_of before d))
    moved-text None e i d h = by (key_of before d)
      where
        unkeyed : (key : Key) → key_in goal.source key path ≡ None → (n : List ℕ) → is_key key (external n) ≡ false
        unkeyed (external m) f n = let bad : ⊥ = cc in absurd bad
        unkeyed (at o) f n = refl

        by : (k : Option Key) → option_map (entity_key path) k ≡ option_map (moved_in []) (option_map (entity_key path) k)
        by None = refl
        by (Some (external n)) = sym (ap (λ b. Some (by_name (if b then goal.new else n))) (unkeyed target.key e n))
        by (Some (at o)) = refl
    moved-text (Some k) e i d h =
        ap (option_map (entity_key path)) (moves c.bytes target.name goal.new k c.ds c.small (name-of path c.bytes c.ds k c.was c.meant e) new_name c.fresh (spellable k e) i d h)
        ∙ by (key_of before d)
      where
        by : (x : Option Key) → option_map (entity_key path) (option_map (moved_key k (places_of k before c.ds) target.name goal.new) x) ≡ option_map (moved_in (places_of k before c.ds)) (option_map (entity_key path) x)
        by None = refl
        by (Some (external n)) = named_so (is_key k (external n)) ∙ ap (λ q. Some (by_name (if is_key q (external n) then goal.new else n))) (sym (key-in path target.key k e))
          where
            named_so : (b : Bool) → Some (entity_key path (if b then external goal.new else external n)) ≡ Some (by_name (if b then goal.new else n))
            named_so true = refl
            named_so false = refl
        by (Some (at o)) = refl

    pub keyed-after : (i : ℕ) (d : Denotation) → slice_get (denotes_of path) i ≡ Some (Some d) → option_map (entity_key path) (key_of (tokens_at (renamed_files r files) path) d) ≡ option_map (moved_in (offsets_of path)) (option_map (entity_key path) (key_of (tokens_at files path) d))
    keyed-after i d h =
        ap (λ ts. option_map (entity_key path) (key_of ts d)) tokens-after
        ∙ subst (λ os. option_map (entity_key path) (key_of (lexed (substituted os (length target.name) goal.new c.bytes)).tokens d) ≡ option_map (moved_in os) (option_map (entity_key path) (key_of before d))) (sym offsets_are)
        (moved-text (key_in goal.source target.key path) refl i d (ap (λ l. slice_get l i) (sym denotes-are) ∙ h))
        ∙ sym (ap (λ ts. option_map (moved_in (offsets_of path)) (option_map (entity_key path) (key_of ts d))) tokens-before)

    -- the key before, of one that a token has afterwards
    key-back : (i : ℕ) (d : Denotation) (key : EntityKey) → slice_get (denotes_of path) i ≡ Some (Some d) → option_map (entity_key path) (key_of (tokens_at (renamed_files r files) path) d) ≡ Some key
        → (old : EntityKey) × (option_map (entity_key path) (key_of (tokens_at files path) d) ≡ Some old) × (moved_in (offsets_of path) old ≡ key)
    key-back i d key h k = by (option_map (entity_key path) (key_of (tokens_at files path) d)) refl (sym (keyed-after i d h) ∙ k)
      where
        by : (x : Option EntityKey) → option_map (entity_key path) (key_of (tokens_at files path) d) ≡ x → option_map (moved_in (offsets_of path)) x ≡ Some key → (old : EntityKey) × (option_map (entity_key path) (key_of (tokens_at files path) d) ≡ Some old) × (moved_in (offsets_of path) old ≡ key)
        by None e f = let bad : ⊥ = cc in absurd bad
        by (Some old) e f = (old, e, cc)

    -- no name of external linkage is the new name yet
    not-new : (d : Denotation) (n : List ℕ) → option_map (entity_key path) (key_of (tokens_at files path) d) ≡ Some (by_name n) → bytes_eq n goal.new ≡ false
    not-new d n h = by (slice_get before d.token) refl (ap (λ ts. option_map (entity_key path) (key_of ts d)) (sym tokens-before) ∙ h)
      where
        fresh-get : (ts : List Token) (i : ℕ) (t : Token) → has_text goal.new ts ≡ false → slice_get ts i ≡ Some t → bytes_eq t.text goal.new ≡ false
        fresh-get [] i t f g = let bad : ⊥ = cc in absurd bad
        fresh-get (x ∷ ts) zero t f g = let same : x ≡ t = cc in ap (λ (z : Token). bytes_eq z.text goal.new) (sym same) ∙ or_false_left (bytes_eq x.text goal.new) (has_text goal.new ts) f
        fresh-get (x ∷ ts) (suc i) t f g = fresh-get ts i t (or_false_right (bytes_eq x.text goal.new) (has_text goal.new ts) f) g

        linked : (b : Bool) (t : Token) → slice_get before d.token ≡ Some t → Some (entity_key path (key_of_token b t)) ≡ Some (by_name n) → bytes_eq n goal.new ≡ false
        linked true t g k = let same : t.text ≡ n = cc in ap (λ z. bytes_eq z goal.new) (sym same) ∙ fresh-get before d.token t c.fresh g
        linked false t g k = let bad : ⊥ = cc in absurd bad

        by : (o : Option Token) → slice_get before d.token ≡ o → option_map (entity_key path) (key_of before d) ≡ Some (by_name n) → bytes_eq n goal.new ≡ false
        by None g k = let bad : None ≡ Some (by_name n) = sym (ap (λ x. option_map (entity_key path) (option_map (key_of_token (has_external_linkage d)) x)) g) ∙ k in let no : ⊥ = cc in absurd no
        by (Some t) g k = linked (has_external_linkage d) t g (sym (ap (λ x. option_map (entity_key path) (option_map (key_of_token (has_external_linkage d)) x)) g) ∙ k)

  place-path : (path other : List ℕ) (o : ℕ) (x : Option Key) → option_map (entity_key path) x ≡ Some (at_place other o) → other ≡ path
  place-path path other o None h = let bad : ⊥ = cc in absurd bad
  place-path path other o (Some (external n)) h = let bad : ⊥ = cc in absurd bad
  place-path path other o (Some (at p)) h = cc

  module _ (p q : List ℕ) (one : ClearFile meaning files goal.new p) (two : ClearFile meaning files goal.new q)
      (met_one : list_any (bytes_eq p) (files_so_far goal.source (units_in es)) ≡ true) (met_two : list_any (bytes_eq q) (files_so_far goal.source (units_in es)) ≡ true) (i j : ℕ) where
    links-on : AreLinkedOver files denotes_of p i q j → AreLinkedOver (renamed_files r files) denotes_of p i q j
    links-on (by_name n, (d, hd, kd), (e, he, ke)) = (
      by_name (if is_key target.key (external n) then goal.new else n),
      (d, hd, keyed-after p one met_one i d hd ∙ ap (option_map (moved_in (offsets_of p))) kd),
      (e, he, keyed-after q two met_two j e he ∙ ap (option_map (moved_in (offsets_of q))) ke),
    )
    links-on (at_place other o, (d, hd, kd), (e, he, ke)) =
        let same : q ≡ p = sym (place-path q other o (key_of (tokens_at files q) e) ke) ∙ place-path p other o (key_of (tokens_at files p) d) kd in (
          at_place other (shifted (offsets_of p) (length target.name) (length goal.new) o),
          (d, hd, keyed-after p one met_one i d hd ∙ ap (option_map (moved_in (offsets_of p))) kd),
          (e, he, keyed-after q two met_two j e he ∙ ap (option_map (moved_in (offsets_of q))) ke ∙ ap (λ x. Some (at_place other (shifted (offsets_of x) (length target.name) (length goal.new) o))) same),
        )

    -- two names that are one afterwards were one
    names-back : (n m : List ℕ) → bytes_eq n goal.new ≡ false → bytes_eq m goal.new ≡ false → (if is_key target.key (external n) then goal.new else n) ≡ (if is_key target.key (external m) then goal.new else m) → n ≡ m
    names-back n m fresh_n fresh_m h = by (is_key target.key (external n)) refl (is_key target.key (external m)) refl h
      where
        name-is : (key : Key) (x : List ℕ) → is_key key (external x) ≡ true → key ≡ external x
        name-is (external y) x k = ap external ((bytes_eq-Decides y x).0 k)
        name-is (at o) x k = let bad : ⊥ = cc in absurd bad

        by : (a : Bool) → is_key target.key (external n) ≡ a → (b : Bool) → is_key target.key (external m) ≡ b → (if a then goal.new else n) ≡ (if b then goal.new else m) → n ≡ m
        by true x true y g = let same : external n ≡ external m = sym (name-is target.key n x) ∙ name-is target.key m y in cc
        by true x false y g = let no : true ≡ false = sym (eq_self goal.new) ∙ ap (λ z. bytes_eq z goal.new) g ∙ fresh_m in let bad : ⊥ = cc in absurd bad
        by false x true y g = let no : true ≡ false = sym (eq_self goal.new) ∙ ap (λ z. bytes_eq z goal.new) (sym g) ∙ fresh_n in let bad : ⊥ = cc in absurd bad
        by false x false y g = g

    -- the key within a file
    inner : (path : List ℕ) (x : Option Key) (key : EntityKey) → option_map (entity_key path) x ≡ Some key → (k : Key) × (x ≡ Some k) × (entity_key path k ≡ key)
    inner path None key h = let bad : ⊥ = cc in absurd bad
    inner path (Some k) key h = (k, refl, cc)

    same-inner : (path : List ℕ) (a b : Key) → entity_key path a ≡ entity_key path b → a ≡ b
    same-inner path (external n) (external m) h = cc
    same-inner path (external n) (at o) h = let bad : ⊥ = cc in absurd bad
    same-inner path (at o) (external n) h = let bad : ⊥ = cc in absurd bad
    same-inner path (at o) (at u) h = cc

    -- in one file the links are those of the text
    links-within : q ≡ p → AreLinkedOver (renamed_files r files) denotes_of p i q j → AreLinkedOver files denotes_of p i q j
    unfolding file-kept
    links-within same (key, (d, hd, kd), (e, he, ke)) =
        let he' : slice_get (denotes_of p) j ≡ Some (Some e) = ap (λ x. slice_get (denotes_of x) j) (sym same) ∙ he in
        let ke' : option_map (entity_key p) (key_of (tokens_at (renamed_files r files) p) e) ≡ Some key = ap (λ x. option_map (entity_key x) (key_of (tokens_at (renamed_files r files) x) e)) (sym same) ∙ ke in
        let a = inner p (key_of (tokens_at (renamed_files r files) p) d) key kd in
        let b = inner p (key_of (tokens_at (renamed_files r files) p) e) key ke' in
        let keys : a.0 ≡ b.0 = same-inner p a.0 b.0 (a.2 ∙ sym b.2) in
        let means = file-kept p one met_one in
        let linked = (means.kept.links i j).1 (d, e, ap (λ l. slice_get l i) means.means ∙ hd, ap (λ l. slice_get l j) means.means ∙ he', a.0, sym (ap (λ ts. key_of ts d) (tokens-after p one met_one)) ∙ a.1, sym (ap (λ ts. key_of ts e) (tokens-after p one met_one)) ∙ b.1 ∙ ap (λ k. Some k) (sym keys)) in
        back linked means.means hd he'
      where
        some-same : (x y : Denotation) (l : List (Option Denotation)) (n : ℕ) → slice_get l n ≡ Some (Some x) → slice_get l n ≡ Some (Some y) → x ≡ y
        some-same x y l n h k = let s : Some (Some x) ≡ Some (Some y) = sym h ∙ k in cc

        back : AreLinked (lexed one.bytes).tokens (file-kept p one met_one).kept.denotes i j → (file-kept p one met_one).kept.denotes ≡ denotes_of p → slice_get (denotes_of p) i ≡ Some (Some d) → slice_get (denotes_of p) j ≡ Some (Some e) → AreLinkedOver files denotes_of p i q j
        back (x, y, hx, hy, k, kx, ky) means hd he' = (
          entity_key p k,
          (x, ap (λ l. slice_get l i) (sym means) ∙ hx, ap (λ ts. option_map (entity_key p) (key_of ts x)) (tokens-before p one met_one) ∙ ap (option_map (entity_key p)) kx),
          (y, ap (λ z. slice_get (denotes_of z) j) same ∙ ap (λ l. slice_get l j) (sym means) ∙ hy, ap (λ z. option_map (entity_key z) (key_of (tokens_at files z) y)) same ∙ ap (λ ts. option_map (entity_key p) (key_of ts y)) (tokens-before p one met_one) ∙ ap (option_map (entity_key p)) ky),
        )

    links-apart : (q ≡ p → ⊥) → AreLinkedOver (renamed_files r files) denotes_of p i q j → AreLinkedOver files denotes_of p i q j
    links-apart apart (key, (d, hd, kd), (e, he, ke)) = by a.0 b.0 a.1 b.1 (a.2 ∙ sym b.2)
      where
        a : (old : EntityKey) × (option_map (entity_key p) (key_of (tokens_at files p) d) ≡ Some old) × (moved_in (offsets_of p) old ≡ key)
        a = key-back p one met_one i d key hd kd

        b : (old : EntityKey) × (option_map (entity_key q) (key_of (tokens_at files q) e) ≡ Some old) × (moved_in (offsets_of q) old ≡ key)
        b = key-back q two met_two j e key he ke

        by : (x y : EntityKey) → option_map (entity_key p) (key_of (tokens_at files p) d) ≡ Some x → option_map (entity_key q) (key_of (tokens_at files q) e) ≡ Some y → moved_in (offsets_of p) x ≡ moved_in (offsets_of q) y → AreLinkedOver files denotes_of p i q j
        by (by_name n) (by_name m) kx ky g =
            let moved_names : (if is_key target.key (external n) then goal.new else n) ≡ (if is_key target.key (external m) then goal.new else m) = cc in
            let same = names-back n m (not-new p one met_one d n kx) (not-new q two met_two e m ky) moved_names in
            (by_name n, (d, hd, kx), (e, he, ky ∙ ap (λ z. Some (by_name z)) (sym same)))
        by (by_name n) (at_place other o) kx ky g = let bad : ⊥ = cc in absurd bad
        by (at_place other o) (by_name n) kx ky g = let bad : ⊥ = cc in absurd bad
        by (at_place x o) (at_place y u) kx ky g =
            let paths : x ≡ y = cc in
            absurd (apart (sym (place-path q y u (key_of (tokens_at files q) e) ky) ∙ sym paths ∙ place-path p x o (key_of (tokens_at files p) d) kx))

    pub links-same : AreLinkedOver files denotes_of p i q j ↔ AreLinkedOver (renamed_files r files) denotes_of p i q j
    links-same = (links-on, by (bytes_eq q p) refl)
      where
        by : (b : Bool) → bytes_eq q p ≡ b → AreLinkedOver (renamed_files r files) denotes_of p i q j → AreLinkedOver files denotes_of p i q j
        by true e = links-within ((bytes_eq-Decides q p).0 e)
        by false e = links-apart (λ same. let no : true ≡ false = sym ((bytes_eq-Decides q p).1 same) ∙ e in let bad : ⊥ = cc in bad)

in_mains : (units : List TranslationUnit) (i : ℕ) (u : TranslationUnit) → slice_get units i ≡ Some u → list_any (bytes_eq u.main) (mains units) ≡ true
in_mains units i u h = main_of units i u h

module _ (law : RenamingKeepsMeaning) (moves : KeysMove) (names : NamesItsKey) (meaning : Meaning) (is : IsMeaning meaning) (words : List (List ℕ)) (files : Files) where
  -- what a name that may be renamed decides
  abbrev found_decides : Goal → List Entry → Target → Result Rename Refused
  found_decides goal es found = or_refused (refusal_of_spelling meaning files goal (units_in es) found.key) >>= (λ spelled. Ok (rename_of meaning files goal es found))

  units-keep : (goal : Goal) (es : List Entry) (target : Target) (sbytes : List ℕ) (sdenotes : List (Option Denotation)) → goal_of words ≡ Ok goal → files goal.source ≡ Some sbytes → meaning (lexed sbytes) ≡ Some sdenotes
      → target_at goal.offset (lexed sbytes).tokens sdenotes ≡ Some target → refusal_of_units meaning files goal.source goal.new (units_in es) ≡ None → refusal_of_spelling meaning files goal (units_in es) target.key ≡ None → KeepsUnits files (rename_of meaning files goal es target) (units_in es)
  units-keep goal es target sbytes sdenotes named there meant aim none spelled = record {
    denotes = λ path. or_nothing (meaning (lexed (contents (files path))));
    kept = λ unit among. file-kept law moves names meaning is files goal es target new_name sbytes sdenotes there small meant aim spelled unit.main (clear unit among) (come unit among);
    links = λ one other here too i j. links-same law moves names meaning is files goal es target new_name sbytes sdenotes there small meant aim spelled one.main other.main (clear one here) (clear other too) (come one here) (come other too) i j;
  }
    where
      new_name : is_name goal.new ≡ true
      new_name = goal_named words goal named

      small : IsSmallForm (lexed sbytes) sdenotes
      small = subst (Resolves (lexed sbytes)) meant (is (lexed sbytes))

      here : (unit : TranslationUnit) (k : ℕ) → k < length (units_in es) → get_or (units_in es) k unit ≡ unit → slice_get (units_in es) k ≡ Some unit
      here unit k l e = slice_get_read (units_in es) (length (units_in es)) k unit refl l (sym e)

      clear : (unit : TranslationUnit) → Contains (units_in es) unit → ClearFile meaning files goal.new unit.main
      clear unit (k, l, e) = clear-file meaning files goal.new unit is (all_clear meaning files goal.source goal.new (units_in es) k unit none (here unit k l e) l)

      come : (unit : TranslationUnit) → Contains (units_in es) unit → list_any (bytes_eq unit.main) (files_so_far goal.source (units_in es)) ≡ true
      come unit (k, l, e) = met goal.source (units_in es) unit.main (in_mains (units_in es) k unit (here unit k l e))

  of_refusal : (goal : Goal) (es : List Entry) (r : Rename) (target : Option Target) (sbytes : List ℕ) (sdenotes : List (Option Denotation)) → goal_of words ≡ Ok goal → entries_of files goal ≡ Ok es → files goal.source ≡ Some sbytes → meaning (lexed sbytes) ≡ Some sdenotes
      → target_at goal.offset (lexed sbytes).tokens sdenotes ≡ target → (o : Option Refused) → refusal_of_units meaning files goal.source goal.new (units_in es) ≡ o
      → Ok r ≡ (or_refused o >>= (λ surveyed. renamable goal (units_in es) target >>= found_decides goal es)) → Keeps words files r
  of_refusal goal es r target sbytes sdenotes named entries there meant aim (Some x) k e = let bad : ⊥ = cc in absurd bad
  of_refusal goal es r None sbytes sdenotes named entries there meant aim None k e = let bad : ⊥ = cc in absurd bad
  of_refusal goal es r (Some t) sbytes sdenotes named entries there meant aim None k e = by (is_main_source goal (units_in es)) (begins_with_underscore goal.new && t.at_file_scope) e
    where
      places : (o : Option Refused) → refusal_of_spelling meaning files goal (units_in es) t.key ≡ o → Ok r ≡ (or_refused o >>= (λ spelled. Ok (rename_of meaning files goal es t))) → Keeps words files r
      places (Some x) s f = let bad : ⊥ = cc in absurd bad
      places None s f =
          let same : r ≡ rename_of meaning files goal es t = cc in
          (goal, named, es, entries, subst (λ x. KeepsUnits files x (units_in es)) (sym same) (units-keep goal es t sbytes sdenotes named there meant aim k s))

      by : (a b : Bool) → Ok r ≡ ((if a then (if b then reserved goal.new else Ok t) else refused 6 (codes "no symbol")) >>= found_decides goal es) → Keeps words files r
      by false b f = let bad : ⊥ = cc in absurd bad
      by true true f = let bad : ⊥ = cc in absurd bad
      by true false f = places (refusal_of_spelling meaning files goal (units_in es) t.key) refl f

  of_aim : (goal : Goal) (es : List Entry) (r : Rename) (sbytes : List ℕ) (sdenotes : List (Option Denotation)) → goal_of words ≡ Ok goal → entries_of files goal ≡ Ok es → files goal.source ≡ Some sbytes → meaning (lexed sbytes) ≡ Some sdenotes
      → (target : Option Target) → target_at goal.offset (lexed sbytes).tokens sdenotes ≡ target → Ok r ≡ (may_rename goal target >>= of_target meaning files goal es) → Keeps words files r
  of_aim goal es r sbytes sdenotes named entries there meant None aim e = of_refusal goal es r None sbytes sdenotes named entries there meant aim (refusal_of_units meaning files goal.source goal.new (units_in es)) refl e
  of_aim goal es r sbytes sdenotes named entries there meant (Some t) aim e = by (bytes_eq t.name goal.new) (bytes_eq t.name (codes "main")) e
    where
      by : (a b : Bool) → Ok r ≡ ((if a then reserved goal.new else if b then reserved (codes "main") else Ok (Some t)) >>= of_target meaning files goal es) → Keeps words files r
      by true b f = let bad : ⊥ = cc in absurd bad
      by false true f = let bad : ⊥ = cc in absurd bad
      by false false f = of_refusal goal es r (Some t) sbytes sdenotes named entries there meant aim (refusal_of_units meaning files goal.source goal.new (units_in es)) refl f

  of_found : (goal : Goal) (es : List Entry) (r : Rename) → goal_of words ≡ Ok goal → entries_of files goal ≡ Ok es → (o : Option (List ℕ)) → files goal.source ≡ o → Ok r ≡ of_source meaning files goal es o → Keeps words files r
  of_found goal es r named entries None there e = by (refusal_of_units meaning files goal.source goal.new (units_in es)) e
    where
      by : (o : Option Refused) → Ok r ≡ (or_refused o >>= (λ surveyed. renamable goal (units_in es) None >>= found_decides goal es)) → Keeps words files r
      by None f = let bad : ⊥ = cc in absurd bad
      by (Some x) f = let bad : ⊥ = cc in absurd bad
  of_found goal es r named entries (Some bytes) there e = by (is_too_long (length bytes)) e
    where
      text : (o : Option (List (Option Denotation))) → meaning (lexed bytes) ≡ o → Ok r ≡ of_meaning meaning files goal es (lexed bytes).tokens o → Keeps words files r
      text None m f = let bad : ⊥ = cc in absurd bad
      text (Some ds) m f = of_aim goal es r bytes ds named entries there m (target_at goal.offset (lexed bytes).tokens ds) refl f

      by : (b : Bool) → Ok r ≡ (if b then refused 19 (codes "limit: files") else of_text meaning files goal es (lexed bytes)) → Keeps words files r
      by true f = let bad : ⊥ = cc in absurd bad
      by false f = text (meaning (lexed bytes)) refl f

  of_listed : (goal : Goal) (r : Rename) → goal_of words ≡ Ok goal → (o : Result (List Entry) Refused) → entries_of files goal ≡ o → Ok r ≡ (o >>= of_entries meaning files goal) → Keeps words files r
  of_listed goal r named (Err x) entries e = let bad : ⊥ = cc in absurd bad
  of_listed goal r named (Ok es) entries e = of_found goal es r named entries (files goal.source) refl e

  of_words : (r : Rename) (o : Result Goal Refused) → goal_of words ≡ o → Ok r ≡ (o >>= of_goal meaning files) → Keeps words files r
  of_words r (Err x) named e = let bad : ⊥ = cc in absurd bad
  of_words r (Ok goal) named e = of_listed goal r named (entries_of files goal) refl e

pub accepted-keeps : RenamingKeepsMeaning → KeysMove → NamesItsKey → AcceptedKeeps
unfolding outcome
accepted-keeps law moves names words files r (meaning, is, e) = of_words law moves names meaning is words files r (goal_of words) refl e
