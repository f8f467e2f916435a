-- Known files are those of the tree, whatever is made known.
use Rattle.std.proofs.Common.{◌≡◌, ℕ, suc, ◌+◌, Bool, true, false, List, [], ◌∷◌, ◌++◌, length, drop, Option, Some, None, refl, sym, ap, ◌∙◌, subst, arith}
use Rattle.std.specs.Prelude.{bytes_eq, if◌then◌else◌, Ok, Result, ◌||◌, not, ◌&&◌, nat_le, nat_eq}
use Rattle.std.specs.Option.{option_and_then}
use Rattle.std.specs.List.{starts_with}
use Rattle.std.proofs.lemmas.Slice.Eq.{bytes_eq-Decides}
use Rattle.cr_base.specs.Names.{is_identifier}
use Rattle.cr_base.specs.declared.token.Place.{Place}
use Rattle.cr_base.specs.declared.unit.Unit.{Unit as TranslationUnit}
use Rattle.cr_world.specs.Outside.{Files}
use Rattle.cr_snapshot.specs.Files.{Finding, Present, Absent, Unknown, finding, finding_from, told, is_over, built_ins}
use Rattle.cr_snapshot.specs.IncludeSearch.{is_apart}
use Rattle.cr_snapshot.specs.declared.known.KnownFile.{KnownFile}
use Rattle.cr_phase4.specs.Search.{words_path}
use Rattle.cr_facts.specs.FactOrder.{Facts}
use Rattle.cr_growth.specs.Growth.{file_at, with_file, with_path, is_there, unless_there, with_wanted, wanted, after_units, IsGrown, settles, passes, grows}
use Rattle.cr_class.specs.ShownOrder.{path_of}
use Rattle.cr_class.specs.Verdict.{present_bytes, bytes_of, is_unwritable_path, is_inside, is_unspellable_at, stands_at}
use Rattle.cr_class.specs.declared.target.Target.{Target}
use Rattle.cr_lex.specs.Renaming.{is_before_quote}
use Rattle.cr_lex.specs.Joins.{rest}
use Rattle.cr_goal.specs.Goals.{Sought}
use Rattle.cr_goal.specs.declared.refusal.Refused.{Refused}
use Rattle.cr_survey.specs.Batches.{words_file, unless_known, with_words, knows_by, Knows, Surveyed, Tell, IsBatch, AreSurveyed}
use Rattle.cr_survey.specs.Batches.Tell.{none, tells, refuses}
use Rattle.cr_survey.specs.Batches.IsBatch.{over, ends}
use Rattle.cr_survey.specs.Batches.AreSurveyed.{done, stops, goes_on}
use Rattle.cr_plan.specs.Judgement.{IsJudged, named, no_name, nothing, refuses as is_refused, accepts}
use Rattle.cr_plan.specs.declared.meaning.Meant.{Meant}
use Rattle.cr_plan.specs.Meant.{first_wanted, known_first}
use Rattle.cr_plan.specs.Making.{IsOfTree, AreOfTree, AreThere}

module _ (tree : Files) where
  of_both : (files more : List KnownFile) → AreOfTree tree files → AreOfTree tree more → AreOfTree tree (files ++ more)
  of_both [] more a b = b
  of_both (f ∷ files) more a b = (a.0, of_both files more a.1 b)

  of_file : (file : KnownFile) (files more : List KnownFile) → with_file file files ≡ Some more → IsOfTree tree file → AreOfTree tree files → AreOfTree tree more
  of_file file files more e own all = by (is_over files file) e
    where
      by : (b : Bool) → (if b then None else Some (files ++ file ∷ [])) ≡ Some more → AreOfTree tree more
      by true h = let no : None ≡ Some more = h in let bad : ⊥ = cc in absurd bad
      by false h = let same : files ++ file ∷ [] ≡ more = cc in subst (AreOfTree tree) same (of_both files (file ∷ []) all (own, tt))

  same_list : (files more : List KnownFile) → Some files ≡ Some more → AreOfTree tree files → AreOfTree tree more
  same_list files more e all = let same : files ≡ more = cc in subst (AreOfTree tree) same all

  of_path : (path : List ℕ) (files more : List KnownFile) (f : Finding) → with_path tree path files f ≡ Some more → AreOfTree tree files → AreOfTree tree more
  of_path path files more (Present n bytes) e all = same_list files more e all
  of_path path files more Absent e all = same_list files more e all
  of_path path files more Unknown e all = by (is_apart path) e
    where
      by : (b : Bool) → (if b then Some files else with_file (file_at tree path) files) ≡ Some more → AreOfTree tree more
      by true h = same_list files more h all
      by false h = of_file (file_at tree path) files more h (λ plain. refl) all

  of_wanted : (paths : List (List ℕ)) (files more : List KnownFile) → with_wanted tree paths files ≡ Some more → AreOfTree tree files → AreOfTree tree more
  of_wanted [] files more e all = same_list files more e all
  of_wanted (path ∷ paths) files more e all = by (λ mid. of_wanted paths mid more) (with_path tree path files (finding path files)) refl e
    where
      on : ((mid : List KnownFile) → with_wanted tree paths mid ≡ Some more → AreOfTree tree mid → AreOfTree tree more) → (mid : List KnownFile) (b : Bool) → (if b then Some mid else with_wanted tree paths mid) ≡ Some more → AreOfTree tree mid → AreOfTree tree more
      on later mid true h held = same_list mid more h held
      on later mid false h held = later mid h held

      by : ((mid : List KnownFile) → with_wanted tree paths mid ≡ Some more → AreOfTree tree mid → AreOfTree tree more) → (o : Option (List KnownFile)) → with_path tree path files (finding path files) ≡ o → option_and_then (unless_there path (with_wanted tree paths)) o ≡ Some more → AreOfTree tree more
      by later None w h = let no : None ≡ Some more = h in let bad : ⊥ = cc in absurd bad
      by later (Some mid) w h = on later mid (is_there (finding path mid)) h (of_path path files mid (finding path files) w all)

  of_units : (wave : List KnownFile) (units : List TranslationUnit) (files more : List KnownFile) → after_units tree wave units files ≡ Some more → AreOfTree tree files → AreOfTree tree more
  of_units wave [] files more e all = same_list files more e all
  of_units wave (u ∷ us) files more e all = by (λ mid. of_units wave us mid more) (with_wanted tree (wanted wave u) files) refl e
    where
      by : ((mid : List KnownFile) → after_units tree wave us mid ≡ Some more → AreOfTree tree mid → AreOfTree tree more) → (o : Option (List KnownFile)) → with_wanted tree (wanted wave u) files ≡ o → option_and_then (after_units tree wave us) o ≡ Some more → AreOfTree tree more
      by later None w h = let no : None ≡ Some more = h in let bad : ⊥ = cc in absurd bad
      by later (Some mid) w h = later mid h (of_wanted (wanted wave u) files mid w all)

  of_growth : (units : List TranslationUnit) (files : List KnownFile) (end : Option (List KnownFile)) (more : List KnownFile) → IsGrown tree units files end → end ≡ Some more → AreOfTree tree files → AreOfTree tree more
  of_growth units files end more (settles s) e all = same_list files more e all
  of_growth units files end more (passes s w) e all = let no : None ≡ Some more = e in let bad : ⊥ = cc in absurd bad
  of_growth units files end more (grows {more = mid} s w g) e all = of_growth units mid end more g e (of_units files units files mid w all)

  -- the path of the text of command words stands beside all files
  words_apart : (u : TranslationUnit) → is_apart (words_path u) ≡ true
  words_apart u = refl

  words_of_tree : (u : TranslationUnit) → IsOfTree tree (words_file u)
  words_of_tree u plain = let bad : ⊥ = let no : true ≡ false = sym (words_apart u) ∙ plain in cc in absurd bad

  of_words : (us : List TranslationUnit) (files more : List KnownFile) → with_words us files ≡ Some more → AreOfTree tree files → AreOfTree tree more
  of_words [] files more e all = same_list files more e all
  of_words (u ∷ us) files more e all = by (λ mid. of_words us mid more) (finding (words_path u) files) e
    where
      on : ((mid : List KnownFile) → with_words us mid ≡ Some more → AreOfTree tree mid → AreOfTree tree more) → (o : Option (List KnownFile)) → ((mid : List KnownFile) → o ≡ Some mid → AreOfTree tree mid) → option_and_then (with_words us) o ≡ Some more → AreOfTree tree more
      on later None held h = let no : None ≡ Some more = h in let bad : ⊥ = cc in absurd bad
      on later (Some mid) held h = later mid h (held mid refl)

      by : ((mid : List KnownFile) → with_words us mid ≡ Some more → AreOfTree tree mid → AreOfTree tree more) → (f : Finding) → option_and_then (with_words us) (unless_known (words_file u) files f) ≡ Some more → AreOfTree tree more
      by later (Present n bytes) h = later files h all
      by later Absent h = later files h all
      by later Unknown h = on later (with_file (words_file u) files) (λ mid w. of_file (words_file u) files mid w (words_of_tree u) all) h

  of_knows : (batch : List TranslationUnit) (files more : List KnownFile) → Knows tree batch files (Some more) → AreOfTree tree files → AreOfTree tree more
  of_knows batch files more k all = by (with_words batch files) refl k
    where
      by : (o : Option (List KnownFile)) → with_words batch files ≡ o → knows_by tree batch o (Some more) → AreOfTree tree more
      by None w h = let no : Some more ≡ None = h in let bad : ⊥ = cc in absurd bad
      by (Some mid) w h = of_growth batch mid (Some more) more h refl (of_words batch files mid w all)

  module _ (old new : List ℕ) where
    tell_files : (files : List KnownFile) (us : List TranslationUnit) (facts : Facts) (end : Result Surveyed Refused) (s : Surveyed) → Tell old new files us facts end → end ≡ Ok s → s.files ≡ files
    tell_files files us facts end s none e = let same : (record { files = files; facts = facts }) ≡ s = cc in sym (ap (λ (z : Surveyed). z.files) same)
    tell_files files us facts end s (tells i t) e = tell_files files _ _ end s t e
    tell_files files us facts end s (refuses i) e = let bad : ⊥ = cc in absurd bad

    of_batch : (batch : List TranslationUnit) (files : List KnownFile) (facts : Facts) (end : Result Surveyed Refused) (s : Surveyed) → IsBatch old new tree batch files facts end → end ≡ Ok s → AreOfTree tree files → AreOfTree tree s.files
    of_batch batch files facts end s (over k) e all = let bad : ⊥ = cc in absurd bad
    of_batch batch files facts end s (ends {more = more} k t) e all = subst (AreOfTree tree) (sym (tell_files more batch facts end s t e)) (of_knows batch files more k all)

    pub of_survey : (us : List TranslationUnit) (files : List KnownFile) (facts : Facts) (end : Result Surveyed Refused) (s : Surveyed) → AreSurveyed old new tree us files facts end → end ≡ Ok s → AreOfTree tree files → AreOfTree tree s.files
    of_survey us files facts end s done e all = let same : (record { files = files; facts = facts }) ≡ s = cc in subst (λ (z : Surveyed). AreOfTree tree z.files) same all
    of_survey us files facts end s (stops b) e all = let bad : ⊥ = cc in absurd bad
    of_survey us files facts end s (goes_on {s = mid} b m) e all = of_survey _ mid.files mid.facts end s m e (of_batch _ files facts (Ok mid) mid b refl all)

  pub of_first : (sought : Sought) (files : List KnownFile) → known_first tree sought ≡ Some files → AreOfTree tree built_ins → AreOfTree tree files
  of_first sought files e all = of_wanted (first_wanted sought) built_ins files e all

  -- what is known of a path that stands not beside all files is what stands there
  found_from : (n : ℕ) (path : List ℕ) (files : List KnownFile) (m : ℕ) (bytes : List ℕ) → AreOfTree tree files → is_apart path ≡ false → finding_from n path files ≡ Present m bytes → tree path ≡ Some bytes
  found_from n path [] m bytes all plain h = let bad : ⊥ = cc in absurd bad
  found_from n path (f ∷ files) m bytes all plain h = by (bytes_eq path f.path) refl h (found_from (n + 1) path files m bytes all.1 plain)
    where
      told_bytes : (o : Option (List ℕ)) → told n o ≡ Present m bytes → o ≡ Some bytes
      told_bytes None g = let bad : ⊥ = cc in absurd bad
      told_bytes (Some xs) g = let same : xs ≡ bytes = cc in ap (λ x. Some x) same

      by : (b : Bool) → bytes_eq path f.path ≡ b → (if b then told n f.found else finding_from (n + 1) path files) ≡ Present m bytes → (finding_from (n + 1) path files ≡ Present m bytes → tree path ≡ Some bytes) → tree path ≡ Some bytes
      by true e g more =
          let same = (bytes_eq-Decides path f.path).0 e in
          ap tree same ∙ sym (all.0 (ap is_apart (sym same) ∙ plain)) ∙ told_bytes f.found g
      by false e g more = more g

  -- a path at which bytes stand
  there_of : (path : List ℕ) (files : List KnownFile) (f : Finding) → finding path files ≡ f → AreOfTree tree files → is_apart path ≡ false → (present_bytes f ≡ [] → ⊥) → tree path ≡ Some (present_bytes f)
  there_of path files (Present n bytes) e all plain some = found_from 0 path files n bytes all plain e
  there_of path files Absent e all plain some = absurd (some refl)
  there_of path files Unknown e all plain some = absurd (some refl)

-- a file in which an edit is made stands not beside all files
plain_of : (root : Option (List ℕ)) (path : List ℕ) → is_unwritable_path root path ≡ false → is_apart path ≡ false
plain_of None path h = h
plain_of (Some root) path h = by (is_apart path) h
  where
    by : (b : Bool) → (b || not (is_inside root path)) ≡ false → b ≡ false
    by true g = let bad : ⊥ = cc in absurd bad
    by false g = refl

-- where an identifier can be spelled anew, some bytes stand
some_bytes : (old new bytes : List ℕ) (at : ℕ) → is_identifier old ≡ true → is_unspellable_at old new bytes at ≡ false → bytes ≡ [] → ⊥
some_bytes [] new bytes at name h empty = let no : false ≡ true = name in let bad : ⊥ = cc in bad
some_bytes (x ∷ old) new bytes at name h empty =
    let stands : stands_at (x ∷ old) [] at ≡ false = few in
    let true_now : is_unspellable_at (x ∷ old) new [] at ≡ true = ap (λ b. if b then is_before_quote new (rest [] (at + suc (length old))) else true) stands in
    let no : true ≡ false = sym true_now ∙ ap (λ bs. is_unspellable_at (x ∷ old) new bs at) (sym empty) ∙ h in
    let bad : ⊥ = cc in bad
  where
    long : nat_le (at + suc (length old)) 0 ≡ false
    long = grind (arith)

    few : stands_at (x ∷ old) [] at ≡ false
    few = ap (λ b. b && starts_with nat_eq (drop at []) (x ∷ old)) long

identifier_of : (m : Meant) (t : Target) → named m ≡ Some t → is_identifier m.old ≡ true
identifier_of m t h = by (is_identifier m.old) refl h
  where
    by : (b : Bool) → is_identifier m.old ≡ b → (if b then m.target else None) ≡ Some t → b ≡ true
    by true e g = refl
    by false e g = let bad : ⊥ = cc in absurd bad

-- the files of the places that may be renamed are there
pub judged_there : (tree : Files) (files : List KnownFile) (facts : Facts) (root : Option (List ℕ)) (old new : List ℕ) (target : Option Target) (r : Result (List Place) Refused) (places : List Place)
    → ((t : Target) → target ≡ Some t → is_identifier old ≡ true) → AreOfTree tree files → IsJudged files facts root old new target r → r ≡ Ok places → AreThere tree files places
judged_there tree files facts root old new target r places name all no_name e = let bad : ⊥ = cc in absurd bad
judged_there tree files facts root old new target r places name all (nothing h) e = let bad : ⊥ = cc in absurd bad
judged_there tree files facts root old new target r places name all (is_refused class x h c f) e = let bad : ⊥ = cc in absurd bad
judged_there tree files facts root old new target r places name all (accepts {t = t} class h c n) e =
    let same : class.places ≡ places = cc in
    subst (AreThere tree files) same (λ p inside.
    there_of tree (path_of files p) files (finding (path_of files p) files) refl all (plain_of root (path_of files p) (n.writable p inside))
    (some_bytes old new (bytes_of files p) p.offset (name t refl) (n.spellable p inside)))

pub meant_there : (tree : Files) (files : List KnownFile) (facts : Facts) (root : Option (List ℕ)) (m : Meant) (new : List ℕ) (places : List Place)
    → AreOfTree tree files → IsJudged files facts root m.old new (named m) (Ok places) → AreThere tree files places
meant_there tree files facts root m new places all h = judged_there tree files facts root m.old new (named m) (Ok places) places (identifier_of m) all h refl
