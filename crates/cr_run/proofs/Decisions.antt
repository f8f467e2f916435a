-- What is decided step by step.
use Rattle.std.proofs.Common.{◌≡◌, ℕ, ◌<◌, ◌≤◌, Bool, true, false, List, length, Option, Some, None, Result, refl, sym, ap, ◌∙◌, subst, arith}
use Rattle.std.specs.Prelude.{Ok, Err, if◌then◌else◌, nat_lt, codes, ◌&&◌}
use Rattle.std.specs.Option.{option_map}
use Rattle.std.proofs.lemmas.Bool.Decides.{nat_tests}
use Rattle.std.proofs.lemmas.Slice.Eq.{bytes_eq-Decides}
use Rattle.cr_base.specs.declared.unit.Unit.{Unit as TranslationUnit}
use Rattle.cr_world.specs.Outside.{Files}
use Rattle.cr_compdb.specs.declared.entry.Entry.{Entry}
use Rattle.cr_lex.specs.Lexing.{Token, Lexed, lexed}
use Rattle.cr_small.specs.Keys.{Key, external, at}
use Rattle.cr_small.specs.SmallForm.{IsSmallForm}
use Rattle.cr_small.specs.Laws.{NamesItsKey}
use Rattle.cr_small.specs.Renaming.{Target, target_at}
use Rattle.cr_small.specs.declared.binder.Denotation.{Denotation}
use Rattle.cr_run.specs.Goal.{Goal, Refused, refused, reserved, ◌>>=◌}
use Rattle.cr_run.specs.Units.{entries_of, units_in}
use Rattle.cr_run.specs.Survey.{Meaning, refusal_of_units}
use Rattle.cr_run.specs.Outcome.{Outcome, limit_files, is_main_source, begins_with_underscore, name_or_nothing, may_rename, or_refused, renamable, refusal_of_spelling, rename_of, of_target, of_denotes, of_meaning, of_text, of_source, of_entries, of_goal}
use Rattle.cr_run.specs.Refusals.{IfDecided, refused_of}
use Rattle.cr_run.specs.Held.{Wanted, key_at, IsNamed}
use Rattle.cr_run.specs.Planning.{Plans}
use Rattle.cr_run.specs.declared.plan.Plan.{Plan}
use Rattle.cr_run.specs.declared.refusal.Refusal.{Refusal}
use Rattle.cr_run.specs.declared.refusal.Refusal.TheVariants as refusal

pub decided_more : (P Q : Type 0) (r : Refusal) → (P → Q) → IfDecided P r → IfDecided Q r
decided_more P Q (refusal.Usage word) more h = more h
decided_more P Q (refusal.Database text) more h = more h
decided_more P Q (refusal.ReadFault path) more h = tt
decided_more P Q refusal.NoSymbol more h = more h
decided_more P Q (refusal.Reserved name) more h = more h
decided_more P Q (refusal.Spelling place) more h = more h
decided_more P Q refusal.OutOfMemory more h = tt
decided_more P Q refusal.LimitUnits more h = more h
decided_more P Q refusal.LimitFiles more h = more h
decided_more P Q (refusal.UnbuiltOption option) more h = more h
decided_more P Q (refusal.Unbuilt path) more h = more h

-- a refusal of a step is one of what follows from it
pub refused_first : {A B : Type 0} (step : Result A Refused) (next : A → Result B Refused) (r : Refusal) → IfDecided (step ≡ Err (refused_of r)) r → IfDecided ((step >>= next) ≡ Err (refused_of r)) r
refused_first {A} {B} step next r h = decided_more (step ≡ Err (refused_of r)) ((step >>= next) ≡ Err (refused_of r)) r (λ e. ap (λ (s : Result A Refused). s >>= next) e) h

-- plans of what is the same
pub plans_of : (files : Files) (o other : Outcome) (result : Result Plan Refusal) → o ≡ other → Plans files o result → Plans files other result
plans_of files o other result e h = subst (λ x. Plans files x result) e h

-- a refusal that came of a step before
pub plans_refused : (files : Files) (o : Outcome) (r : Refusal) → IfDecided (o ≡ Err (refused_of r)) r → Plans files o (Err r)
plans_refused files o r h = h

module _ (meaning : Meaning) (files : Files) (goal : Goal) (es : List Entry) where
  -- what a name that may be renamed decides
  abbrev found_decides : Target → Outcome
  found_decides found = or_refused (refusal_of_spelling meaning files goal (units_in es) found.key) >>= (λ spelled. Ok (rename_of meaning files goal es found))

  -- a refusal of the units is one of the target
  pub units_refuse : (target : Option Target) (r : Refusal) → IfDecided (refusal_of_units meaning files goal.source goal.new (units_in es) ≡ Some (refused_of r)) r → IfDecided (of_target meaning files goal es target ≡ Err (refused_of r)) r
  units_refuse target r h =
      decided_more (refusal_of_units meaning files goal.source goal.new (units_in es) ≡ Some (refused_of r)) (of_target meaning files goal es target ≡ Err (refused_of r)) r
      (λ e. ap (λ o. or_refused o >>= (λ surveyed. renamable goal (units_in es) target >>= found_decides)) e) h

  -- where no unit refuses the target decides
  pub units_pass : (target : Option Target) → refusal_of_units meaning files goal.source goal.new (units_in es) ≡ None → of_target meaning files goal es target ≡ (renamable goal (units_in es) target >>= found_decides)
  units_pass target e = ap (λ o. or_refused o >>= (λ surveyed. renamable goal (units_in es) target >>= found_decides)) e

  pub target_refuses : (target : Option Target) (r : Refusal) → refusal_of_units meaning files goal.source goal.new (units_in es) ≡ None → IfDecided (renamable goal (units_in es) target ≡ Err (refused_of r)) r → IfDecided (of_target meaning files goal es target ≡ Err (refused_of r)) r
  target_refuses target r none h =
      decided_more (renamable goal (units_in es) target ≡ Err (refused_of r)) (of_target meaning files goal es target ≡ Err (refused_of r)) r
      (λ e. units_pass target none ∙ ap (λ (s : Result Target Refused). s >>= found_decides) e) h

  pub target_passes : (target : Option Target) (found : Target) → refusal_of_units meaning files goal.source goal.new (units_in es) ≡ None → renamable goal (units_in es) target ≡ Ok found → of_target meaning files goal es target ≡ found_decides found
  target_passes target found none e = units_pass target none ∙ ap (λ (s : Result Target Refused). s >>= found_decides) e

  -- a place at which the new name can't be spelled refuses, and none lets the rename be
  pub places_refuse : (target : Option Target) (found : Target) (r : Refusal) → of_target meaning files goal es target ≡ found_decides found → IfDecided (refusal_of_spelling meaning files goal (units_in es) found.key ≡ Some (refused_of r)) r → IfDecided (of_target meaning files goal es target ≡ Err (refused_of r)) r
  places_refuse target found r passes h =
      decided_more (refusal_of_spelling meaning files goal (units_in es) found.key ≡ Some (refused_of r)) (of_target meaning files goal es target ≡ Err (refused_of r)) r
      (λ e. passes ∙ ap (λ o. or_refused o >>= (λ spelled. Ok (rename_of meaning files goal es found))) e) h

  pub places_pass : (target : Option Target) (found : Target) → of_target meaning files goal es target ≡ found_decides found → refusal_of_spelling meaning files goal (units_in es) found.key ≡ None → of_target meaning files goal es target ≡ Ok (rename_of meaning files goal es found)
  places_pass target found passes none = passes ∙ ap (λ o. or_refused o >>= (λ spelled. Ok (rename_of meaning files goal es found))) none

  pub may_not : (tokens : List Token) (denotes : List (Option Denotation)) (r : Refusal) → IfDecided (may_rename goal (target_at goal.offset tokens denotes) ≡ Err (refused_of r)) r → IfDecided (of_denotes meaning files goal es tokens denotes ≡ Err (refused_of r)) r
  may_not tokens denotes r h = refused_first (may_rename goal (target_at goal.offset tokens denotes)) (of_target meaning files goal es) r h

  pub may : (tokens : List Token) (denotes : List (Option Denotation)) (target : Option Target) → may_rename goal (target_at goal.offset tokens denotes) ≡ Ok target → of_denotes meaning files goal es tokens denotes ≡ of_target meaning files goal es target
  may tokens denotes target e = ap (λ (s : Result (Option Target) Refused). s >>= of_target meaning files goal es) e

  -- what the source decides
  pub text_is : (bytes : List ℕ) → files goal.source ≡ Some bytes → length bytes ≤ 16777216 → of_text meaning files goal es (lexed bytes) ≡ of_entries meaning files goal es
  text_is bytes there size =
      let short : nat_lt 16777216 (length bytes) ≡ false = grind (arith, nat_tests) in
      sym (ap (of_source meaning files goal es) there ∙ ap (λ b. if b then limit_files else of_text meaning files goal es (lexed bytes)) short)

  pub long_is : (bytes : List ℕ) → files goal.source ≡ Some bytes → 16777216 < length bytes → of_entries meaning files goal es ≡ Err (refused_of refusal.LimitFiles)
  long_is bytes there size =
      let long : nat_lt 16777216 (length bytes) ≡ true = grind (arith, nat_tests) in
      ap (of_source meaning files goal es) there ∙ ap (λ b. if b then limit_files else of_text meaning files goal es (lexed bytes)) long

  pub absent_is : files goal.source ≡ None → of_target meaning files goal es None ≡ of_entries meaning files goal es
  absent_is gone = sym (ap (of_source meaning files goal es) gone)

  pub goal_is : entries_of files goal ≡ Ok es → of_entries meaning files goal es ≡ of_goal meaning files goal
  goal_is e = sym (ap (λ (s : Result (List Entry) Refused). s >>= of_entries meaning files goal) e)

  pub meaning_is : (text : Lexed) (o : Option (List (Option Denotation))) → meaning text ≡ o → of_text meaning files goal es text ≡ of_meaning meaning files goal es text.tokens o
  meaning_is text o e = ap (of_meaning meaning files goal es text.tokens) e

-- what may be renamed is what was found
pub found_same : (goal : Goal) (units : List TranslationUnit) (target : Option Target) (found : Target) → renamable goal units target ≡ Ok found → target ≡ Some found
found_same goal units None found h = let bad : ⊥ = cc in absurd bad
found_same goal units (Some t) found h = by (is_main_source goal units) (begins_with_underscore goal.new && t.at_file_scope) h
  where
    by : (a b : Bool) → (if a then (if b then reserved goal.new else Ok t) else refused 6 (codes "no symbol")) ≡ Ok found → Some t ≡ Some found
    by false b e = let bad : ⊥ = cc in absurd bad
    by true true e = let bad : ⊥ = cc in absurd bad
    by true false e = let same : t ≡ found = cc in ap (λ x. Some x) same

pub named_for : NamesItsKey → (bytes : List ℕ) (denotes : List (Option Denotation)) (offset : ℕ) (target : Option Target) → IsSmallForm (lexed bytes) denotes → target_at offset (lexed bytes).tokens denotes ≡ target → IsNamed (name_or_nothing target) (option_map (λ t. t.key) target)
named_for law bytes denotes offset None small there name h = let no : None ≡ Some (external name) = h in let bad : ⊥ = cc in absurd bad
named_for law bytes denotes offset (Some t) small there name h = law bytes name denotes offset t small there (let keys : t.key ≡ external name = cc in keys)

pub key_here : (wanted : Wanted) (path : List ℕ) (key : Option Key) → path ≡ wanted.source → key_at wanted path key ≡ key
key_here wanted path None same = refl
key_here wanted path (Some (external name)) same = refl
key_here wanted path (Some (at offset)) same = ap (λ b. if b then Some (at offset) else None) ((bytes_eq-Decides wanted.source path).1 (sym same))

pub refused_later : (files : Files) (o other : Outcome) (r : Refusal) → o ≡ other → IfDecided (o ≡ Err (refused_of r)) r → IfDecided (other ≡ Err (refused_of r)) r
refused_later files o other r e h = decided_more (o ≡ Err (refused_of r)) (other ≡ Err (refused_of r)) r (λ k. sym e ∙ k) h
