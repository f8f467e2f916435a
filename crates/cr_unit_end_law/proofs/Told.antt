-- From how a unit ends to what it means.
use Rattle.std.proofs.Common.{◌≡◌, ◌⊎◌, ℕ, List, [], ◌∷◌, refl, sym, ap, subst, ◌∙◌, inl, inr}
use Rattle.std.specs.Prelude.{◌↔◌}
use Rattle.cr_base.specs.declared.unit.Unit.{Unit}
use Rattle.cr_base.specs.declared.token.Place.{Place}
use Rattle.cr_macros.specs.Tokens.{Text}
use Rattle.cr_snapshot.specs.Files.{Finding, Present, Absent, Unknown, finding}
use Rattle.cr_snapshot.specs.declared.known.KnownFile.{KnownFile}
use Rattle.cr_phase4.specs.Tasks.{Nothing, Done, State, Event, Reply, Goes, Ends, behind, go_on}
use Rattle.cr_phase4.specs.Search.{World, world_of, words_path, Search, Finds, Misses, Lacks, search}
use Rattle.cr_phase4.specs.Directives.{Opening, looks, opens}
use Rattle.cr_phase4.specs.Traces.{Trace, trace_of}
use Rattle.cr_phase4.specs.Preprocessing.{levels, does_file, does_first_file, at_first, preprocessed}
use Rattle.cr_phase4.specs.Lines.{place_in}
use Rattle.cr_preproc.specs.Progressing.{kept}
use Rattle.cr_ll.specs.Derivation.{Trees}
use Rattle.cr_facts.specs.FactOrder.{Facts}
use Rattle.cr_facts.specs.declared.fact.Fact.{Fact}
use Rattle.cr_binding.specs.Binding.{bound}
use Rattle.cr_binding.specs.UnitFacts.{Tells}
use Rattle.cr_binding.specs.WellFormed.{IsWellFormed}
use Rattle.cr_class.specs.RenameClass.{Has}
use Rattle.cr_keeps.specs.UnitMeaning as meaning
use Rattle.cr_keeps.specs.UnitMeaning.{Tables, number_of, Meaning}
use Rattle.cr_keeps.specs.UnitFacts.{TraceTells}
use Rattle.cr_unit.specs.Preprocessing.{IsPreprocessed}
use Rattle.cr_unit.specs.Converting.{end_by, end_place, AreUnitTokens}
use Rattle.cr_unit.specs.declared.preprocessing.Whole.{Whole}
use Rattle.cr_unit.specs.declared.preprocessing.Preprocessed.TheVariants as preprocessed_as
use Rattle.cr_unit.specs.declared.converting.UnitTokens.{UnitTokens}
use Rattle.cr_read_law.specs.ReadUnits.{IsRead, ReadUnitsMean}
use Rattle.cr_unit_end.specs.declared.unit.UnitEnd.{UnitEnd}
use Rattle.cr_unit_end.specs.declared.unit.UnitEnd.TheVariants as ended
use Rattle.cr_unit_end.specs.UnitEnds.{source, AreFacts}
use Rattle.cr_unit_end_law.specs.Telling.{IsToldOf, UnitsTell}

-- ---- the main file is there

abbrev Went : Reply Nothing → Type 0
Went (Goes a s events) = Prim.Unit {0}
Went (Ends end events) = ⊥

abbrev pub IsPresent : Finding → Type 0
IsPresent f = (n : ℕ) × (bytes : List ℕ) × (f ≡ Present n bytes)

went_behind : (events : List Event) (r : Reply Nothing) → Went (behind events r) → Went r
went_behind events (Goes a s more) h = h
went_behind events (Ends end more) h = h

-- both parts of a task went on
went_second : (r : Reply Nothing) (f : Nothing → State → Reply Nothing) → Went (go_on r f) → (a : Nothing) × (s : State) × Went (f a s)
went_second (Goes a s events) f h = (a, s, went_behind events (f a s) h)
went_second (Ends end events) f h = absurd h

went_of : (r : Reply Nothing) (a : Nothing) (s : State) (events : List Event) → r ≡ Goes a s events → Went r
went_of r a s events is = subst Went (sym is) tt

abbrev searched : Text → Finding → Search
searched path f = elim f [ Present n bytes ↦ Finds path n bytes | Absent ↦ Misses | Unknown ↦ Lacks (path ∷ []) ]

search_is : (find : Text → Finding) (path : Text) (f : Finding) → find path ≡ f → search find (path ∷ []) ≡ searched path f
search_is find path f is = ap (searched path) is

module _ (w : World) (enter : Opening) (site : Place) (path : Text) (s : State) where
  present_by : (f : Finding) → w.find path ≡ f → Went (opens w enter site (path ∷ []) s) → IsPresent f
  present_by (Present n bytes) is h = (n, bytes, refl)
  present_by Absent is h = absurd (subst (λ x. Went (looks w enter site (path ∷ []) x s)) (search_is w.find path Absent is) h)
  present_by Unknown is h = absurd (subst (λ x. Went (looks w enter site (path ∷ []) x s)) (search_is w.find path Unknown is) h)

-- the main file of a unit that is preprocessed whole is there
pub main_is_there : (w : World) (u : Unit) (s : State) (events : List Event) → preprocessed w u ≡ Goes Done s events → IsPresent (w.find u.main)
unfolding preprocessed
main_is_there w u s events is =
    let x = went_second (does_first_file w u (words_path u) at_first) (λ d. does_first_file w u u.main) (went_of (preprocessed w u) Done s events is) in
    present_by w (does_file w u levels) (place_in (w.number u.main) 0) u.main x.1 (w.find u.main) refl x.2

-- ---- what is told

swap : (A B : Type 0) → A ⊎ B → B ⊎ A
swap A B (inl a) = inr a
swap A B (inr b) = inl b

module _ (law : ReadUnitsMean) (files : List KnownFile) (u : Unit) (old new : Text) (facts : Facts) (w : Whole) (pre : IsPreprocessed files u old new (preprocessed_as.Whole w)) (t : UnitTokens)
    (made : AreUnitTokens w.names w.tokens.items (end_place files u.main) old new t) (tree : Trees) (well : IsWellFormed (source t) tree) (are : AreFacts u.number w.trace t tree facts) where
  there : IsPresent (finding u.main files)
  there = main_is_there (world_of files) u pre.0 pre.1 pre.2

  is_read : IsRead files u old new w t
  is_read = record {
    number = there.0;
    bytes = there.1;
    main = there.2;
    whole = pre;
    tokens = subst (λ p. AreUnitTokens w.names w.tokens.items p old new t) (ap end_by there.2) made;
  }

  abbrev names : Tables
  names v = t.names

  told : IsToldOf files u old new facts
  told =
      let x = law files u old new w t is_read tree well names refl in
      let m = x.0 in
      let k = x.1 in
      let binds : Tells u.number (source t) (bound (source t) tree) t.old t.new ≡ Tells u.number (meaning.source m) (meaning.binding m) (number_of t.names old) (number_of t.names new) =
      sym
      (ap (λ z. Tells u.number z (bound z m.tree) (number_of t.names old) (number_of t.names new)) k.tokens
      ∙ ap (λ z. Tells u.number (source t) (bound (source t) z) (number_of t.names old) (number_of t.names new)) k.tree_is
      ∙ ap (λ z. Tells u.number (source t) (bound (source t) tree) z (number_of t.names new)) k.old_is
      ∙ ap (λ z. Tells u.number (source t) (bound (source t) tree) t.old z) k.new_is)
      in
      let both : (f : Fact) → Has facts f ↔ (Tells u.number (meaning.source m) (meaning.binding m) (number_of t.names old) (number_of t.names new) f ⊎ TraceTells (trace_of old new m.events) f) =
      λ f. subst (λ (z : Trace). Has facts f ↔ (Tells u.number (meaning.source m) (meaning.binding m) (number_of t.names old) (number_of t.names new) f ⊎ TraceTells z f)) (sym k.trace)
      (subst (λ (z : Fact → Type 0). Has facts f ↔ (z f ⊎ TraceTells (kept w.trace) f)) binds (are f))
      in
      record {
        names = names;
        means = m;
        tells = λ f. (λ h. swap _ _ ((both f).0 h), λ h. (both f).1 (swap _ _ h));
      }

abbrev is_facts : UnitEnd → Type 0
is_facts (ended.Facts facts) = Prim.Unit {0}
is_facts (ended.Wants paths) = ⊥
is_facts (ended.Ill c p) = ⊥

pub units_tell : ReadUnitsMean → UnitsTell
units_tell law files u old new facts (w, pre, inl x) = told law files u old new facts w pre x.0 x.1 x.2.0 x.2.1 x.2.2
units_tell law files u old new facts (w, pre, inr x) = absurd (subst is_facts x.2 tt)
