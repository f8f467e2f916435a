-- The same files are looked for and found.
use Rattle.std.proofs.Common.{◌≡◌, ℕ, cond, List, [], ◌∷◌, ◌++◌, refl, ap, sym, ◌∙◌, subst}
use Rattle.cr_base.specs.declared.token.Place.{Place}
use Rattle.cr_base.specs.declared.cause.IllCause.TheVariants as cause
use Rattle.cr_snapshot.specs.Files.{Finding, Present, Absent, Unknown}
use Rattle.cr_snapshot.specs.IncludeSearch.{is_apart}
use Rattle.cr_macros.specs.Tokens.{Text, has}
use Rattle.cr_expand_law.specs.Renaming.{Renaming}
use Rattle.cr_phase4.specs.Tasks.{Looked, Needs, Ill, Done, look, tell, ends, ready}
use Rattle.cr_phase4.specs.Lines.{File, file_of}
use Rattle.cr_phase4.specs.Search.{World, Search, Finds, Misses, Lacks, search, unknown, looked_for}
use Rattle.cr_phase4.specs.Directives.{Opening, opens_found, looks, opens}
use Rattle.cr_preproc_law.specs.Renaming.{renamed_file, renamed_state, AreApart}
use Rattle.cr_preproc_law.proofs.Following.{Sim, sim_then, sim_ends, sim_only, sim_look, sim_tell, sim_to, sim_if, same}

-- what is found afterwards: the same, with the renamed tokens
abbrev pub IsRenamedFinding : Renaming → Finding → Finding → Type 0
IsRenamedFinding r (Present n bytes) f = (new : List ℕ) × (f ≡ Present n new) × (file_of n new ≡ renamed_file r (file_of n bytes)) × AreApart r (file_of n bytes)
IsRenamedFinding r Absent f = f ≡ Absent
IsRenamedFinding r Unknown f = f ≡ Unknown

abbrev IsRenamedSearch : Renaming → Search → Search → Type 0
IsRenamedSearch r (Finds path n bytes) s = (new : List ℕ) × (s ≡ Finds path n new) × (file_of n new ≡ renamed_file r (file_of n bytes)) × AreApart r (file_of n bytes)
IsRenamedSearch r Misses s = s ≡ Misses
IsRenamedSearch r (Lacks paths) s = s ≡ Lacks paths

abbrev pub Enters : Renaming → Opening → Opening → Type 0
Enters r enter enter1 = (path : Text) (f : File) → AreApart r f → Sim r same (enter path f) (enter1 path (renamed_file r f))

module _ (r : Renaming) (find find1 : Text → Finding) (found : (path : Text) → IsRenamedFinding r (find path) (find1 path)) where
  abbrev unknown_by : Text → List Text → Finding → List Text
  unknown_by path paths f = elim f [ Present n bytes ↦ [] | Absent ↦ paths | Unknown ↦ path ∷ paths ]

  unknown_step : (path : Text) (paths : List Text) (f f1 : Finding) → IsRenamedFinding r f f1 → unknown_by path paths f1 ≡ unknown_by path paths f
  unknown_step path paths (Present n bytes) f1 h = ap (unknown_by path paths) h.1
  unknown_step path paths Absent f1 h = ap (unknown_by path paths) h
  unknown_step path paths Unknown f1 h = ap (unknown_by path paths) h

  unknown_same : (paths : List Text) → unknown find1 paths ≡ unknown find paths
  unknown_same [] = refl
  unknown_same (path ∷ paths) = ap (λ x. unknown_by path x (find1 path)) (unknown_same paths) ∙ unknown_step path (unknown find paths) (find path) (find1 path) (found path)

  abbrev search_by : Text → Search → List Text → Finding → Search
  search_by path s us f = elim f [ Present n bytes ↦ Finds path n bytes | Absent ↦ s | Unknown ↦ Lacks (path ∷ us) ]

  search_step : (path : Text) (s s1 : Search) (us us1 : List Text) (f f1 : Finding) → IsRenamedFinding r f f1 → IsRenamedSearch r s s1 → us1 ≡ us → IsRenamedSearch r (search_by path s us f) (search_by path s1 us1 f1)
  search_step path s s1 us us1 (Present n bytes) f1 h k e = (h.0, ap (search_by path s1 us1) h.1, h.2, h.3)
  search_step path s s1 us us1 Absent f1 h k e = subst (λ f. IsRenamedSearch r s (search_by path s1 us1 f)) (sym h) k
  search_step path s s1 us us1 Unknown f1 h k e = ap (search_by path s1 us1) h ∙ ap (λ x. Lacks (path ∷ x)) e

  search_same : (paths : List Text) → IsRenamedSearch r (search find paths) (search find1 paths)
  search_same [] = refl
  search_same (path ∷ paths) = search_step path (search find paths) (search find1 paths) (unknown find paths) (unknown find1 paths) (find path) (find1 path) (found path) (search_same paths) (unknown_same paths)

  abbrev looked_by : List Text → Finding → List Text
  looked_by paths f = elim f [ Present n bytes ↦ [] | Absent ↦ paths | Unknown ↦ paths ]

  looked_step : (paths : List Text) (f f1 : Finding) → IsRenamedFinding r f f1 → looked_by paths f1 ≡ looked_by paths f
  looked_step paths (Present n bytes) f1 h = ap (looked_by paths) h.1
  looked_step paths Absent f1 h = ap (looked_by paths) h
  looked_step paths Unknown f1 h = ap (looked_by paths) h

  looked_same : (paths : List Text) → looked_for find1 paths ≡ looked_for find paths
  looked_same [] = refl
  looked_same (path ∷ paths) =
      ap (λ x. cond (is_apart path) [] (path ∷ []) ++ x) (ap (λ x. looked_by x (find1 path)) (looked_same paths) ∙ looked_step (looked_for find paths) (find path) (find1 path) (found path))

module _ (r : Renaming) (w v : World) (found : (path : Text) → IsRenamedFinding r (w.find path) (v.find path)) (enter enter1 : Opening) (enters : Enters r enter enter1) where
  sim_found : (site site1 : Place) (path : Text) (n : ℕ) (bytes new : List ℕ) → file_of n new ≡ renamed_file r (file_of n bytes) → AreApart r (file_of n bytes)
      → Sim r same (opens_found enter site (Finds path n bytes)) (opens_found enter1 site1 (Finds path n new))
  sim_found site site1 path n bytes new e apart =
      sim_then r (renamed_state r) same look look (λ s. cond (has s.once path) ready (enter path (file_of n bytes))) (λ s. cond (has s.once path) ready (enter1 path (file_of n new))) (sim_look r)
      (λ s. sim_if r same (has s.once path) ready (enter path (file_of n bytes)) ready (enter1 path (file_of n new)) (sim_only r same Done)
      (sim_to r same (enter path (file_of n bytes)) (enter1 path (file_of n new)) (enter1 path (renamed_file r (file_of n bytes))) (ap (enter1 path) e) (enters path (file_of n bytes) apart)))

  told_looked : (paths : List Text) → Sim r same (tell (Looked (looked_for w.find paths) ∷ [])) (tell (Looked (looked_for v.find paths) ∷ []))
  told_looked paths = sim_tell r (Looked (looked_for w.find paths) ∷ []) (Looked (looked_for v.find paths) ∷ []) (ap (λ x. Looked x ∷ []) (looked_same r w.find v.find found paths))

  sim_looks : (site site1 : Place) (paths : List Text) (s s1 : Search) → IsRenamedSearch r s s1 → Sim r same (looks w enter site paths s) (looks v enter1 site1 paths s1)
  sim_looks site site1 paths (Lacks us) s1 h = sim_ends r same (Needs us) (looks v enter1 site1 paths s1)
  sim_looks site site1 paths Misses s1 h =
      sim_to r same (looks w enter site paths Misses) (looks v enter1 site1 paths s1) (looks v enter1 site1 paths Misses) (ap (looks v enter1 site1 paths) h)
      (sim_then r same same (tell (Looked (looked_for w.find paths) ∷ [])) (tell (Looked (looked_for v.find paths) ∷ [])) (λ d. opens_found enter site Misses) (λ d. opens_found enter1 site1 Misses) (told_looked paths)
      (λ d. sim_ends r same (Ill cause.MissingFile site) (ends (Ill cause.MissingFile site1))))
  sim_looks site site1 paths (Finds path n bytes) s1 h =
      sim_to r same (looks w enter site paths (Finds path n bytes)) (looks v enter1 site1 paths s1) (looks v enter1 site1 paths (Finds path n h.0)) (ap (looks v enter1 site1 paths) h.1)
      (sim_then r same same (tell (Looked (looked_for w.find paths) ∷ [])) (tell (Looked (looked_for v.find paths) ∷ [])) (λ d. opens_found enter site (Finds path n bytes)) (λ d. opens_found enter1 site1 (Finds path n h.0)) (told_looked paths)
      (λ d. sim_found site site1 path n bytes h.0 h.2 h.3))

  pub sim_opens : (site site1 : Place) (paths : List Text) → Sim r same (opens w enter site paths) (opens v enter1 site1 paths)
  sim_opens site site1 paths = sim_looks site site1 paths (search w.find paths) (search v.find paths) (search_same r w.find v.find found paths)
