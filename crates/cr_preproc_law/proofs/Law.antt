-- A renaming keeps the preprocessing of a unit.
use Rattle.std.proofs.Common.{◌≡◌, ℕ, zero, suc, Bool, true, false, cond, List, [], ◌∷◌, ◌++◌, map, refl, ap, sym, ◌∙◌, subst, Some, None, Option}
use Rattle.std.proofs.lemmas.List.{map-append}
use Rattle.std.specs.Prelude.{option_map}
use Rattle.std.specs.List.{AllByRecursion}
use Rattle.cr_base.specs.Names.{is_reserved}
use Rattle.cr_base.specs.declared.token.Place.{Place}
use Rattle.cr_base.specs.declared.cause.IllCause.TheVariants as cause
use Rattle.cr_base.specs.declared.cause.Role.TheVariants as role
use Rattle.cr_base.specs.declared.unit.Unit.{Unit}
use Rattle.cr_macros.specs.Tokens.{Text, Token, is_ident}
use Rattle.cr_macros.specs.Substitution.{is_hash}
use Rattle.cr_expand_law.specs.Renaming.{Renaming, renamed, all_renamed, KeepsExpansion}
use Rattle.cr_expand_law.specs.Uses.{KeepsUses}
use Rattle.cr_phase4.specs.Tasks.{Includes, End, Ill, Over, Event, Took, Opened, State, Goes, Task, Nothing, Done, ◌>>>◌, only, ends, tell, marks, reads}
use Rattle.cr_phase4.specs.declared.conditionals.Word.{Word}
use Rattle.cr_phase4.specs.Lines.{Line, Plain, Conditional, Directive, Empty, Wordless, place_in, by_word, behind_hash, word_of, line_of}
use Rattle.cr_phase4.specs.Search.{World, words_path}
use Rattle.cr_phase4.specs.Runs.{runs, inside}
use Rattle.cr_phase4.specs.declared.conditionals.OpenIf.{OpenIf}
use Rattle.cr_phase4.specs.Conditionals.{is_live, conditional, is_word_live}
use Rattle.cr_phase4.specs.Directives.{Opening, directive}
use Rattle.cr_phase4.specs.Preprocessing.{Ahead, ahead, where_live, by_line, at_end, run_with, takes_rest, takes_line, does_lines, does_file, levels, does_first_file, does_unit, at_first, preprocessed}
use Rattle.cr_preproc_law.specs.Renaming.{renamed_end, renamed_state, renamed_event, IsSame, IsApartIn, IsApart, IsFine}
use Rattle.cr_preproc_law.proofs.Tokens.{renamed_events, same_token, hash_same, marks_renamed}
use Rattle.cr_preproc_law.proofs.Following.{Follows, Sim, sim_then, sim_only, sim_ends, sim_tell, sim_to, sim_inside, same, sim_reads, sim_runs}
use Rattle.cr_preproc_law.proofs.Searched.{IsRenamedFinding, Enters, sim_opens}
use Rattle.cr_preproc_law.proofs.Conditions.{shifted_ifs, live_same, word_live_same, sim_conditional}
use Rattle.cr_preproc_law.proofs.Directives.{HasNoParameter, sim_directive}

abbrev renamed_line : Renaming → Line → Line
renamed_line r Plain = Plain
renamed_line r (Conditional hash t w ts) = Conditional (r.shift hash) (renamed r t) w (all_renamed r ts)
renamed_line r (Directive hash t ts) = Directive (r.shift hash) (renamed r t) (all_renamed r ts)
renamed_line r Empty = Empty
renamed_line r (Wordless hash) = Wordless (r.shift hash)

word_renamed : (r : Renaming) (hash : Place) (t : Token) (ts : List Token) (o : Option Word) → by_word (r.shift hash) (renamed r t) (all_renamed r ts) o ≡ renamed_line r (by_word hash t ts o)
word_renamed r hash t ts None = refl
word_renamed r hash t ts (Some w) = refl

apart_word : (r : Renaming) (hash : Place) (t : Token) (ts : List Token) (o : Option Word) → IsApartIn r (by_word hash t ts o) → IsSame r t
apart_word r hash t ts None h = h.0
apart_word r hash t ts (Some w) h = h.0

behind_renamed : (r : Renaming) (hash : Place) (ts : List Token) → IsApartIn r (behind_hash hash ts) → behind_hash (r.shift hash) (all_renamed r ts) ≡ renamed_line r (behind_hash hash ts)
behind_renamed r hash [] h = refl
behind_renamed r hash (t ∷ ts) h = go (is_ident t.kind) h where
  go : (b : Bool) → IsApartIn r (cond b (by_word hash t ts (word_of t.text)) (Wordless hash))
      → cond b (by_word (r.shift hash) (renamed r t) (all_renamed r ts) (word_of (renamed r t).text)) (Wordless (r.shift hash)) ≡ renamed_line r (cond b (by_word hash t ts (word_of t.text)) (Wordless hash))
  go true k = ap (λ x. by_word (r.shift hash) (renamed r t) (all_renamed r ts) (word_of x.text)) (same_token r t (apart_word r hash t ts (word_of t.text) k)) ∙ word_renamed r hash t ts (word_of t.text)
  go false k = refl

line_renamed : (r : Renaming) (line : List Token) → IsApart r line → line_of (all_renamed r line) ≡ renamed_line r (line_of line)
line_renamed r [] h = refl
line_renamed r (t ∷ ts) h = ap (λ b. cond b (behind_hash (r.shift t.site) (all_renamed r ts)) Plain) (hash_same r t) ∙ go (is_hash t) h where
  go : (b : Bool) → IsApartIn r (cond b (behind_hash t.site ts) Plain) → cond b (behind_hash (r.shift t.site) (all_renamed r ts)) Plain ≡ renamed_line r (cond b (behind_hash t.site ts) Plain)
  go true k = behind_renamed r t.site ts k
  go false k = refl

abbrev renamed_ahead : Renaming → Ahead → Ahead
renamed_ahead r a = ahead (shifted_ifs r a.open_ifs) (all_renamed r a.run)

sim_live : {A : Type 0} (r : Renaming) (v : A → A) (cs : List OpenIf) (m n m1 n1 : Task A) → Sim r v m m1 → Sim r v n n1 → Sim r v (where_live (is_live cs) m n) (where_live (is_live (shifted_ifs r cs)) m1 n1)
sim_live {A} r v cs m n m1 n1 h k = subst (λ b. Sim r v (where_live (is_live cs) m n) (where_live b m1 n1)) (sym (live_same r cs)) (go (is_live cs)) where
  go : (b : Bool) → Sim r v (where_live b m n) (where_live b m1 n1)
  go true = h
  go false = k

run_renamed : (r : Renaming) (b : Bool) (run line : List Token) → cond b (all_renamed r run ++ all_renamed r line) (all_renamed r run) ≡ all_renamed r (cond b (run ++ line) run)
run_renamed r true run line = sym (map-append (renamed r) run line)
run_renamed r false run line = refl

word_marks : (r : Renaming) (b : Bool) (t : Token) → cond b (marks role.Directive (renamed r t)) [] ≡ renamed_events r (cond b (marks role.Directive t) [])
word_marks r true t = marks_renamed r role.Directive t
word_marks r false t = refl

module _ (r : Renaming) (not_reserved : is_reserved r.new ≡ false) (keeps_expansion : KeepsExpansion) (keeps_uses : KeepsUses) (w v : World) (u : Unit) (found : (path : Text) → IsRenamedFinding r (w.find path) (v.find path)) where
  runs_sim : (path : Text) (run : List Token) → Sim r same (runs path run) (runs path (all_renamed r run))
  runs_sim = sim_runs r not_reserved keeps_expansion keeps_uses

  sim_at_end : (path : Text) (run : List Token) (fault : Option End) (cs : List OpenIf) → Sim r same (at_end path run fault cs) (at_end path (all_renamed r run) (option_map (renamed_end r) fault) (shifted_ifs r cs))
  sim_at_end path run (Some e) cs = sim_inside r same path run (all_renamed r run) (ends e) (ends (renamed_end r e)) (sim_ends r same e (ends (renamed_end r e)))
  sim_at_end path run None (c ∷ cs) =
      sim_inside r same path run (all_renamed r run) (ends (Ill cause.OpenIf c.hash)) (ends (Ill cause.OpenIf (r.shift c.hash))) (sim_ends r same (Ill cause.OpenIf c.hash) (ends (Ill cause.OpenIf (r.shift c.hash))))
  sim_at_end path run None [] = runs_sim path run

  module _ (enter enter1 : Opening) (enters : Enters r enter enter1) where
    sim_by_line : (path : Text) (cs : List OpenIf) (run line : List Token) (k : Line) → IsApartIn r k
        → Sim r (renamed_ahead r) (by_line w u enter path cs run line k) (by_line v u enter1 path (shifted_ifs r cs) (all_renamed r run) (all_renamed r line) (renamed_line r k))
    sim_by_line path cs run line Plain h =
        sim_to r (renamed_ahead r) (only (ahead cs (cond (is_live cs) (run ++ line) run))) (only (ahead (shifted_ifs r cs) (cond (is_live (shifted_ifs r cs)) (all_renamed r run ++ all_renamed r line) (all_renamed r run))))
        (only (ahead (shifted_ifs r cs) (all_renamed r (cond (is_live cs) (run ++ line) run))))
        (ap (λ b. only (ahead (shifted_ifs r cs) (cond b (all_renamed r run ++ all_renamed r line) (all_renamed r run)))) (live_same r cs) ∙ ap (λ x. only (ahead (shifted_ifs r cs) x)) (run_renamed r (is_live cs) run line))
        (sim_only r (renamed_ahead r) (ahead cs (cond (is_live cs) (run ++ line) run)))
    sim_by_line path cs run line (Conditional hash t word ts) h =
        sim_then r (shifted_ifs r) (renamed_ahead r)
        (inside path run (tell (told cs t) >>> λ d. conditional path hash ts cs word)) (inside path (all_renamed r run) (tell (told (shifted_ifs r cs) (renamed r t)) >>> λ d. conditional path (r.shift hash) (all_renamed r ts) (shifted_ifs r cs) word))
        (λ cs1. only (ahead cs1 run)) (λ cs1. only (ahead cs1 (all_renamed r run)))
        (sim_inside r (shifted_ifs r) path run (all_renamed r run) (tell (told cs t) >>> λ d. conditional path hash ts cs word) (tell (told (shifted_ifs r cs) (renamed r t)) >>> λ d. conditional path (r.shift hash) (all_renamed r ts) (shifted_ifs r cs) word)
        (sim_then r same (shifted_ifs r) (tell (told cs t)) (tell (told (shifted_ifs r cs) (renamed r t))) (λ d. conditional path hash ts cs word) (λ d. conditional path (r.shift hash) (all_renamed r ts) (shifted_ifs r cs) word)
        (sim_tell r (told cs t) (told (shifted_ifs r cs) (renamed r t)) (ap (λ b. cond b (marks role.Directive (renamed r t)) []) (word_live_same r cs word) ∙ word_marks r (is_word_live cs word) t))
        (λ d. sim_conditional r not_reserved keeps_expansion keeps_uses path hash ts cs word h.1)))
        (λ cs1. sim_only r (renamed_ahead r) (ahead cs1 run)) where
          told : List OpenIf → Token → List Event
          told ds x = cond (is_word_live ds word) (marks role.Directive x) []
    sim_by_line path cs run line (Directive hash t ts) h =
        sim_live r (renamed_ahead r) cs (old run t ts) (only (ahead cs run)) (new (renamed r t).text) (only (ahead (shifted_ifs r cs) (all_renamed r run)))
        (sim_to r (renamed_ahead r) (old run t ts) (new (renamed r t).text) (new t.text) (ap (λ x. new x.text) (same_token r t h.0))
        (sim_then r same (renamed_ahead r) (runs path run) (runs path (all_renamed r run)) (λ d. tell (marks role.Directive t) >>> λ d. directive w u enter path hash t.text ts >>> λ d. only (ahead cs []))
        (λ d. tell (marks role.Directive (renamed r t)) >>> λ d. directive v u enter1 path (r.shift hash) t.text (all_renamed r ts) >>> λ d. only (ahead (shifted_ifs r cs) [])) (runs_sim path run)
        (λ d. sim_then r same (renamed_ahead r) (tell (marks role.Directive t)) (tell (marks role.Directive (renamed r t))) (λ d. directive w u enter path hash t.text ts >>> λ d. only (ahead cs []))
        (λ d. directive v u enter1 path (r.shift hash) t.text (all_renamed r ts) >>> λ d. only (ahead (shifted_ifs r cs) [])) (sim_tell r (marks role.Directive t) (marks role.Directive (renamed r t)) (marks_renamed r role.Directive t))
        (λ d. sim_then r same (renamed_ahead r) (directive w u enter path hash t.text ts) (directive v u enter1 path (r.shift hash) t.text (all_renamed r ts)) (λ d. only (ahead cs [])) (λ d. only (ahead (shifted_ifs r cs) []))
        (sim_directive r not_reserved keeps_expansion keeps_uses w v u found enter enter1 enters path hash (r.shift hash) t.text ts h.1)
        (λ d. sim_only r (renamed_ahead r) (ahead cs []))))))
        (sim_only r (renamed_ahead r) (ahead cs run)) where
          old : List Token → Token → List Token → Task Ahead
          old run1 x xs = runs path run1 >>> λ d. tell (marks role.Directive x) >>> λ d. directive w u enter path hash x.text xs >>> λ d. only (ahead cs [])

          new : Text → Task Ahead
          new text = runs path (all_renamed r run) >>> λ d. tell (marks role.Directive (renamed r t)) >>> λ d. directive v u enter1 path (r.shift hash) text (all_renamed r ts) >>> λ d. only (ahead (shifted_ifs r cs) [])
    sim_by_line path cs run line Empty h =
        sim_live r (renamed_ahead r) cs (runs path run >>> λ d. only (ahead cs [])) (only (ahead cs run)) (runs path (all_renamed r run) >>> λ d. only (ahead (shifted_ifs r cs) [])) (only (ahead (shifted_ifs r cs) (all_renamed r run)))
        (sim_then r same (renamed_ahead r) (runs path run) (runs path (all_renamed r run)) (λ d. only (ahead cs [])) (λ d. only (ahead (shifted_ifs r cs) [])) (runs_sim path run) (λ d. sim_only r (renamed_ahead r) (ahead cs [])))
        (sim_only r (renamed_ahead r) (ahead cs run))
    sim_by_line path cs run line (Wordless hash) h =
        sim_live r (renamed_ahead r) cs (runs path run >>> λ d. ends (Ill cause.BadDirective hash)) (only (ahead cs run)) (runs path (all_renamed r run) >>> λ d. ends (Ill cause.BadDirective (r.shift hash))) (only (ahead (shifted_ifs r cs) (all_renamed r run)))
        (sim_then r same (renamed_ahead r) (runs path run) (runs path (all_renamed r run)) (λ d. ends (Ill cause.BadDirective hash)) (λ d. ends (Ill cause.BadDirective (r.shift hash))) (runs_sim path run)
        (λ d. sim_ends r (renamed_ahead r) (Ill cause.BadDirective hash) (ends (Ill cause.BadDirective (r.shift hash)))))
        (sim_only r (renamed_ahead r) (ahead cs run))

    sim_takes_rest : (path : Text) (cs : List OpenIf) (run taken line : List Token) → Sim r same (takes_rest path cs run taken line) (takes_rest path (shifted_ifs r cs) (all_renamed r run) (all_renamed r taken) (all_renamed r line))
    sim_takes_rest path cs run taken [] = sim_only r same Done
    sim_takes_rest path cs run taken (t ∷ line) =
        sim_then r same same (inside path (run_with cs run taken) (reads 1 (Took ∷ []))) (inside path (run_with (shifted_ifs r cs) (all_renamed r run) (all_renamed r taken)) (reads 1 (Took ∷ [])))
        (λ d. takes_rest path cs run (taken ++ t ∷ []) line) (λ d. takes_rest path (shifted_ifs r cs) (all_renamed r run) (all_renamed r taken ++ renamed r t ∷ []) (all_renamed r line))
        (sim_inside r same path (run_with cs run taken) (run_with (shifted_ifs r cs) (all_renamed r run) (all_renamed r taken)) (reads 1 (Took ∷ [])) (reads 1 (Took ∷ [])) (sim_reads r 1 (Took ∷ []) (Took ∷ []) refl))
        (λ d. sim_to r same (takes_rest path cs run (taken ++ t ∷ []) line) (takes_rest path (shifted_ifs r cs) (all_renamed r run) (all_renamed r taken ++ renamed r t ∷ []) (all_renamed r line))
        (takes_rest path (shifted_ifs r cs) (all_renamed r run) (all_renamed r (taken ++ t ∷ [])) (all_renamed r line))
        (ap (λ x. takes_rest path (shifted_ifs r cs) (all_renamed r run) x (all_renamed r line)) (sym (map-append (renamed r) taken (t ∷ [])))) (sim_takes_rest path cs run (taken ++ t ∷ []) line))

    sim_takes_line : (path : Text) (cs : List OpenIf) (run line : List Token) → Sim r same (takes_line path cs run line) (takes_line path (shifted_ifs r cs) (all_renamed r run) (all_renamed r line))
    sim_takes_line path cs run line = sim_takes_rest path cs run [] line

    sim_lines : (path : Text) (fault : Option End) (lines : List (List Token)) → AllByRecursion (IsApart r) lines → (cs : List OpenIf) (run : List Token)
        → Sim r same (does_lines w u enter path fault lines cs run) (does_lines v u enter1 path (option_map (renamed_end r) fault) (map (all_renamed r) lines) (shifted_ifs r cs) (all_renamed r run))
    sim_lines path fault [] h cs run = sim_at_end path run fault cs
    sim_lines path fault (line ∷ lines) h cs run =
        sim_then r same same (takes_line path cs run line) (takes_line path (shifted_ifs r cs) (all_renamed r run) (all_renamed r line))
        (λ d. by_line w u enter path cs run line (line_of line) >>> λ a. does_lines w u enter path fault lines a.open_ifs a.run)
        (λ d. by_line v u enter1 path (shifted_ifs r cs) (all_renamed r run) (all_renamed r line) (line_of (all_renamed r line)) >>> λ a. does_lines v u enter1 path (option_map (renamed_end r) fault) (map (all_renamed r) lines) a.open_ifs a.run)
        (sim_takes_line path cs run line)
        (λ d. sim_then r (renamed_ahead r) same (by_line w u enter path cs run line (line_of line)) (by_line v u enter1 path (shifted_ifs r cs) (all_renamed r run) (all_renamed r line) (line_of (all_renamed r line)))
        (λ a. does_lines w u enter path fault lines a.open_ifs a.run) (λ a. does_lines v u enter1 path (option_map (renamed_end r) fault) (map (all_renamed r) lines) a.open_ifs a.run)
        (sim_to r (renamed_ahead r) (by_line w u enter path cs run line (line_of line)) (by_line v u enter1 path (shifted_ifs r cs) (all_renamed r run) (all_renamed r line) (line_of (all_renamed r line)))
        (by_line v u enter1 path (shifted_ifs r cs) (all_renamed r run) (all_renamed r line) (renamed_line r (line_of line)))
        (ap (by_line v u enter1 path (shifted_ifs r cs) (all_renamed r run) (all_renamed r line)) (line_renamed r line h.0)) (sim_by_line path cs run line (line_of line) h.0))
        (λ a. sim_lines path fault lines h.1 a.open_ifs a.run))

  sim_file : (n : ℕ) → Enters r (does_file w u n) (does_file v u n)
  sim_file zero path file h =
      sim_then r same same (tell (Opened path ∷ [])) (tell (Opened path ∷ [])) (λ d. ends (Over Includes)) (λ d. ends (Over Includes)) (sim_tell r (Opened path ∷ []) (Opened path ∷ []) refl) (λ d. sim_ends r same (Over Includes) (ends (Over Includes)))
  sim_file (suc n) path file h =
      sim_then r same same (tell (Opened path ∷ [])) (tell (Opened path ∷ [])) (λ d. reads 1 [] >>> λ d. old) (λ d. reads 1 [] >>> λ d. new) (sim_tell r (Opened path ∷ []) (Opened path ∷ []) refl)
      (λ d. sim_then r same same (reads 1 []) (reads 1 []) (λ d. old) (λ d. new) (sim_reads r 1 [] [] refl)
      (λ d. sim_lines (does_file w u n) (does_file v u n) (sim_file n) path file.fault file.lines h [] [])) where
        old : Task Nothing
        old = does_lines w u (does_file w u n) path file.fault file.lines [] []

        new : Task Nothing
        new = does_lines v u (does_file v u n) path (option_map (renamed_end r) file.fault) (map (all_renamed r) file.lines) [] []

  sim_first_file : (path : Text) → Sim r same (does_first_file w u path) (does_first_file v u path)
  sim_first_file path = sim_opens r w v found (does_file w u levels) (does_file v u levels) (sim_file levels) (place_in (w.number path) 0) (place_in (v.number path) 0) (path ∷ [])

  sim_unit : Sim r same (does_unit w u) (does_unit v u)
  sim_unit = sim_then r same same (does_first_file w u (words_path u)) (does_first_file v u (words_path u)) (λ d. does_first_file w u u.main) (λ d. does_first_file v u u.main) (sim_first_file (words_path u)) (λ d. sim_first_file u.main)

  pub keeps : (s : State) (events : List Event) → preprocessed w u ≡ Goes Done s events → AllByRecursion (IsFine r) events → preprocessed v u ≡ Goes Done (renamed_state r s) (map (renamed_event r) events)
  unfolding preprocessed
  keeps s events e fine = (subst (λ p. Follows r same p (does_unit v u at_first)) e (sim_unit.at at_first (record { no_macro = refl; no_parameter = λ name m k. subst (HasNoParameter r) k tt })) fine).0
