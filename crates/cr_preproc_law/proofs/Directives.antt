-- Directives do the same.
use Rattle.std.proofs.Common.{◌≡◌, Bool, true, false, cond, List, [], ◌∷◌, ◌++◌, refl, ap, sym, ◌∙◌, subst, Some, None, Option}
use Rattle.std.proofs.Math.Path.{fun_ext}
use Rattle.std.specs.Prelude.{flat_map, codes, ◌||◌, ◌&&◌, bytes_eq, option_map}
use Rattle.std.specs.List.{AllByRecursion}
use Rattle.cr_base.specs.NameTable.{with_text}
use Rattle.cr_base.specs.Names.{is_reserved}
use Rattle.cr_base.specs.declared.token.Place.{Place}
use Rattle.cr_base.specs.declared.cause.IllCause.TheVariants as cause
use Rattle.cr_base.specs.declared.cause.Role.TheVariants.{Param, Directive, Opaque}
use Rattle.cr_base.specs.declared.unit.Unit.{Unit}
use Rattle.cr_snapshot.specs.IncludeSearch.{candidates}
use Rattle.cr_macros.specs.Tokens.{Text, Token, MacroText, is_ident, is_mark}
use Rattle.cr_expand_law.specs.Renaming.{Renaming, renamed, all_renamed, renamed_macro, IsNoParameter, KeepsExpansion}
use Rattle.cr_expand_law.specs.Uses.{KeepsUses}
use Rattle.cr_phase4.specs.Tasks.{Ill, Event, Defined, State, Goes, Task, Nothing, Done, ◌>>>◌, ready, ends, tell, change, marks, in_directive}
use Rattle.cr_phase4.specs.Definition.{is_free_name, Definition, definition, undefined_name}
use Rattle.cr_phase4.specs.Search.{World}
use Rattle.cr_phase4.specs.Runs.{expands}
use Rattle.cr_phase4.specs.Directives.{Opening, Header, all_marks, blank_of, if_last, to_greater, angled, header_name, site_of, includes_header, includes_expanded, includes, with_macro, parameter_marks, definition_marks, defines, undefines, begins_with_once, pragma, plain_directive, directive}
use Rattle.cr_preproc_law.specs.Renaming.{renamed_state, IsSame, AreSame}
use Rattle.cr_preproc_law.proofs.Tokens.{renamed_events, all_shifted, fine_left, fine_right, same_token, all_same, of_directive, of_param, marked_same, all_marked_same, marks_renamed, both_renamed, all_marks_renamed}
use Rattle.cr_preproc_law.proofs.Following.{Good, Sim, sim_then, sim_only, sim_ends, sim_told, sim_tell, sim_to, sim_if, sim_in_directive, same, sim_expands}
use Rattle.cr_preproc_law.proofs.Searched.{IsRenamedFinding, Enters, sim_opens}
use Rattle.cr_preproc_law.proofs.Definitions.{renamed_definition, IsKept, kept_definition, no_parameters, definition_renamed}

-- the macros behind a definition

map_cond : (r : Renaming) (b : Bool) (x y : Option MacroText) → option_map (renamed_macro r) (cond b x y) ≡ cond b (option_map (renamed_macro r) x) (option_map (renamed_macro r) y)
map_cond r true x y = refl
map_cond r false x y = refl

abbrev with_macros : State → (Text → Option MacroText) → State
with_macros s f = record s { macro = f }

with_macro_renamed : (r : Renaming) (name : Text) (m : Option MacroText) (s : State) → renamed_state r (with_macro name m s) ≡ with_macro name (option_map (renamed_macro r) m) (renamed_state r s)
with_macro_renamed r name m s = ap (with_macros s) (fun_ext (λ other. map_cond r (bytes_eq name other) m (s.macro other)))

abbrev pub HasNoParameter : Renaming → Option MacroText → Type 0
HasNoParameter r None = Prim.Unit {0}
HasNoParameter r (Some m) = AllByRecursion (IsNoParameter r m) m.body

good_with : (r : Renaming) (name : Text) (o : Option MacroText) (s : State) → Good r s → cond (bytes_eq name r.new) o (s.macro r.new) ≡ None → HasNoParameter r o → Good r (with_macro name o s)
good_with r name o s good e h = record { no_macro = e; no_parameter = λ other m k. go (bytes_eq name other) other m k } where
  go : (b : Bool) (other : Text) (m : MacroText) → cond b o (s.macro other) ≡ Some m → AllByRecursion (IsNoParameter r m) m.body
  go true other m k = subst (HasNoParameter r) k h
  go false other m k = good.no_parameter other m k

none_or : (b : Bool) (o : Option MacroText) → o ≡ None → cond b None o ≡ None
none_or true o e = refl
none_or false o e = e

abbrev told_by : Definition → List Event
told_by d = definition_marks d ++ Defined d.name d.macro ∷ []

told_renamed : (r : Renaming) (d : Definition) → AllByRecursion (IsNoParameter r d.macro) d.macro.body → told_by (renamed_definition r d) ≡ renamed_events r (told_by d)
told_renamed r d h =
    both_renamed r (definition_marks d) (definition_marks (renamed_definition r d)) (Defined d.name d.macro ∷ []) (Defined (renamed r d.name) (renamed_macro r d.macro) ∷ []) (definition_renamed r d h) refl

sim_defines : (r : Renaming) (hash hash1 : Place) (o o1 : Option Definition) → IsKept r o o1 → Sim r same (defines hash o) (defines hash1 o1)
sim_defines r hash hash1 None o1 k = sim_ends r same (Ill cause.BadDefine hash) (defines hash1 o1)
sim_defines r hash hash1 (Some d) o1 k = record {
  at = λ s good fine0.
      let fine = fine_left r (told_by d) [] fine0 in
      let marked = fine_left r (definition_marks d) (Defined d.name d.macro ∷ []) fine in
      let defined = (fine_right r (definition_marks d) (Defined d.name d.macro ∷ []) fine).0 in
      let same_name : IsSame r d.name = marked_same r Directive d.name (of_directive r) (fine_left r (marks Directive d.name) (all_marks Param d.parameters ++ flat_map (parameter_marks d.macro) d.macro.body) marked) in
      let rest = fine_right r (marks Directive d.name) (all_marks Param d.parameters ++ flat_map (parameter_marks d.macro) d.macro.body) marked in
      let same_params = all_marked_same r Param d.parameters (of_param r) (fine_left r (all_marks Param d.parameters) (flat_map (parameter_marks d.macro) d.macro.body) rest) in
      let free = no_parameters r d.macro d.macro.body (fine_right r (all_marks Param d.parameters) (flat_map (parameter_marks d.macro) d.macro.body) rest) defined.1 in (
        ap (λ x. defines hash1 x (renamed_state r s)) (k same_name same_params free)
            ∙ ap (λ x. Goes Done (with_macro x.text (Some (renamed_macro r d.macro)) (renamed_state r s)) (told_by (renamed_definition r d) ++ [])) (same_token r d.name same_name)
            ∙ ap (λ x. Goes Done x (told_by (renamed_definition r d) ++ [])) (sym (with_macro_renamed r d.name.text (Some d.macro) s))
            ∙ ap (Goes Done (renamed_state r (with_macro d.name.text (Some d.macro) s))) (both_renamed r (told_by d) (told_by (renamed_definition r d)) [] [] (told_renamed r d free) refl),
        good_with r d.name.text (Some d.macro) s good (ap (λ b. cond b (Some d.macro) (s.macro r.new)) defined.0 ∙ good.no_macro) free,
      );
}

abbrev IsSameName : Renaming → Option Token → Type 0
IsSameName r None = Prim.Unit {0}
IsSameName r (Some t) = IsSame r t

undefined_same : (r : Renaming) (ts : List Token) → AreSame r ts → (undefined_name (all_renamed r ts) ≡ option_map (renamed r) (undefined_name ts)) × IsSameName r (undefined_name ts)
undefined_same r [] h = (refl, tt)
undefined_same r (t ∷ ts) h = (ap (λ x. cond (is_free_name x) (Some (renamed r t)) None) (same_token r t h.0) ∙ go (is_free_name t), known (is_free_name t)) where
  go : (b : Bool) → cond b (Some (renamed r t)) None ≡ option_map (renamed r) (cond b (Some t) None)
  go true = refl
  go false = refl

  known : (b : Bool) → IsSameName r (cond b (Some t) None)
  known true = h.0
  known false = tt

sim_undefines : (r : Renaming) (hash hash1 : Place) (o : Option Token) → IsSameName r o → Sim r same (undefines hash o) (undefines hash1 (option_map (renamed r) o))
sim_undefines r hash hash1 None h = sim_ends r same (Ill cause.BadDefine hash) (ends (Ill cause.BadDefine hash1))
sim_undefines r hash hash1 (Some t) h =
    sim_then r same same (tell (marks Directive t)) (tell (marks Directive (renamed r t))) (λ d. change (with_macro t.text None)) (λ d. change (with_macro (renamed r t).text None)) (sim_tell r (marks Directive t) (marks Directive (renamed r t)) (marks_renamed r Directive t))
    (λ d. record {
      at = λ s good fine. (
        ap (λ x. Goes Done (with_macro x.text None (renamed_state r s)) []) (same_token r t h) ∙ ap (λ x. Goes Done x []) (sym (with_macro_renamed r t.text None s)),
        good_with r t.text None s good (none_or (bytes_eq t.text r.new) (s.macro r.new) good.no_macro) tt,
      );
    })

once_same : (r : Renaming) (ts : List Token) → AreSame r ts → begins_with_once (all_renamed r ts) ≡ begins_with_once ts
once_same r [] h = refl
once_same r (t ∷ ts) h = ap (λ x. is_ident x.kind && bytes_eq x.text (codes "once")) (same_token r t h.0)

sim_pragma : (r : Renaming) (path : Text) (ts : List Token) → AreSame r ts → Sim r same (pragma path ts) (pragma path (all_renamed r ts))
sim_pragma r path ts h =
    sim_to r same (pragma path ts) (pragma path (all_renamed r ts)) (cond (begins_with_once ts) (change (λ s. record s { once = with_text s.once path })) (tell (all_marks Opaque (all_renamed r ts))))
    (ap (λ b. cond b (change (λ s. record s { once = with_text s.once path })) (tell (all_marks Opaque (all_renamed r ts)))) (once_same r ts h))
    (sim_if r same (begins_with_once ts) (change (λ s. record s { once = with_text s.once path })) (tell (all_marks Opaque ts)) (change (λ s. record s { once = with_text s.once path })) (tell (all_marks Opaque (all_renamed r ts)))
    (record { at = λ s good fine. (refl, record { no_macro = good.no_macro; no_parameter = good.no_parameter }) })
    (sim_tell r (all_marks Opaque ts) (all_marks Opaque (all_renamed r ts)) (all_marks_renamed r Opaque ts)))

-- header names

last_shifted : (r : Renaming) (ts : List Token) (name : Text) → if_last (all_shifted r ts) name ≡ if_last ts name
last_shifted r [] name = refl
last_shifted r (t ∷ ts) name = refl

greater_shifted : (r : Renaming) (ts : List Token) → to_greater (all_shifted r ts) ≡ to_greater ts
greater_shifted r [] = refl
greater_shifted r (t ∷ ts) =
    ap (λ o. cond (is_mark (codes ">") t) o (option_map (λ name. (blank_of t ++ t.text) ++ name) (to_greater (all_shifted r ts)))) (last_shifted r ts (blank_of t))
    ∙ ap (λ o. cond (is_mark (codes ">") t) (if_last ts (blank_of t)) (option_map (λ name. (blank_of t ++ t.text) ++ name) o)) (greater_shifted r ts)

header_shifted : (r : Renaming) (ts : List Token) → header_name (all_shifted r ts) ≡ header_name ts
header_shifted r [] = refl
header_shifted r (t ∷ []) = refl
header_shifted r (t ∷ u ∷ ts) = ap (λ o. cond (is_mark (codes "<") t) (angled o) None) (greater_shifted r (u ∷ ts))

header_same : (r : Renaming) (ts : List Token) → AreSame r ts → header_name (all_renamed r ts) ≡ header_name ts
header_same r ts h = ap header_name (all_same r ts h) ∙ header_shifted r ts

module _ (r : Renaming) (not_reserved : is_reserved r.new ≡ false) (keeps_expansion : KeepsExpansion) (keeps_uses : KeepsUses) (w v : World) (u : Unit) (found : (path : Text) → IsRenamedFinding r (w.find path) (v.find path)) (enter enter1 : Opening) (enters : Enters r enter enter1) where
  sim_header : (path : Text) (hash hash1 : Place) (ts ts1 : List Token) (h : Header) → Sim r same (includes_header w u enter path hash ts h) (includes_header v u enter1 path hash1 ts1 h)
  sim_header path hash hash1 ts ts1 h = sim_opens r w v found enter enter1 enters (site_of hash ts) (site_of hash1 ts1) (candidates u path h.angled h.name)

  sim_expanded : (path : Text) (hash hash1 : Place) (ts ts1 : List Token) (o : Option Header) → Sim r same (includes_expanded w u enter path hash ts o) (includes_expanded v u enter1 path hash1 ts1 o)
  sim_expanded path hash hash1 ts ts1 None = sim_ends r same (Ill cause.BadDirective hash) (ends (Ill cause.BadDirective hash1))
  sim_expanded path hash hash1 ts ts1 (Some h) = sim_header path hash hash1 ts ts1 h

  sim_includes : (path : Text) (hash hash1 : Place) (ts : List Token) (o : Option Header) → Sim r same (includes w u enter path hash ts o) (includes v u enter1 path hash1 (all_renamed r ts) o)
  sim_includes path hash hash1 ts (Some h) = sim_header path hash hash1 ts (all_renamed r ts) h
  sim_includes path hash hash1 ts None =
      sim_then r (all_renamed r) same (in_directive hash (expands path ts)) (in_directive hash1 (expands path (all_renamed r ts)))
      (λ us. tell (all_marks Directive us) >>> λ d. includes_expanded w u enter path hash us (header_name us)) (λ us. tell (all_marks Directive us) >>> λ d. includes_expanded v u enter1 path hash1 us (header_name us))
      (sim_in_directive r (all_renamed r) hash hash1 (expands path ts) (expands path (all_renamed r ts)) (sim_expands r not_reserved keeps_expansion keeps_uses path ts))
      (λ us. sim_told r same (all_marks Directive us) (all_marks Directive (all_renamed r us)) (λ d. includes_expanded w u enter path hash us (header_name us)) (λ d. includes_expanded v u enter1 path hash1 (all_renamed r us) (header_name (all_renamed r us)))
      (λ fine. all_marks_renamed r Directive us)
      (λ fine. sim_to r same (includes_expanded w u enter path hash us (header_name us)) (includes_expanded v u enter1 path hash1 (all_renamed r us) (header_name (all_renamed r us))) (includes_expanded v u enter1 path hash1 (all_renamed r us) (header_name us))
      (ap (includes_expanded v u enter1 path hash1 (all_renamed r us)) (header_same r us (all_marked_same r Directive us (of_directive r) fine)))
      (sim_expanded path hash hash1 us (all_renamed r us) (header_name us))))

  sim_include : (path : Text) (hash hash1 : Place) (ts : List Token) → AreSame r ts
      → Sim r same (tell (all_marks Directive ts) >>> λ d. includes w u enter path hash ts (header_name ts)) (tell (all_marks Directive (all_renamed r ts)) >>> λ d. includes v u enter1 path hash1 (all_renamed r ts) (header_name (all_renamed r ts)))
  sim_include path hash hash1 ts a =
      sim_then r same same (tell (all_marks Directive ts)) (tell (all_marks Directive (all_renamed r ts))) (λ d. includes w u enter path hash ts (header_name ts)) (λ d. includes v u enter1 path hash1 (all_renamed r ts) (header_name (all_renamed r ts)))
      (sim_tell r (all_marks Directive ts) (all_marks Directive (all_renamed r ts)) (all_marks_renamed r Directive ts))
      (λ d. sim_to r same (includes w u enter path hash ts (header_name ts)) (includes v u enter1 path hash1 (all_renamed r ts) (header_name (all_renamed r ts))) (includes v u enter1 path hash1 (all_renamed r ts) (header_name ts))
      (ap (includes v u enter1 path hash1 (all_renamed r ts)) (header_same r ts a)) (sim_includes path hash hash1 ts (header_name ts)))

  sim_undef : (hash hash1 : Place) (ts : List Token) → AreSame r ts → Sim r same (undefines hash (undefined_name ts)) (undefines hash1 (undefined_name (all_renamed r ts)))
  sim_undef hash hash1 ts a =
      sim_to r same (undefines hash (undefined_name ts)) (undefines hash1 (undefined_name (all_renamed r ts))) (undefines hash1 (option_map (renamed r) (undefined_name ts))) (ap (undefines hash1) (undefined_same r ts a).0)
      (sim_undefines r hash hash1 (undefined_name ts) (undefined_same r ts a).1)

  -- each word does what it does
  abbrev chosen : Bool → Bool → Bool → Bool → Bool → Bool → Task Nothing → Task Nothing → Task Nothing → Task Nothing → Place → Task Nothing
  chosen include undef pragma1 line ident error m n p q hash =
      cond include m (cond undef n (cond pragma1 p (cond line q (cond ident ready (cond error (q >>> λ d. ends (Ill cause.ErrorDirective hash)) (ends (Ill cause.BadDirective hash)))))))

  sim_chosen : (hash hash1 : Place) (a b c d e f : Bool) (m n p q m1 n1 p1 q1 : Task Nothing) → Sim r same m m1 → Sim r same n n1 → Sim r same p p1 → Sim r same q q1 → Sim r same (chosen a b c d e f m n p q hash) (chosen a b c d e f m1 n1 p1 q1 hash1)
  sim_chosen hash hash1 true b c d e f m n p q m1 n1 p1 q1 h i j k = h
  sim_chosen hash hash1 false true c d e f m n p q m1 n1 p1 q1 h i j k = i
  sim_chosen hash hash1 false false true d e f m n p q m1 n1 p1 q1 h i j k = j
  sim_chosen hash hash1 false false false true e f m n p q m1 n1 p1 q1 h i j k = k
  sim_chosen hash hash1 false false false false true f m n p q m1 n1 p1 q1 h i j k = sim_only r same Done
  sim_chosen hash hash1 false false false false false true m n p q m1 n1 p1 q1 h i j k =
      sim_then r same same q q1 (λ d. ends (Ill cause.ErrorDirective hash)) (λ d. ends (Ill cause.ErrorDirective hash1)) k (λ d. sim_ends r same (Ill cause.ErrorDirective hash) (ends (Ill cause.ErrorDirective hash1)))
  sim_chosen hash hash1 false false false false false false m n p q m1 n1 p1 q1 h i j k = sim_ends r same (Ill cause.BadDirective hash) (ends (Ill cause.BadDirective hash1))

  sim_plain : (path : Text) (hash hash1 : Place) (word : Text) (ts : List Token) → AreSame r ts → Sim r same (plain_directive w u enter path hash word ts) (plain_directive v u enter1 path hash1 word (all_renamed r ts))
  sim_plain path hash hash1 word ts a =
      sim_chosen hash hash1 (bytes_eq word (codes "include")) (bytes_eq word (codes "undef")) (bytes_eq word (codes "pragma")) (bytes_eq word (codes "line") || bytes_eq word (codes "warning")) (bytes_eq word (codes "ident")) (bytes_eq word (codes "error"))
      (tell (all_marks Directive ts) >>> λ d. includes w u enter path hash ts (header_name ts)) (undefines hash (undefined_name ts)) (pragma path ts) (tell (all_marks Directive ts))
      (tell (all_marks Directive (all_renamed r ts)) >>> λ d. includes v u enter1 path hash1 (all_renamed r ts) (header_name (all_renamed r ts))) (undefines hash1 (undefined_name (all_renamed r ts))) (pragma path (all_renamed r ts)) (tell (all_marks Directive (all_renamed r ts)))
      (sim_include path hash hash1 ts a) (sim_undef hash hash1 ts a) (sim_pragma r path ts a)
      (sim_tell r (all_marks Directive ts) (all_marks Directive (all_renamed r ts)) (all_marks_renamed r Directive ts))

  pub sim_directive : (path : Text) (hash hash1 : Place) (word : Text) (ts : List Token) → (bytes_eq word (codes "define") ≡ false → AreSame r ts) → Sim r same (directive w u enter path hash word ts) (directive v u enter1 path hash1 word (all_renamed r ts))
  sim_directive path hash hash1 word ts a = go (bytes_eq word (codes "define")) a where
    go : (b : Bool) → (b ≡ false → AreSame r ts) → Sim r same (cond b (defines hash (definition ts)) (plain_directive w u enter path hash word ts)) (cond b (defines hash1 (definition (all_renamed r ts))) (plain_directive v u enter1 path hash1 word (all_renamed r ts)))
    go true k = sim_defines r hash hash1 (definition ts) (definition (all_renamed r ts)) (kept_definition r not_reserved ts)
    go false k = sim_plain path hash hash1 word ts (k refl)
