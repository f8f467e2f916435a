-- What a unit has once a macro is defined or taken away.
use Rattle.std.proofs.Common.{◌≡◌, ◌+◌, ◌<◌, Bool, true, false, cond, List, [], ◌∷◌, ◌++◌, drop, length, refl, ap, sym, ◌∙◌, subst, Some, None, Option, Bor, arith, append-nil}
use Rattle.std.specs.Prelude.{flat_map, is_some, ◌&&◌, not}
use Rattle.std.specs.Option.{option_map, option_copied}
use Rattle.std.proofs.Math.Path.{fun_ext}
use Rattle.std.proofs.lemmas.Grind.{flat_map-append}
use Rattle.std.proofs.lemmas.Slice.Eq.{bytes_eq-Decides}
use Rattle.cr_base.specs.NameTable.{IsDistinct}
use Rattle.cr_base.specs.declared.cause.Role.TheVariants as role
use Rattle.cr_base.specs.declared.token.Name.{Name}
use Rattle.cr_base.specs.declared.token.Place.{Place}
use Rattle.cr_base.specs.declared.token.PpTok.{PpTok}
use Rattle.cr_macros.specs.declared.macros.Macro.{Macro}
use Rattle.cr_macros.specs.Definition.{text_of}
use Rattle.cr_macros.specs.MacroTables.{Macros, macro_named, macro_text}
use Rattle.cr_macros.specs.Substitution.{param}
use Rattle.cr_macros.specs.Tokens.{Text, Token, MacroText, token_of, tokens_of}
use Rattle.cr_expand.specs.Machines.{AreMacros}
use Rattle.cr_preproc.specs.declared.progress.Progress.{Progress}
use Rattle.cr_phase4.specs.Tasks.{Event, Defined, Goes, Done, behind, tell, change, marks}
use Rattle.cr_phase4.specs.Definition.{Definition, definition, is_free_name, is_rest, if_good, is_good, macro_of, parameters_of}
use Rattle.cr_phase4.specs.Directives.{all_marks, parameter_marks, definition_marks, with_macro, defines, undefines}
use Rattle.cr_phase4.specs.PreprocessingRun.{steps, final_tokens}
use Rattle.cr_phase4.specs.Traces.{seen_of, all_events_seen, new_macros_of, body_params_of, opaque_place}
use Rattle.cr_preproc.specs.Seen.{AreNamed, AreMacrosNamed, macros_of, SetsText}
use Rattle.cr_preproc.specs.Progressing.{state_of, kept, IsProgress, IsTraced, IsNotOpaque, definition_of, definition_events, Did}
use Rattle.cr_preproc.proofs.MacroNames.{lookup_same}
use Rattle.cr_preproc.proofs.Progresses.{same_parts, steps_behind, final_behind, told_none, did_then, AreTaking, taking_both, taking_marks, taking_all, taking_steps, taking_final, taking_new_macros, taking_body_params, taking_opaque}
use Rattle.cr_preproc.proofs.Notings.{nothing_behind, none_opaque, map_none, still_good, traced_told}

-- what a line defines

definition_parts : (t : Token) (rest : List Token) (d : Definition) → definition (t ∷ rest) ≡ Some d → d ≡ record { name = t; parameters = parameters_of rest; macro = d.macro }
definition_parts t rest d e = go (is_free_name t && not (is_rest t)) (macro_of rest) e where
  whole : MacroText → Definition
  whole m = record { name = t; parameters = parameters_of rest; macro = m }

  same : (m : MacroText) → whole m ≡ d → d ≡ whole d.macro
  same m f = sym f ∙ ap whole (ap (λ x. x.macro) f)

  kind : (good : Bool) (m : MacroText) → cond good (Some (whole m)) None ≡ Some d → d ≡ whole d.macro
  kind true m f = let g : whole m ≡ d = cc in same m g
  kind false m f = let no : ⊥ = cc in absurd no

  go : (b : Bool) (o : Option MacroText) → cond b (if_good t rest o) None ≡ Some d → d ≡ whole d.macro
  go false o f = let no : ⊥ = cc in absurd no
  go true None f = let no : ⊥ = cc in absurd no
  go true (Some m) f = kind (is_good m) m f

pub defined_long : (names : List Text) (line : List PpTok) (d : Definition) → definition (tokens_of names (drop 2 line)) ≡ Some d → 2 < length line
defined_long names [] d e = let no : ⊥ = cc in absurd no
defined_long names (a ∷ []) d e = let no : ⊥ = cc in absurd no
defined_long names (a ∷ b ∷ []) d e = let no : ⊥ = cc in absurd no
defined_long names (a ∷ b ∷ t ∷ ts) d e = omega arith

-- its name stands first, and what is behind that decides the rest
pub defined_by : (names : List Text) (ts : List PpTok) (name : PpTok) (behind : List PpTok) (d : Definition) → ts ≡ name ∷ behind → definition (tokens_of names ts) ≡ Some d → d ≡ definition_of names name behind d.macro
defined_by names ts name behind d h e = definition_parts (token_of names [] name) (tokens_of names behind) d (ap (λ l. definition (tokens_of names l)) (sym h) ∙ e)

pub first_named : (names : List Text) (ts : List PpTok) (name : PpTok) (behind : List PpTok) → ts ≡ name ∷ behind → AreNamed names ts → name.text.0 < length names
first_named names ts name behind h k = (subst (AreNamed names) h k).0

-- the macro that a name has, by texts
pub macro_at : (names : List Text) (n : Name) (macros : Macros) (found : Option (Bor Macro)) → IsDistinct names → n.0 < length names → AreMacrosNamed names macros
    → option_copied found ≡ macro_named n macros → option_map (macro_text names) (option_copied found) ≡ macros_of names macros (text_of names n)
macro_at names n macros found d h k e = ap (option_map (macro_text names)) (e ∙ sym (lookup_same names n macros d h k))

-- the macro of a line that was carried out
pub defined_now : (names : List Text) (line : List PpTok) (old now : Macros) (d : Definition) → SetsText names old d.name.text (Some d.macro) now → macros_of names now d.name.text ≡ Some d.macro
defined_now names line old now d sets = sets d.name.text ∙ ap (λ b. cond b (Some d.macro) (macros_of names old d.name.text)) ((bytes_eq-Decides d.name.text d.name.text).1 refl)

-- what happens where a macro is defined

marked_if : (b : Bool) (t : Token) → AreTaking IsNotOpaque (cond b (marks role.Param t) [])
marked_if true t = taking_marks IsNotOpaque role.Param t tt
marked_if false t = tt

marked_body : (m : MacroText) (ts : List Token) → AreTaking IsNotOpaque (flat_map (parameter_marks m) ts)
marked_body m [] = tt
marked_body m (t ∷ ts) = taking_both IsNotOpaque (parameter_marks m t) (flat_map (parameter_marks m) ts) (marked_if (is_some (param m t)) t) (marked_body m ts)

pub marked : (d : Definition) → AreTaking IsNotOpaque (definition_marks d)
marked d =
    taking_both IsNotOpaque (marks role.Directive d.name) (all_marks role.Param d.parameters ++ flat_map (parameter_marks d.macro) d.macro.body) (taking_marks IsNotOpaque role.Directive d.name tt)
    (taking_both IsNotOpaque (all_marks role.Param d.parameters) (flat_map (parameter_marks d.macro) d.macro.body) (taking_all IsNotOpaque role.Param d.parameters tt) (marked_body d.macro d.macro.body))

events_size : (d : Definition) → steps (definition_events d) ≡ 0
events_size d = steps_behind (definition_marks d) (Defined d.name d.macro ∷ []) ∙ ap (λ n. n + 0) (taking_steps IsNotOpaque (definition_marks d) (marked d))

events_final : (d : Definition) → final_tokens (definition_events d) ≡ []
events_final d = final_behind (definition_marks d) (Defined d.name d.macro ∷ []) ∙ ap (λ l. l ++ []) (taking_final IsNotOpaque (definition_marks d) (marked d))

-- what is seen, where the definition itself shows nothing of it
only_marks : {A : Type 0} (f : Event → List A) (d : Definition) → f (Defined d.name d.macro) ≡ [] → flat_map f (definition_events d) ≡ flat_map f (definition_marks d)
only_marks f d h = flat_map-append f (definition_marks d) (Defined d.name d.macro ∷ []) ∙ ap (λ l. flat_map f (definition_marks d) ++ (l ++ [])) h ∙ append-nil (flat_map f (definition_marks d))

-- and the other way round
only_defined : {A : Type 0} (f : Event → List A) (d : Definition) → flat_map f (definition_marks d) ≡ [] → flat_map f (definition_events d) ≡ f (Defined d.name d.macro)
only_defined f d h = flat_map-append f (definition_marks d) (Defined d.name d.macro ∷ []) ∙ ap (λ l. l ++ (f (Defined d.name d.macro) ++ [])) h ∙ append-nil (f (Defined d.name d.macro))

pub defined_traced : (p q : Progress) (d : Definition)
    → q.trace.seen.items ≡ p.trace.seen.items ++ all_events_seen (text_of p.names p.renaming.old) (text_of p.names p.renaming.new) (definition_marks d)
    → q.trace.new_macros.items ≡ p.trace.new_macros.items ++ new_macros_of (text_of p.names p.renaming.new) (Defined d.name d.macro)
    → q.trace.body_params.items ≡ p.trace.body_params.items ++ body_params_of (text_of p.names p.renaming.old) (text_of p.names p.renaming.new) (Defined d.name d.macro)
    → q ≡ record p { trace = record p.trace { seen = q.trace.seen; new_macros = q.trace.new_macros; body_params = q.trace.body_params } }
    → IsTraced p q (definition_events d)
defined_traced p q d seen new_macros body_params same = record {
  trace =
      ap (λ x. kept x.trace) same
      ∙ same_parts _ _ _ _ _ _ _ _
      (seen ∙ ap (λ l. p.trace.seen.items ++ l) (sym all_seen))
      (new_macros ∙ ap (λ l. p.trace.new_macros.items ++ l) (sym (only_defined (new_macros_of new) d (taking_new_macros IsNotOpaque new (definition_marks d) (marked d)))))
      (body_params ∙ ap (λ l. p.trace.body_params.items ++ l) (sym (only_defined (body_params_of old new) d (taking_body_params IsNotOpaque old new (definition_marks d) (marked d)))))
      (nothing_behind p.trace.opaque.items _
      (ap (flat_map (λ s. opaque_place s s.role)) all_seen ∙ taking_opaque IsNotOpaque (λ s. []) none_opaque old new (definition_marks d) (marked d) ∙ map_none (all_events_seen old new (definition_marks d))));
  same = same ∙ ap (λ t. record p { trace = t }) (sym (ap (λ x. x.trace) same));
} where
  old : Text
  old = text_of p.names p.renaming.old

  new : Text
  new = text_of p.names p.renaming.new

  all_seen : all_events_seen old new (definition_events d) ≡ all_events_seen old new (definition_marks d)
  all_seen = only_marks (seen_of old new) d refl

-- the same, of another name for the definition
pub traced_as : (p q : Progress) (d e : Definition) → d ≡ e
    → q.trace.seen.items ≡ p.trace.seen.items ++ all_events_seen (text_of p.names p.renaming.old) (text_of p.names p.renaming.new) (definition_marks d)
    → q.trace.new_macros.items ≡ p.trace.new_macros.items ++ new_macros_of (text_of p.names p.renaming.new) (Defined d.name d.macro)
    → q.trace.body_params.items ≡ p.trace.body_params.items ++ body_params_of (text_of p.names p.renaming.old) (text_of p.names p.renaming.new) (Defined d.name d.macro)
    → q ≡ record p { trace = record p.trace { seen = q.trace.seen; new_macros = q.trace.new_macros; body_params = q.trace.body_params } }
    → IsTraced p q (definition_events e)
traced_as p q d e named seen new_macros body_params same = subst (λ x. IsTraced p q (definition_events x)) named (defined_traced p q d seen new_macros body_params same)

-- a macro is set

module _ (p : Progress) (macros : Macros) (good : IsProgress p) (known : AreMacros p.names macros) (named : AreMacrosNamed p.names macros) where
  abbrev set : Progress
  set = record p { macros = macros }

  set_good : IsProgress set
  set_good = record {
    distinct = good.distinct;
    old = good.old;
    new = good.new;
    macros = known;
    macro_names = named;
    tokens = good.tokens;
    used = good.used;
    reading = good.reading;
    room = good.room;
  }

  set_state : (name : Text) (m : Option MacroText) → SetsText p.names p.macros name m macros → with_macro name m (state_of p) ≡ state_of set
  set_state name m sets = ap (λ f. record (state_of p) { macro = f }) (fun_ext (λ other. sym (sets other)))

  pub changed_did : (name : Text) (m : Option MacroText) → SetsText p.names p.macros name m macros → Did 0 p set (change (with_macro name m)) Done
  changed_did name m sets = record {
    events = [];
    size = refl;
    goes = ap (λ s. Goes Done s []) (set_state name m sets);
    told = let t = told_none p in record { tokens = t.tokens; trace = t.trace; renaming = t.renaming; names = t.names };
    good = set_good;
  }

  pub defined_did : (q : Progress) (hash : Place) (o : Option Definition) (d : Definition) → o ≡ Some d → SetsText p.names p.macros d.name.text (Some d.macro) macros
      → IsTraced set q (definition_events d) → Did 0 p q (defines hash o) Done
  defined_did q hash o d e sets h = record {
    events = definition_events d;
    size = events_size d;
    goes =
        ap (λ x. defines hash x (state_of p)) e ∙ ap (λ es. Goes Done (with_macro d.name.text (Some d.macro) (state_of p)) es) (append-nil (definition_events d))
        ∙ ap (λ s. Goes Done s (definition_events d)) (set_state d.name.text (Some d.macro) sets ∙ ap state_of (sym h.same));
    told = let t = traced_told set q (definition_events d) (events_final d) h in record { tokens = t.tokens; trace = t.trace; renaming = t.renaming; names = t.names };
    good = still_good set q set_good h.same;
  }

-- a macro is taken away behind its mark
pub undefined_did : (p q : Progress) (macros : Macros) (hash : Place) (o : Option Token) (t : Token) → o ≡ Some t → IsProgress p
    → Did 0 p q (tell (marks role.Directive t)) Done → AreMacros q.names macros → AreMacrosNamed q.names macros → SetsText q.names q.macros t.text None macros
    → Did 0 p (record q { macros = macros }) (undefines hash o) Done
undefined_did p q macros hash o t e good marked known named sets =
    subst (λ x. Did 0 p (record q { macros = macros }) (undefines hash x) Done) (sym e)
    (did_then 0 0 p q (record q { macros = macros }) (tell (marks role.Directive t)) (λ d. change (with_macro t.text None)) Done Done good marked (changed_did q macros marked.good known named t.text None sets))
