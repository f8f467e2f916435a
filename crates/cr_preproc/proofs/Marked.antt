-- Which names of a macro are parameters, and what is seen of a definition.
use Rattle.std.proofs.Common.{◌≡◌, ℕ, Bool, true, false, cond, List, [], ◌∷◌, ◌++◌, map, Option, Some, None, refl, ap, sym, ◌∙◌}
use Rattle.std.specs.Prelude.{codes, flat_map, ◌||◌, ◌&&◌, bytes_eq, is_some}
use Rattle.std.specs.List.{list_any}
use Rattle.std.proofs.lemmas.List.{append_assoc}
use Rattle.std.proofs.lemmas.Grind.{flat_map-append}
use Rattle.cr_base.specs.declared.token.Name.{Name}
use Rattle.cr_base.specs.declared.cause.Role.{Role}
use Rattle.cr_base.specs.declared.cause.Role.TheVariants as role
use Rattle.cr_macros.specs.declared.macros.Seen.{Seen}
use Rattle.cr_macros.specs.Definition.{text_of}
use Rattle.cr_macros.specs.Substitution.{one_more, index_of, named_params, param}
use Rattle.cr_macros.specs.Tokens.{Text, Token, MacroText, Event as Telling, takes}
use Rattle.cr_phase4.specs.Definition.{Definition}
use Rattle.cr_phase4.specs.Directives.{all_marks, parameter_marks, definition_marks}
use Rattle.cr_phase4.specs.Tasks.{Told, marks}
use Rattle.cr_phase4.specs.Traces.{seen_telling, seen_as, all_seen_as, params_seen, seen_of, all_events_seen}

index_step : (b : Bool) (o : Option ℕ) → is_some (cond b (Some 0) (one_more o)) ≡ (b || is_some o)
index_step true o = refl
index_step false None = refl
index_step false (Some n) = refl

or_assoc : (a b c : Bool) → (a || (b || c)) ≡ ((a || b) || c)
or_assoc true b c = refl
or_assoc false b c = refl

or_none : (b : Bool) → (b || false) ≡ b
or_none true = refl
or_none false = refl

rest_some : (v : Bool) (word : Text) → is_some (index_of (cond v (codes "__VA_ARGS__" ∷ []) []) word) ≡ (v && bytes_eq (codes "__VA_ARGS__") word)
rest_some true word = index_step (bytes_eq (codes "__VA_ARGS__") word) None ∙ or_none (bytes_eq (codes "__VA_ARGS__") word)
rest_some false word = refl

pub has_some : (names : List Text) (ps : List Name) (v : Bool) (word : Text)
    → (list_any (λ p. bytes_eq (text_of names p) word) ps || (v && bytes_eq (codes "__VA_ARGS__") word)) ≡ is_some (index_of (named_params v (Some (map (text_of names) ps))) word)
has_some names [] v word = sym (rest_some v word)
has_some names (p ∷ ps) v word =
    sym (or_assoc (bytes_eq (text_of names p) word) (list_any (λ p. bytes_eq (text_of names p) word) ps) (v && bytes_eq (codes "__VA_ARGS__") word))
    ∙ ap (λ b. bytes_eq (text_of names p) word || b) (has_some names ps v word)
    ∙ sym (index_step (bytes_eq (text_of names p) word) (index_of (named_params v (Some (map (text_of names) ps))) word))

pub told : (old new : Text) (es : List Telling) → all_events_seen old new (map Told es) ≡ flat_map (seen_telling old new) es
told old new [] = refl
told old new (e ∷ es) = ap (λ l. seen_telling old new e ++ l) (told old new es)

pub all_told : (old new : Text) (role1 : Role) (ts : List Token) → all_events_seen old new (all_marks role1 ts) ≡ all_seen_as old new role1 ts
all_told old new role1 [] = refl
all_told old new role1 (t ∷ ts) =
    flat_map-append (seen_of old new) (marks role1 t) (all_marks role1 ts)
    ∙ ap (λ l. l ++ all_events_seen old new (all_marks role1 ts)) (told old new (takes role1 t))
    ∙ ap (λ l. seen_as old new role1 t ++ l) (all_told old new role1 ts)

told_if : (old new : Text) (b : Bool) (t : Token) → all_events_seen old new (cond b (marks role.Param t) []) ≡ cond b (seen_as old new role.Param t) []
told_if old new true t = told old new (takes role.Param t)
told_if old new false t = refl

params_told : (old new : Text) (m : MacroText) (ts : List Token) → all_events_seen old new (flat_map (parameter_marks m) ts) ≡ params_seen old new m ts
params_told old new m [] = refl
params_told old new m (t ∷ ts) =
    flat_map-append (seen_of old new) (parameter_marks m t) (flat_map (parameter_marks m) ts)
    ∙ ap (λ l. l ++ all_events_seen old new (flat_map (parameter_marks m) ts)) (told_if old new (is_some (param m t)) t)
    ∙ ap (λ l. cond (is_some (param m t)) (seen_as old new role.Param t) [] ++ l) (params_told old new m ts)

definition_seen : (old new : Text) (d : Definition)
    → seen_as old new role.Directive d.name ++ (all_seen_as old new role.Param d.parameters ++ params_seen old new d.macro d.macro.body) ≡ all_events_seen old new (definition_marks d)
definition_seen old new d = sym
    (flat_map-append (seen_of old new) (marks role.Directive d.name) (all_marks role.Param d.parameters ++ flat_map (parameter_marks d.macro) d.macro.body)
    ∙ ap (λ l. l ++ all_events_seen old new (all_marks role.Param d.parameters ++ flat_map (parameter_marks d.macro) d.macro.body)) (told old new (takes role.Directive d.name))
    ∙ ap (λ l. seen_as old new role.Directive d.name ++ l)
    (flat_map-append (seen_of old new) (all_marks role.Param d.parameters) (flat_map (parameter_marks d.macro) d.macro.body)
    ∙ ap (λ l. l ++ all_events_seen old new (flat_map (parameter_marks d.macro) d.macro.body)) (all_told old new role.Param d.parameters)
    ∙ ap (λ l. all_seen_as old new role.Param d.parameters ++ l) (params_told old new d.macro d.macro.body)))

pub parts_noted : (old new : Text) (d : Definition) (before named with_parameters all : List Seen)
    → named ≡ before ++ seen_as old new role.Directive d.name
    → with_parameters ≡ named ++ all_seen_as old new role.Param d.parameters
    → all ≡ with_parameters ++ params_seen old new d.macro d.macro.body
    → all ≡ before ++ all_events_seen old new (definition_marks d)
parts_noted old new d before named with_parameters all h k l =
    l
    ∙ ap (λ s. s ++ params_seen old new d.macro d.macro.body) (k ∙ ap (λ s. s ++ all_seen_as old new role.Param d.parameters) h ∙ append_assoc before (seen_as old new role.Directive d.name) (all_seen_as old new role.Param d.parameters))
    ∙ append_assoc before (seen_as old new role.Directive d.name ++ all_seen_as old new role.Param d.parameters) (params_seen old new d.macro d.macro.body)
    ∙ ap (λ s. before ++ s) (append_assoc (seen_as old new role.Directive d.name) (all_seen_as old new role.Param d.parameters) (params_seen old new d.macro d.macro.body) ∙ definition_seen old new d)
