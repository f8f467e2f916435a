-- Definitions are the same, but for the name in bodies.
use Rattle.std.proofs.Common.{◌≡◌, ℕ, ◌+◌, ◌-◌, Bool, true, false, cond, List, [], ◌∷◌, ◌++◌, length, map, take, drop, refl, ap, sym, ◌∙◌, subst, Some, None, Option}
use Rattle.std.specs.Prelude.{is_some, codes, not, ◌||◌, ◌&&◌, bytes_eq, slice_get, flat_map, option_map, fold, nat_lt}
use Rattle.std.specs.List.{list_any, prefix_len, position_or_len, slice_split, onto_first, AllByRecursion}
use Rattle.std.proofs.lemmas.List.{length-map, take-map, drop-map}
use Rattle.std.proofs.lemmas.Option.{slice_get-map}
use Rattle.std.proofs.lemmas.Slice.Eq.{bytes_eq-Decides}
use Rattle.cr_base.specs.Names.{is_reserved}
use Rattle.cr_base.specs.declared.cause.Role.TheVariants.{Param, Directive}
use Rattle.cr_macros.specs.Tokens.{Text, Token, MacroText, is_ident, is_mark}
use Rattle.cr_macros.specs.Substitution.{is_hash, param, next_param}
use Rattle.cr_expand_law.specs.Renaming.{Renaming, is_renamed, shifted, renamed, all_renamed, renamed_macro, IsNoParameter}
use Rattle.cr_phase4.specs.Tasks.{marks}
use Rattle.cr_phase4.specs.Definition.{is_rest, is_free_name, Params, pieces, after_piece, params_of, object_like, function_like, begins_params, close_of, with_params, macro_of, inside_of, parameters_of, is_paste_at, has_pastes_inside, has_params_behind_hashes, has_good_hashes, is_good, Definition, if_good, definition}
use Rattle.cr_phase4.specs.Directives.{all_marks, parameter_marks, definition_marks}
use Rattle.cr_preproc_law.specs.Renaming.{IsUncaptured, IsSame, AreSame}
use Rattle.cr_preproc_law.proofs.Tokens.{AreFine, renamed_events, all_shifted, fine_left, fine_right, by_renamed, same_token, all_same, mark_same, paste_same, hash_same, of_param, marked_same, marks_renamed, both_renamed, all_marks_renamed}

-- lists that are only shifted

split_onto : (r : Renaming) (b : Bool) (t : Token) (tss : List (List Token)) → cond b ([] ∷ map (all_shifted r) tss) (onto_first (shifted r t) (map (all_shifted r) tss)) ≡ map (all_shifted r) (cond b ([] ∷ tss) (onto_first t tss))
split_onto r true t tss = refl
split_onto r false t [] = refl
split_onto r false t (ts ∷ tss) = refl

split_shifted : (r : Renaming) (ts : List Token) → slice_split (is_mark (codes ",")) (all_shifted r ts) ≡ map (all_shifted r) (slice_split (is_mark (codes ",")) ts)
split_shifted r [] = refl
split_shifted r (t ∷ ts) =
    ap (λ x. cond (is_mark (codes ",") t) ([] ∷ x) (onto_first (shifted r t) x)) (split_shifted r ts) ∙ split_onto r (is_mark (codes ",") t) t (slice_split (is_mark (codes ",")) ts)

pieces_shifted : (r : Renaming) (ts : List Token) → pieces (all_shifted r ts) ≡ map (all_shifted r) (pieces ts)
pieces_shifted r [] = refl
pieces_shifted r (t ∷ ts) = split_shifted r (t ∷ ts)

piece_same : (r : Renaming) (piece : List Token) (p : Params) → after_piece (all_shifted r piece) p ≡ after_piece piece p
piece_same r piece None = refl
piece_same r piece (Some (names, true)) = refl
piece_same r [] (Some (names, false)) = refl
piece_same r (t ∷ []) (Some (names, false)) = refl
piece_same r (t ∷ u ∷ ts) (Some (names, false)) = refl

fold_same : (r : Renaming) (tss : List (List Token)) (p : Params) → fold (λ params piece. after_piece piece params) p (map (all_shifted r) tss) ≡ fold (λ params piece. after_piece piece params) p tss
fold_same r [] p = refl
fold_same r (ts ∷ tss) p =
    ap (λ x. fold (λ params piece. after_piece piece params) x (map (all_shifted r) tss)) (piece_same r ts p) ∙ fold_same r tss (after_piece ts p)

params_shifted : (r : Renaming) (ts : List Token) → params_of (all_shifted r ts) ≡ params_of ts
params_shifted r ts = ap (fold (λ params piece. after_piece piece params) (Some ([], false))) (pieces_shifted r ts) ∙ fold_same r (pieces ts) (Some ([], false))

params_same : (r : Renaming) (ts : List Token) → AreSame r ts → params_of (all_renamed r ts) ≡ params_of ts
params_same r ts h = ap params_of (all_same r ts h) ∙ params_shifted r ts

-- the macro behind the name

prefix_same : (r : Renaming) (ts : List Token) → prefix_len (λ t. not (is_mark (codes ")") t)) (all_renamed r ts) ≡ prefix_len (λ t. not (is_mark (codes ")") t)) ts
prefix_same r [] = refl
prefix_same r (t ∷ ts) =
    ap (λ b. cond (not b) (1 + prefix_len (λ t. not (is_mark (codes ")") t)) (all_renamed r ts)) 0) (mark_same r (codes ")") t) ∙ ap (λ n. cond (not (is_mark (codes ")") t)) (1 + n) 0) (prefix_same r ts)

close_same : (r : Renaming) (ts : List Token) → close_of (all_renamed r ts) ≡ close_of ts
close_same r ts =
    ap (λ n. cond (nat_lt n (length (all_renamed r ts))) (Some n) None) (prefix_same r ts)
    ∙ ap (λ n. cond (nat_lt (position_or_len (is_mark (codes ")")) ts) n) (Some (position_or_len (is_mark (codes ")")) ts)) None) (length-map ts (renamed r))

begins_same : (r : Renaming) (t : Token) → begins_params (renamed r t) ≡ begins_params t
begins_same r t = ap (λ b. b && not t.space) (mark_same r (codes "(") t)

function_same : (r : Renaming) (body : List Token) (p : Params) → function_like (all_renamed r body) p ≡ option_map (renamed_macro r) (function_like body p)
function_same r body None = refl
function_same r body (Some p) = refl

with_params_same : (r : Renaming) (rest : List Token) (o : Option ℕ) → AreSame r (inside_of rest o) → with_params (all_renamed r rest) o ≡ option_map (renamed_macro r) (with_params rest o)
with_params_same r rest None h = refl
with_params_same r rest (Some n) h =
    ap (λ x. function_like x (params_of (take n (all_renamed r rest)))) (drop-map (renamed r) (n + 1) rest)
    ∙ ap (λ x. function_like (all_renamed r (drop (n + 1) rest)) (params_of x)) (take-map (renamed r) n rest)
    ∙ ap (function_like (all_renamed r (drop (n + 1) rest))) (params_same r (take n rest) h)
    ∙ function_same r (drop (n + 1) rest) (params_of (take n rest))

macro_same : (r : Renaming) (rest : List Token) → AreSame r (parameters_of rest) → macro_of (all_renamed r rest) ≡ option_map (renamed_macro r) (macro_of rest)
macro_same r [] h = refl
macro_same r (t ∷ rest) h =
    ap (λ b. cond b (with_params (all_renamed r rest) (close_of (all_renamed r rest))) (Some (object_like (all_renamed r (t ∷ rest))))) (begins_same r t)
    ∙ ap (λ o. cond (begins_params t) (with_params (all_renamed r rest) o) (Some (object_like (all_renamed r (t ∷ rest))))) (close_same r rest)
    ∙ go (begins_params t) h where
      go : (b : Bool) → AreSame r (cond b (inside_of rest (close_of rest)) [])
          → cond b (with_params (all_renamed r rest) (close_of rest)) (Some (object_like (all_renamed r (t ∷ rest)))) ≡ option_map (renamed_macro r) (cond b (with_params rest (close_of rest)) (Some (object_like (t ∷ rest))))
      go true k = with_params_same r rest (close_of rest) k
      go false k = refl

inside_same : (r : Renaming) (rest : List Token) (o : Option ℕ) → inside_of (all_renamed r rest) o ≡ all_renamed r (inside_of rest o)
inside_same r rest None = refl
inside_same r rest (Some n) = take-map (renamed r) n rest

parameters_same : (r : Renaming) (rest : List Token) → parameters_of (all_renamed r rest) ≡ all_renamed r (parameters_of rest)
parameters_same r [] = refl
parameters_same r (t ∷ rest) =
    ap (λ b. cond b (inside_of (all_renamed r rest) (close_of (all_renamed r rest))) []) (begins_same r t)
    ∙ ap (λ o. cond (begins_params t) (inside_of (all_renamed r rest) o) []) (close_same r rest)
    ∙ go (begins_params t) where
      go : (b : Bool) → cond b (inside_of (all_renamed r rest) (close_of rest)) [] ≡ all_renamed r (cond b (inside_of rest (close_of rest)) [])
      go true = inside_same r rest (close_of rest)
      go false = refl

-- a body that is good stays good

paste_at_same : (r : Renaming) (o : Option Token) → is_paste_at (option_map (renamed r) o) ≡ is_paste_at o
paste_at_same r None = refl
paste_at_same r (Some t) = paste_same r t

pastes_same : (r : Renaming) (body : List Token) → has_pastes_inside (all_renamed r body) ≡ has_pastes_inside body
pastes_same r body =
    ap (λ n. not (is_paste_at (slice_get (all_renamed r body) 0)) && not (is_paste_at (slice_get (all_renamed r body) (n - 1)))) (length-map body (renamed r))
    ∙ ap (λ b. not b && not (is_paste_at (slice_get (all_renamed r body) (length body - 1)))) (at 0)
    ∙ ap (λ b. not (is_paste_at (slice_get body 0)) && not b) (at (length body - 1)) where
      at : (k : ℕ) → is_paste_at (slice_get (all_renamed r body) k) ≡ is_paste_at (slice_get body k)
      at k = ap is_paste_at (slice_get-map (renamed r) body k) ∙ paste_at_same r (slice_get body k)

param_same : (r : Renaming) (m : MacroText) (t : Token) → IsNoParameter r m t → param m (renamed r t) ≡ param m t
param_same r m t h = go (is_renamed r t) refl where
  go : (b : Bool) → is_renamed r t ≡ b → param m (renamed r t) ≡ param m t
  go true e = (h e).1 ∙ sym (h e).0
  go false e = ap (param m) (same_token r t e)

next_same : (r : Renaming) (m : MacroText) (ts : List Token) → AllByRecursion (IsNoParameter r m) ts → next_param m (all_renamed r ts) ≡ next_param m ts
next_same r m [] h = refl
next_same r m (t ∷ ts) h = param_same r m t h.0

hashes_same : (r : Renaming) (m : MacroText) (ts : List Token) → AllByRecursion (IsNoParameter r m) ts → has_params_behind_hashes (renamed_macro r m) (all_renamed r ts) ≡ has_params_behind_hashes m ts
hashes_same r m [] h = refl
hashes_same r m (t ∷ ts) h =
    ap (λ b. (not b || is_some (next_param (renamed_macro r m) (all_renamed r ts))) && has_params_behind_hashes (renamed_macro r m) (all_renamed r ts)) (hash_same r t)
    ∙ ap (λ o. (not (is_hash t) || is_some o) && has_params_behind_hashes (renamed_macro r m) (all_renamed r ts)) (next_same r m ts h.1)
    ∙ ap (λ b. (not (is_hash t) || is_some (next_param m ts)) && b) (hashes_same r m ts h.1)

or_left : (p q : Bool) → (p || q) ≡ false → p ≡ false
or_left true q h = h
or_left false q h = refl

or_right : (p q : Bool) → (p || q) ≡ false → q ≡ false
or_right true q h = cc
or_right false q h = h

and_no : (p q : Bool) → q ≡ false → (p && q) ≡ false
and_no true q h = h
and_no false q h = refl

rest_is_reserved : is_reserved (codes "__VA_ARGS__") ≡ true
rest_is_reserved = refl

not_the_rest : (name : Text) → is_reserved name ≡ false → bytes_eq (codes "__VA_ARGS__") name ≡ false
not_the_rest name h = go (bytes_eq (codes "__VA_ARGS__") name) refl where
  go : (b : Bool) → bytes_eq (codes "__VA_ARGS__") name ≡ b → b ≡ false
  go false e = refl
  go true e = let same : codes "__VA_ARGS__" ≡ name = (bytes_eq-Decides (codes "__VA_ARGS__") name).0 e in let no : is_reserved name ≡ true = subst (λ x. is_reserved x ≡ true) same rest_is_reserved in cc

no_rest_in : (r : Renaming) (t : Token) → is_reserved r.new ≡ false → is_rest t ≡ false → is_rest (renamed r t) ≡ false
no_rest_in r t n h = go (is_renamed r t) refl where
  go : (b : Bool) → is_renamed r t ≡ b → is_rest (renamed r t) ≡ false
  go true e = ap is_rest (by_renamed r t true e) ∙ and_no (is_ident t.kind) (bytes_eq (codes "__VA_ARGS__") r.new) (not_the_rest r.new n)
  go false e = ap is_rest (same_token r t e) ∙ h

no_rest_left : (r : Renaming) → is_reserved r.new ≡ false → (ts : List Token) → list_any is_rest ts ≡ false → list_any is_rest (all_renamed r ts) ≡ false
no_rest_left r n [] h = refl
no_rest_left r n (t ∷ ts) h =
    ap (λ b. b || list_any is_rest (all_renamed r ts)) (no_rest_in r t n (or_left (is_rest t) (list_any is_rest ts) h))
    ∙ no_rest_left r n ts (or_right (is_rest t) (list_any is_rest ts) h)

unless_variadic : (v a b : Bool) → (a ≡ false → b ≡ false) → (v || not a) ≡ true → (v || not b) ≡ true
unless_variadic true a b h e = refl
unless_variadic false true b h e = cc
unless_variadic false false b h e = ap not (h refl)

and_keeps : (x y a b : Bool) → y ≡ x → (a ≡ true → b ≡ true) → (x && a) ≡ true → (y && b) ≡ true
and_keeps true y a b e h k = ap (λ z. z && b) e ∙ h k
and_keeps false y a b e h k = cc

good_left : (r : Renaming) (m : MacroText) → is_reserved r.new ≡ false → AllByRecursion (IsNoParameter r m) m.body → is_good m ≡ true → is_good (renamed_macro r m) ≡ true
good_left r m n h =
    and_keeps (has_pastes_inside m.body && has_good_hashes m) (has_pastes_inside (all_renamed r m.body) && has_good_hashes (renamed_macro r m)) (m.variadic || not (list_any is_rest m.body)) (m.variadic || not (list_any is_rest (all_renamed r m.body)))
    (ap (λ b. b && has_good_hashes (renamed_macro r m)) (pastes_same r m.body) ∙ ap (λ b. has_pastes_inside m.body && (not (is_some m.params) || b)) (hashes_same r m m.body h))
    (unless_variadic m.variadic (list_any is_rest m.body) (list_any is_rest (all_renamed r m.body)) (no_rest_left r n m.body))

-- a whole definition

abbrev pub renamed_definition : Renaming → Definition → Definition
renamed_definition r d = record { name = renamed r d.name; parameters = all_renamed r d.parameters; macro = renamed_macro r d.macro }

abbrev pub IsKept : Renaming → Option Definition → Option Definition → Type 0
IsKept r None o = Unit {0}
IsKept r (Some d) o = IsSame r d.name → AreSame r d.parameters → AllByRecursion (IsNoParameter r d.macro) d.macro.body → o ≡ Some (renamed_definition r d)

pub kept_definition : (r : Renaming) → is_reserved r.new ≡ false → (ts : List Token) → IsKept r (definition ts) (definition (all_renamed r ts))
kept_definition r n [] = tt
kept_definition r n (name ∷ rest) = by_name (is_free_name name && not (is_rest name)) refl where
  by_good : (m : MacroText) (b : Bool) → (is_free_name name && not (is_rest name)) ≡ true → macro_of rest ≡ Some m → is_good m ≡ b
      → IsKept r (cond b (Some (record { name = name; parameters = parameters_of rest; macro = m })) None) (definition (all_renamed r (name ∷ rest)))
  by_good m false f e g = tt
  by_good m true f e g = λ same params body.
      ap (λ x. cond (is_free_name x && not (is_rest x)) (if_good (renamed r name) (all_renamed r rest) (macro_of (all_renamed r rest))) None) (same_token r name same)
      ∙ ap (λ b. cond b (if_good (renamed r name) (all_renamed r rest) (macro_of (all_renamed r rest))) None) f
      ∙ ap (if_good (renamed r name) (all_renamed r rest)) (macro_same r rest params ∙ ap (option_map (renamed_macro r)) e)
      ∙ ap (λ b. cond b (Some (record { name = renamed r name; parameters = parameters_of (all_renamed r rest); macro = renamed_macro r m })) None) (good_left r m n body g)
      ∙ ap (λ x. Some (record { name = renamed r name; parameters = x; macro = renamed_macro r m })) (parameters_same r rest)

  by_macro : (o : Option MacroText) → (is_free_name name && not (is_rest name)) ≡ true → macro_of rest ≡ o → IsKept r (if_good name rest o) (definition (all_renamed r (name ∷ rest)))
  by_macro None f e = tt
  by_macro (Some m) f e = by_good m (is_good m) f e refl

  by_name : (b : Bool) → (is_free_name name && not (is_rest name)) ≡ b → IsKept r (cond b (if_good name rest (macro_of rest)) None) (definition (all_renamed r (name ∷ rest)))
  by_name true f = by_macro (macro_of rest) f refl
  by_name false f = tt

-- its roles

no_parameter : (r : Renaming) (m : MacroText) (t : Token) → AreFine r (parameter_marks m t) → IsUncaptured r m t → IsNoParameter r m t
no_parameter r m t h k = λ e. (go (param m t) h e, k e) where
  go : (o : Option ℕ) → AreFine r (cond (is_some o) (marks Param t) []) → is_renamed r t ≡ true → o ≡ None
  go None f e = refl
  go (Some i) f e = let not_one : is_renamed r t ≡ false = marked_same r Param t (of_param r) f in cc

pub no_parameters : (r : Renaming) (m : MacroText) (ts : List Token) → AreFine r (flat_map (parameter_marks m) ts) → AllByRecursion (IsUncaptured r m) ts → AllByRecursion (IsNoParameter r m) ts
no_parameters r m [] h k = tt
no_parameters r m (t ∷ ts) h k = (
  no_parameter r m t (fine_left r (parameter_marks m t) (flat_map (parameter_marks m) ts) h) k.0,
  no_parameters r m ts (fine_right r (parameter_marks m t) (flat_map (parameter_marks m) ts) h) k.1,
)

parameter_renamed : (r : Renaming) (m : MacroText) (t : Token) → IsNoParameter r m t → parameter_marks (renamed_macro r m) (renamed r t) ≡ renamed_events r (parameter_marks m t)
parameter_renamed r m t h = ap (λ o. cond (is_some o) (marks Param (renamed r t)) []) (param_same r m t h) ∙ go (is_some (param m t)) where
  go : (b : Bool) → cond b (marks Param (renamed r t)) [] ≡ renamed_events r (cond b (marks Param t) [])
  go true = marks_renamed r Param t
  go false = refl

body_renamed : (r : Renaming) (m : MacroText) (ts : List Token) → AllByRecursion (IsNoParameter r m) ts → flat_map (parameter_marks (renamed_macro r m)) (all_renamed r ts) ≡ renamed_events r (flat_map (parameter_marks m) ts)
body_renamed r m [] h = refl
body_renamed r m (t ∷ ts) h =
    both_renamed r (parameter_marks m t) (parameter_marks (renamed_macro r m) (renamed r t)) (flat_map (parameter_marks m) ts) (flat_map (parameter_marks (renamed_macro r m)) (all_renamed r ts))
    (parameter_renamed r m t h.0) (body_renamed r m ts h.1)

pub definition_renamed : (r : Renaming) (d : Definition) → AllByRecursion (IsNoParameter r d.macro) d.macro.body → definition_marks (renamed_definition r d) ≡ renamed_events r (definition_marks d)
definition_renamed r d h =
    both_renamed r (marks Directive d.name) (marks Directive (renamed r d.name)) (all_marks Param d.parameters ++ flat_map (parameter_marks d.macro) d.macro.body)
    (all_marks Param (all_renamed r d.parameters) ++ flat_map (parameter_marks (renamed_macro r d.macro)) (all_renamed r d.macro.body)) (marks_renamed r Directive d.name)
    (both_renamed r (all_marks Param d.parameters) (all_marks Param (all_renamed r d.parameters)) (flat_map (parameter_marks d.macro) d.macro.body) (flat_map (parameter_marks (renamed_macro r d.macro)) (all_renamed r d.macro.body))
    (all_marks_renamed r Param d.parameters) (body_renamed r d.macro d.macro.body h))
