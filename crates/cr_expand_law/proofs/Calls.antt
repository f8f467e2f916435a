-- What a token at the head of a list means, renamed.
use Rattle.std.proofs.Common.{◌≡◌, ℕ, zero, suc, ◌+◌, ◌-◌, Bool, true, false, cond, List, [], ◌∷◌, ◌++◌, length, refl, ap, sym, ◌∙◌, Some, None, Option}
use Rattle.std.specs.Prelude.{nat_le, codes, ◌==◌, ◌&&◌, not, ◌||◌, bytes_eq, option_map}
use Rattle.std.specs.List.{AllByRecursion}
use Rattle.std.proofs.lemmas.List.{map-append, length-map}
use Rattle.std.proofs.lemmas.Slice.Eq.{bytes_eq-Decides}
use Rattle.cr_base.specs.Names.{is_reserved}
use Rattle.cr_base.specs.declared.token.PpKind.{PpKind}
use Rattle.cr_macros.specs.Tokens.{Text, Token, MacroText, Cause, ArgCount, OpenCall, BadPaste, Over, is_mark, is_ident, has}
use Rattle.cr_macros.specs.Substitution.{Args}
use Rattle.cr_macros.specs.Expansion.{Table, Use, Keep, Predefined, Object, Call, Wrong, predefined, found_after, closed_by, to_close, into_first, parted, arguments, counted_call, closed_call, call_of, use_by_params, use_of_macro, use_of_name, use_of}
use Rattle.cr_expand_law.specs.Renaming.{Renaming, shifted, renamed, all_renamed, renamed_macro, renamed_table, IsNoParameter, IsFree}
use Rattle.cr_expand_law.proofs.Renamed.{mark_same}
use Rattle.cr_expand_law.proofs.Items.{renamed_args}

abbrev pub shifted_cause : Renaming → Cause → Cause
shifted_cause r (ArgCount site) = ArgCount (r.shift site)
shifted_cause r (OpenCall site) = OpenCall (r.shift site)
shifted_cause r (BadPaste site) = BadPaste (r.shift site)
shifted_cause r Over = Over

abbrev pub renamed_use : Renaming → Use → Use
renamed_use r Keep = Keep
renamed_use r (Predefined kind text) = Predefined kind text
renamed_use r (Object m) = Object (renamed_macro r m)
renamed_use r (Call m args close rest) = Call (renamed_macro r m) (renamed_args r args) (renamed r close) (all_renamed r rest)
renamed_use r (Wrong cause) = Wrong (shifted_cause r cause)

abbrev Found : Type 0
Found = Option (List Token × Token × List Token)

abbrev renamed_triple : Renaming → Found → Found
renamed_triple r None = None
renamed_triple r (Some p) = Some (all_renamed r p.0, renamed r p.1, all_renamed r p.2)

after_renamed : (r : Renaming) (t : Token) (o : Found) → found_after (renamed r t) (renamed_triple r o) ≡ renamed_triple r (found_after t o)
after_renamed r t None = refl
after_renamed r t (Some p) = refl

closed_renamed : (r : Renaming) (t : Token) (ts : List Token) (depth : ℕ) → ((d : ℕ) → to_close d (all_renamed r ts) ≡ renamed_triple r (to_close d ts))
    → closed_by (renamed r t) (all_renamed r ts) (λ d. to_close d (all_renamed r ts)) depth ≡ renamed_triple r (closed_by t ts (λ d. to_close d ts) depth)
closed_renamed r t ts zero h = refl
closed_renamed r t ts (suc depth) h = ap (found_after (renamed r t)) (h depth) ∙ after_renamed r t (to_close depth ts)

close_renamed : (r : Renaming) (ts : List Token) (depth : ℕ) → to_close depth (all_renamed r ts) ≡ renamed_triple r (to_close depth ts)
close_renamed r [] depth = refl
close_renamed r (t ∷ ts) depth =
    ap (λ x. cond x (closed_by (renamed r t) (all_renamed r ts) (λ d. to_close d (all_renamed r ts)) depth) (found_after (renamed r t) (to_close (cond (is_mark (codes "(") (renamed r t)) (suc depth) depth) (all_renamed r ts)))) (mark_same r (codes ")") t)
    ∙ ap (λ x. cond (is_mark (codes ")") t) (closed_by (renamed r t) (all_renamed r ts) (λ d. to_close d (all_renamed r ts)) depth) (found_after (renamed r t) (to_close (cond x (suc depth) depth) (all_renamed r ts)))) (mark_same r (codes "(") t)
    ∙ go (is_mark (codes ")") t) (cond (is_mark (codes "(") t) (suc depth) depth) (close_renamed r ts) where
      go : (b : Bool) (d : ℕ) → ((d1 : ℕ) → to_close d1 (all_renamed r ts) ≡ renamed_triple r (to_close d1 ts))
          → cond b (closed_by (renamed r t) (all_renamed r ts) (λ d1. to_close d1 (all_renamed r ts)) depth) (found_after (renamed r t) (to_close d (all_renamed r ts))) ≡ renamed_triple r (cond b (closed_by t ts (λ d1. to_close d1 ts) depth) (found_after t (to_close d ts)))
      go true d h = closed_renamed r t ts depth h
      go false d h = ap (found_after (renamed r t)) (h d) ∙ after_renamed r t (to_close d ts)

into_renamed : (r : Renaming) (t : Token) (args : Args) → into_first (renamed r t) (renamed_args r args) ≡ renamed_args r (into_first t args)
into_renamed r t [] = refl
into_renamed r t (a ∷ args) = refl

parted_renamed : (r : Renaming) (ts : List Token) (n depth : ℕ) → parted n depth (all_renamed r ts) ≡ renamed_args r (parted n depth ts)
parted_renamed r [] n depth = refl
parted_renamed r (t ∷ ts) n depth =
    ap (λ x. by_marks x (is_mark (codes ")") (renamed r t)) (is_mark (codes ",") (renamed r t)) (renamed r t) (λ n1 d. parted n1 d (all_renamed r ts))) (mark_same r (codes "(") t)
    ∙ ap (λ x. by_marks (is_mark (codes "(") t) x (is_mark (codes ",") (renamed r t)) (renamed r t) (λ n1 d. parted n1 d (all_renamed r ts))) (mark_same r (codes ")") t)
    ∙ ap (λ x. by_marks (is_mark (codes "(") t) (is_mark (codes ")") t) x (renamed r t) (λ n1 d. parted n1 d (all_renamed r ts))) (mark_same r (codes ",") t)
    ∙ go (is_mark (codes "(") t) (is_mark (codes ")") t) (is_mark (codes ",") t && depth == 0 && nat_le 1 n) (parted_renamed r ts) where
      by_marks : Bool → Bool → Bool → Token → (ℕ → ℕ → Args) → Args
      by_marks o k m u rest = cond o (into_first u (rest n (depth + 1))) (cond k (into_first u (rest n (depth - 1))) (cond (m && depth == 0 && nat_le 1 n) ([] ∷ rest (n - 1) depth) (into_first u (rest n depth))))

      go : (o k m : Bool) → ((n1 d : ℕ) → parted n1 d (all_renamed r ts) ≡ renamed_args r (parted n1 d ts))
          → cond o (into_first (renamed r t) (parted n (depth + 1) (all_renamed r ts))) (cond k (into_first (renamed r t) (parted n (depth - 1) (all_renamed r ts))) (cond m ([] ∷ parted (n - 1) depth (all_renamed r ts)) (into_first (renamed r t) (parted n depth (all_renamed r ts)))))
          ≡ renamed_args r (cond o (into_first t (parted n (depth + 1) ts)) (cond k (into_first t (parted n (depth - 1) ts)) (cond m ([] ∷ parted (n - 1) depth ts) (into_first t (parted n depth ts)))))
      go true k m h = ap (into_first (renamed r t)) (h n (depth + 1)) ∙ into_renamed r t (parted n (depth + 1) ts)
      go false true m h = ap (into_first (renamed r t)) (h n (depth - 1)) ∙ into_renamed r t (parted n (depth - 1) ts)
      go false false true h = ap (λ x. [] ∷ x) (h (n - 1) depth)
      go false false false h = ap (into_first (renamed r t)) (h n depth) ∙ into_renamed r t (parted n depth ts)

abbrev args_found : Renaming → Option Args → Option Args
args_found r None = None
args_found r (Some args) = Some (renamed_args r args)

cond_found : (r : Renaming) (b : Bool) (x y : Option Args) → cond b (args_found r x) (args_found r y) ≡ args_found r (cond b x y)
cond_found r true x y = refl
cond_found r false x y = refl

exact_renamed : (r : Renaming) (names : List Text) (inside : List Token)
    → cond (length (parted (length (all_renamed r inside)) 0 (all_renamed r inside)) == length names) (Some (parted (length (all_renamed r inside)) 0 (all_renamed r inside))) None ≡ args_found r (cond (length (parted (length inside) 0 inside) == length names) (Some (parted (length inside) 0 inside)) None)
exact_renamed r names inside =
    ap (λ n. cond (length (parted n 0 (all_renamed r inside)) == length names) (Some (parted n 0 (all_renamed r inside))) None) (length-map inside (renamed r))
    ∙ ap (λ x. cond (length x == length names) (Some x) None) (parted_renamed r inside (length inside) 0)
    ∙ ap (λ n. cond (n == length names) (Some (renamed_args r (parted (length inside) 0 inside))) None) (length-map (parted (length inside) 0 inside) (all_renamed r))
    ∙ cond_found r (length (parted (length inside) 0 inside) == length names) (Some (parted (length inside) 0 inside)) None

arguments_renamed : (r : Renaming) (names : List Text) (variadic : Bool) (inside : List Token) → arguments names variadic (all_renamed r inside) ≡ args_found r (arguments names variadic inside)
arguments_renamed r [] false [] = refl
arguments_renamed r [] false (t ∷ ts) = exact_renamed r [] (t ∷ ts)
arguments_renamed r (n ∷ ns) false inside = exact_renamed r (n ∷ ns) inside
arguments_renamed r names true inside =
    ap (λ x. cond (length x == length names + 1) (Some x) (cond (length x == length names) (Some (x ++ [] ∷ [])) None)) (parted_renamed r inside (length names) 0)
    ∙ ap (λ n. cond (n == length names + 1) (Some (renamed_args r args)) (cond (n == length names) (Some (renamed_args r args ++ [] ∷ [])) None)) (length-map args (all_renamed r))
    ∙ ap (λ x. cond (length args == length names + 1) (Some (renamed_args r args)) (cond (length args == length names) (Some x) None)) (sym (map-append (all_renamed r) args ([] ∷ [])))
    ∙ ap (λ x. cond (length args == length names + 1) (Some (renamed_args r args)) x) (cond_found r (length args == length names) (Some (args ++ [] ∷ [])) None)
    ∙ cond_found r (length args == length names + 1) (Some args) (cond (length args == length names) (Some (args ++ [] ∷ [])) None) where
      args : Args
      args = parted (length names) 0 inside

args_use : (r : Renaming) (t : Token) (m : MacroText) (close : Token) (rest : List Token) (o : Option Args) → counted_call (shifted r t) (renamed_macro r m) (renamed r close) (all_renamed r rest) (args_found r o) ≡ renamed_use r (counted_call t m close rest o)
args_use r t m close rest None = refl
args_use r t m close rest (Some args) = refl

found_use : (r : Renaming) (t : Token) (m : MacroText) (names : List Text) (o : Found) → closed_call (shifted r t) (renamed_macro r m) names (renamed_triple r o) ≡ renamed_use r (closed_call t m names o)
found_use r t m names None = refl
found_use r t m names (Some p) =
    ap (counted_call (shifted r t) (renamed_macro r m) (renamed r p.1) (all_renamed r p.2)) (arguments_renamed r names m.variadic p.0) ∙ args_use r t m p.1 p.2 (arguments names m.variadic p.0)

cond_use : (r : Renaming) (b : Bool) (x y : Use) → cond b (renamed_use r x) (renamed_use r y) ≡ renamed_use r (cond b x y)
cond_use r true x y = refl
cond_use r false x y = refl

call_same : (r : Renaming) (t : Token) (m : MacroText) (names : List Text) (rest : List Token) → call_of (shifted r t) (renamed_macro r m) names (all_renamed r rest) ≡ renamed_use r (call_of t m names rest)
call_same r t m names [] = refl
call_same r t m names (u ∷ rest) =
    ap (λ x. cond x (closed_call (shifted r t) (renamed_macro r m) names (to_close 0 (all_renamed r rest))) Keep) (mark_same r (codes "(") u)
    ∙ ap (λ x. cond (is_mark (codes "(") u) (closed_call (shifted r t) (renamed_macro r m) names x) Keep) (close_renamed r rest 0)
    ∙ ap (λ x. cond (is_mark (codes "(") u) x Keep) (found_use r t m names (to_close 0 rest))
    ∙ cond_use r (is_mark (codes "(") u) (closed_call t m names (to_close 0 rest)) Keep

params_same : (r : Renaming) (t : Token) (m : MacroText) (rest : List Token) (o : Option (List Text)) → use_by_params (shifted r t) (renamed_macro r m) (all_renamed r rest) o ≡ renamed_use r (use_by_params t m rest o)
params_same r t m rest None = refl
params_same r t m rest (Some names) = call_same r t m names rest

macro_same : (r : Renaming) (t : Token) (rest : List Token) (o : Option MacroText) → use_of_macro (shifted r t) (all_renamed r rest) (option_map (renamed_macro r) o) ≡ renamed_use r (use_of_macro t rest o)
macro_same r t rest None = refl
macro_same r t rest (Some m) = params_same r t m rest m.params

name_same : (r : Renaming) (table : Table) (t : Token) (rest : List Token) (p : Option (PpKind × Text)) → use_of_name (renamed_table r table) (shifted r t) (all_renamed r rest) p ≡ renamed_use r (use_of_name table t rest p)
name_same r table t rest (Some p) = refl
name_same r table t rest None = macro_same r t rest (table.macro t.text)

-- a head that isn't renamed means the same
pub use_of_same : (r : Renaming) (table : Table) (t : Token) (rest : List Token) → use_of (renamed_table r table) (shifted r t) (all_renamed r rest) ≡ renamed_use r (use_of table t rest)
use_of_same r table t rest =
    ap (λ x. cond (not (is_ident t.kind) || has t.hide t.text) Keep x) (name_same r table t rest (predefined table.file t.line t.text))
    ∙ cond_use r (not (is_ident t.kind) || has t.hide t.text) Keep (use_of_name table t rest (predefined table.file t.line t.text))

-- a name that isn't reserved is not predefined
is_other : (name word : Text) → is_reserved word ≡ true → is_reserved name ≡ false → bytes_eq name word ≡ false
is_other name word w n = go (bytes_eq name word) refl where
  go : (b : Bool) → bytes_eq name word ≡ b → b ≡ false
  go false e = refl
  go true e = let same : is_reserved name ≡ is_reserved word = ap is_reserved ((bytes_eq-Decides name word).0 e) in cc

not_predefined : (file : Text) (line : ℕ) (name : Text) → is_reserved name ≡ false → predefined file line name ≡ None
not_predefined file line name h =
    let e1 : bytes_eq name (codes "__FILE__") ≡ false = is_other name (codes "__FILE__") refl h in
    let e2 : bytes_eq name (codes "__LINE__") ≡ false = is_other name (codes "__LINE__") refl h in
    let e3 : bytes_eq name (codes "__DATE__") ≡ false = is_other name (codes "__DATE__") refl h in
    let e4 : bytes_eq name (codes "__TIME__") ≡ false = is_other name (codes "__TIME__") refl h in
    let e5 : bytes_eq name (codes "__STDC__") ≡ false = is_other name (codes "__STDC__") refl h in
    let e6 : bytes_eq name (codes "__STDC_VERSION__") ≡ false = is_other name (codes "__STDC_VERSION__") refl h in
    let e7 : bytes_eq name (codes "__STDC_HOSTED__") ≡ false = is_other name (codes "__STDC_HOSTED__") refl h in
    rw e1 (rw e2 (rw e3 (rw e4 (rw e5 (rw e6 (rw e7 refl))))))

both_keep : (b : Bool) → cond b Keep Keep ≡ Keep
both_keep true = refl
both_keep false = refl

-- the new name stays where it stands
pub new_keeps : (r : Renaming) (table : Table) (t : Token) (rest : List Token) → IsFree r table → use_of (renamed_table r table) (record t { text = r.new }) rest ≡ Keep
new_keeps r table t rest h =
    ap (λ p. cond (not (is_ident t.kind) || has t.hide r.new) Keep (use_of_name (renamed_table r table) (record t { text = r.new }) rest p)) (not_predefined table.file t.line r.new h.not_reserved)
    ∙ ap (λ o. cond (not (is_ident t.kind) || has t.hide r.new) Keep (use_of_macro (record t { text = r.new }) rest (option_map (renamed_macro r) o))) h.no_macro
    ∙ both_keep (not (is_ident t.kind) || has t.hide r.new)

-- no renamed token of the body of a macro that is used is a parameter
abbrev pub UsesFree : Renaming → Use → Type 0
UsesFree r Keep = Unit {0}
UsesFree r (Predefined kind text) = Unit {0}
UsesFree r (Object m) = AllByRecursion (IsNoParameter r m) m.body
UsesFree r (Call m args close rest) = AllByRecursion (IsNoParameter r m) m.body
UsesFree r (Wrong cause) = Unit {0}

free_cond : (r : Renaming) (b : Bool) (x y : Use) → UsesFree r x → UsesFree r y → UsesFree r (cond b x y)
free_cond r true x y h k = h
free_cond r false x y h k = k

free_args : (r : Renaming) (t : Token) (m : MacroText) (close : Token) (rest : List Token) (o : Option Args) → AllByRecursion (IsNoParameter r m) m.body → UsesFree r (counted_call t m close rest o)
free_args r t m close rest None h = tt
free_args r t m close rest (Some args) h = h

free_found : (r : Renaming) (t : Token) (m : MacroText) (names : List Text) (o : Found) → AllByRecursion (IsNoParameter r m) m.body → UsesFree r (closed_call t m names o)
free_found r t m names None h = tt
free_found r t m names (Some p) h = free_args r t m p.1 p.2 (arguments names m.variadic p.0) h

free_call : (r : Renaming) (t : Token) (m : MacroText) (names : List Text) (rest : List Token) → AllByRecursion (IsNoParameter r m) m.body → UsesFree r (call_of t m names rest)
free_call r t m names [] h = tt
free_call r t m names (u ∷ rest) h = free_cond r (is_mark (codes "(") u) (closed_call t m names (to_close 0 rest)) Keep (free_found r t m names (to_close 0 rest) h) tt

free_params : (r : Renaming) (t : Token) (m : MacroText) (rest : List Token) (o : Option (List Text)) → AllByRecursion (IsNoParameter r m) m.body → UsesFree r (use_by_params t m rest o)
free_params r t m rest None h = h
free_params r t m rest (Some names) h = free_call r t m names rest h

free_macro : (r : Renaming) (t : Token) (rest : List Token) (o : Option MacroText) → ((m : MacroText) → o ≡ Some m → AllByRecursion (IsNoParameter r m) m.body) → UsesFree r (use_of_macro t rest o)
free_macro r t rest None h = tt
free_macro r t rest (Some m) h = free_params r t m rest m.params (h m refl)

free_name : (r : Renaming) (table : Table) (t : Token) (rest : List Token) (p : Option (PpKind × Text)) → IsFree r table → UsesFree r (use_of_name table t rest p)
free_name r table t rest (Some p) h = tt
free_name r table t rest None h = free_macro r t rest (table.macro t.text) (h.no_parameter t.text)

pub free_use : (r : Renaming) (table : Table) (t : Token) (rest : List Token) → IsFree r table → UsesFree r (use_of table t rest)
free_use r table t rest h =
    free_cond r (not (is_ident t.kind) || has t.hide t.text) Keep (use_of_name table t rest (predefined table.file t.line t.text)) tt (free_name r table t rest (predefined table.file t.line t.text) h)
