-- What is put in for a macro's name, renamed.
use Rattle.std.proofs.Common.{◌≡◌, ℕ, zero, suc, ◌+◌, Bool, true, false, cond, List, [], ◌∷◌, ◌++◌, map, refl, ap, sym, ◌∙◌, Some, None, Option}
use Rattle.std.specs.Prelude.{is_some, option_map, flat_map, codes, ◌&&◌, ◌||◌, bytes_eq}
use Rattle.std.specs.List.{list_any, AllByRecursion}
use Rattle.std.proofs.lemmas.List.{map-append}
use Rattle.cr_base.specs.declared.token.PpKind.{PpKind}
use Rattle.cr_base.specs.declared.token.PpKind.TheVariants.{Str}
use Rattle.cr_base.specs.declared.cause.Role.TheVariants.{MacroName, Stringized, Pasted, Dropped}
use Rattle.cr_macros.specs.OneToken.{one_token, is_string}
use Rattle.cr_macros.specs.Tokens.{Text, Token, MacroText, Event, BadPaste, Work, ◌>>=◌, give, fail, note, takes, both, is_mark, with_names}
use Rattle.cr_macros.specs.Substitution.{Item, Stays, Spelt, Bare, Full, CommaRest, Paste, item_by, item_at, items, body_items, only_if, next_is, next_param, with_token, pasted_rest, param, is_hash, is_paste, Args, arg_at, comma_and, Part, Is, Placemarker, Joins, parts_of, or_placemarker, or_none, paste_after, filled, all_filled, string_of, in_quotes, spelling_of, spelling_of_rest, spelling, made, paste, pasted_as, all_pasted, is_full, is_use, with_space, dropped, placed}
use Rattle.cr_macros.specs.Substitution
use Rattle.cr_expand_law.specs.Renaming.{Renaming, is_renamed, shifted, renamed, all_renamed, renamed_macro, renamed_event, IsNoParameter}
use Rattle.cr_expand_law.proofs.Following.{renamed_events, Follows, Sim, harmless_left, harmless_right, sim_then, sim_give, sim_to, sim_note, Never, never_first}
use Rattle.cr_expand_law.proofs.Renamed.{same_token, mark_same, paste_same, hash_same, space_renamed, of_string, of_paste, same_by_role, all_shifted, same_by_roles, all_take_renamed, same_takes, never_name}

abbrev pub renamed_item : Renaming → Item → Item
renamed_item r (Stays t) = Stays (renamed r t)
renamed_item r (Spelt t i) = Spelt (renamed r t) i
renamed_item r (Bare t i) = Bare (renamed r t) i
renamed_item r (Full t i) = Full (renamed r t) i
renamed_item r (CommaRest t v i) = CommaRest (renamed r t) (renamed r v) i
renamed_item r Paste = Paste

abbrev pub renamed_found : Renaming → Option (Token × ℕ) → Option (Token × ℕ)
renamed_found r None = None
renamed_found r (Some p) = Some (renamed r p.0, p.1)

param_same : (r : Renaming) (m : MacroText) (t : Token) → IsNoParameter r m t → param (renamed_macro r m) (renamed r t) ≡ param m t
param_same r m t h = go (is_renamed r t) refl where
  go : (b : Bool) → is_renamed r t ≡ b → param m (renamed r t) ≡ param m t
  go true e = (h e).1 ∙ sym (h e).0
  go false e = ap (param m) (same_token r t e)

next_param_same : (r : Renaming) (m : MacroText) (ts : List Token) → AllByRecursion (IsNoParameter r m) ts → next_param (renamed_macro r m) (all_renamed r ts) ≡ next_param m ts
next_param_same r m [] h = refl
next_param_same r m (t ∷ ts) h = param_same r m t h.0

next_paste_same : (r : Renaming) (ts : List Token) → next_is is_paste (all_renamed r ts) ≡ next_is is_paste ts
next_paste_same r [] = refl
next_paste_same r (t ∷ ts) = paste_same r t

rest_found : (r : Renaming) (v : Token) (o : Option ℕ) → with_token (renamed r v) o ≡ renamed_found r (with_token v o)
rest_found r v None = refl
rest_found r v (Some i) = refl

rest_same : (r : Renaming) (m : MacroText) (ts : List Token) → AllByRecursion (IsNoParameter r m) ts → pasted_rest (renamed_macro r m) (all_renamed r ts) ≡ renamed_found r (pasted_rest m ts)
rest_same r m [] h = refl
rest_same r m (p ∷ []) h = refl
rest_same r m (p ∷ v ∷ ts) h =
    ap (λ x. cond (m.variadic && x && bytes_eq (renamed r v).text (codes "__VA_ARGS__")) (with_token (renamed r v) (param (renamed_macro r m) (renamed r v))) None) (paste_same r p)
    ∙ ap (λ x. cond (m.variadic && is_paste p && bytes_eq (renamed r v).text (codes "__VA_ARGS__")) (with_token (renamed r v) x) None) (param_same r m v h.1.0)
    ∙ go (is_renamed r v) refl where
      go : (b : Bool) → is_renamed r v ≡ b → cond (m.variadic && is_paste p && bytes_eq (renamed r v).text (codes "__VA_ARGS__")) (with_token (renamed r v) (param m v)) None ≡ renamed_found r (cond (m.variadic && is_paste p && bytes_eq v.text (codes "__VA_ARGS__")) (with_token v (param m v)) None)
      go false e =
          ap (λ x. cond (m.variadic && is_paste p && bytes_eq x.text (codes "__VA_ARGS__")) (with_token (renamed r v) (param m v)) None) (same_token r v e)
          ∙ by_bool (m.variadic && is_paste p && bytes_eq v.text (codes "__VA_ARGS__")) where
            by_bool : (x : Bool) → cond x (with_token (renamed r v) (param m v)) None ≡ renamed_found r (cond x (with_token v (param m v)) None)
            by_bool true = rest_found r v (param m v)
            by_bool false = refl
      go true e = ap (λ o. cond (m.variadic && is_paste p && bytes_eq (renamed r v).text (codes "__VA_ARGS__")) (with_token (renamed r v) o) None) (h.1.0 e).0
          ∙ none_is (m.variadic && is_paste p && bytes_eq (renamed r v).text (codes "__VA_ARGS__")) (m.variadic && is_paste p && bytes_eq v.text (codes "__VA_ARGS__"))
          ∙ ap (λ o. renamed_found r (cond (m.variadic && is_paste p && bytes_eq v.text (codes "__VA_ARGS__")) (with_token v o) None)) (sym (h.1.0 e).0) where
            none_is : (x y : Bool) → cond x (with_token (renamed r v) None) None ≡ renamed_found r (cond y (with_token v None) None)
            none_is true true = refl
            none_is true false = refl
            none_is false true = refl
            none_is false false = refl

item_by_renamed : (r : Renaming) (t : Token) (p b : Bool) (s : Option ℕ) (rest : Option (Token × ℕ)) (o : Option ℕ) → item_by (renamed r t) p b s (renamed_found r rest) o ≡ (renamed_item r (item_by t p b s rest o).0, (item_by t p b s rest o).1)
item_by_renamed r t true b s rest o = refl
item_by_renamed r t false b (Some i) rest o = refl
item_by_renamed r t false b None (Some p) o = refl
item_by_renamed r t false true None None (Some i) = refl
item_by_renamed r t false false None None (Some i) = refl
item_by_renamed r t false b None None None = refl

only_found : (r : Renaming) (b : Bool) (o : Option (Token × ℕ)) → only_if b (renamed_found r o) ≡ renamed_found r (only_if b o)
only_found r true o = refl
only_found r false o = refl

item_at_renamed : (r : Renaming) (m : MacroText) (beside : Bool) (t : Token) (ts : List Token) → IsNoParameter r m t → AllByRecursion (IsNoParameter r m) ts
    → item_at (renamed_macro r m) beside (renamed r t) (all_renamed r ts) ≡ (renamed_item r (item_at m beside t ts).0, (item_at m beside t ts).1)
item_at_renamed r m beside t ts h hs =
    ap (λ x. item_by (renamed r t) x (beside || next_is is_paste (all_renamed r ts)) (only_if (is_some m.params && is_hash (renamed r t)) (next_param m1 (all_renamed r ts))) (only_if (is_mark (codes ",") (renamed r t)) (pasted_rest m1 (all_renamed r ts))) (param m1 (renamed r t))) (paste_same r t)
    ∙ ap (λ x. item_by (renamed r t) (is_paste t) (beside || x) (only_if (is_some m.params && is_hash (renamed r t)) (next_param m1 (all_renamed r ts))) (only_if (is_mark (codes ",") (renamed r t)) (pasted_rest m1 (all_renamed r ts))) (param m1 (renamed r t))) (next_paste_same r ts)
    ∙ ap (λ x. item_by (renamed r t) (is_paste t) (beside || next_is is_paste ts) (only_if (is_some m.params && x) (next_param m1 (all_renamed r ts))) (only_if (is_mark (codes ",") (renamed r t)) (pasted_rest m1 (all_renamed r ts))) (param m1 (renamed r t))) (hash_same r t)
    ∙ ap (λ x. item_by (renamed r t) (is_paste t) (beside || next_is is_paste ts) (only_if (is_some m.params && is_hash t) x) (only_if (is_mark (codes ",") (renamed r t)) (pasted_rest m1 (all_renamed r ts))) (param m1 (renamed r t))) (next_param_same r m ts hs)
    ∙ ap (λ x. item_by (renamed r t) (is_paste t) (beside || next_is is_paste ts) (only_if (is_some m.params && is_hash t) (next_param m ts)) (only_if x (pasted_rest m1 (all_renamed r ts))) (param m1 (renamed r t))) (mark_same r (codes ",") t)
    ∙ ap (λ x. item_by (renamed r t) (is_paste t) (beside || next_is is_paste ts) (only_if (is_some m.params && is_hash t) (next_param m ts)) (only_if (is_mark (codes ",") t) x) (param m1 (renamed r t))) (rest_same r m ts hs)
    ∙ ap (λ x. item_by (renamed r t) (is_paste t) (beside || next_is is_paste ts) (only_if (is_some m.params && is_hash t) (next_param m ts)) x (param m1 (renamed r t))) (only_found r (is_mark (codes ",") t) (pasted_rest m ts))
    ∙ ap (λ x. item_by (renamed r t) (is_paste t) (beside || next_is is_paste ts) (only_if (is_some m.params && is_hash t) (next_param m ts)) (renamed_found r (only_if (is_mark (codes ",") t) (pasted_rest m ts))) x) (param_same r m t h)
    ∙ item_by_renamed r t (is_paste t) (beside || next_is is_paste ts) (only_if (is_some m.params && is_hash t) (next_param m ts)) (only_if (is_mark (codes ",") t) (pasted_rest m ts)) (param m t) where
      m1 : MacroText
      m1 = renamed_macro r m

pub items_renamed : (r : Renaming) (m : MacroText) (ts : List Token) (beside : Bool) (skip : ℕ) → AllByRecursion (IsNoParameter r m) ts → items (renamed_macro r m) beside skip (all_renamed r ts) ≡ map (renamed_item r) (items m beside skip ts)
items_renamed r m [] beside skip h = refl
items_renamed r m (t ∷ ts) beside (suc skip) h = items_renamed r m ts false skip h.1
items_renamed r m (t ∷ ts) beside zero h =
    ap (λ (x : Item × ℕ). x.0 ∷ items (renamed_macro r m) (is_paste (renamed r t)) x.1 (all_renamed r ts)) (item_at_renamed r m beside t ts h.0 h.1)
    ∙ ap (λ x. renamed_item r (item_at m beside t ts).0 ∷ items (renamed_macro r m) x (item_at m beside t ts).1 (all_renamed r ts)) (paste_same r t)
    ∙ ap (λ x. renamed_item r (item_at m beside t ts).0 ∷ x) (items_renamed r m ts (is_paste t) (item_at m beside t ts).1 h.1)

abbrev pub renamed_args : Renaming → Args → Args
renamed_args r = map (all_renamed r)

pub full_same : (r : Renaming) (i : ℕ) (item : Item) → is_full i (renamed_item r item) ≡ is_full i item
full_same r i (Stays t) = refl
full_same r i (Spelt t j) = refl
full_same r i (Bare t j) = refl
full_same r i (Full t j) = refl
full_same r i (CommaRest t v j) = refl
full_same r i Paste = refl

use_same : (r : Renaming) (i : ℕ) (item : Item) → is_use i (renamed_item r item) ≡ is_use i item
use_same r i (Stays t) = refl
use_same r i (Spelt t j) = refl
use_same r i (Bare t j) = refl
use_same r i (Full t j) = refl
use_same r i (CommaRest t v j) = refl
use_same r i Paste = refl

pub any_same : (r : Renaming) (f : Item → Bool) → ((x : Item) → f (renamed_item r x) ≡ f x) → (its : List Item) → list_any f (map (renamed_item r) its) ≡ list_any f its
any_same r f h [] = refl
any_same r f h (x ∷ xs) = ap (λ b. b || list_any f (map (renamed_item r) xs)) (h x) ∙ ap (λ b. f x || b) (any_same r f h xs)

arg_renamed : (r : Renaming) (args : Args) (i : ℕ) → arg_at (renamed_args r args) i ≡ all_renamed r (arg_at args i)
arg_renamed r [] i = refl
arg_renamed r (a ∷ args) zero = refl
arg_renamed r (a ∷ args) (suc i) = arg_renamed r args i

abbrev renamed_part : Renaming → Part → Part
renamed_part r (Is t) = Is (renamed r t)
renamed_part r Placemarker = Placemarker
renamed_part r Joins = Joins

abbrev renamed_parts : Renaming → List Part → List Part
renamed_parts r = map (renamed_part r)

rest_shifted : (r : Renaming) (ts : List Token) → spelling_of_rest (all_shifted r ts) ≡ spelling_of_rest ts
rest_shifted r [] = refl
rest_shifted r (t ∷ ts) = ap (λ x. (cond t.space (32 ∷ []) [] ++ spelling_of t) ++ x) (rest_shifted r ts)

spelling_shifted : (r : Renaming) (ts : List Token) → spelling (all_shifted r ts) ≡ spelling ts
spelling_shifted r [] = refl
spelling_shifted r (t ∷ ts) = ap (λ x. spelling_of t ++ x) (rest_shifted r ts)

string_sim : (r : Renaming) (name hash : Token) (arg : List Token) → Sim r (renamed r) (string_of name hash arg) (string_of (shifted r name) (renamed r hash) (all_renamed r arg))
string_sim r name hash arg = record { at = λ left. go left (is_string (in_quotes (spelling arg))) refl } where
  as_string : Text → List Event → Work Token
  as_string text events = cond (is_string (in_quotes text)) (note events (made (shifted r name) Str (in_quotes text) hash.space [])) (fail (BadPaste (r.shift name.site)))

  go : (left : ℕ) (b : Bool) → is_string (in_quotes (spelling arg)) ≡ b
      → Follows r (renamed r) (cond b (note (flat_map (takes Stringized) arg) (made name Str (in_quotes (spelling arg)) hash.space [])) (fail (BadPaste name.site)) left) (string_of (shifted r name) (renamed r hash) (all_renamed r arg) left)
  go left true e = λ fine.
      let same : all_renamed r arg ≡ all_shifted r arg = same_by_roles r Stringized arg (of_string r) fine in
      ap (λ x. string_of (shifted r name) (renamed r hash) x left) same
      ∙ ap (λ x. as_string x (flat_map (takes Stringized) (all_shifted r arg)) left) (spelling_shifted r arg)
      ∙ ap (λ x. as_string (spelling arg) x left) (sym (ap (flat_map (takes Stringized)) same) ∙ all_take_renamed r Stringized arg)
      ∙ ap (λ b. cond b (note (renamed_events r (flat_map (takes Stringized) arg)) (made (shifted r name) Str (in_quotes (spelling arg)) hash.space [])) (fail (BadPaste (r.shift name.site))) left) e
  go left false e = tt

comma_renamed : (r : Renaming) (comma : Token) (rest : List Part) (arg : List Token) → comma_and (renamed r comma) (renamed_parts r rest) (all_renamed r arg) ≡ renamed_parts r (comma_and comma rest arg)
comma_renamed r comma rest [] = refl
comma_renamed r comma rest (a ∷ as1) = refl

parts_renamed : (r : Renaming) (ts : List Token) → parts_of (all_renamed r ts) ≡ renamed_parts r (parts_of ts)
parts_renamed r [] = refl
parts_renamed r (t ∷ ts) = ap (λ ps. Is (renamed r t) ∷ ps) (parts_renamed r ts)

placemarker_renamed : (r : Renaming) (ts : List Token) → or_placemarker (all_renamed r ts) ≡ renamed_parts r (or_placemarker ts)
placemarker_renamed r [] = refl
placemarker_renamed r (t ∷ ts) = ap (λ ps. Is (renamed r t) ∷ ps) (parts_renamed r ts)

sim_parts : (r : Renaming) (ps qs : List Part) → qs ≡ renamed_parts r ps → Sim r (renamed_parts r) (give ps) (give qs)
sim_parts r ps qs e = record { at = λ left fine. ap (λ x. give x left) e }

filled_sim : (r : Renaming) (name : Token) (raw full : Args) (item : Item) → Sim r (renamed_parts r) (filled name raw full item) (filled (shifted r name) (renamed_args r raw) (renamed_args r full) (renamed_item r item))
filled_sim r name raw full (Stays t) = sim_parts r (Is t ∷ []) (Is (renamed r t) ∷ []) refl
filled_sim r name raw full (Spelt hash i) =
    sim_to r (renamed_parts r) (filled name raw full (Spelt hash i)) (filled (shifted r name) (renamed_args r raw) (renamed_args r full) (Spelt (renamed r hash) i))
    (string_of (shifted r name) (renamed r hash) (all_renamed r (arg_at raw i)) >>= λ s. give (Is s ∷ []))
    (ap (λ x. string_of (shifted r name) (renamed r hash) x >>= λ s. give (Is s ∷ [])) (arg_renamed r raw i))
    (sim_then r (renamed r) (renamed_parts r) (string_of name hash (arg_at raw i)) (string_of (shifted r name) (renamed r hash) (all_renamed r (arg_at raw i)))
    (λ s. give (Is s ∷ [])) (λ s. give (Is s ∷ [])) (string_sim r name hash (arg_at raw i)) (λ s. sim_parts r (Is s ∷ []) (Is (renamed r s) ∷ []) refl))
filled_sim r name raw full (Bare t i) =
    sim_parts r _ _ (ap or_placemarker (ap (with_space t.space) (arg_renamed r raw i) ∙ space_renamed r t.space (arg_at raw i)) ∙ placemarker_renamed r (with_space t.space (arg_at raw i)))
filled_sim r name raw full (Full t i) =
    sim_parts r _ _ (ap parts_of (ap (with_space t.space) (arg_renamed r full i) ∙ space_renamed r t.space (arg_at full i)) ∙ parts_renamed r (with_space t.space (arg_at full i)))
filled_sim r name raw full (CommaRest comma t i) =
    sim_parts r (comma_and comma (or_placemarker (with_space t.space (arg_at full i))) (arg_at raw i)) (comma_and (renamed r comma) (or_placemarker (with_space t.space (arg_at (renamed_args r full) i))) (arg_at (renamed_args r raw) i))
    (ap (comma_and (renamed r comma) (or_placemarker (with_space t.space (arg_at (renamed_args r full) i)))) (arg_renamed r raw i)
    ∙ ap (λ x. comma_and (renamed r comma) (or_placemarker x) (all_renamed r (arg_at raw i))) (ap (with_space t.space) (arg_renamed r full i) ∙ space_renamed r t.space (arg_at full i))
    ∙ ap (λ x. comma_and (renamed r comma) x (all_renamed r (arg_at raw i))) (placemarker_renamed r (with_space t.space (arg_at full i)))
    ∙ comma_renamed r comma (or_placemarker (with_space t.space (arg_at full i))) (arg_at raw i))
filled_sim r name raw full Paste = sim_give r (renamed_parts r) (Joins ∷ [])

all_filled_sim : (r : Renaming) (name : Token) (raw full : Args) (its : List Item) → Sim r (renamed_parts r) (all_filled name raw full its) (all_filled (shifted r name) (renamed_args r raw) (renamed_args r full) (map (renamed_item r) its))
all_filled_sim r name raw full [] = sim_give r (renamed_parts r) []
all_filled_sim r name raw full (item ∷ its) =
    sim_then r (renamed_parts r) (renamed_parts r) (filled name raw full item) (filled (shifted r name) (renamed_args r raw) (renamed_args r full) (renamed_item r item))
    (λ ps. all_filled name raw full its >>= λ more. give (ps ++ more)) (λ ps. all_filled (shifted r name) (renamed_args r raw) (renamed_args r full) (map (renamed_item r) its) >>= λ more. give (ps ++ more)) (filled_sim r name raw full item)
    (λ ps. sim_then r (renamed_parts r) (renamed_parts r) (all_filled name raw full its) (all_filled (shifted r name) (renamed_args r raw) (renamed_args r full) (map (renamed_item r) its))
    (λ more. give (ps ++ more)) (λ more. give (renamed_parts r ps ++ more)) (all_filled_sim r name raw full its) (λ more. sim_parts r (ps ++ more) (renamed_parts r ps ++ renamed_parts r more) (sym (map-append (renamed_part r) ps more))))

paste_sim : (r : Renaming) (name a b : Token) → Sim r (renamed r) (paste name a b) (paste (shifted r name) (renamed r a) (renamed r b))
paste_sim r name a b = record { at = λ left. go left (one_token (a.text ++ b.text)) refl } where
  go : (left : ℕ) (o : Option PpKind) → one_token (a.text ++ b.text) ≡ o → Follows r (renamed r) (pasted_as name a b o left) (paste (shifted r name) (renamed r a) (renamed r b) left)
  go left None e = tt
  go left (Some kind) e = λ fine.
      let same_a : renamed r a ≡ shifted r a = same_by_role r Pasted a (of_paste r) (harmless_left r (takes Pasted a) (takes Pasted b) fine) in
      let same_b : renamed r b ≡ shifted r b = same_by_role r Pasted b (of_paste r) (harmless_right r (takes Pasted a) (takes Pasted b) fine) in
      ap (λ x. paste (shifted r name) x (renamed r b) left) same_a
      ∙ ap (λ x. paste (shifted r name) (shifted r a) x left) same_b
      ∙ ap (λ o. pasted_as (shifted r name) (shifted r a) (shifted r b) o left) e
      ∙ ap (λ x. note x (made (shifted r name) kind (a.text ++ b.text) a.space (both a.hide b.hide)) left)
      (ap (λ x. x ++ takes Pasted (shifted r b)) (same_takes r Pasted a same_a) ∙ ap (λ x. renamed_events r (takes Pasted a) ++ x) (same_takes r Pasted b same_b)
      ∙ sym (map-append (renamed_event r) (takes Pasted a) (takes Pasted b)))

paste_after_sim : (r : Renaming) (name b : Token) (left : Option Token) → Sim r (renamed r) (paste_after name b left) (paste_after (shifted r name) (renamed r b) (option_map (renamed r) left))
paste_after_sim r name b None = sim_give r (renamed r) b
paste_after_sim r name b (Some a) = paste_sim r name a b

none_renamed : (r : Renaming) (left : Option Token) → or_none (option_map (renamed r) left) ≡ all_renamed r (or_none left)
none_renamed r None = refl
none_renamed r (Some t) = refl

sim_before : (r : Renaming) (left : Option Token) (x : List Token) → Sim r (all_renamed r) (give (or_none left ++ x)) (give (or_none (option_map (renamed r) left) ++ all_renamed r x))
sim_before r left x = record { at = λ n fine. ap (λ y. give y n) (ap (λ y. y ++ all_renamed r x) (none_renamed r left) ∙ sym (map-append (renamed r) (or_none left) x)) }

all_pasted_sim : (r : Renaming) (name : Token) (left : Option Token) (pasting : Bool) (ps : List Part) → Sim r (all_renamed r) (all_pasted name left pasting ps) (all_pasted (shifted r name) (option_map (renamed r) left) pasting (renamed_parts r ps))
all_pasted_sim r name left pasting [] = record { at = λ n fine. ap (λ y. give y n) (none_renamed r left) }
all_pasted_sim r name left pasting (Joins ∷ ps) = all_pasted_sim r name left true ps
all_pasted_sim r name left true (Is b ∷ ps) =
    sim_then r (renamed r) (all_renamed r) (paste_after name b left) (paste_after (shifted r name) (renamed r b) (option_map (renamed r) left)) (λ c. all_pasted name (Some c) false ps) (λ c. all_pasted (shifted r name) (Some c) false (renamed_parts r ps))
    (paste_after_sim r name b left) (λ c. all_pasted_sim r name (Some c) false ps)
all_pasted_sim r name left true (Placemarker ∷ ps) = all_pasted_sim r name left false ps
all_pasted_sim r name left false (Is b ∷ ps) =
    sim_then r (all_renamed r) (all_renamed r) (all_pasted name (Some b) false ps) (all_pasted (shifted r name) (Some (renamed r b)) false (renamed_parts r ps)) (λ x. give (or_none left ++ x)) (λ x. give (or_none (option_map (renamed r) left) ++ x))
    (all_pasted_sim r name (Some b) false ps) (λ x. sim_before r left x)
all_pasted_sim r name left false (Placemarker ∷ ps) =
    sim_then r (all_renamed r) (all_renamed r) (all_pasted name None false ps) (all_pasted (shifted r name) None false (renamed_parts r ps)) (λ x. give (or_none left ++ x)) (λ x. give (or_none (option_map (renamed r) left) ++ x))
    (all_pasted_sim r name None false ps) (λ x. sim_before r left x)

dropped_by : (r : Renaming) (b : Bool) (arg : List Token) → cond b [] (flat_map (takes Dropped) (all_renamed r arg)) ≡ renamed_events r (cond b [] (flat_map (takes Dropped) arg))
dropped_by r true arg = refl
dropped_by r false arg = all_take_renamed r Dropped arg

dropped_renamed : (r : Renaming) (its : List Item) (i : ℕ) (args : Args) → dropped (map (renamed_item r) its) i (renamed_args r args) ≡ renamed_events r (dropped its i args)
dropped_renamed r its i [] = refl
dropped_renamed r its i (arg ∷ args) =
    ap (λ b. cond b [] (flat_map (takes Dropped) (all_renamed r arg)) ++ dropped (map (renamed_item r) its) (i + 1) (renamed_args r args)) (any_same r (is_use i) (use_same r i) its)
    ∙ ap (λ x. x ++ dropped (map (renamed_item r) its) (i + 1) (renamed_args r args)) (dropped_by r (list_any (is_use i) its) arg)
    ∙ ap (λ x. renamed_events r (cond (list_any (is_use i) its) [] (flat_map (takes Dropped) arg)) ++ x) (dropped_renamed r its (i + 1) args)
    ∙ sym (map-append (renamed_event r) (cond (list_any (is_use i) its) [] (flat_map (takes Dropped) arg)) (dropped its (i + 1) args))

abbrev put_at : Token → List Text → Token → Token
put_at name hide t = record t { site = name.site; line = name.line; hide = with_names hide t.hide }

placed_renamed : (r : Renaming) (name : Token) (hide : List Text) (ts : List Token) → placed (shifted r name) hide (all_renamed r ts) ≡ all_renamed r (placed name hide ts)
placed_renamed r name hide ts = ap (with_space name.space) (go ts) ∙ space_renamed r name.space (map (put_at name hide) ts) where
  go : (us : List Token) → map (put_at (shifted r name) hide) (all_renamed r us) ≡ all_renamed r (map (put_at name hide) us)
  go [] = refl
  go (u ∷ us) = ap (λ x. renamed r (put_at name hide u) ∷ x) (go us)

sim_placed : (r : Renaming) (name : Token) (hide : List Text) (ts : List Token) → Sim r (all_renamed r) (give (placed name hide ts)) (give (placed (shifted r name) hide (all_renamed r ts)))
sim_placed r name hide ts = record { at = λ left fine. ap (λ x. give x left) (placed_renamed r name hide ts) }

abbrev fill_in : Token → Args → Args → List Text → List Item → Work (List Token)
fill_in name raw full hide its = all_filled name raw full its >>= λ ps. all_pasted name None false ps >>= λ ts. give (placed name hide ts)

pub subst_sim : (r : Renaming) (name : Token) (m : MacroText) (raw full : Args) (hide : List Text) → renamed r name ≡ shifted r name → AllByRecursion (IsNoParameter r m) m.body
    → Sim r (all_renamed r) (Substitution.subst name m raw full hide) (Substitution.subst (shifted r name) (renamed_macro r m) (renamed_args r raw) (renamed_args r full) hide)
subst_sim r name m raw full hide s h =
    sim_to r (all_renamed r) (Substitution.subst name m raw full hide) (Substitution.subst (shifted r name) (renamed_macro r m) (renamed_args r raw) (renamed_args r full) hide)
    (note (takes MacroName (shifted r name) ++ dropped (map (renamed_item r) (body_items m)) 0 (renamed_args r raw)) (map (renamed_item r) (body_items m)) >>= fill_in (shifted r name) (renamed_args r raw) (renamed_args r full) hide)
    (ap (λ x. note (takes MacroName (shifted r name) ++ dropped x 0 (renamed_args r raw)) x >>= fill_in (shifted r name) (renamed_args r raw) (renamed_args r full) hide) (items_renamed r m m.body false 0 h))
    (sim_then r (map (renamed_item r)) (all_renamed r) (note (takes MacroName name ++ dropped (body_items m) 0 raw) (body_items m)) (note (takes MacroName (shifted r name) ++ dropped (map (renamed_item r) (body_items m)) 0 (renamed_args r raw)) (map (renamed_item r) (body_items m)))
    (fill_in name raw full hide) (fill_in (shifted r name) (renamed_args r raw) (renamed_args r full) hide)
    (sim_note r (map (renamed_item r)) (takes MacroName name ++ dropped (body_items m) 0 raw) (takes MacroName (shifted r name) ++ dropped (map (renamed_item r) (body_items m)) 0 (renamed_args r raw)) (body_items m)
    (ap (λ x. x ++ dropped (map (renamed_item r) (body_items m)) 0 (renamed_args r raw)) (same_takes r MacroName name s)
    ∙ ap (λ x. renamed_events r (takes MacroName name) ++ x) (dropped_renamed r (body_items m) 0 raw)
    ∙ sym (map-append (renamed_event r) (takes MacroName name) (dropped (body_items m) 0 raw))))
    (λ x. sim_then r (renamed_parts r) (all_renamed r) (all_filled name raw full x) (all_filled (shifted r name) (renamed_args r raw) (renamed_args r full) (map (renamed_item r) x))
    (λ ps. all_pasted name None false ps >>= λ ts. give (placed name hide ts)) (λ ps. all_pasted (shifted r name) None false ps >>= λ ts. give (placed (shifted r name) hide ts)) (all_filled_sim r name raw full x)
    (λ ps. sim_then r (all_renamed r) (all_renamed r) (all_pasted name None false ps) (all_pasted (shifted r name) None false (renamed_parts r ps)) (λ ts. give (placed name hide ts)) (λ ts. give (placed (shifted r name) hide ts))
    (all_pasted_sim r name None false ps) (λ ts. sim_placed r name hide ts))))

-- a macro's name that is renamed does harm
pub never_subst : (r : Renaming) (t : Token) (m : MacroText) (raw full : Args) (hide : List Text) → is_renamed r t ≡ true → Never r (Substitution.subst t m raw full hide)
never_subst r t m raw full hide e = never_first r (note (takes MacroName t ++ dropped (body_items m) 0 raw) (body_items m)) (fill_in t raw full hide) (never_name r t (dropped (body_items m) 0 raw) (body_items m) e)
