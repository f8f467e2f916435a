-- A `define` line defines by the texts of its tokens what it defines by their numbers.
use Rattle.std.proofs.Common.{◌≡◌, ℕ, zero, suc, ◌+◌, ◌-◌, ◌<◌, Bool, true, false, cond, List, [], ◌∷◌, ◌++◌, length, map, take, drop, get_or, refl, ap, sym, ◌∙◌, subst, Some, None, Option, true≢false}
use Rattle.std.specs.Prelude.{codes, not, ◌||◌, ◌&&◌, ◌==◌, bytes_eq, position, slice_get, fold, nat_lt, is_some}
use Rattle.std.specs.List.{list_any, prefix_len, position_or_len, slice_split, onto_first, AllByRecursion}
use Rattle.std.specs.Option.{option_map}
use Rattle.std.proofs.lemmas.Bool.{eq-eqb, eqb-true}
use Rattle.std.proofs.lemmas.List.{map-append, length-map, take-map, drop-map}
use Rattle.std.proofs.lemmas.Option.{slice_get-map, slice_get-get_or}
use Rattle.std.proofs.lemmas.Slice.Eq.{bytes_eq-Decides}
use Rattle.cr_base.specs.NameTable.{IsDistinct}
use Rattle.cr_base.specs.declared.token.Name.{Name}
use Rattle.cr_base.specs.declared.token.PpTok.{PpTok}
use Rattle.cr_macros.specs.declared.macros.Macro.{Macro}
use Rattle.cr_macros.specs.Tokens.{Text, Token, MacroText, is_ident, is_mark, token_of, tokens_of}
use Rattle.cr_macros.specs.Substitution.{one_more, index_of, param, next_param}
use Rattle.cr_macros.specs.Definition as number
use Rattle.cr_macros.specs.Definition.{text_of, has_name, is_kept_word}
use Rattle.cr_macros.specs.MacroTables.{macro_text}
use Rattle.cr_phase4.specs.Definition as text
use Rattle.cr_phase4.specs.Definition.{Definition}
use Rattle.cr_preproc.specs.Seen.{IsNamed, AreNamed, IsSameDefinition}

-- two names of a table have one text only where they are one
pub same_name : (names : List Text) (a b : Name) → IsDistinct names → a.0 < length names → b.0 < length names → bytes_eq (text_of names a) (text_of names b) ≡ (a.0 == b.0)
same_name names a b d h k = go (bytes_eq (text_of names a) (text_of names b)) refl (a.0 == b.0) refl where
  go : (x : Bool) → bytes_eq (text_of names a) (text_of names b) ≡ x → (y : Bool) → (a.0 == b.0) ≡ y → bytes_eq (text_of names a) (text_of names b) ≡ (a.0 == b.0)
  go true e true f = e ∙ sym f
  go false e false f = e ∙ sym f
  go true e false f =
      let same : text_of names a ≡ text_of names b = (bytes_eq-Decides (text_of names a) (text_of names b)).0 e in
      let one : a.0 ≡ b.0 = d a.0 b.0 (text_of names b) (slice_get-get_or names a.0 [] h ∙ ap (λ t. Some t) same) (slice_get-get_or names b.0 [] k) in
      absurd (true≢false (sym (eq-eqb a.0 b.0 one) ∙ f))
  go false e true f =
      let one : a.0 ≡ b.0 = eqb-true a.0 b.0 f in
      let same : text_of names a ≡ text_of names b = ap (λ n. get_or names n []) one in
      absurd (true≢false (sym ((bytes_eq-Decides (text_of names a) (text_of names b)).1 same) ∙ e))

turned : (a b : ℕ) → (a == b) ≡ (b == a)
turned a b = go (a == b) refl (b == a) refl where
  go : (x : Bool) → (a == b) ≡ x → (y : Bool) → (b == a) ≡ y → (a == b) ≡ (b == a)
  go true e true f = e ∙ sym f
  go false e false f = e ∙ sym f
  go true e false f = absurd (true≢false (sym (eq-eqb b a (sym (eqb-true a b e))) ∙ f))
  go false e true f = absurd (true≢false (sym (eq-eqb a b (sym (eqb-true b a f))) ∙ e))

and_assoc : (a b c : Bool) → ((a && b) && c) ≡ (a && (b && c))
and_assoc true b c = refl
and_assoc false b c = refl

abbrev NamesKnown : List Text → List Name → Type 0
NamesKnown names = AllByRecursion (λ n. n.0 < length names)

names_both : (names : List Text) (xs ys : List Name) → NamesKnown names xs → NamesKnown names ys → NamesKnown names (xs ++ ys)
names_both names [] ys h k = k
names_both names (x ∷ xs) ys h k = (h.0, names_both names xs ys h.1 k)

take_named : (names : List Text) (n : ℕ) (ts : List PpTok) → AreNamed names ts → AreNamed names (take n ts)
take_named names zero ts h = tt
take_named names (suc n) [] h = tt
take_named names (suc n) (t ∷ ts) h = (h.0, take_named names n ts h.1)

pub drop_named : (names : List Text) (n : ℕ) (ts : List PpTok) → AreNamed names ts → AreNamed names (drop n ts)
drop_named names zero ts h = h
drop_named names (suc n) [] h = tt
drop_named names (suc n) (t ∷ ts) h = drop_named names n ts h.1

prefix_same : (names : List Text) (ts : List PpTok) → prefix_len (λ t. not (is_mark (codes ")") t)) (tokens_of names ts) ≡ prefix_len (λ t. not (number.is_mark names (codes ")") t)) ts
prefix_same names [] = refl
prefix_same names (t ∷ ts) = ap (λ n. cond (not (number.is_mark names (codes ")") t)) (1 + n) 0) (prefix_same names ts)

pub close_same : (names : List Text) (ts : List PpTok) → text.close_of (tokens_of names ts) ≡ position (number.is_mark names (codes ")")) ts
close_same names ts =
    ap (λ n. cond (nat_lt n (length (tokens_of names ts))) (Some n) None) (prefix_same names ts)
    ∙ ap (λ n. cond (nat_lt (position_or_len (number.is_mark names (codes ")")) ts) n) (Some (position_or_len (number.is_mark names (codes ")")) ts)) None) (length-map ts (token_of names []))

module _ (names : List Text) (distinct : IsDistinct names) where
  abbrev seen : PpTok → Token
  seen t = token_of names [] t

  -- parameters

  has_same : (ps : List Name) (n : Name) → NamesKnown names ps → n.0 < length names → list_any (bytes_eq (text_of names n)) (map (text_of names) ps) ≡ has_name ps n
  has_same [] n h k = refl
  has_same (p ∷ ps) n h k = ap (λ b. b || list_any (bytes_eq (text_of names n)) (map (text_of names) ps)) (same_name names n p distinct k h.0) ∙ ap (λ b. n.0 == p.0 || b) (has_same ps n h.1 k)

  abbrev seen_params : number.Params → text.Params
  seen_params None = None
  seen_params (Some (ps, v)) = Some (map (text_of names) ps, v)

  abbrev ParamsKnown : number.Params → Type 0
  ParamsKnown None = Unit {0}
  ParamsKnown (Some (ps, v)) = NamesKnown names ps

  known_if : (b : Bool) (x y : number.Params) → ParamsKnown x → ParamsKnown y → ParamsKnown (cond b x y)
  known_if true x y h k = h
  known_if false x y h k = k

  seen_if : (b : Bool) (x y : number.Params) → cond b (seen_params x) (seen_params y) ≡ seen_params (cond b x y)
  seen_if true x y = refl
  seen_if false x y = refl

  token_same : (ps : List Name) (t : PpTok) → NamesKnown names ps → IsNamed names t → text.with_token (map (text_of names) ps) (seen t) ≡ seen_params (number.with_token names ps t)
  token_same ps t h k =
      ap (λ b. cond (number.is_mark names (codes "...") t) (Some (map (text_of names) ps, true)) (cond (is_ident t.kind && not (number.is_rest names t) && not b) (Some (map (text_of names) ps ++ text_of names t.text ∷ [], false)) None)) (has_same ps t.text h k)
      ∙ ap (λ x. cond (number.is_mark names (codes "...") t) (Some (map (text_of names) ps, true)) (cond good (Some (x, false)) None)) (sym (map-append (text_of names) ps (t.text ∷ [])))
      ∙ ap (λ x. cond (number.is_mark names (codes "...") t) (Some (map (text_of names) ps, true)) x) (seen_if good (Some (ps ++ t.text ∷ [], false)) None)
      ∙ seen_if (number.is_mark names (codes "...") t) (Some (ps, true)) (cond good (Some (ps ++ t.text ∷ [], false)) None) where
        good : Bool
        good = is_ident t.kind && not (number.is_rest names t) && not (has_name ps t.text)

  token_known : (ps : List Name) (t : PpTok) → NamesKnown names ps → IsNamed names t → ParamsKnown (number.with_token names ps t)
  token_known ps t h k =
      known_if (number.is_mark names (codes "...") t) (Some (ps, true)) (cond (is_ident t.kind && not (number.is_rest names t) && not (has_name ps t.text)) (Some (ps ++ t.text ∷ [], false)) None) h
      (known_if (is_ident t.kind && not (number.is_rest names t) && not (has_name ps t.text)) (Some (ps ++ t.text ∷ [], false)) None (names_both names ps (t.text ∷ []) h (k, tt)) tt)

  piece_same : (piece : List PpTok) (p : number.Params) → AreNamed names piece → ParamsKnown p → text.after_piece (tokens_of names piece) (seen_params p) ≡ seen_params (number.after_piece names piece p)
  piece_same piece None h k = refl
  piece_same piece (Some (ps, true)) h k = refl
  piece_same [] (Some (ps, false)) h k = refl
  piece_same (t ∷ []) (Some (ps, false)) h k = token_same ps t k h.0
  piece_same (t ∷ u ∷ ts) (Some (ps, false)) h k = refl

  piece_known : (piece : List PpTok) (p : number.Params) → AreNamed names piece → ParamsKnown p → ParamsKnown (number.after_piece names piece p)
  piece_known piece None h k = tt
  piece_known piece (Some (ps, true)) h k = tt
  piece_known [] (Some (ps, false)) h k = tt
  piece_known (t ∷ []) (Some (ps, false)) h k = token_known ps t k h.0
  piece_known (t ∷ u ∷ ts) (Some (ps, false)) h k = tt

  split_onto : (b : Bool) (t : PpTok) (tss : List (List PpTok)) → cond b ([] ∷ map (tokens_of names) tss) (onto_first (seen t) (map (tokens_of names) tss)) ≡ map (tokens_of names) (cond b ([] ∷ tss) (onto_first t tss))
  split_onto true t tss = refl
  split_onto false t [] = refl
  split_onto false t (ts ∷ tss) = refl

  split_same : (ts : List PpTok) → slice_split (is_mark (codes ",")) (tokens_of names ts) ≡ map (tokens_of names) (slice_split (number.is_mark names (codes ",")) ts)
  split_same [] = refl
  split_same (t ∷ ts) =
      ap (λ x. cond (number.is_mark names (codes ",") t) ([] ∷ x) (onto_first (seen t) x)) (split_same ts) ∙ split_onto (number.is_mark names (codes ",") t) t (slice_split (number.is_mark names (codes ",")) ts)

  pieces_same : (ts : List PpTok) → text.pieces (tokens_of names ts) ≡ map (tokens_of names) (number.pieces names ts)
  pieces_same [] = refl
  pieces_same (t ∷ ts) = split_same (t ∷ ts)

  abbrev PiecesNamed : List (List PpTok) → Type 0
  PiecesNamed = AllByRecursion (AreNamed names)

  onto_named : (b : Bool) (t : PpTok) (tss : List (List PpTok)) → IsNamed names t → PiecesNamed tss → PiecesNamed (cond b ([] ∷ tss) (onto_first t tss))
  onto_named true t tss h k = (tt, k)
  onto_named false t [] h k = ((h, tt), tt)
  onto_named false t (ts ∷ tss) h k = ((h, k.0), k.1)

  split_named : (ts : List PpTok) → AreNamed names ts → PiecesNamed (slice_split (number.is_mark names (codes ",")) ts)
  split_named [] h = (tt, tt)
  split_named (t ∷ ts) h = onto_named (number.is_mark names (codes ",") t) t (slice_split (number.is_mark names (codes ",")) ts) h.0 (split_named ts h.1)

  pieces_named : (ts : List PpTok) → AreNamed names ts → PiecesNamed (number.pieces names ts)
  pieces_named [] h = tt
  pieces_named (t ∷ ts) h = split_named (t ∷ ts) h

  fold_same : (tss : List (List PpTok)) (p : number.Params) → PiecesNamed tss → ParamsKnown p
      → fold (λ params piece. text.after_piece piece params) (seen_params p) (map (tokens_of names) tss) ≡ seen_params (fold (λ params piece. number.after_piece names piece params) p tss)
  fold_same [] p h k = refl
  fold_same (ts ∷ tss) p h k =
      ap (λ x. fold (λ params piece. text.after_piece piece params) x (map (tokens_of names) tss)) (piece_same ts p h.0 k) ∙ fold_same tss (number.after_piece names ts p) h.1 (piece_known ts p h.0 k)

  fold_known : (tss : List (List PpTok)) (p : number.Params) → PiecesNamed tss → ParamsKnown p → ParamsKnown (fold (λ params piece. number.after_piece names piece params) p tss)
  fold_known [] p h k = k
  fold_known (ts ∷ tss) p h k = fold_known tss (number.after_piece names ts p) h.1 (piece_known ts p h.0 k)

  params_same : (ts : List PpTok) → AreNamed names ts → text.params_of (tokens_of names ts) ≡ seen_params (number.params_of names ts)
  params_same ts h = ap (fold (λ params piece. text.after_piece piece params) (Some ([], false))) (pieces_same ts) ∙ fold_same (number.pieces names ts) (Some ([], false)) (pieces_named ts h) tt

  params_known : (ts : List PpTok) → AreNamed names ts → ParamsKnown (number.params_of names ts)
  params_known ts h = fold_known (number.pieces names ts) (Some ([], false)) (pieces_named ts h) tt

  -- the macro behind the name

  abbrev seen_macro : Option Macro → Option MacroText
  seen_macro o = option_map (macro_text names) o

  function_same : (name : Name) (body : List PpTok) (p : number.Params) → text.function_like (tokens_of names body) (seen_params p) ≡ seen_macro (number.function_like name body p)
  function_same name body None = refl
  function_same name body (Some (ps, v)) = refl

  with_params_same : (name : Name) (rest : List PpTok) (o : Option ℕ) → AreNamed names rest → text.with_params (tokens_of names rest) o ≡ seen_macro (number.with_params names name rest o)
  with_params_same name rest None h = refl
  with_params_same name rest (Some n) h =
      ap (λ x. text.function_like x (text.params_of (take n (tokens_of names rest)))) (drop-map seen (n + 1) rest)
      ∙ ap (λ x. text.function_like (tokens_of names (drop (n + 1) rest)) (text.params_of x)) (take-map seen n rest)
      ∙ ap (text.function_like (tokens_of names (drop (n + 1) rest))) (params_same (take n rest) (take_named names n rest h))
      ∙ function_same name (drop (n + 1) rest) (number.params_of names (take n rest))

  macro_if : (b : Bool) (x y : Option Macro) → cond b (seen_macro x) (seen_macro y) ≡ seen_macro (cond b x y)
  macro_if true x y = refl
  macro_if false x y = refl

  macro_same : (name : Name) (rest : List PpTok) → AreNamed names rest → text.macro_of (tokens_of names rest) ≡ seen_macro (number.macro_of names name rest)
  macro_same name [] h = refl
  macro_same name (t ∷ rest) h =
      ap (λ o. cond begins (text.with_params (tokens_of names rest) o) (Some (text.object_like (tokens_of names (t ∷ rest))))) (close_same names rest)
      ∙ ap (λ x. cond begins x (Some (text.object_like (tokens_of names (t ∷ rest))))) (with_params_same name rest (position (number.is_mark names (codes ")")) rest) h.1)
      ∙ macro_if begins (number.with_params names name rest (position (number.is_mark names (codes ")")) rest)) (Some (number.object_like name (t ∷ rest))) where
        begins : Bool
        begins = number.is_mark names (codes "(") t && not t.space

  -- a macro whose parameters are known
  abbrev MacroKnown : Macro → Type 0
  MacroKnown m = ParamsKnown (option_map {U = List Name × Bool} (λ ps. (ps, m.variadic)) m.params)

  abbrev SomeKnown : Option Macro → Type 0
  SomeKnown None = Unit {0}
  SomeKnown (Some m) = MacroKnown m × AreNamed names m.body

  function_known : (name : Name) (body : List PpTok) (p : number.Params) → ParamsKnown p → AreNamed names body → SomeKnown (number.function_like name body p)
  function_known name body None h k = tt
  function_known name body (Some (ps, v)) h k = (h, k)

  with_params_known : (name : Name) (rest : List PpTok) (o : Option ℕ) → AreNamed names rest → SomeKnown (number.with_params names name rest o)
  with_params_known name rest None h = tt
  with_params_known name rest (Some n) h = function_known name (drop (n + 1) rest) (number.params_of names (take n rest)) (params_known (take n rest) (take_named names n rest h)) (drop_named names (n + 1) rest h)

  some_if : (b : Bool) (x y : Option Macro) → SomeKnown x → SomeKnown y → SomeKnown (cond b x y)
  some_if true x y h k = h
  some_if false x y h k = k

  macro_known : (name : Name) (rest : List PpTok) → AreNamed names rest → SomeKnown (number.macro_of names name rest)
  macro_known name [] h = (tt, tt)
  macro_known name (t ∷ rest) h =
      some_if (number.is_mark names (codes "(") t && not t.space) (number.with_params names name rest (position (number.is_mark names (codes ")")) rest)) (Some (number.object_like name (t ∷ rest)))
      (with_params_known name rest (position (number.is_mark names (codes ")")) rest) h.1) (tt, h)

  -- good bodies

  paste_at_same : (o : Option PpTok) → text.is_paste_at (option_map seen o) ≡ number.is_paste_at names o
  paste_at_same None = refl
  paste_at_same (Some t) = refl

  pastes_same : (body : List PpTok) → text.has_pastes_inside (tokens_of names body) ≡ number.has_pastes_inside names body
  pastes_same body =
      ap (λ n. not (text.is_paste_at (slice_get (tokens_of names body) 0)) && not (text.is_paste_at (slice_get (tokens_of names body) (n - 1)))) (length-map body seen)
      ∙ ap (λ b. not b && not (text.is_paste_at (slice_get (tokens_of names body) (length body - 1)))) (at 0)
      ∙ ap (λ b. not (number.is_paste_at names (slice_get body 0)) && not b) (at (length body - 1)) where
        at : (k : ℕ) → text.is_paste_at (slice_get (tokens_of names body) k) ≡ number.is_paste_at names (slice_get body k)
        at k = ap text.is_paste_at (slice_get-map seen body k) ∙ paste_at_same (slice_get body k)

  rest_same : (body : List PpTok) → list_any text.is_rest (tokens_of names body) ≡ list_any (number.is_rest names) body
  rest_same [] = refl
  rest_same (t ∷ ts) = ap (λ b. number.is_rest names t || b) (rest_same ts)

  some_more : (o : Option ℕ) → is_some (one_more o) ≡ is_some o
  some_more None = refl
  some_more (Some i) = refl

  index_step : (b : Bool) (o : Option ℕ) → is_some (cond b (Some 0) (one_more o)) ≡ (b || is_some o)
  index_step true o = refl
  index_step false o = some_more o

  index_some : (ps : List Name) (more : List Text) (n : Name) → NamesKnown names ps → n.0 < length names → is_some (index_of (map (text_of names) ps ++ more) (text_of names n)) ≡ (has_name ps n || is_some (index_of more (text_of names n)))
  index_some [] more n h k = refl
  index_some (p ∷ ps) more n h k =
      index_step (bytes_eq (text_of names p) (text_of names n)) (index_of (map (text_of names) ps ++ more) (text_of names n))
      ∙ ap (λ b. b || is_some (index_of (map (text_of names) ps ++ more) (text_of names n))) (same_name names p n distinct h.0 k ∙ turned p.0 n.0)
      ∙ ap (λ b. n.0 == p.0 || b) (index_some ps more n h.1 k)
      ∙ or_assoc (n.0 == p.0) (has_name ps n) (is_some (index_of more (text_of names n))) where
        or_assoc : (a b c : Bool) → (a || (b || c)) ≡ ((a || b) || c)
        or_assoc true b c = refl
        or_assoc false b c = refl

  more_some : (v : Bool) (n : Name) → is_some (index_of (cond v (codes "__VA_ARGS__" ∷ []) []) (text_of names n)) ≡ (v && bytes_eq (codes "__VA_ARGS__") (text_of names n))
  more_some true n = index_step (bytes_eq (codes "__VA_ARGS__") (text_of names n)) None ∙ or_none (bytes_eq (codes "__VA_ARGS__") (text_of names n)) where
    or_none : (b : Bool) → (b || false) ≡ b
    or_none true = refl
    or_none false = refl
  more_some false n = refl

  param_same : (ps : List Name) (v : Bool) (body : List Token) (t : PpTok) → NamesKnown names ps → IsNamed names t → is_some (param (record { params = Some (map (text_of names) ps); variadic = v; body = body }) (seen t)) ≡ number.is_param names ps v t
  param_same ps v body t h k = go (is_ident t.kind) where
    go : (b : Bool) → is_some (cond b (index_of (map (text_of names) ps ++ cond v (codes "__VA_ARGS__" ∷ []) []) (text_of names t.text)) None) ≡ (b && (has_name ps t.text || (v && (b && bytes_eq (codes "__VA_ARGS__") (text_of names t.text)))))
    go true = index_some ps (cond v (codes "__VA_ARGS__" ∷ []) []) t.text h k ∙ ap (λ b. has_name ps t.text || b) (more_some v t.text)
    go false = refl

  next_same : (ps : List Name) (v : Bool) (body : List Token) (ts : List PpTok) → NamesKnown names ps → AreNamed names ts → is_some (next_param (record { params = Some (map (text_of names) ps); variadic = v; body = body }) (tokens_of names ts)) ≡ number.param_is_next names ps v ts
  next_same ps v body [] h k = refl
  next_same ps v body (t ∷ ts) h k = param_same ps v body t h k.0

  hashes_same : (ps : List Name) (v : Bool) (body : List Token) (ts : List PpTok) → NamesKnown names ps → AreNamed names ts
      → text.has_params_behind_hashes (record { params = Some (map (text_of names) ps); variadic = v; body = body }) (tokens_of names ts) ≡ number.has_params_behind_hashes names ps v ts
  hashes_same ps v body [] h k = refl
  hashes_same ps v body (t ∷ ts) h k =
      ap (λ b. (not (number.is_hash names t) || b) && text.has_params_behind_hashes (record { params = Some (map (text_of names) ps); variadic = v; body = body }) (tokens_of names ts)) (next_same ps v body ts h k.1)
      ∙ ap (λ b. (not (number.is_hash names t) || number.param_is_next names ps v ts) && b) (hashes_same ps v body ts h k.1)

  good_hashes : (o : Option (List Name)) (v : Bool) (body : List PpTok) → ParamsKnown (option_map {U = List Name × Bool} (λ ps. (ps, v)) o) → AreNamed names body
      → text.has_good_hashes (record { params = option_map (map (text_of names)) o; variadic = v; body = tokens_of names body }) ≡ number.has_good_hashes names v body o
  good_hashes None v body h k = refl
  good_hashes (Some ps) v body h k = hashes_same ps v (tokens_of names body) body h k

  good_same : (m : Macro) → MacroKnown m → AreNamed names m.body → text.is_good (macro_text names m) ≡ number.is_good names m
  good_same m h k =
      ap (λ b. (b && text.has_good_hashes (macro_text names m)) && (m.variadic || not (list_any text.is_rest (tokens_of names m.body)))) (pastes_same m.body)
      ∙ ap (λ b. (number.has_pastes_inside names m.body && b) && (m.variadic || not (list_any text.is_rest (tokens_of names m.body)))) (good_hashes m.params m.variadic m.body h k)
      ∙ ap (λ b. (number.has_pastes_inside names m.body && number.has_good_hashes names m.variadic m.body m.params) && (m.variadic || not b)) (rest_same m.body)
      ∙ and_assoc (number.has_pastes_inside names m.body) (number.has_good_hashes names m.variadic m.body m.params) (m.variadic || not (list_any (number.is_rest names) m.body))

  -- the name

  abbrev HasName : Name → Option Macro → Type 0
  HasName name None = Unit {0}
  HasName name (Some m) = m.name ≡ name

  name_if : (name : Name) (b : Bool) (x y : Option Macro) → HasName name x → HasName name y → HasName name (cond b x y)
  name_if name true x y h k = h
  name_if name false x y h k = k

  function_name : (name : Name) (body : List PpTok) (p : number.Params) → HasName name (number.function_like name body p)
  function_name name body None = tt
  function_name name body (Some (ps, v)) = refl

  params_name : (name : Name) (rest : List PpTok) (o : Option ℕ) → HasName name (number.with_params names name rest o)
  params_name name rest None = tt
  params_name name rest (Some n) = function_name name (drop (n + 1) rest) (number.params_of names (take n rest))

  macro_name : (name : Name) (rest : List PpTok) → HasName name (number.macro_of names name rest)
  macro_name name [] = refl
  macro_name name (t ∷ rest) =
      name_if name (number.is_mark names (codes "(") t && not t.space) (number.with_params names name rest (position (number.is_mark names (codes ")")) rest)) (Some (number.object_like name (t ∷ rest)))
      (params_name name rest (position (number.is_mark names (codes ")")) rest)) refl

  good_name : (name : Name) (o : Option Macro) → HasName name o → HasName name (number.if_good names o)
  good_name name None h = tt
  good_name name (Some m) h = name_if name (number.is_good names m) (Some m) None h tt

  definition_name : (t : PpTok) (rest : List PpTok) → HasName t.text (number.definition_of names (t ∷ rest))
  definition_name t rest = name_if t.text (number.is_macro_name names t) (number.if_good names (number.macro_of names t.text rest)) None (good_name t.text (number.macro_of names t.text rest) (macro_name t.text rest)) tt

  -- the name of a definition is in the table
  pub name_known : (ts : List PpTok) (m : Macro) → AreNamed names ts → number.definition_of names ts ≡ Some m → m.name.0 < length names
  name_known [] m h e = cc
  name_known (t ∷ rest) m h e =
      let same : m.name ≡ t.text = subst (HasName t.text) e (definition_name t rest) in subst (λ n. n.0 < length names) (sym same) h.0

  -- the whole

  if_good_same : (t : PpTok) (rest : List PpTok) (o : Option Macro) → SomeKnown o → HasName t.text o → IsSameDefinition names (number.if_good names o) (text.if_good (seen t) (tokens_of names rest) (seen_macro o))
  if_good_same t rest None h n = tt
  if_good_same t rest (Some m) h n =
      subst (λ b. IsSameDefinition names (cond (number.is_good names m) (Some m) None) (cond b (Some (record { name = seen t; parameters = text.parameters_of (tokens_of names rest); macro = macro_text names m })) None)) (sym (good_same m h.0 h.1)) (go (number.is_good names m)) where
        go : (b : Bool) → IsSameDefinition names (cond b (Some m) None) (cond b (Some (record { name = seen t; parameters = text.parameters_of (tokens_of names rest); macro = macro_text names m })) None)
        go true = (ap (text_of names) n, refl)
        go false = tt

  pub by_texts : (ts : List PpTok) → AreNamed names ts → IsSameDefinition names (number.definition_of names ts) (text.definition (tokens_of names ts))
  by_texts [] h = tt
  by_texts (t ∷ rest) h =
      subst (λ b. IsSameDefinition names (number.definition_of names (t ∷ rest)) (cond b (text.if_good (seen t) (tokens_of names rest) (text.macro_of (tokens_of names rest))) None))
      (sym (and_assoc (is_ident t.kind) (not (is_kept_word (text_of names t.text))) (not (number.is_rest names t))))
      (subst (λ o. IsSameDefinition names (number.definition_of names (t ∷ rest)) (cond (number.is_macro_name names t) (text.if_good (seen t) (tokens_of names rest) o) None)) (sym (macro_same t.text rest h.1)) (go (number.is_macro_name names t))) where
        go : (b : Bool) → IsSameDefinition names (cond b (number.if_good names (number.macro_of names t.text rest)) None) (cond b (text.if_good (seen t) (tokens_of names rest) (seen_macro (number.macro_of names t.text rest))) None)
        go true = if_good_same t rest (number.macro_of names t.text rest) (macro_known t.text rest h.1) (macro_name t.text rest)
        go false = tt
