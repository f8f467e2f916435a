-- What a line defines is made of the line's tokens.
use Rattle.std.proofs.Common.{◌≡◌, ℕ, ◌+◌, ◌≤◌, Bool, true, false, cond, List, [], ◌∷◌, length, take, drop, refl, sym, subst, ◌∙◌, arith, length-drop, Option, Some, None}
use Rattle.std.specs.Prelude.{◌==◌, ◌&&◌, not, if◌then◌else◌, codes, fold, position}
use Rattle.std.specs.List.{All, slice_split, onto_first}
use Rattle.std.proofs.lemmas.Bool.Decides.{nat_tests}
use Rattle.std.proofs.lemmas.List.Elements.{All-nil, All-cons, All-head, All-tail, All-append, All-take, All-drop}
use Rattle.cr_base.specs.declared.token.Name.{Name}
use Rattle.cr_base.specs.declared.token.PpTok.{PpTok}
use Rattle.cr_macros.specs.declared.macros.Macro.{Macro}
use Rattle.cr_macros.specs.Tokens.{Text, is_ident}
use Rattle.cr_macros.specs.Definition.{Params, is_mark, is_rest, has_name, with_token, with_piece, after_piece, pieces, params_of, object_like, function_like, with_params, macro_of, is_good, if_good, is_macro_name, definition_of, definition}
use Rattle.cr_macros.specs.MacroTables.{Macros, macro_named, Sets}
use Rattle.cr_expand.specs.Held.{IsNamed}
use Rattle.cr_expand.specs.Items.{IsTokenNamed, IsMacroKnown}
use Rattle.cr_expand.specs.Machines.{IsGoodMacro, AreMacros}
use Rattle.cr_expand.specs.GoodMacros.{KeepsMacros}
use Rattle.cr_expand.proofs.KeptMachine.{all_macros_kept}
use Rattle.cr_expand.proofs.Keeping.{macros_later}

module _ (names : List Text) where
  abbrev P : PpTok → Type 0
  P = IsTokenNamed names

  -- the parameters so far are named
  abbrev Good : Params → Type 0
  Good None = Unit {0}
  Good (Some p) = All (IsNamed names) p.0

  -- the macro is made of named tokens, no more than n
  abbrev Made : ℕ → Option Macro → Type 0
  Made n None = Unit {0}
  Made n (Some m) = IsMacroKnown names m × (length m.body ≤ n)

  by_cond : {A : Type 0} (Q : A → Type 0) (b : Bool) (x y : A) → Q x → Q y → Q (cond b x y)
  by_cond Q true x y h k = h
  by_cond Q false x y h k = k

  token_good : (params : List Name) (t : PpTok) → All (IsNamed names) params → P t → Good (with_token names params t)
  token_good params t h k =
      by_cond Good (is_mark names (codes "...") t) _ _ h
      (by_cond Good (is_ident t.kind && not (is_rest names t) && not (has_name params t.text)) _ _ (All-append (IsNamed names) params (t.text ∷ []) h (All-cons (IsNamed names) t.text [] k (All-nil (IsNamed names)))) tt)

  piece_good : (params : List Name) (piece : List PpTok) → All (IsNamed names) params → All P piece → Good (with_piece names params piece)
  piece_good params [] h k = tt
  piece_good params (t ∷ []) h k = token_good params t h (All-head P t [] k)
  piece_good params (t ∷ u ∷ ts) h k = tt

  after_good : (piece : List PpTok) (o : Params) → Good o → All P piece → Good (after_piece names piece o)
  after_good piece None h k = tt
  after_good piece (Some (params, true)) h k = tt
  after_good piece (Some (params, false)) h k = piece_good params piece h k

  all_good : (ps : List (List PpTok)) (o : Params) → Good o → All (All P) ps → Good (fold (λ params piece. after_piece names piece params) o ps)
  all_good [] o h k = h
  all_good (p ∷ ps) o h k = all_good ps (after_piece names p o) (after_good p o h (All-head (All P) p ps k)) (All-tail (All P) p ps k)

  onto_good : (t : PpTok) (ps : List (List PpTok)) → P t → All (All P) ps → All (All P) (onto_first t ps)
  onto_good t [] h k = All-cons (All P) (t ∷ []) [] (All-cons P t [] h (All-nil P)) (All-nil (All P))
  onto_good t (p ∷ ps) h k = All-cons (All P) (t ∷ p) ps (All-cons P t p h (All-head (All P) p ps k)) (All-tail (All P) p ps k)

  split_good : (test : PpTok → Bool) (ts : List PpTok) → All P ts → All (All P) (slice_split test ts)
  split_good test [] h = All-cons (All P) [] [] (All-nil P) (All-nil (All P))
  split_good test (t ∷ ts) h =
      by_cond (All (All P)) (test t) _ _ (All-cons (All P) [] (slice_split test ts) (All-nil P) (split_good test ts (All-tail P t ts h)))
      (onto_good t (slice_split test ts) (All-head P t ts h) (split_good test ts (All-tail P t ts h)))

  pieces_good : (ts : List PpTok) → All P ts → All (All P) (pieces names ts)
  pieces_good [] h = All-nil (All P)
  pieces_good (t ∷ ts) h = split_good (is_mark names (codes ",")) (t ∷ ts) h

  params_good : (inside : List PpTok) → All P inside → Good (params_of names inside)
  params_good inside h = all_good (pieces names inside) (Some ([], false)) (All-nil (IsNamed names)) (pieces_good inside h)

  object_made : (name : Name) (body : List PpTok) (n : ℕ) → IsNamed names name → All P body → length body ≤ n → Made n (Some (object_like name body))
  object_made name body n h k l = (record { name = h; params = tt; body = k }, l)

  function_made : (name : Name) (body : List PpTok) (n : ℕ) (o : Params) → IsNamed names name → All P body → length body ≤ n → Good o → Made n (function_like name body o)
  function_made name body n None h k l g = tt
  function_made name body n (Some (params, variadic)) h k l g = (record { name = h; params = g; body = k }, l)

  params_made : (name : Name) (rest : List PpTok) (n : ℕ) (o : Option ℕ) → IsNamed names name → All P rest → length rest ≤ n → Made n (with_params names name rest o)
  params_made name rest n None h k l = tt
  params_made name rest n (Some i) h k l =
      function_made name (drop (i + 1) rest) n (params_of names (take i rest)) h (All-drop P (i + 1) rest k) (let d = length-drop (i + 1) rest in omega (arith, d, l)) (params_good (take i rest) (All-take P i rest k))

  macro_made : (name : Name) (rest : List PpTok) (n : ℕ) → IsNamed names name → All P rest → length rest ≤ n → Made n (macro_of names name rest)
  macro_made name [] n h k l = object_made name [] n h k l
  macro_made name (t ∷ rest) n h k l =
      by_cond (Made n) (is_mark names (codes "(") t && not t.space) _ _
      (params_made name rest n (position (is_mark names (codes ")")) rest) h (All-tail P t rest k) (omega (arith, l)))
      (object_made name (t ∷ rest) n h k l)

  good_made : (n : ℕ) (o : Option Macro) → Made n o → Made n (if_good names o)
  good_made n None h = tt
  good_made n (Some m) h = by_cond (Made n) (is_good names m) _ _ h tt

  behind_made : (ts : List PpTok) (n : ℕ) → All P ts → length ts ≤ n → Made n (definition_of names ts)
  behind_made [] n k l = tt
  behind_made (t ∷ rest) n k l =
      by_cond (Made n) (is_macro_name names t) _ _ (good_made n (macro_of names t.text rest) (macro_made t.text rest n (All-head P t rest k) (All-tail P t rest k) (omega (arith, l)))) tt

  pub definition_made : (line : List PpTok) (m : Macro) (n : ℕ) → All P line → length line ≤ n → definition names line ≡ Some m → IsMacroKnown names m × (length m.body ≤ n)
  definition_made line m n k l e = subst (Made n) e (behind_made (drop 2 line) n (All-drop P 2 line k) (let d = length-drop 2 line in omega (arith, d, l)))

same_key : (names : List Text) (a b : Name) → (a.0 == b.0) ≡ true → IsNamed names a → IsNamed names b
same_key names a b e h = let q : a.0 ≡ b.0 = grind (arith, nat_tests) in omega (arith, q, h)

set_known : (names : List Text) (old new : Macros) (name : Name) (o : Option Macro) → AreMacros names old → Sets old name o new → ((m : Macro) → o ≡ Some m → IsNamed names name × IsGoodMacro names m) → AreMacros names new
set_known names old new name o a s g = record { known = λ n m e. by n m (name.0 == n.0) refl (sym (s n) ∙ e) } where
  by : (n : Name) (m : Macro) (b : Bool) → (name.0 == n.0) ≡ b → (if b then o else macro_named n old) ≡ Some m → IsNamed names n × IsGoodMacro names m
  by n m true q e = let k = g m e in (same_key names name n q k.0, k.1)
  by n m false q e = a.known n m e

pub keeps_macros : KeepsMacros
keeps_macros = record {
  none = λ names. record { known = λ n m e. absurd (nothing m e) };
  defined = λ names line old new a t l d.
      let k = definition_made names line d.0 33554432 t l d.1 in
      set_known names old new d.0.name (Some d.0) a d.2 (λ m e. subst (λ x. IsNamed names d.0.name × IsGoodMacro names x) (equal d.0 m e) (k.0.name, k));
  undefined = λ names name old new a s. set_known names old new name None a s (λ m e. absurd (nothing m e));
  later = λ names new macros g a. macros_later names new g macros a;
  same = λ names new macros file g a. all_macros_kept names new g macros file a;
} where
  nothing : (m : Macro) → None ≡ Some m → ⊥
  nothing m e = cc

  equal : (a b : Macro) → Some a ≡ Some b → a ≡ b
  equal a b e = cc
