-- Numbers of parameters.
use Rattle.std.proofs.Common.{◌≡◌, ℕ, suc, ◌+◌, ◌<◌, Bool, true, false, List, [], ◌∷◌, ◌++◌, length, map, take, get_or, refl, sym, ap, ◌∙◌, arith, Option, Some, None}
use Rattle.std.specs.Prelude.{◌==◌, if◌then◌else◌, bytes_eq, ◌&&◌, codes, option_map}
use Rattle.std.specs.List.{All}
use Rattle.std.proofs.Common.{true≢false}
use Rattle.std.proofs.lemmas.Bool.{eq-eqb, eqb-true}
use Rattle.std.proofs.lemmas.Slice.Eq.{bytes_eq-Decides}
use Rattle.std.proofs.lemmas.Option.{slice_get-get_or}
use Rattle.std.proofs.lemmas.List.Elements.{All-head, All-tail}
use Rattle.cr_base.specs.NameTable.{IsDistinct}
use Rattle.std.proofs.Common.{append-nil}
use Rattle.std.proofs.lemmas.List.{length-map}
use Rattle.cr_macros.specs.declared.macros.Macro.{Macro}
use Rattle.cr_expand.specs.declared.params.Params.{Params}
use Rattle.cr_macros.specs.Tokens.{Text, is_ident}
use Rattle.cr_macros.specs.Definition.{text_of, is_rest}
use Rattle.cr_expand.specs.Held.{IsNamed}
use Rattle.std.proofs.lemmas.List.{take_more, length-take-le}
use Rattle.cr_base.specs.declared.token.Name.{Name}
use Rattle.cr_macros.specs.Substitution.{one_more, index_of, named_params}
use Rattle.cr_expand.specs.Items.{number_of, or_rest, or_else, AreNumbers, Serves}

one_more_or : (b : Bool) (o : Option ℕ) (n : ℕ) → one_more (or_rest b o n) ≡ or_rest b (one_more o) (suc n)
one_more_or b (Some i) n = refl
one_more_or true None n = refl
one_more_or false None n = refl

pub number_push : (xs : List Name) (y n : Name) → number_of (xs ++ y ∷ []) n ≡ or_rest (y.0 == n.0) (number_of xs n) (length xs)
number_push [] y n = go (y.0 == n.0) where
  go : (b : Bool) → (if b then Some 0 else None) ≡ or_rest b None 0
  go true = refl
  go false = refl
number_push (x ∷ xs) y n = go (number_push xs y n) (x.0 == n.0) where
  go : number_of (xs ++ y ∷ []) n ≡ or_rest (y.0 == n.0) (number_of xs n) (length xs) → (b : Bool)
      → (if b then Some 0 else one_more (number_of (xs ++ y ∷ []) n)) ≡ or_rest (y.0 == n.0) (if b then Some 0 else one_more (number_of xs n)) (suc (length xs))
  go h true = refl
  go h false = ap one_more h ∙ one_more_or (y.0 == n.0) (number_of xs n) (length xs)

pub number_step : (xs : List Name) (i : ℕ) (d n : Name) (before now : Option ℕ) → i < length xs → before ≡ number_of (take i xs) n → now ≡ or_rest ((get_or xs i d).0 == n.0) before i → now ≡ number_of (take (i + 1) xs) n
number_step xs i d n before now h e k =
    let len : length (take i xs) ≡ i = length-take-le _ _ (omega arith) in
    k ∙ ap (λ o. or_rest ((get_or xs i d).0 == n.0) o i) e
    ∙ ap (λ m. or_rest ((get_or xs i d).0 == n.0) (number_of (take i xs) n) m) (sym len)
    ∙ sym (number_push (take i xs) (get_or xs i d) n)
    ∙ ap (λ l. number_of l n) (sym (take_more xs i d h))

-- two names that are known have one text only where they are one
pub same_name : (names : List Text) (a b : Name) → IsDistinct names → IsNamed names a → IsNamed names b → bytes_eq (text_of names a) (text_of names b) ≡ (a.0 == b.0)
same_name names a b d h k = go (bytes_eq (text_of names a) (text_of names b)) refl (a.0 == b.0) refl where
  go : (x : Bool) → bytes_eq (text_of names a) (text_of names b) ≡ x → (y : Bool) → (a.0 == b.0) ≡ y → bytes_eq (text_of names a) (text_of names b) ≡ (a.0 == b.0)
  go true e true f = e ∙ sym f
  go false e false f = e ∙ sym f
  go true e false f =
      let same : text_of names a ≡ text_of names b = (bytes_eq-Decides (text_of names a) (text_of names b)).0 e in
      let one : a.0 ≡ b.0 = d a.0 b.0 (text_of names b) (slice_get-get_or names a.0 [] h ∙ ap (λ t. Some t) same) (slice_get-get_or names b.0 [] k) in
      let no : true ≡ false = sym (eq-eqb a.0 b.0 one) ∙ f in
      absurd (true≢false no)
  go false e true f =
      let one : a.0 ≡ b.0 = eqb-true a.0 b.0 f in
      let same : text_of names a ≡ text_of names b = ap (λ n. get_or names n []) one in
      let no : true ≡ false = sym ((bytes_eq-Decides (text_of names a) (text_of names b)).1 same) ∙ e in
      absurd (true≢false no)

number_text : (names : List Text) (xs : List Name) (n : Name) → IsDistinct names → All (IsNamed names) xs → IsNamed names n → index_of (map (text_of names) xs) (text_of names n) ≡ number_of xs n
number_text names [] n d h k = refl
number_text names (x ∷ xs) n d h k =
    ap (λ b. if b then Some 0 else one_more (index_of (map (text_of names) xs) (text_of names n))) (same_name names x n d (All-head (IsNamed names) x xs h) k)
    ∙ ap (λ o. if x.0 == n.0 then Some 0 else one_more o) (number_text names xs n d (All-tail (IsNamed names) x xs h) k)

index_push : (xs : List Text) (y t : Text) → index_of (xs ++ y ∷ []) t ≡ or_rest (bytes_eq y t) (index_of xs t) (length xs)
index_push [] y t = go (bytes_eq y t) where
  go : (b : Bool) → (if b then Some 0 else None) ≡ or_rest b None 0
  go true = refl
  go false = refl
index_push (x ∷ xs) y t = go (index_push xs y t) (bytes_eq x t) where
  go : index_of (xs ++ y ∷ []) t ≡ or_rest (bytes_eq y t) (index_of xs t) (length xs) → (b : Bool)
      → (if b then Some 0 else one_more (index_of (xs ++ y ∷ []) t)) ≡ or_rest (bytes_eq y t) (if b then Some 0 else one_more (index_of xs t)) (suc (length xs))
  go h true = refl
  go h false = ap one_more h ∙ one_more_or (bytes_eq y t) (index_of xs t) (length xs)

else_or_rest : (b : Bool) (n : Option ℕ) (len : ℕ) → or_else n (if b then Some len else None) ≡ or_rest b n len
else_or_rest b (Some i) len = refl
else_or_rest true None len = refl
else_or_rest false None len = refl

else_none : (n : Option ℕ) → or_else n None ≡ n
else_none (Some i) = refl
else_none None = refl

combine : (ident bytes variadic : Bool) (n : Option ℕ) (len : ℕ) (a : Bool → Option ℕ) → a false ≡ n → a true ≡ or_rest bytes n len
    → (if ident then or_else n (if ident && bytes then (if variadic then Some len else None) else None) else None) ≡ (if ident then a variadic else None)
combine false bytes variadic n len a e f = refl
combine true bytes true n len a e f = else_or_rest bytes n len ∙ sym f
combine true true false n len a e f = else_none n ∙ sym e
combine true false false n len a e f = else_none n ∙ sym e

-- what is looked up is the parameter that a token names
pub serves_params : (names : List Text) (m : Macro) (params : List Name) (p : Params) → m.params ≡ Some params → IsDistinct names → All (IsNamed names) params → AreNumbers params m.variadic p → Serves names m p
serves_params names m params p e d h a t k =
    let number : index_of (map (text_of names) params) (text_of names t.text) ≡ number_of params t.text = number_text names params t.text d h k in
    let texts : List Text = map (text_of names) params in
    let long : length texts ≡ length params = length-map params (text_of names) in
    ap (λ o. if is_ident t.kind then or_else o (if is_rest names t then p.rest else None) else None) (a.0 t.text)
    ∙ ap (λ o. if is_ident t.kind then or_else (number_of params t.text) (if is_rest names t then o else None) else None) a.1
    ∙ combine (is_ident t.kind) (bytes_eq (codes "__VA_ARGS__") (text_of names t.text)) m.variadic (number_of params t.text) (length params) (λ v. index_of (named_params v (Some texts)) (text_of names t.text))
    (ap (λ l. index_of l (text_of names t.text)) (append-nil texts) ∙ number)
    (index_push texts (codes "__VA_ARGS__") (text_of names t.text) ∙ ap (λ o. or_rest (bytes_eq (codes "__VA_ARGS__") (text_of names t.text)) o (length texts)) number ∙ ap (or_rest (bytes_eq (codes "__VA_ARGS__") (text_of names t.text)) (number_of params t.text)) long)
    ∙ ap (λ o. if is_ident t.kind then index_of (named_params m.variadic (option_map (map (text_of names)) o)) (text_of names t.text) else None) (sym e)
