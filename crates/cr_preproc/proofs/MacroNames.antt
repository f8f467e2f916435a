-- Macros by the texts of their names and by their numbers.
use Rattle.std.proofs.Common.{◌≡◌, ℕ, zero, suc, ◌<◌, Bool, true, false, cond, List, [], ◌∷◌, length, drop, refl, ap, sym, ◌∙◌, subst, Some, None, Option, Bor, arith, true≢false}
use Rattle.std.specs.Prelude.{bytes_eq, ◌==◌, ◌||◌, is_some, slice_index_or}
use Rattle.std.specs.List.{list_any}
use Rattle.std.specs.Option.{option_map, option_copied}
use Rattle.std.specs.Map.{lookup}
use Rattle.std.proofs.lemmas.Bool.{eq-eqb, eqb-true}
use Rattle.std.proofs.lemmas.Slice.Eq.{bytes_eq-Decides}
use Rattle.cr_base.specs.NameTable.{IsDistinct}
use Rattle.cr_base.specs.declared.token.Name.{Name}
use Rattle.cr_base.specs.declared.token.PpTok.{PpTok}
use Rattle.cr_macros.specs.declared.macros.Macro.{Macro}
use Rattle.cr_macros.specs.declared.fault.ExpandFault.{ExpandFault}
use Rattle.cr_macros.specs.declared.fault.ExpandFault.TheVariants.{BadDefine, ArgCount, OpenCall, BadPaste, LimitMacros, OutOfMemory}
use Rattle.cr_macros.specs.Tokens.{Text, MacroText, tokens_of}
use Rattle.cr_macros.specs.Definition.{text_of}
use Rattle.cr_macros.specs.MacroTables.{Macros, macro_named, macro_text, Sets, Defines, IsRefused}
use Rattle.cr_phase4.specs.Definition.{Definition, definition}
use Rattle.cr_preproc.specs.Seen.{AreNamed, AreMacrosNamed, macros_of, IsSameDefinition, SetsText, IsDefined, IsUndefined}
use Rattle.cr_preproc.proofs.ByTexts.{same_name, drop_named, by_texts, name_known}

pub lookup_same : (names : List Text) (n : Name) (macros : Macros) → IsDistinct names → n.0 < length names → AreMacrosNamed names macros → lookup (λ k. bytes_eq (text_of names n) (text_of names k)) macros ≡ macro_named n macros
lookup_same names n [] d h k = refl
lookup_same names n (e ∷ macros) d h k =
    ap (λ b. cond b (Some e.1) (lookup (λ name. bytes_eq (text_of names n) (text_of names name)) macros)) (same_name names n e.0 d h k.0)
    ∙ ap (λ o. cond (n.0 == e.0.0) (Some e.1) o) (lookup_same names n macros d h k.1)

some_map : {A B : Type 0} (f : A → B) (o : Option A) → is_some (option_map f o) ≡ is_some o
some_map f None = refl
some_map f (Some a) = refl

-- a macro has a name's text where one has the name's number
pub found_same : (names : List Text) (n : Name) (macros : Macros) (found : Option (Bor Macro)) → IsDistinct names → n.0 < length names → AreMacrosNamed names macros
    → option_copied found ≡ macro_named n macros → is_some found ≡ is_some (macros_of names macros (text_of names n))
found_same names n macros found d h k e =
    sym (some_map (λ x. x.now) found) ∙ ap is_some (e ∙ sym (lookup_same names n macros d h k)) ∙ sym (some_map (macro_text names) (lookup (λ name. bytes_eq (text_of names n) (text_of names name)) macros))

-- a name with a macro is in the table of names
named_of : (names : List Text) (macros : Macros) → AreMacrosNamed names macros → (k : Name) → is_some (macro_named k macros) ≡ true → k.0 < length names
named_of names [] h k s = absurd (true≢false (sym s))
named_of names (e ∷ macros) h k s = go (k.0 == e.0.0) refl s (named_of names macros h.1 k) where
  go : (b : Bool) → (k.0 == e.0.0) ≡ b → is_some (cond b (Some e.1) (macro_named k macros)) ≡ true → (is_some (macro_named k macros) ≡ true → k.0 < length names) → k.0 < length names
  go true f s1 later = let w : k.0 ≡ e.0.0 = eqb-true k.0 e.0.0 f in omega (arith, h.0)
  go false f s1 later = later s1

-- and the other way round
all_named : (names : List Text) (macros : Macros) → ((k : Name) → is_some (macro_named k macros) ≡ true → k.0 < length names) → AreMacrosNamed names macros
all_named names [] h = tt
all_named names (e ∷ macros) h = (
  h e.0 (ap (λ b. is_some (cond b (Some e.1) (macro_named e.0 macros))) (eq-eqb e.0.0 e.0.0 refl)),
  all_named names macros (λ k s. h k (later k s (k.0 == e.0.0))),
) where
  later : (k : Name) → is_some (macro_named k macros) ≡ true → (b : Bool) → is_some (cond b (Some e.1) (macro_named k macros)) ≡ true
  later k s true = refl
  later k s false = s

pub still_named : (names : List Text) (n : Name) (o : Option Macro) (old new : Macros) → n.0 < length names → AreMacrosNamed names old → Sets old n o new → AreMacrosNamed names new
still_named names n o old new h k s = all_named names new (λ other some. go other (n.0 == other.0) refl (sym (ap is_some (s other)) ∙ some)) where
  go : (other : Name) (b : Bool) → (n.0 == other.0) ≡ b → is_some (cond b o (macro_named other old)) ≡ true → other.0 < length names
  go other true f some = let w : n.0 ≡ other.0 = eqb-true n.0 other.0 f in omega arith
  go other false f some = named_of names old k other some

-- a text that isn't in the table is no macro's
pub missing : (names : List Text) (t : Text) (macros : Macros) → list_any (bytes_eq t) names ≡ false → AreMacrosNamed names macros → lookup (λ k. bytes_eq t (text_of names k)) macros ≡ None
missing names t [] h k = refl
missing names t (e ∷ macros) h k =
    ap (λ b. cond b (Some e.1) (lookup (λ name. bytes_eq t (text_of names name)) macros)) (not_at names e.0.0 h k.0) ∙ missing names t macros h k.1 where
      or_left : (p q : Bool) → (p || q) ≡ false → p ≡ false
      or_left true q x = x
      or_left false q x = refl

      or_right : (p q : Bool) → (p || q) ≡ false → q ≡ false
      or_right true q x = absurd (true≢false x)
      or_right false q x = x

      not_at : (texts : List Text) (i : ℕ) → list_any (bytes_eq t) texts ≡ false → i < length texts → bytes_eq t (slice_index_or texts i []) ≡ false
      not_at [] i x l = absurd (omega arith)
      not_at (a ∷ texts) zero x l = or_left (bytes_eq t a) (list_any (bytes_eq t) texts) x
      not_at (a ∷ texts) (suc i) x l = not_at texts i (or_right (bytes_eq t a) (list_any (bytes_eq t) texts) x) (omega arith)

-- a text that is in the table is that of a number
pub found_at : (texts : List Text) (t : Text) → list_any (bytes_eq t) texts ≡ true → (i : ℕ) × (i < length texts) × (slice_index_or texts i [] ≡ t)
found_at [] t h = absurd (true≢false (sym h))
found_at (a ∷ texts) t h = go (bytes_eq t a) refl h (found_at texts t) where
  go : (b : Bool) → bytes_eq t a ≡ b → (b || list_any (bytes_eq t) texts) ≡ true → (list_any (bytes_eq t) texts ≡ true → (i : ℕ) × (i < length texts) × (slice_index_or texts i [] ≡ t)) → (i : ℕ) × (i < length (a ∷ texts)) × (slice_index_or (a ∷ texts) i [] ≡ t)
  go true e x later = (zero, omega arith, sym ((bytes_eq-Decides t a).0 e))
  go false e x later = let w = later x in (suc w.0, (let l = w.1 in omega arith), w.2)

-- A name's macro is set by its text, where it is set by its number.
pub sets_text : (names : List Text) (n : Name) (o : Option Macro) (old new : Macros) → IsDistinct names → n.0 < length names → AreMacrosNamed names old → Sets old n o new → SetsText names old (text_of names n) (option_map (macro_text names) o) new
sets_text names n o old new d h k s t = by_text (list_any (bytes_eq t) names) refl where
  kn : AreMacrosNamed names new
  kn = still_named names n o old new h k s

  seen : Option Macro → Option MacroText
  seen = option_map (macro_text names)

  by : Macros → Text → Option Macro
  by macros x = lookup (λ name. bytes_eq x (text_of names name)) macros

  push : (b : Bool) (x y : Option Macro) → seen (cond b x y) ≡ cond b (seen x) (seen y)
  push true x y = refl
  push false x y = refl

  at_name : (m : Name) → m.0 < length names → seen (by new (text_of names m)) ≡ cond (bytes_eq (text_of names n) (text_of names m)) (seen o) (seen (by old (text_of names m)))
  at_name m l =
      ap seen (lookup_same names m new d l kn ∙ s m) ∙ push (n.0 == m.0) o (macro_named m old)
      ∙ ap (λ b. cond b (seen o) (seen (macro_named m old))) (sym (same_name names n m d h l))
      ∙ ap (λ x. cond (bytes_eq (text_of names n) (text_of names m)) (seen o) (seen x)) (sym (lookup_same names m old d l k))

  not_own : list_any (bytes_eq t) names ≡ false → bytes_eq (text_of names n) t ≡ false
  not_own e = go (bytes_eq (text_of names n) t) refl where
    among : (texts : List Text) (i : ℕ) → i < length texts → slice_index_or texts i [] ≡ t → list_any (bytes_eq t) texts ≡ true
    among [] i l f = absurd (omega arith)
    among (a ∷ texts) zero l f = ap (λ b. b || list_any (bytes_eq t) texts) ((bytes_eq-Decides t a).1 (sym f))
    among (a ∷ texts) (suc i) l f = ap (λ b. bytes_eq t a || b) (among texts i (omega arith) f) ∙ or_true (bytes_eq t a) where
      or_true : (b : Bool) → (b || true) ≡ true
      or_true true = refl
      or_true false = refl

    go : (b : Bool) → bytes_eq (text_of names n) t ≡ b → b ≡ false
    go false f = refl
    go true f = absurd (true≢false (sym (among names n.0 h ((bytes_eq-Decides (text_of names n) t).0 f)) ∙ e))

  by_text : (b : Bool) → list_any (bytes_eq t) names ≡ b → seen (by new t) ≡ cond (bytes_eq (text_of names n) t) (seen o) (seen (by old t))
  by_text false e =
      ap seen (missing names t new e kn) ∙ sym (ap (λ b. cond b (seen o) (seen (by old t))) (not_own e) ∙ ap seen (missing names t old e k))
  by_text true e =
      let w = found_at names t e in
      subst (λ x. seen (by new x) ≡ cond (bytes_eq (text_of names n) x) (seen o) (seen (by old x))) w.2 (at_name (record { 0 = w.0 }) w.1)

-- a line that defines by numbers defines by texts
pub defines_text : (names : List Text) (line : List PpTok) (old new : Macros) → IsDistinct names → AreNamed names line → AreMacrosNamed names old → Defines names line old new → IsDefined names line old new × AreMacrosNamed names new
defines_text names line old new d h k (m, e, s) = go (definition (tokens_of names (drop 2 line))) refl (subst (λ o. IsSameDefinition names o (definition (tokens_of names (drop 2 line)))) e (by_texts names d (drop 2 line) (drop_named names 2 line h))) where
  go : (o : Option Definition) → definition (tokens_of names (drop 2 line)) ≡ o → IsSameDefinition names (Some m) o → IsDefined names line old new × AreMacrosNamed names new
  go None f same = absurd same
  go (Some x) f same = (
    (
      x,
      f,
      subst (λ t. SetsText names old t (Some x.macro) new) same.0 (subst (λ o. SetsText names old (text_of names m.name) (Some o) new) same.1 (sets_text names m.name (Some m) old new d (name_known names d (drop 2 line) m (drop_named names 2 line h) e) k s)),
    ),
    still_named names m.name (Some m) old new (name_known names d (drop 2 line) m (drop_named names 2 line h) e) k s,
  )

pub refused_text : (names : List Text) (line : List PpTok) (fault : ExpandFault) → IsDistinct names → AreNamed names line → IsRefused names line fault → IsUndefined names line fault
refused_text names line (BadDefine place) d h r = (none (definition (tokens_of names (drop 2 line))) (subst (λ o. IsSameDefinition names o (definition (tokens_of names (drop 2 line)))) r.0 (by_texts names d (drop 2 line) (drop_named names 2 line h))), r.1) where
  none : (o : Option Definition) → IsSameDefinition names None o → o ≡ None
  none None same = refl
  none (Some x) same = absurd same
refused_text names line (ArgCount place) d h r = r
refused_text names line (OpenCall place) d h r = r
refused_text names line (BadPaste place) d h r = r
refused_text names line LimitMacros d h r = r
refused_text names line OutOfMemory d h r = tt
