-- A new name is only a name; places of one file are ordered by their offsets.
use Rattle.std.specs.Prelude.{◌≡◌, Bool, true, false, not, ◌&&◌, ◌||◌, ◌==◌, cond, eqb, Some, None, List, [], ◌∷◌, bytes_eq, codes}
use Rattle.std.specs.List.{list_any, list_all, slice_split}
use Rattle.std.specs.Map.{lookup}
use Rattle.std.proofs.Common.{refl, sym, ◌∙◌, ap}
use Rattle.std.proofs.lemmas.Slice.Eq.{bytes_eq-Decides}
use Rattle.std.proofs.lemmas.Bool.{eqb-true}
use Rattle.cr_base.specs.Names.{is_identifier, is_keyword, keywords, is_reserved, is_upper}
use Rattle.cr_macros.specs.Tokens.{Text}
use Rattle.cr_phase7.specs.Numbers.{is_among}
use Rattle.cr_phase7.specs.Tokens.{is_word, further_words}
use Rattle.cr_decl.specs.declared.SpecWord.{SpecWord}
use Rattle.cr_typing.specs.declared.expressions.Op.{Op}
use Rattle.cr_binding.specs.Source.{is_built_in}
use Rattle.cr_binding.specs.Specifying.{specifier_words}
use Rattle.cr_binding.specs.Expressions.{binary_operators, unary_operators, postfix_operators}
use Rattle.cr_keeps.specs.OnlyNames.{IsOnlyName}
use Rattle.cr_keeps.proofs.NewNamesStated.{NewNamesAreOnlyNames}

-- a word that no new name is
abbrev is_taken : Text → Bool
is_taken word = not (is_identifier word) || (is_keyword word || is_reserved word)

module _ (new : Text) (name : is_identifier new ≡ true) (plain : is_keyword new ≡ false) (free : is_reserved new ≡ false) where
  not_taken : is_taken new ≡ false
  not_taken = ap (λ b. not b || (is_keyword new || is_reserved new)) name ∙ ap (λ b. b || is_reserved new) plain ∙ free

  differs : (word : Text) → is_taken word ≡ true → bytes_eq new word ≡ false
  differs word h = by (bytes_eq new word) refl
    where
      by : (b : Bool) → bytes_eq new word ≡ b → b ≡ false
      by false e = refl
      by true e = let w : true ≡ false = sym h ∙ ap is_taken (sym ((bytes_eq-Decides new word).0 e)) ∙ not_taken in cc

  differs_too : (word : Text) → is_taken word ≡ true → bytes_eq word new ≡ false
  differs_too word h = by (bytes_eq word new) refl
    where
      by : (b : Bool) → bytes_eq word new ≡ b → b ≡ false
      by false e = refl
      by true e = let w : true ≡ false = sym h ∙ ap is_taken ((bytes_eq-Decides word new).0 e) ∙ not_taken in cc

  none_of : (words : List Text) → list_all is_taken words ≡ true → list_any (λ word. bytes_eq word new) words ≡ false
  none_of [] h = refl
  none_of (word ∷ words) h = by (is_taken word) refl h (none_of words)
    where
      by : (b : Bool) → is_taken word ≡ b → (b && list_all is_taken words) ≡ true → (list_all is_taken words ≡ true → list_any (λ word. bytes_eq word new) words ≡ false) → (bytes_eq word new || list_any (λ word. bytes_eq word new) words) ≡ false
      by false e h more = cc
      by true e h more = ap (λ b. b || list_any (λ word. bytes_eq word new) words) (differs_too word e) ∙ more h

  no_entry : {A : Type 0} (table : List (Text × A)) → list_all {X = Text × A} (λ e. is_taken e.0) table ≡ true → lookup (bytes_eq new) table ≡ None
  no_entry [] h = refl
  no_entry {A = A} (e ∷ table) h = by (is_taken e.0) refl h (no_entry table)
    where
      by : (b : Bool) → is_taken e.0 ≡ b → (b && list_all {X = Text × A} (λ e. is_taken e.0) table) ≡ true → (list_all {X = Text × A} (λ e. is_taken e.0) table ≡ true → lookup (bytes_eq new) table ≡ None) → lookup (bytes_eq new) (e ∷ table) ≡ None
      by false q h more = cc
      by true q h more = ap (λ b. cond b (Some e.1) (lookup (bytes_eq new) table)) (differs e.0 q) ∙ more h

  no_further : is_among new further_words ≡ false
  unfolding further_words is_keyword keywords
  no_further = none_of (slice_split (λ b. b == 32) further_words) refl

  no_word : is_word new ≡ false
  no_word = ap (λ b. b || is_among new further_words) plain ∙ no_further

  -- a name that begins as those that the compiler supplies is reserved
  no_built_in : is_built_in new ≡ false
  no_built_in = by (is_built_in new) refl
    where
      first_two : (text : Text) → is_built_in text ≡ true → is_reserved text ≡ true
      first_two [] h = cc
      first_two (a ∷ []) h = at (eqb 95 a) h
        where
          at : (b : Bool) → (b && false) ≡ true → false ≡ true
          at true h = cc
          at false h = cc
      first_two (a ∷ b ∷ rest) h = at (eqb 95 a) (eqb 95 b) refl refl _ h
        where
          at : (x y : Bool) → eqb 95 a ≡ x → eqb 95 b ≡ y → (more : Bool) → (x && (y && more)) ≡ true → (a == 95 && (b == 95 || is_upper b)) ≡ true
          at true true e f more h = ap (λ z. z == 95 && (b == 95 || is_upper b)) (sym (eqb-true 95 a e)) ∙ ap (λ z. z == 95 || is_upper z) (sym (eqb-true 95 b f))
          at true false e f more h = cc
          at false y e f more h = cc

      by : (b : Bool) → is_built_in new ≡ b → b ≡ false
      by false e = refl
      by true e = let w : true ≡ false = sym (first_two new e) ∙ free in cc

  only_name : IsOnlyName new
  unfolding is_keyword keywords
  only_name = record {
    plain = record { no_word = no_word; no_pragma = differs (codes "_Pragma") refl };
    binds = record {
      no_specifier = no_entry {A = SpecWord} specifier_words refl;
      no_binary = no_entry {A = Op} binary_operators refl;
      no_unary = no_entry {A = Op} unary_operators refl;
      no_postfix = no_entry {A = Op} postfix_operators refl;
      no_arrow = differs (codes "->") refl;
      no_offset = differs (codes "__builtin_offsetof") refl;
      no_function_name = ap (λ b. b || bytes_eq new (codes "__FUNCTION__")) (differs (codes "__func__") refl) ∙ differs (codes "__FUNCTION__") refl;
      no_built_in = no_built_in;
    };
  }

pub new_names : NewNamesAreOnlyNames
new_names old new may = only_name new may.is may.no_keyword may.not_reserved
