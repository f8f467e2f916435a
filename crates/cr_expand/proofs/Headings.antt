-- Macros by name and by text.
use Rattle.std.proofs.Common.{◌≡◌, ℕ, ◌<◌, Bool, true, List, [], ◌∷◌, length, map, refl, sym, ap, ◌∙◌, Option, Some, None}
use Rattle.std.specs.Prelude.{◌==◌, ◌||◌, not, bytes_eq, if◌then◌else◌, option_map}
use Rattle.std.specs.List.{All}
use Rattle.std.specs.Map.{lookup}
use Rattle.std.proofs.lemmas.List.Elements.{All-head, All-tail, All-get_or}
use Rattle.cr_base.specs.NameTable.{IsDistinct}
use Rattle.cr_base.specs.declared.token.Name.{Name}
use Rattle.cr_base.specs.declared.token.PpTok.{PpTok}
use Rattle.cr_macros.specs.declared.macros.Macro.{Macro}
use Rattle.cr_macros.specs.declared.words.Predefined.{Predefined}
use Rattle.cr_expand.specs.declared.held.Held.{Held}
use Rattle.cr_macros.specs.Tokens.{Text, Token, token_of, is_ident, has}
use Rattle.cr_macros.specs.Expansion as spec
use Rattle.cr_macros.specs.Definition.{text_of, has_name}
use Rattle.cr_macros.specs.MacroTables.{Macros, macro_named, macro_text, table_of}
use Rattle.cr_expand.specs.HideSets.{Sets, set_at}
use Rattle.cr_expand.specs.Held.{held, hidden, IsNamed, AreTables}
use Rattle.cr_expand.specs.Heading.{called_by, IsEntryKnown, AreMacrosKnown}
use Rattle.cr_expand.proofs.Numbers.{same_name}
use Rattle.cr_expand.proofs.HiddenNames.{has_text}

-- the macro of a text is that of the name
pub macro_by_text : (names : List Text) (macros : Macros) (n : Name) → IsDistinct names → AreMacrosKnown names macros → IsNamed names n
    → lookup (λ k. bytes_eq (text_of names n) (text_of names k)) macros ≡ macro_named n macros
macro_by_text names [] n d h k = refl
macro_by_text names (e ∷ es) n d h k =
    ap (λ b. if b then Some e.1 else lookup (λ x. bytes_eq (text_of names n) (text_of names x)) es) (same_name names n e.0 d k (All-head (IsEntryKnown names) e es h))
    ∙ ap (λ o. if n.0 == e.0.0 then Some e.1 else o) (macro_by_text names es n d (All-tail (IsEntryKnown names) e es h) k)

pub by_params : (names : List Text) (t : Token) (m : Macro) (rest : List Token) (params : Option (List Name))
    → spec.use_by_params t (macro_text names m) rest (option_map (map (text_of names)) params) ≡ called_by t names m rest params
by_params names t m rest None = refl
by_params names t m rest (Some ps) = refl

module _ (names : List Text) (macros : Macros) (file : Text) (hide : List Text) (t : PpTok) (rest : List Token) (d : IsDistinct names) (h : AreMacrosKnown names macros) (k : IsNamed names t.text) where
  with_none : spec.predefined_named (text_of names t.text) ≡ None
      → spec.use_of_name (table_of names macros file) (token_of names hide t) rest (spec.predefined file t.line (text_of names t.text))
      ≡ spec.use_of_macro (token_of names hide t) rest (option_map (macro_text names) (macro_named t.text macros))
  with_none e =
      ap (λ o. spec.use_of_name (table_of names macros file) (token_of names hide t) rest (option_map (spec.predefined_token file t.line) o)) e
      ∙ ap (λ o. spec.use_of_macro (token_of names hide t) rest (option_map (macro_text names) o)) (macro_by_text names macros t.text d h k)

  pub use_predefined : (p : Predefined) → spec.predefined_named (text_of names t.text) ≡ Some p
      → spec.use_of_name (table_of names macros file) (token_of names hide t) rest (spec.predefined file t.line (text_of names t.text))
      ≡ (let given = spec.predefined_token file t.line p in spec.Predefined given.0 given.1)
  use_predefined p e = ap (λ o. spec.use_of_name (table_of names macros file) (token_of names hide t) rest (option_map (spec.predefined_token file t.line) o)) e

  pub use_none : spec.predefined_named (text_of names t.text) ≡ None → macro_named t.text macros ≡ None
      → spec.use_of_name (table_of names macros file) (token_of names hide t) rest (spec.predefined file t.line (text_of names t.text)) ≡ spec.Keep
  use_none e f = with_none e ∙ ap (λ o. spec.use_of_macro (token_of names hide t) rest (option_map (macro_text names) o)) f

  pub use_named : (m : Macro) → spec.predefined_named (text_of names t.text) ≡ None → macro_named t.text macros ≡ Some m
      → spec.use_of_name (table_of names macros file) (token_of names hide t) rest (spec.predefined file t.line (text_of names t.text)) ≡ called_by (token_of names hide t) names m rest m.params
  use_named m e f = with_none e ∙ ap (λ o. spec.use_of_macro (token_of names hide t) rest (option_map (macro_text names) o)) f ∙ by_params names (token_of names hide t) m rest m.params

-- a name is hidden by its text where it is by its number
pub hidden_has : (names : List Text) (sets : Sets) (n : ℕ) (name : Name) → AreTables names sets → n < length sets → IsNamed names name → has (hidden names sets n) (text_of names name) ≡ has_name (set_at sets n) name
hidden_has names sets n name t h k = has_text names t.distinct (set_at sets n) name (All-get_or (All (IsNamed names)) sets n [] h t.named) k

pub kept_use : (names : List Text) (macros : Macros) (file : Text) (sets : Sets) (h : Held) (rest : List Token) (b : Bool) → (not (is_ident h.token.kind) || has (hidden names sets h.hide.0) (text_of names h.token.text)) ≡ b
    → spec.use_of (table_of names macros file) (held names sets h) rest
    ≡ (if b then spec.Keep else spec.use_of_name (table_of names macros file) (held names sets h) rest (spec.predefined file h.token.line (text_of names h.token.text)))
kept_use names macros file sets h rest b e =
    ap (λ x. if x then spec.Keep else spec.use_of_name (table_of names macros file) (held names sets h) rest (spec.predefined file h.token.line (text_of names h.token.text))) e

pub not_kept : (ident x y : Bool) → ident ≡ true → x ≡ y → x ≡ (not ident || y)
not_kept ident x y e h = h ∙ ap (λ b. not b || y) (sym e)
