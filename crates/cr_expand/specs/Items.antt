-- Items of a body, with names by number.
use Rattle.std.specs.Prelude.{◌≡◌, ℕ, ◌==◌, Bool, false, if◌then◌else◌, List, [], ◌∷◌, length, map, Option, Some, None}
use Rattle.std.specs.List.{All}
use Rattle.cr_base.specs.declared.token.Name.{Name}
use Rattle.cr_base.specs.declared.token.PpTok.{PpTok}
use Rattle.cr_macros.specs.declared.macros.Macro.{Macro}
use Rattle.cr_expand.specs.declared.items.Item.{Item}
use Rattle.cr_expand.specs.declared.items.Item.TheVariants as item
use Rattle.indexmap.specs.IndexMap.{get}
use Rattle.cr_expand.specs.declared.params.Params.{Params}
use Rattle.cr_macros.specs.Definition.{is_rest}
use Rattle.cr_macros.specs.Tokens.{Text, Token, token_of, is_ident}
use Rattle.cr_macros.specs.Substitution.{param}
use Rattle.cr_macros.specs.MacroTables.{macro_text}
use Rattle.cr_macros.specs.Substitution as spec
use Rattle.cr_expand.specs.Held.{IsNamed}

-- the place of the first of these names that is this one
abbrev pub number_of : List Name → Name → Option ℕ
number_of [] name = None
number_of (p ∷ params) name = if p.0 == name.0 then Some 0 else spec.one_more (number_of params name)

abbrev pub or_rest : Bool → Option ℕ → ℕ → Option ℕ
or_rest is_rest (Some i) rest = Some i
or_rest is_rest None rest = if is_rest then Some rest else None

-- an item with the texts of its tokens
abbrev pub item_text : List Text → Item → spec.Item
item_text names (item.Stays t) = spec.Stays (token_of names [] t)
item_text names (item.Spelt t i) = spec.Spelt (token_of names [] t) i
item_text names (item.Bare t i) = spec.Bare (token_of names [] t) i
item_text names (item.Full t i) = spec.Full (token_of names [] t) i
item_text names (item.CommaRest comma t i) = spec.CommaRest (token_of names [] comma) (token_of names [] t) i
item_text names item.Paste = spec.Paste

abbrev pub item_texts : List Text → List Item → List spec.Item
item_texts names = map {A = Item} (item_text names)

abbrev pub AreNamed : List Text → Option (List Name) → Type 0
AreNamed names None = Unit {0}
AreNamed names (Some params) = All (IsNamed names) params

abbrev pub IsTokenNamed : List Text → PpTok → Type 0
IsTokenNamed names t = IsNamed names t.text

-- The names hold what the macro is made of.
pub record IsMacroKnown (names : List Text) (m : Macro) : Type 0 where
  pub name : IsNamed names m.name
  pub params : AreNamed names m.params
  pub body : All (IsTokenNamed names) m.body

-- The numbers of these parameters, and of the variable one where there is one.
abbrev pub AreNumbers : List Name → Bool → Params → Type 0
AreNumbers params variadic p = ((name : Name) → get (λ a b. a.0 == b.0) p.places name ≡ number_of params name) × (p.rest ≡ (if variadic then Some (length params) else None))

abbrev pub or_else : Option ℕ → Option ℕ → Option ℕ
or_else None o = o
or_else (Some i) o = Some i

-- the number of the parameter that a token names, as it is looked up
abbrev pub looked_up : List Text → Params → PpTok → Option ℕ
looked_up names p t = if is_ident t.kind then or_else (get (λ a b. a.0 == b.0) p.places t.text) (if is_rest names t then p.rest else None) else None

-- The numbers are those of the macro's parameters, at each token that is known.
abbrev pub Serves : List Text → Macro → Params → Type 0
Serves names m p = (t : PpTok) → IsTokenNamed names t → looked_up names p t ≡ param (macro_text names m) (token_of names [] t)

abbrev pub with_text : List Text → Option (PpTok × ℕ) → Option (Token × ℕ)
with_text names None = None
with_text names (Some (t, i)) = Some (token_of names [] t, i)

-- an item with its text, and how many more tokens it takes
abbrev pub found_text : List Text → Item × ℕ → spec.Item × ℕ
found_text names (i, n) = (item_text names i, n)

-- the number is this one
abbrev pub is_number : ℕ → Option ℕ → Bool
is_number n None = false
is_number n (Some k) = n == k

abbrev pub IsPairNamed : List Text → Option (PpTok × ℕ) → Type 0
IsPairNamed names None = Unit {0}
IsPairNamed names (Some (t, i)) = IsTokenNamed names t
