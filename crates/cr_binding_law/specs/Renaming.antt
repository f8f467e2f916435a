-- A renaming of entities of a unit, from the name old to the name new.
use Rattle.std.specs.Prelude.{◌≡◌, ◌≢◌, ℕ, Bool, true, false, cond, Some, None, List, [], bytes_eq, slice_index_or, Contains}
use Rattle.std.specs.Map.{lookup}
use Rattle.cr_base.specs.declared.token.Name.{Name}
use Rattle.cr_binding.specs.Source.{Source, token_of, name_at, is_identifier, is_built_in}
use Rattle.cr_binding.specs.State.{Declaration, Member, Use, LookedUp, GoesTo, Selects, IsBuiltIn, State}
use Rattle.cr_binding.specs.Entities.{are_one}
use Rattle.cr_binding.specs.Declaring.{declaration_at}
use Rattle.cr_binding.specs.Specifying.{specifier_words}
use Rattle.cr_binding.specs.Expressions.{binary_operators, unary_operators, postfix_operators, is_offset, is_arrow, is_function_name}

-- A spelling that means only what is declared: no word of specifiers (C11 6.7.1, 6.7.2), no operator (6.5), and nothing that
-- the compiler supplies (6.4.2.2, our own rule).
pub record HasNoOwnMeaning (text : List ℕ) : Type 0 where
  pub no_specifier : lookup (bytes_eq text) specifier_words ≡ None
  pub no_binary : lookup (bytes_eq text) binary_operators ≡ None
  pub no_unary : lookup (bytes_eq text) unary_operators ≡ None
  pub no_postfix : lookup (bytes_eq text) postfix_operators ≡ None
  pub no_arrow : is_arrow text ≡ false
  pub no_offset : is_offset text ≡ false
  pub no_function_name : is_function_name text ≡ false
  pub no_built_in : is_built_in text ≡ false

abbrev pub text_of : Source → Name → List ℕ
text_of t n = slice_index_or t.texts n.0 []

-- u is t with the name new in place of old at the tokens of a class. These are identifiers, and stay so: new is no keyword.
-- Where the tokens stand has no part.
pub record IsRenamed (class : ℕ → Bool) (old new : Name) (t u : Source) : Type 0 where
  pub differ : old ≢ new
  pub texts : u.texts ≡ t.texts
  pub kinds : (i : ℕ) → (token_of u i).kind ≡ (token_of t i).kind
  pub names : (i : ℕ) → name_at u i ≡ cond (class i) new (name_at t i)
  pub spelled : (i : ℕ) → class i ≡ true → name_at t i ≡ old
  pub sort : (i : ℕ) → class i ≡ true → is_identifier t i ≡ true
  pub plain_old : HasNoOwnMeaning (text_of t old)
  pub plain_new : HasNoOwnMeaning (text_of t new)

-- An identifier is renamed just where what it means is.
abbrev pub GoesWith : (ℕ → Bool) → State → Use → Type 0
GoesWith class s (LookedUp sp i path before denoted) =
    (d : Declaration) → declaration_at s denoted ≡ Some d → class i ≡ class d.token
GoesWith class s (GoesTo i label) = (d : Declaration) → declaration_at s (Some label) ≡ Some d → class i ≡ class d.token
GoesWith class s (Selects i member) = (m : Member) → Contains s.members m → m.token ≡ member → class i ≡ class m.token
GoesWith class s (IsBuiltIn i) = class i ≡ false
GoesWith class s _ = Unit {0}

-- The class holds whole entities of the unit: all declarations of one (6.2.2, 6.7.2.3, 6.7p3), with all that means them.
pub record AreEntities (class : ℕ → Bool) (t : Source) (s : State) : Type 0 where
  pub together : (d e : Declaration) → Contains s.declarations d → Contains s.declarations e → are_one t d e ≡ true → class d.token ≡ class e.token
  pub uses : (x : Use) → Contains s.uses x → GoesWith class s x
