-- Tokens stand one behind another.
use Rattle.std.proofs.Common.{◌≡◌, ℕ, zero, suc, ◌+◌, ◌<◌, ◌≤◌, Bool, true, false, ◌&&◌, List, [], ◌∷◌, length, map, get_or, Option, Some, None, refl, ap, sym, ◌∙◌, arith}
use Rattle.std.specs.Option.{option_map, is_some}
use Rattle.cr_base.specs.Substitution.{Rise}
use Rattle.cr_lex.specs.Lexing.{Token}
use Rattle.cr_lex.specs.Order.{AreInOrder}
use Rattle.cr_base.specs.declared.token.PpTok.{PpTok}
use Rattle.cr_lex.specs.Seen.{seen}

pub rise_down : (offsets : List ℕ) (from lower len end : ℕ) → lower ≤ from → Rise from offsets len end → Rise lower offsets len end
rise_down [] from lower len end le h = omega arith
rise_down (o ∷ os) from lower len end le h = (omega (arith, h.0), h.1)

-- tokens stand one behind the other, each by the length of its text at least, up to the end
abbrev pub InOrder : ℕ → List Token → ℕ → Type 0
InOrder from [] end = from ≤ end
InOrder from (token ∷ tokens) end = (from ≤ token.at) × InOrder (token.at + length token.text) tokens end

in_order-down : (tokens : List Token) (from lower end : ℕ) → lower ≤ from → InOrder from tokens end → InOrder lower tokens end
in_order-down [] from lower end le h = omega arith
in_order-down (t ∷ ts) from lower end le h = (omega (arith, h.0), h.1)

-- so the tokens of a file do
pub in_order : (tokens : List Token) (from end : ℕ) → AreInOrder from tokens end → InOrder from tokens end
in_order [] from end h = h
in_order (t ∷ ts) from end h = (h.0, in_order-down ts t.end (t.at + length t.text) end h.1 (in_order ts t.end end h.2))

from-end : (tokens : List Token) (from end : ℕ) → AreInOrder from tokens end → from ≤ end
from-end [] from end h = h
from-end (t ∷ ts) from end h = let k = from-end ts t.end end h.2 in omega (arith, h.0, h.1)

-- and each of them ends within it
pub ends_within : (names : List (List ℕ)) (x : PpTok) (tokens : List PpTok) (from end i : ℕ) → AreInOrder from (map (seen names) tokens) end → i < length tokens → (get_or tokens i x).end ≤ end
ends_within names x [] from end i h lt = absurd (omega arith)
ends_within names x (t ∷ ts) from end zero h lt = from-end (map (seen names) ts) t.end end h.2
ends_within names x (t ∷ ts) from end (suc i) h lt = ends_within names x ts t.end end i h.2 (omega arith)

pub and_false : (a b : Bool) → b ≡ false → (a && b) ≡ false
and_false true b h = h
and_false false b h = refl

pub false_and : (a b : Bool) → a ≡ false → (a && b) ≡ false
false_and true b h = let no : ⊥ = cc in absurd no
false_and false b h = refl

pub no_fault : {F G : Type 0} (view : F → G) (defined : Option F) (found : Option G) → found ≡ option_map view defined → is_some found ≡ false → defined ≡ None
no_fault view None found e none = refl
no_fault view (Some f) found e none = let no : true ≡ false = sym (ap is_some e) ∙ none in let bad : ⊥ = cc in absurd bad
