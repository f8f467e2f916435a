-- Pastes from left to right, with names and hide sets by number.
use Rattle.std.specs.Prelude.{◌≡◌, ℕ, Bool, true, false, List, [], ◌∷◌, ◌++◌, Option, Some, None, option_map}
use Rattle.cr_base.specs.declared.token.PpTok.{PpTok}
use Rattle.cr_macros.specs.declared.macros.Seen.{Seen}
use Rattle.cr_expand.specs.declared.held.Held.{Held}
use Rattle.cr_expand.specs.declared.parts.Part.{Part}
use Rattle.cr_expand.specs.declared.pasting.Pasting.{Pasting}
use Rattle.cr_macros.specs.declared.fault.ExpandFault.{ExpandFault}
use Rattle.cr_macros.specs.Tokens.{Text, Token, token_of}
use Rattle.cr_macros.specs.Substitution as spec
use Rattle.cr_expand.specs.HideSets.{Sets, Grows}
use Rattle.cr_expand.specs.Held.{held, all_held, IsKnown, AreKnown, AreTables, Watch, Does, Stops}
use Rattle.cr_expand.specs.Parts.{part_texts}

abbrev pub left_text : List Text → Sets → Option Held → Option Token
left_text names sets = option_map {T = Held} {U = Token} (λ h. held names sets h)

abbrev pub IsLeftKnown : List Text → Sets → Option Held → Type 0
IsLeftKnown names sets None = Unit {0}
IsLeftKnown names sets (Some h) = IsKnown names sets h

-- The pastes that are left once parts are taken: what goes on from here goes on from there.
pub record PastesOn (w : Watch) (before now : List Seen) (names new : List Text) (sets more : Sets) (name : PpTok) (old_left left : Option Held) (old_pasting pasting : Bool) (taken : List Part) (added : List Held) : Type 0 where
  pub does : (hide : List Text) (s : List Seen) (ps : List spec.Part) (rest : List Token) → Does w now s (spec.all_pasted (token_of names hide name) (left_text new more left) pasting ps) rest
      → Does w before s (spec.all_pasted (token_of names hide name) (left_text names sets old_left) old_pasting (part_texts names sets taken ++ ps)) (all_held new more added ++ rest)
  pub stops : (hide : List Text) (ps : List spec.Part) (e : ExpandFault) → Stops (spec.all_pasted (token_of names hide name) (left_text new more left) pasting ps) e
      → Stops (spec.all_pasted (token_of names hide name) (left_text names sets old_left) old_pasting (part_texts names sets taken ++ ps)) e

-- What was put, and what waits on the left, is known.
abbrev pub IsPastingKnown : List Text → Sets → Pasting → Type 0
IsPastingKnown names sets p = AreKnown names sets p.out.items × IsLeftKnown names sets p.left

abbrev pub or_none : Option Held → List Held
or_none None = []
or_none (Some h) = h ∷ []

-- A part is taken: the tokens that it gives are put behind the others.
abbrev pub Takes : Watch → List Seen → List Seen → List Text → List Text → Sets → Sets → PpTok → Pasting → Pasting → Part → Type 0
Takes w before now names new sets more name old p taken =
    (added : List Held) × (p.out.items ≡ old.out.items ++ added) × AreKnown new more added × IsLeftKnown new more p.left
    × PastesOn w before now names new sets more name old.left p.left old.pasting p.pasting (taken ∷ []) added

-- What stands when some of the parts are taken.
pub record IsPasting (w : Watch) (before now : List Seen) (names new : List Text) (sets more : Sets) (name : PpTok) (done rest_parts : List Part) (p : Pasting) : Type 0 where
  pub grows : Grows names new
  pub sets_grow : Grows sets more
  pub tables : AreTables new more
  pub known : IsPastingKnown new more p
  pub does : (hide : List Text) (s : List Seen) (rest : List Token) → Does w now s (spec.all_pasted (token_of names hide name) (left_text new more p.left) p.pasting (part_texts names sets rest_parts)) rest
      → Does w before s (spec.all_pasted (token_of names hide name) None false (part_texts names sets done)) (all_held new more p.out.items ++ rest)
  pub stops : (hide : List Text) (e : ExpandFault) → Stops (spec.all_pasted (token_of names hide name) (left_text new more p.left) p.pasting (part_texts names sets rest_parts)) e
      → Stops (spec.all_pasted (token_of names hide name) None false (part_texts names sets done)) e

-- one text at most is made where `##` is directly before
abbrev pub pending : Bool → ℕ
pending true = 1
pending false = 0
