-- The pieces of a parameter list.
use Rattle.std.proofs.Common.{◌≡◌, ℕ, Bool, true, false, List, [], ◌∷◌, length, refl, Some, None, true≢false}
use Rattle.std.specs.Prelude.{◌==◌, codes, option_map, if◌then◌else◌}
use Rattle.std.specs.List.{slice_split}
use Rattle.cr_base.specs.declared.token.Name.{Name}
use Rattle.cr_base.specs.declared.token.PpTok.{PpTok}
use Rattle.cr_macros.specs.Definition.{pieces, is_mark}
use Rattle.cr_macros.specs.declared.definition.ParamList.{ParamList}

pub pieces_of_some : (names : List (List ℕ)) (ts : List PpTok) → (length ts == 0) ≡ false → pieces names ts ≡ slice_split (is_mark names (codes ",")) ts
pieces_of_some names [] h = let no : true ≡ false = h in absurd (true≢false no)
pieces_of_some names (t ∷ ts) h = refl

pub mapped_if : (good : Bool) (list : ParamList) → option_map {T = ParamList} {U = List Name × Bool} (λ p. (p.names.keys, p.variadic)) (if good then Some list else None) ≡ (if good then Some (list.names.keys, list.variadic) else None)
mapped_if true list = refl
mapped_if false list = refl
