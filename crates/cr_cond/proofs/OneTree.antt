-- The machine reads the tree of the definition.
use Rattle.std.proofs.Common.{◌≡◌, List, refl, sym, ◌∙◌, Some, None, Option}
use Rattle.cr_cond.specs.declared.symbol.Symbol.{Symbol}
use Rattle.cr_cond.specs.Reading.{Tree, read}
use Rattle.cr_cond.specs.Grammar.{SpellsAny}
use Rattle.cr_cond.specs.Machine.{trees, run, start}
use Rattle.cr_cond.proofs.Sound.{sound}
use Rattle.cr_cond.proofs.Complete.{complete}
use Rattle.cr_cond.proofs.Accepts.{accepts}
use Rattle.cr_cond.proofs.Stacked.{spells_read}

pub reads_the_tree : (xs : List Symbol) → run trees start xs ≡ read xs
reads_the_tree xs = go (run trees start xs) (read xs) refl refl (spells_read xs) (sound xs) where
  go : (o p : Option Tree) → run trees start xs ≡ o → read xs ≡ p → SpellsAny 11 o xs → SpellsAny 11 p xs → o ≡ p
  go (Some t) p a b g h = sym (complete xs t g) ∙ b
  go None None a b g h = refl
  go None (Some t) a b g h = sym a ∙ accepts xs t h
