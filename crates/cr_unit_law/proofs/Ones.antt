-- A unit has one tree, or one first fault.
use Rattle.std.specs.Prelude.{◌≡◌, ℕ, None}
use Rattle.std.proofs.Common.{refl, ap}
use Rattle.cr_base.specs.declared.cause.IllCause.{IllCause}
use Rattle.cr_grammar.specs.declared.symbols.NonTerm.TheVariants as n
use Rattle.cr_ll.specs.Derivation.{Trees}
use Rattle.cr_ll.specs.Laws.{unit}
use Rattle.cr_binding.specs.Source.{Source}
use Rattle.cr_binding.specs.State.{start}
use Rattle.cr_binding.specs.Binding.{bound}
use Rattle.cr_binding.specs.WellFormed.{Begins, AreAnswered, IsWellFormed, terminals_of}
use Rattle.cr_binding.proofs.Growing.{itself}
use Rattle.cr_unit_law.specs.OneMeaning.{UnitsHaveOneTree, FirstFaultsAreOne, WellFormedUnitsHaveNone}
use Rattle.cr_unit_law.proofs.Pairs.{Cut, Same, begins_of, same_trees}

-- the trees of a unit, from its first token
cut : (t : Source) (f : Trees) → Begins (terminals_of t) f 0 unit → AreAnswered t (bound t f) → Cut t f n.Unit None 0 unit start (bound t f)
cut t f b a = record { begins = b; grows = itself (bound t f); answered = a }

whole : (t : Source) (f : Trees) → IsWellFormed t f → Cut t f n.Unit None 0 unit start (bound t f)
whole t f w = cut t f (begins_of (terminals_of t) f 0 unit w.spans w.derives) w.answered

same : (t : Source) (f g : Trees) → Cut t f n.Unit None 0 unit start (bound t f) → Cut t g n.Unit None 0 unit start (bound t g) → Same t f g 0 unit (bound t f).fault (bound t g).fault
same t f g a b = same_trees t f g n.Unit None 0 unit start (bound t f) (bound t g) refl a b

pub one_tree : UnitsHaveOneTree
one_tree t f g a b =
    let w = (same t f g (whole t f a) (whole t g b)).whole a.spans b.spans a.sound b.sound a.derives b.derives in
    (w.0, ap (bound t) w.0)

pub one_fault : FirstFaultsAreOne
one_fault t c d i j a b =
    let e : (c, i) ≡ (d, j) = (same t a.trees b.trees (cut t a.trees a.begins a.answered) (cut t b.trees b.begins b.answered)).faults (c, i) (d, j) a.fault b.fault in
    (ap (λ (x : IllCause × ℕ). x.0) e, ap (λ (x : IllCause × ℕ). x.1) e)

pub no_fault : WellFormedUnitsHaveNone
no_fault t tree c i w ill =
    (same t ill.trees tree (cut t ill.trees ill.begins ill.answered) (whole t tree w)).left (c, i) w.spans ill.fault w.sound w.derives
