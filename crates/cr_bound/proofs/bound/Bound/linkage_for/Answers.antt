use Rattle.std.proofs.Common.{◌≡◌, ◌∙◌, sym, ap, refl, false, Option}
use Rattle.cr_base.specs.declared.Kind.{Kind}
use Rattle.cr_base.specs.declared.Kind.TheVariants as kind
use Rattle.cr_binding.specs.Source.{Source}
use Rattle.cr_binding.specs.State.{Declaration, State}
use Rattle.cr_bound.specs.Declaring.{linkage_in}
use Rattle.std.specs.Prelude.{option_map}
use Rattle.cr_binding.specs.Entities.{entry}
use Rattle.cr_binding.specs.Declaring.{linkage_for}
use Rattle.cr_bound.specs.Kept.{with_bound}
use Rattle.cr_bound.proofs.bound.Bound.linkage_for.Goals as goal

-- a kind that is neither
other_linkage : (k : Kind) → (k ≡ kind.Typedef → ⊥) → (k ≡ kind.Function → ⊥) → (source : Source) (e : Option Declaration) (s : State)
    → linkage_in s false (option_map (entry source) e) ≡ linkage_for source e k s
other_linkage kind.Function a b source e s = absurd (b refl)
other_linkage kind.Object a b source e s = refl
other_linkage kind.Typedef a b source e s = absurd (a refl)
other_linkage kind.Enumerator a b source e s = refl
other_linkage kind.Struct a b source e s = refl
other_linkage kind.Union a b source e s = refl
other_linkage kind.Enum a b source e s = refl
other_linkage kind.Member a b source e s = refl
other_linkage kind.Label a b source e s = refl

pub returns-in-Function : goal.returns-in-Function
returns-in-Function c t source s e seen =
    c.linkage_by.ensures t s (option_map (entry source) e) seen ∙ ap (λ k. linkage_for source e k (with_bound t c.args.self.now s)) (sym c.in-Function.is)

pub returns-in_default : goal.returns-in_default
returns-in_default c t source s e seen =
    c.linkage_by-in_default.ensures t s (option_map (entry source) e) seen
    ∙ other_linkage c.args.kind c.in_default.not-Typedef c.in_default.not-Function source e (with_bound t c.args.self.now s)
