use Rattle.std.proofs.Common.{◌≡◌, sym, ap, ◌∙◌, subst, true}
use Rattle.cr_core.specs.declared.progress.Progress.{Progress}
use Rattle.cr_core.specs.Assignment.{State, untouched, unit_at, when_lost, holding, answered, may_lose}
use Rattle.cr_core.specs.Sound.{is_sound}
use Rattle.cr_core.proofs.Soundness.{sound_lost}
use Rattle.cr_core.proofs.Units.{held_at, all_get, get_default, kept_set}
use Rattle.cr_core.proofs.Core.lose.Goals as goal

pub invariant_of-self : goal.invariant_of-self
invariant_of-self c =
    let s : State = record { retries = c.self.inside.retries; units = c.self.inside.units.items } in
    let w = c.args.worker in
    let held = held_at s w c.args.unit (ap (λ (z : State). holding z w) c.self.view_is ∙ c.requires.held) in
    let is = c.index-progress.ensures ∙ get_default s.units c.args.unit _ untouched held.0 in
    let may = ap (λ (z : State). may_lose c.args.why (answered z c.args.unit)) c.self.view_is ∙ c.requires.cancelled in
    let P : Progress → Type 0 = λ y. is_sound s.retries y ≡ true in
    let sound = sound_lost s.retries w c.args.why (unit_at s c.args.unit) held.1 may (all_get (is_sound s.retries) c.args.unit s.units untouched c.self.invariant.2 held.0) in
    kept_set s.retries s.units c.args.unit c.when_lost.result c.self.invariant (subst P (ap (when_lost w c.args.why) (sym is) ∙ sym c.when_lost.ensures) sound)
