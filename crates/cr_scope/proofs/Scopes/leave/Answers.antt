use Rattle.std.proofs.Common.{◌-◌, ◌<◌, ℕ, take, sym, ◌∙◌, ap, subst}
use Rattle.cr_scope.specs.Declarations.{Flat, left}
use Rattle.cr_scope.specs.Kept.{flat_of}
use Rattle.cr_scope.proofs.Moves.{not_first, leave_index, left_kept}
use Rattle.cr_scope.proofs.Scopes.leave.Goals as goal

pub overflow_sub-self-inside : goal.overflow_sub-self-inside
overflow_sub-self-inside c =
    not_first c.self.inside.parents.items c.self.inside.depths.items c.self.inside.present.items c.self.inside.current c.self.inside.entries.items c.self.invariant (λ e. c.requires (ap (λ (f : Flat). f.present) (sym c.self.view_is) ∙ e))

pub index-requires : goal.index-requires
index-requires c =
    let P : ℕ → Type 0 = λ z. c.self.inside.current - 1 < z in
    subst P (sym c.self.inside.parents.ok.0) (leave_index c.self.inside.parents.items c.self.inside.depths.items c.self.inside.present.items c.self.inside.current c.self.inside.entries.items c.self.invariant (λ e. c.requires (ap (λ (f : Flat). f.present) (sym c.self.view_is) ∙ e)))

pub invariant_of-self : goal.invariant_of-self
invariant_of-self c =
    left_kept c.self.inside.parents.items c.self.inside.depths.items c.self.inside.present.items c.self.inside.current c.self.inside.entries.items _ _ _ c.self.invariant (λ e. c.requires (ap (λ (f : Flat). f.present) (sym c.self.view_is) ∙ e)) c.self.inside.present.ok.0 c.pop.ensures.rest c.index.ensures

pub returns : goal.returns
returns c =
    ap (λ z. flat_of c.self.inside.parents.items z c.self.inside.entries.items) (c.pop.ensures.rest ∙ ap (λ z. take (z - 1) c.self.inside.present.items) c.self.inside.present.ok.0)
    ∙ ap left c.self.view_is
