use Rattle.std.proofs.Common.{map, sym, ap, ◌∙◌, subst, take}
use Rattle.std.proofs.lemmas.List.{take-map}
use Rattle.cr_base.specs.NameTable.{IsDistinct}
use Rattle.cr_base.proofs.NameTables.{IsDistinct-take}
use Rattle.cr_base.proofs.name_table.NameTable.truncate.Goals as goal

pub invariant_of-self : goal.invariant_of-self
invariant_of-self c =
    let kept = take-map (λ v. v.items) c.args.len c.self.inside.texts.keys ∙ ap (map (λ v. v.items)) (sym c.truncate.ensures.keys) in
    subst IsDistinct kept (IsDistinct-take c.args.len _ c.self.invariant)

pub returns : goal.returns
returns c =
    ap (map (λ v. v.items)) c.truncate.ensures.keys ∙ sym (take-map (λ v. v.items) c.args.len c.self.inside.texts.keys) ∙ ap (take c.args.len) c.self.view_is
