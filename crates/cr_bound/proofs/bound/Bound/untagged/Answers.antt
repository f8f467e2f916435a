use Rattle.std.proofs.Common.{◌∙◌, ap}
use Rattle.cr_binding.specs.Tags.{is_record_kind}
use Rattle.cr_bound.specs.declared.place.Place.{Place}
use Rattle.cr_bound.specs.Kept.{kind_by}
use Rattle.cr_bound.proofs.Tagging.{untagged_does, brace_typed}
use Rattle.cr_bound.proofs.bound.Bound.untagged.Goals as goal

pub fill-requires : goal.fill-requires
fill-requires c = brace_typed _ _ _ _ c.in_ok-ty.ensures.typed c.in_ok-ty.ensures.given

pub returns-clause-ok : goal.returns-clause-ok
returns-clause-ok c =
    untagged_does c.args.types.now _ c.args.self.now _ _ _ c.args.brace _ c.in_ok-ty.ensures.meant
    (c.is_record-self.ensures ∙ ap (λ (p : Place). is_record_kind (kind_by p.keyword)) c.in_ok-ty.ensures.keyword) c.in_ok-ty.ensures.pending c.in_ok-ty.ensures.ok c.fill.ensures.ok
