use Rattle.cr_acting.specs.Binding.{source_by}
use Rattle.cr_base.specs.declared.token.Name.{Name}
use Rattle.std.proofs.Common.{ap, refl, ◌∙◌}
use Rattle.std.specs.Prelude.{[], slice_index_or}
use Rattle.cr_acting.proofs.words.Words.text_at.Goals as goal

pub returns : goal.returns
returns c =
    ap (λ (x : Name). slice_index_or c.args.self.names.now x.0 []) (c.name_at.ensures (source_by c.args.self) refl) ∙ c.text_of.ensures
