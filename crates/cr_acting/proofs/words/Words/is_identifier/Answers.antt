use Rattle.cr_acting.specs.Binding.{source_by}
use Rattle.cr_ll.specs.Guards.{is_name}
use Rattle.std.proofs.Common.{ap, refl, sym, ◌∙◌}
use Rattle.cr_acting.proofs.words.Words.is_identifier.Goals as goal

pub returns : goal.returns
returns c =
    c.is_name.ensures ∙ ap is_name (sym (c.kind_at.ensures (source_by c.args.self) refl))
