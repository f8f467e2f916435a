use Rattle.std.proofs.Common.{◌∙◌, ap}
use Rattle.cr_scope.specs.Declarations.{lookup as meaning}
use Rattle.cr_declared.specs.Known.{Known}
use Rattle.cr_declared.proofs.Looked.{nearest_is_lookup}
use Rattle.cr_declared.proofs.declared.Declared.lookup.Goals as goal

pub nearest-requires : goal.nearest-requires
nearest-requires c = (let p = c.self.invariant.placed in record { within = p.there; distinct = p.distinct; file_scope = p.file_scope })

pub returns : goal.returns
returns c =
    c.last_of.ensures
    ∙ nearest_is_lookup _ _ _ _ _ _ c.self.invariant.placed c.self.invariant.found c.args.space c.args.name c.nearest.result c.nearest.ensures
    ∙ ap (λ (f : Known). meaning f.present c.args.space c.args.name f.entries) c.self.view_is
