use Rattle.std.proofs.Common.{◌≡◌, ◌∙◌, ◌&&◌, not, sym, []}
use Rattle.cr_binding.specs.Source.{Source}
use Rattle.cr_binding.specs.State.{State, start}
use Rattle.cr_binding.specs.Declaring.{declaration_at, linkage_for}
use Rattle.cr_bound.specs.Kept.{with_bound}
use Rattle.cr_bound.proofs.Declares.{typed_is, formed_ordinary, linkage_same, linkage_found}
use Rattle.cr_bound.proofs.Lenses.{rest}
use Rattle.cr_bound.proofs.bound.Bound.making.Goals as goal

linked : (c : goal.After-both) (source : Source) (s : State)
    → c.linkage_for-linkage.result ≡ linkage_for source (declaration_at (with_bound c.args.types.now c.args.self.now s) c.meaning-denoted.result) c.kind_of-kind.result (with_bound c.args.types.now c.args.self.now s)
linked c source s =
    c.linkage_for-linkage.ensures c.args.types.now source s (declaration_at (with_bound c.args.types.now c.args.self.now s) c.meaning-denoted.result)
    (linkage_same source (declaration_at (with_bound c.args.types.now c.args.self.now s) c.meaning-denoted.result) c.linkage_of.result
    (linkage_found c.args.types.now c.args.self.now.names.declared.paths _ c.get.result (c.get.ensures.found c.args.types.now (rest c.args.self.now c.args.types.now s)) ∙ sym c.linkage_of.ensures))

pub returns-clause-made : goal.returns-clause-made
returns-clause-made c source s named spelled =
    typed_is c.args.types.now source c.args.token c.args.ty c.meaning-denoted.result c.kind_of-kind.result c.linkage_for-linkage.result c.both.result c.declaration.result c.args.name (with_bound c.args.types.now c.args.self.now s)
    (c.meaning-denoted.ensures c.args.types.now source (rest c.args.self.now c.args.types.now s) c.args.token named spelled.0)
    (c.kind_of-kind.ensures c.args.types.now s)
    (linked c source s)
    (c.both.ensures ∙ (λ j. c.is_internal.ensures j && not (c.has-is_static.ensures j)))
    c.declaration.ensures

pub returns-clause-formed : goal.returns-clause-formed
returns-clause-formed c =
    formed_ordinary c.declaration.result c.args.name c.args.token c.kind_of-kind.result c.linkage_for-linkage.result _ (record { texts = []; tokens = [] }) _ (with_bound c.args.types.now c.args.self.now start)
    c.declaration.ensures (c.kind_of-kind.ensures c.args.types.now start) (linked c (record { texts = []; tokens = [] }) start)
