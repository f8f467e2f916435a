use Rattle.std.proofs.Common.{sym}
use Rattle.cr_scope.specs.declared.Space.TheVariants as space
use Rattle.cr_scope.specs.Declarations.{number}
use Rattle.cr_capture.proofs.Named.{looked_at}
use Rattle.cr_capture.proofs.Asked.{type_name}
use Rattle.cr_capture.proofs.finding.is_type_name.Goals as goal

pub returns-in-Some : goal.returns-in-Some
returns-in-Some c =
    let f = c.args.scopes.now in
    let g = looked_at f space.Ordinary c.args.name (number c.in-Some.d) c.lookup_means.ensures (sym c.in-Some.ensures.value) in
    type_name f c.args.name c.in-Some.d _ _ g.0 g.1 c.get.ensures c.is_typedef.ensures
