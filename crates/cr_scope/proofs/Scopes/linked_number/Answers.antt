use Rattle.std.proofs.Common.{◌∙◌, ap}
use Rattle.std.specs.Prelude.{position}
use Rattle.cr_scope.specs.Declarations.{Flat}
use Rattle.cr_scope.specs.Linkage.{linked}
use Rattle.cr_scope.specs.Kept.{paths_of, is_linked_kept}
use Rattle.cr_scope.proofs.Declared.{linked_is}
use Rattle.cr_scope.proofs.Scopes.linked_number.Goals as goal

pub returns : goal.returns
returns c =
    c.first_linked.ensures
    ∙ ap (λ es. position (is_linked_kept c.args.name) es) c.deref.ensures.value
    ∙ linked_is (paths_of c.self.inside.parents.items) c.args.name c.self.inside.entries.items
    ∙ ap (λ (f : Flat). linked c.args.name f.entries) c.self.view_is
