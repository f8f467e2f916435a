use Rattle.std.proofs.lemmas.List.Elements.{All-same}
use Rattle.std.proofs.Common.{◌<◌, ◌∙◌, length, ap}
use Rattle.cr_scope.specs.Declarations.{numbers_from}
use Rattle.cr_scope.specs.Kept.{depths_seen}
use Rattle.cr_scope.proofs.Members.{all_given}
use Rattle.cr_scope.proofs.Scopes.lookup_all.Goals as goal

pub returns-clause-given : goal.returns-clause-given
returns-clause-given c =
    let f = c.args.self.now in
    All-same (λ n. n < length f.entries) _ _
    (c.new.ensures ∙ ap (λ d. numbers_from d (depths_seen f c.args.space c.args.name)) c.present_depth.ensures)
    (all_given f.present c.args.space c.args.name f.entries)
