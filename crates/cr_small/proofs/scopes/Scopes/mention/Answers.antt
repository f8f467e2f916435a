use Rattle.std.proofs.Common.{sym, subst, Some}
use Rattle.cr_small.specs.Holding.{Answers}
use Rattle.cr_small.specs.Resolution.{mentioned}
use Rattle.cr_small.specs.Declarations.{lookup}
use Rattle.cr_small.proofs.Maps.{mentions}
use Rattle.cr_small.proofs.scopes.Scopes.mention.Goals as goal

pub returns-in-Some : goal.returns-in-Some
returns-in-Some c b h =
    let found = (mentions c.args.self.now b c.args.name.now c.in_open_body.result h c.in_open_body.ensures).0 c.in-Some.symbol c.in-Some.is in
    subst (λ r. Answers c.args.self.now (mentioned b (lookup b.entries c.args.name.now b.path)) (Some r)) (sym c.answer.ensures) found

pub returns-in-None : goal.returns-in-None
returns-in-None c b h =
    let found = (mentions c.args.self.now b c.args.name.now c.in_open_body.result h c.in_open_body.ensures).1 c.in-None.is in
    subst (λ r. Answers c.args.self.now (mentioned b (lookup b.entries c.args.name.now b.path)) r) (sym c.mention_file.ensures) found
