use Rattle.std.proofs.Common.{unwrap_or, sym, ap, ◌∙◌}
use Rattle.cr_typing.specs.Members.{nothing_listed, redeclared}
use Rattle.cr_typing.proofs.Names.{nothing_redeclared}
use Rattle.cr_typing.proofs.typing.Typing.redeclared.Goals as goal

pub returns-in-None : goal.returns-in-None
returns-in-None c =
    rw (← c.self.view_is)
    (sym (ap (λ o. redeclared (unwrap_or o nothing_listed) c.args.more.now) (sym c.in-None.ensures.value) ∙ nothing_redeclared c.args.more.now))
