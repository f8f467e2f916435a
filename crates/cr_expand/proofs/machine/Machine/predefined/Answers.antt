use Rattle.std.proofs.Common.{[], ap, ◌∙◌, map}
use Rattle.cr_macros.specs.Definition.{text_of}
use Rattle.cr_macros.specs.Tokens.{token_of}
use Rattle.cr_expand.specs.Held.{hidden}
use Rattle.cr_expand.proofs.machine.Machine.predefined.Goals as goal

pub returns-clause-given : goal.returns-clause-given
returns-clause-given c = record {
  one = record { token = c.in_ok-token.token; hide = c.empty-hide.result };
  made = ap (λ l. token_of c.predefined_token.new.names (map (text_of c.predefined_token.new.names) l) c.in_ok-token.token) c.empty-hide.ensures.1
      ∙ c.in_ok-token.ensures.token [] (hidden c.args.names.now c.args.self.now.sets c.args.h.hide.0);
  known = (c.in_ok-token.ensures.named, c.empty-hide.ensures.0);
  gives = c.in_ok-step.ensures.given;
  seen = c.in_ok-take.ensures.seen (hidden c.args.names.now c.args.self.now.sets c.args.h.hide.0);
  used = c.in_ok-self.ensures.0;
  limit = c.in_ok-self.ensures.1;
  grows = c.in_ok-token.ensures.grows;
  distinct = c.in_ok-token.ensures.distinct;
}
