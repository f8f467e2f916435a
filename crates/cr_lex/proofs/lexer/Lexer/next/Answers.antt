use Rattle.std.proofs.Common.{sym, ◌∙◌}
use Rattle.cr_lex.specs.Lexers.{left}
use Rattle.cr_lex.specs.Standing.{before}
use Rattle.cr_lex.proofs.Spots.{token-gives}
use Rattle.cr_lex.proofs.lexer.Lexer.next.Goals as goal

pub returns-clause-step : goal.returns-clause-step
unfolding left
returns-clause-step c = (
  token-gives c.args.bytes.now c.args.self.now.spot c.behind_token-self.result (before c.go_on-halt.result.spot) c.in-Token.own c.go_on-halt.result.ahead _ _
      c.go_on-halt.ensures.given c.in-Token.is (sym c.first_trigraph.ensures.first ∙ c.in_default.is) c.in_ok-token.ensures.seen c.behind_token-self.ensures,
  c.in_ok-token.ensures.file,
)
