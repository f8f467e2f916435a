use Rattle.std.proofs.Common.{length, ◌≡◌}
use Rattle.cr_lex.specs.Lexers.{left, IsIn}
use Rattle.cr_lex.proofs.Runs.{IsRun}
use Rattle.cr_lex.proofs.lexer.run.Given as goal

abbrev pub invariant-loop-tokens : goal.invariant-loop-tokens
invariant-loop-tokens l = record {
  run : IsRun l.bytes l.fn.file l.fn.names l.names l.tokens.items (left l.bytes l.lexer);
  within : IsIn l.bytes l.lexer;
  file : l.lexer.file ≡ l.fn.file;
}

abbrev pub decreases-loop-tokens : goal.decreases-loop-tokens
decreases-loop-tokens l = length (left l.bytes l.lexer).tokens
