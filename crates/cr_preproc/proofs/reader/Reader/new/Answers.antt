use Rattle.cr_lex.specs.Lexers.{left}
use Rattle.cr_preproc.proofs.NamesGrow.{first_distinct}
use Rattle.cr_preproc.proofs.reader.Reader.new.Goals as goal

pub returns-clause-distinct : goal.returns-clause-distinct
returns-clause-distinct c d = first_distinct c.args.names.now c.next.new.names (left c.args.bytes.now c.new-lexer.result).tokens c.in_ok-ahead.ensures.names d
