use Rattle.std.proofs.Common.{subst}
use Rattle.cr_lex.specs.Lexers.{left}
use Rattle.cr_lex.specs.declared.fault.LexStep.{LexStep}
use Rattle.cr_preproc.specs.Readers.{IsNext}
use Rattle.cr_preproc.proofs.NamesGrow.{first_distinct}
use Rattle.cr_preproc.proofs.reader.Reader.take.Goals as goal

pub returns-clause-distinct : goal.returns-clause-distinct
returns-clause-distinct c d = first_distinct c.args.names.now c.next.new.names (left c.args.bytes.now c.args.self.now.lexer).tokens c.in_ok-self.ensures.names d

pub returns-clause-of : goal.returns-clause-of
returns-clause-of c =
    let P : LexStep → Type 0 = λ step. IsNext c.args.self.now.file c.args.names.now (left c.args.bytes.now c.args.self.now.lexer) step in
    subst P c.in-Token.is c.requires.within.next
