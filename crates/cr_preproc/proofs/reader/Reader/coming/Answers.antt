use Rattle.std.proofs.Common.{ap}
use Rattle.cr_lex.specs.Lexers.{left}
use Rattle.cr_preproc.specs.Readers.{before}
use Rattle.cr_preproc.proofs.reader.Reader.coming.Goals as goal

pub returns-in-Token : goal.returns-in-Token
returns-in-Token c names bytes h = (c.in-Token.field-0, left bytes c.args.self.now.lexer, c.in-Token.is, ap (before names (left bytes c.args.self.now.lexer)) c.in-Token.is)
