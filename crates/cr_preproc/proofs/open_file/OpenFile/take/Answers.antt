use Rattle.std.proofs.Common.{subst, Option}
use Rattle.cr_base.specs.declared.token.PpTok.{PpTok}
use Rattle.cr_preproc.specs.Readers.{IsTaken, IsOfFile, reading}
use Rattle.cr_preproc.proofs.OpenedFiles.{take_open, take_reads}
use Rattle.cr_preproc.proofs.open_file.OpenFile.take.Goals as goal

pub returns-in_ok-push-clause-takes : goal.returns-in_ok-push-clause-takes
returns-in_ok-push-clause-takes c files o at =
    let P : Option PpTok → Type 0 = λ t. IsOfFile c.args.self.now.reader.file c.args.names.now t in
    let T : Option PpTok → Type 0 = λ t. IsTaken c.args.names.now c.take.new.names (reading c.args.names.now c.args.bytes.now c.args.self.now.reader) (reading c.take.new.names c.args.bytes.now c.take.new.self) t in
    take_reads c.args.names.now c.take.new.names files c.args.bytes.now c.args.self.now (record c.args.self.now { reader = c.take.new.self; line = c.push.new.self }) c.in-Some.token c.take.ensures.names o at (subst P c.in-Some.is c.in_ok-token.ensures.of) c.in_ok-push.ensures.items (subst T c.in-Some.is c.in_ok-token.ensures.taken)

pub returns-in_ok-push-clause-open : goal.returns-in_ok-push-clause-open
returns-in_ok-push-clause-open c files o at =
    let P : Option PpTok → Type 0 = λ t. IsOfFile c.args.self.now.reader.file c.args.names.now t in
    take_open c.args.names.now c.take.new.names files c.args.bytes.now c.args.self.now (record c.args.self.now { reader = c.take.new.self; line = c.push.new.self }) c.in-Some.token c.take.ensures.names o at (subst P c.in-Some.is c.in_ok-token.ensures.of) c.in_ok-push.ensures.items c.in_ok-token.ensures.within c.take.ensures.file
