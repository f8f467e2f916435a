use Rattle.std.proofs.Common.{subst, arith}
use Rattle.cr_base.specs.NameTable.{Interns}
use Rattle.cr_lex.proofs.Plain.{plain_is, not_joined}
use Rattle.cr_lex.proofs.lexer.name_of.Goals as goal

pub returns-in_ok-name-2-clause-name : goal.returns-in_ok-name-2-clause-name
returns-in_ok-name-2-clause-name c =
    let own = c.args.own in
    let plain = c.has_join.ensures c.if-has_join.false in
    let same = plain_is c.args.bytes.now own.at own.end (omega (arith, c.requires.own.some)) c.requires.own.within plain in
    subst (λ t. Interns c.args.names.now t c.intern-else-has_join.new.self c.in_ok-name-2.name.0) same c.in_ok-name-2.ensures.interned

pub returns-in_ok-name-2-clause-joined : goal.returns-in_ok-name-2-clause-joined
returns-in_ok-name-2-clause-joined c =
    let own = c.args.own in
    not_joined c.args.bytes.now own.at own.end (omega (arith, c.requires.own.some)) c.requires.own.within (c.has_join.ensures c.if-has_join.false)
