use Rattle.std.proofs.Common.{subst, Some, refl}
use Rattle.std.specs.Option.{option_map}
use Rattle.cr_lex.specs.Lexing.{lexed}
use Rattle.cr_small.specs.Seen.{key_of_code}
use Rattle.cr_small.specs.Texts.{Reads, IsTextOf}
use Rattle.cr_run.specs.Held.{wanted_of}
use Rattle.cr_run.proofs.Meanings.{means, unclear_text, if_ok_more, key_there, named_there}
use Rattle.cr_run.proofs.survey.Finding.of_bytes.Goals as goal

pub of-requires-clause-text : goal.of-requires-clause-text
of-requires-clause-text c = subst (Reads c.args.bytes.now) c.in-Some.is c.in_ok-text.ensures

pub of-requires-clause-named : goal.of-requires-clause-named
of-requires-clause-named c k h = named_there c.args.sought.now.old.now c.args.number (option_map key_of_code c.args.sought.now.key) k _ _ c.requires.later c.requires.named h

pub returns-in-Some-clause-found : goal.returns-in-Some-clause-found
returns-in-Some-clause-found c =
    let text : IsTextOf c.args.bytes.now c.in-Some.text = subst (Reads c.args.bytes.now) c.in-Some.is c.in_ok-text.ensures in
    if_ok_more c.of.result _ _ (λ made h meaning path is apart.
    h meaning (wanted_of c.args.sought.now) path
    (means c.denotations_are_one.ensures meaning is (lexed c.args.bytes.now) (Some c.in-Some.text.denotes) text.small)
    refl refl (key_there (wanted_of c.args.sought.now) path c.args.number (option_map key_of_code c.args.sought.now.key) apart c.requires.later)) c.of.ensures.found

pub returns-in-None-clause-found : goal.returns-in-None-clause-found
returns-in-None-clause-found c meaning path is apart =
    unclear_text c.denotations_are_one.ensures meaning is (wanted_of c.args.sought.now) path c.args.bytes.now c.args.number c.unclear.result (subst (Reads c.args.bytes.now) c.in-None.is c.in_ok-text.ensures) c.unclear.ensures.found

pub returns-in-None-clause-placed : goal.returns-in-None-clause-placed
returns-in-None-clause-placed c path = c.unclear.ensures.placed c.args.sought.now.old.now (option_map key_of_code c.args.sought.now.key) path
