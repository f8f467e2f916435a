use Rattle.std.proofs.Common.{rules}
use Rattle.cr_compdb.specs.Command.{command_words}
use Rattle.cr_compdb.proofs.command.command_words.Goals as goal

pub returns-in_ok-words_in-in-Some : goal.returns-in_ok-words_in-in-Some
unfolding command_words
returns-in_ok-words_in-in-Some c = search rules

pub returns-in-None : goal.returns-in-None
unfolding command_words
returns-in-None c = search rules
