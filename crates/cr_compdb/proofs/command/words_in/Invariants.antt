use Rattle.std.proofs.Common.{◌≡◌, map, filter}
use Rattle.std.specs.List.{filter_map}
use Rattle.cr_compdb.specs.Command.{byte_of, is_word}
use Rattle.cr_compdb.proofs.command.words_in.Given as goal

abbrev pub invariant-loop-run : goal.invariant-loop-run
invariant-loop-run l = l.words.items ≡ map (filter_map byte_of) (filter is_word (map (λ p. p.now) l.yielded))
