use Rattle.std.proofs.Common.{◌≡◌, ◌++◌, drop}
use Rattle.cr_compdb.specs.Settings.{settings_of, settings_behind}
use Rattle.cr_compdb.proofs.settings.settings_of.Given as goal

abbrev pub invariant-loop-word : goal.invariant-loop-word
invariant-loop-word l = l.settings.items ++ settings_behind (drop l.word-index l.words) l.waiting ≡ settings_of l.words
