use Rattle.std.proofs.Common.{rules, sym}
use Rattle.cr_compdb.proofs.Refusals.{no_object, no_directory, no_file, has_all, gives_same}
use Rattle.cr_compdb.proofs.database.entry_of.Goals as goal

pub returns-then-not-is_object : goal.returns-then-not-is_object
returns-then-not-is_object c = no_object _ _ (search rules)

pub returns-in-None : goal.returns-in-None
returns-in-None c = no_directory _ _ (search rules) (sym c.in-None.ensures)

pub returns-in-None-text_at : goal.returns-in-None-text_at
returns-in-None-text_at c = no_file _ _ _ (search rules) (sym c.in-Some.ensures) (sym c.in-None-text_at.ensures)

pub returns-in-Some-text_at : goal.returns-in-Some-text_at
returns-in-Some-text_at c = gives_same _ _ _ _ (has_all _ _ _ _ (search rules) (sym c.in-Some.ensures) (sym c.in-Some-text_at.ensures)) c.entry_with.ensures
