use Rattle.std.proofs.Common.{ℕ, List, [], ap, sym, ◌∙◌, Some, None, Option}
use Rattle.cr_snapshot.specs.declared.known.KnownFile.{KnownFile}
use Rattle.cr_preproc_law.proofs.each_number_is_of_one_file.Goals as goal

or_nothing : Option (List ℕ) → List ℕ
or_nothing None = []
or_nothing (Some bytes) = bytes

bytes_of : Option KnownFile → List ℕ
bytes_of None = []
bytes_of (Some file) = or_nothing file.found

pub returns : goal.returns
unfolding bytes_of or_nothing
returns c = λ files path other n bytes more e f. ap bytes_of (sym (c.known_files_stay_known.ensures.numbers path files n bytes e).1 ∙ (c.known_files_stay_known.ensures.numbers other files n more f).1)
