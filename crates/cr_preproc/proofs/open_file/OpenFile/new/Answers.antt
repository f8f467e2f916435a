use Rattle.std.proofs.Common.{◌∙◌, ap, subst, List, ℕ}
use Rattle.cr_base.specs.NameTable.{Interns}
use Rattle.cr_macros.specs.Substitution.{in_quotes, escaped}
use Rattle.cr_preproc.proofs.NamesGrow.{grows_more, interns_grows}
use Rattle.cr_preproc.proofs.OpenedFiles.{new_open}
use Rattle.cr_preproc.proofs.open_file.OpenFile.new.Goals as goal

pub returns-clause-open : goal.returns-clause-open
returns-clause-open c files found =
    let P : List ℕ → Type 0 = λ text. Interns c.args.names.now text c.intern.new.self c.in_ok-literal.literal.0 in
    new_open c.args.names.now c.intern.new.self c.new.new.names files c.args.bytes.now (record { levels = c.args.levels; path = c.args.path; number = c.args.number; literal = c.in_ok-literal.literal; reader = c.in_ok-reader.reader; open_ifs = c.new-2.result; run = c.new-3.result; line = c.new-4.result })
    found c.known_files_stay_known.ensures.numbers c.requires.bytes c.in_ok-reader.ensures.within c.in_ok-reader.ensures.file
    (subst P (c.deref.ensures.value ∙ c.in_ok-literal_of.ensures ∙ ap (λ p. in_quotes (escaped p)) c.bytes.ensures) c.in_ok-literal.ensures.interned)
    c.new.ensures.names c.new-3.ensures.items c.new-4.ensures.items

pub returns-clause-names : goal.returns-clause-names
returns-clause-names c = grows_more c.args.names.now c.intern.new.self c.new.new.names (interns_grows c.args.names.now c.deref.result.now c.intern.new.self c.in_ok-literal.literal.0 c.in_ok-literal.ensures.interned) c.new.ensures.names
