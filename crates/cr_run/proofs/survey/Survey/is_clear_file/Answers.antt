use Rattle.std.proofs.Common.{◌≡◌, true, false, sym, ap, ◌∙◌}
use Rattle.std.specs.Prelude.{bytes_eq, is_some}
use Rattle.std.specs.List.{list_any}
use Rattle.cr_run.specs.Survey.{files_so_far}
use Rattle.cr_run.proofs.Lookups.{found_if, surveyed_at}
use Rattle.cr_run.proofs.survey.Survey.is_clear_file.Goals as goal

pub returns-in-Some : goal.returns-in-Some
returns-in-Some c meaning files s units h there =
    (surveyed_at meaning s files c.args.path.now c.args.self.now.files.entries c.in-Some.found.now h.each (sym c.in-Some.ensures.value)).clear

pub returns-in-None : goal.returns-in-None
returns-in-None c meaning files s units h there =
    let gone : false ≡ list_any (bytes_eq c.args.path.now) (files_so_far s.source units) =
    ap is_some c.in-None.ensures.value ∙ found_if c.args.path.now c.args.self.now.files.entries ∙ ap (list_any (bytes_eq c.args.path.now)) h.paths in
    let no : false ≡ true = gone ∙ there in
    let bad : ⊥ = cc in
    absurd bad
