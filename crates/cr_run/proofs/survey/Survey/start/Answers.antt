use Rattle.std.proofs.Common.{◌≡◌, [], ◌∷◌, rules, refl, sym, ap, subst, ◌∙◌}
use Rattle.std.specs.BTreeMap.{insert_entry}
use Rattle.std.specs.Ordering.{nat_cmp}
use Rattle.std.specs.Cmp.Lexicographic.{slice_cmp}
use Rattle.cr_run.specs.Held.{StandsAt, AreSurveyed}
use Rattle.cr_run.proofs.Tables.{table_start}
use Rattle.cr_run.proofs.survey.Survey.start.Goals as goal

pub returns-clause-holds : goal.returns-clause-holds
returns-clause-holds c meaning files s same within size found =
    let one : c.insert.new.self.entries ≡ (c.args.source, c.args.found.file) ∷ [] =
    c.in_ok-insert.ensures.entries ∙ ap (λ es. insert_entry (slice_cmp nat_cmp) es c.args.source c.args.found.file) c.new-files.ensures.empty in
    record {
      paths = search rules;
      each = subst (AreSurveyed meaning s files) (sym one) (found.0, tt);
      total = search rules;
      within = search rules;
      table = table_start (StandsAt meaning s files) s.key (record { files = c.insert.new.self; last = 0; facts = c.args.found.facts; total = c.args.size }) c.args.source c.args.found
          (record { numbered = found.1.numbered; places = found.1.places; told = found.1.told; holds = found.1.holds; own = found.1.own }) one refl refl;
    }
