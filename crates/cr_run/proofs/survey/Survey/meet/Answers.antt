use Rattle.std.proofs.Common.{◌≡◌, true, false, ap, sym, ◌∙◌, length, arith, ◌≤◌}
use Rattle.std.proofs.lemmas.Bool.Decides.{nat_tests}
use Rattle.cr_run.specs.Survey.{is_too_long}
use Rattle.cr_run.specs.Held.{wanted_of}
use Rattle.cr_run.proofs.Lookups.{apart_source}
use Rattle.cr_run.proofs.Meeting.{known_if, met_known, met_new}
use Rattle.cr_run.proofs.survey.Survey.meet.Goals as goal

pub returns-then-contains_key-clause-met : goal.returns-then-contains_key-clause-met
returns-then-contains_key-clause-met g c meaning files done is told h =
    let size : length c.args.unit.now.words ≤ 16777216 = omega (arith, ap length c.bytes.ensures, c.if-bytes-gt-MAX_FILE.false) in
    let short : is_too_long (length c.args.unit.now.words) ≡ false = grind (arith, nat_tests) in
    met_known meaning files (wanted_of c.args.sought.now) done c.args.unit.now c.args.self.now h short (known_if meaning files (wanted_of c.args.sought.now) done c.args.unit.now c.args.self.now h true (sym c.if-contains_key.true ∙ c.contains_key.ensures))

pub returns-clause-met : goal.returns-clause-met
returns-clause-met g c meaning files done is told h =
    let size : length c.args.unit.now.words ≤ 16777216 = omega (arith, ap length c.bytes.ensures, c.if-bytes-gt-MAX_FILE.false) in
    let short : is_too_long (length c.args.unit.now.words) ≡ false = grind (arith, nat_tests) in
    let fresh = known_if meaning files (wanted_of c.args.sought.now) done c.args.unit.now c.args.self.now h false (sym c.if-contains_key.false ∙ c.contains_key.ensures) in
    met_new meaning files (wanted_of c.args.sought.now) done c.args.unit.now c.args.self.now h c.facts_are_ordered.ensures c.read_file.new.self c.read_file.result short fresh
    (c.read_file.ensures.added meaning files is told (apart_source c.args.sought.now.source.now done c.args.unit.now.main fresh))
