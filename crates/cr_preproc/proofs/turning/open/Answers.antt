use Rattle.std.proofs.Common.{◌≡◌, false, sym, ap, ◌∙◌}
use Rattle.cr_macros.specs.Tokens.{has}
use Rattle.cr_phase4.specs.Lines as lines
use Rattle.cr_phase4.specs.Directives.{Opening}
use Rattle.cr_preproc.specs.Progressing.{state_of}
use Rattle.cr_preproc.specs.OpenFiles.{reading_of}
use Rattle.cr_preproc.specs.Turning.{enters}
use Rattle.cr_preproc.proofs.Leadings.{leads_from}
use Rattle.cr_preproc.proofs.Openings.{good_names, file_opens, over_levels, over_reading, found_other, enters_none, enters_some, no_line}
use Rattle.cr_preproc.proofs.Falls.{same_most, one_less}
use Rattle.cr_preproc.proofs.turning.open.Goals as goal

pub returns-in_default-clause-opened : goal.returns-in_default-clause-opened
returns-in_default-clause-opened c w u site files found =
    let p = c.args.progress.now in
    let file = lines.file_of c.args.number.0 c.args.bytes.now in
    let other : has p.once c.args.path ≡ false = ap (has p.once) (sym c.bytes.ensures) ∙ sym c.has.ensures ∙ c.if-has.false in (
      leads_from 0 p p _ _ _
          (found_other (enters w u c.args.levels) site c.args.path c.args.number.0 c.args.bytes.now (state_of p) other
          ∙ ap (λ (enter : Opening). enter c.args.path file (state_of p)) (enters_none w u c.args.levels c.in_default.is))
          (over_levels w u c.args.path file p),
      c.requires.good,
    )

pub returns-then-not-may_read-clause-opened : goal.returns-then-not-may_read-clause-opened
returns-then-not-may_read-clause-opened c w u site files found =
    let p = c.args.progress.now in
    let q = c.may_read.new.self in
    let file = lines.file_of c.args.number.0 c.args.bytes.now in
    let none = c.may_read.ensures.none c.if-not-may_read.true in
    let other : has p.once c.args.path ≡ false = ap (has p.once) (sym c.bytes.ensures) ∙ sym c.has.ensures ∙ c.if-has.false in (
      leads_from 0 p q _ _ _
          (found_other (enters w u c.args.levels) site c.args.path c.args.number.0 c.args.bytes.now (state_of p) other
          ∙ ap (λ (enter : Opening). enter c.args.path file (state_of p)) (enters_some w u c.args.levels c.in-Some.levels c.in-Some.is))
          (over_reading w u c.in-Some.levels c.args.path file p q none.0 none.1),
      c.may_read.ensures.good,
    )

pub returns-clause-opened : goal.returns-clause-opened
returns-clause-opened c w u site files found =
    let p = c.args.progress.now in
    let q = c.may_read.new.self in
    let names = c.new.new.names in
    let file = lines.file_of c.args.number.0 c.args.bytes.now in
    let read = c.may_read.ensures.read c.if-not-may_read.false in
    let law = c.defined_macros_are_known.ensures in
    let good = c.may_read.ensures.good in
    let begins = c.in_ok-file.ensures.begins files found in
    let other : has p.once c.args.path ≡ false = ap (has p.once) (sym c.bytes.ensures) ∙ sym c.has.ensures ∙ c.if-has.false in (
      leads_from 0 p (record q { names = names }) _ _ _
          (found_other (enters w u c.args.levels) site c.args.path c.args.number.0 c.args.bytes.now (state_of p) other
          ∙ ap (λ (enter : Opening). enter c.args.path file (state_of p)) (enters_some w u c.args.levels c.in-Some.levels c.in-Some.is))
          (file_opens w u c.in-Some.levels c.args.number.0 c.args.path c.args.bytes.now p q names (reading_of names files c.in_ok-file.file) law c.requires.good good read.0 read.1 c.new.ensures.names begins),
      good_names q names law good c.new.ensures.names (c.new.ensures.distinct good.distinct),
      c.in_ok-file.ensures.open files found,
      no_line names files c.in_ok-file.file (ap (λ r. r.taken) begins),
    )

pub returns-then-not-may_read-clause-counts : goal.returns-then-not-may_read-clause-counts
returns-then-not-may_read-clause-counts c = same_most c.args.progress.now c.may_read.new.self (ap (λ x. x.reading) (c.may_read.ensures.none c.if-not-may_read.true).1)

pub returns-clause-counts : goal.returns-clause-counts
returns-clause-counts c = one_less c.args.progress.now c.may_read.new.self (c.may_read.ensures.read c.if-not-may_read.false)
