use Rattle.std.proofs.Common.{rules, ◌≡◌, ap, sym, ◌∙◌, length, arith, subst, ℕ, List, Some}
use Rattle.cr_run.specs.Survey.{size_of}
use Rattle.std.specs.Option.{option_map}
use Rattle.cr_small.specs.Seen.{key_of_code}
use Rattle.cr_run.specs.Held.{wanted_of, IsFound, IsPlaced}
use Rattle.cr_run.specs.Table.{IsFinding, RisesIn}
use Rattle.cr_run.proofs.Meeting.{added}
use Rattle.cr_run.proofs.Meanings.{on_ok_more}
use Rattle.cr_run.proofs.survey.Survey.read_file.Goals as goal

pub returns-in-Bytes-clause-added : goal.returns-in-Bytes-clause-added
returns-in-Bytes-clause-added g c meaning files is told apart =
    let there = c.in-Bytes.ensures.file files told in
    let found = c.in_ok-found-in-Bytes.ensures.found meaning c.args.path.now is apart in
    let file = there ∙ ap (λ (xs : List ℕ). Some xs) (sym c.deref.ensures.value) in
    let bytes : c.len.result ≡ length c.read.new.into.items = search rules in
    let size : c.len.result ≡ size_of (files c.args.path.now) = bytes ∙ sym (ap size_of there) in
    added meaning (wanted_of c.args.sought.now) c.args.path.now c.in_ok-copy-in-Bytes.field-0 (files c.args.path.now) c.in_ok-found-in-Bytes.found c.in-Some.number c.len.result c.args.self.now c.add.new.self c.add.result
    c.in_ok-copy-in-Bytes.ensures c.in-Some.ensures.1 size (omega (arith, bytes, c.in-Bytes.ensures.handed))
    (subst (λ f. IsFound meaning (wanted_of c.args.sought.now) c.args.path.now f c.in-Some.number c.in_ok-found-in-Bytes.found) (sym file) found) c.add.ensures.adds

pub returns-in-Absent-clause-added : goal.returns-in-Absent-clause-added
returns-in-Absent-clause-added g c meaning files is told apart =
    let gone = c.in-Absent.ensures.file files told in
    added meaning (wanted_of c.args.sought.now) c.args.path.now c.in_ok-copy-in-Absent.field-0 (files c.args.path.now) c.unclear-found.result c.in-Some.number 0 c.args.self.now c.add-in-Absent.new.self c.add-in-Absent.result
    c.in_ok-copy-in-Absent.ensures c.in-Some.ensures.1 (sym (ap size_of gone)) (omega arith)
    (subst (λ f. IsFound meaning (wanted_of c.args.sought.now) c.args.path.now f c.in-Some.number c.unclear-found.result) (sym gone) (c.unclear-found.ensures.found meaning (wanted_of c.args.sought.now) c.args.path.now)) c.add-in-Absent.ensures.adds

pub returns-in-Bytes-clause-placed : goal.returns-in-Bytes-clause-placed
returns-in-Bytes-clause-placed g c =
    on_ok_more c.add.result _ (IsPlaced c.args.sought.now c.args.self.now → IsPlaced c.args.sought.now c.add.new.self)
    (λ h table. h c.args.sought.now.old.now (option_map key_of_code c.args.sought.now.key) c.in-Some.ensures.1 (subst (λ k. IsFinding (RisesIn c.args.sought.now.old.now) (option_map key_of_code c.args.sought.now.key) k c.in_ok-copy-in-Bytes.field-0 c.in_ok-found-in-Bytes.found) c.in-Some.ensures.1 (c.in_ok-found-in-Bytes.ensures.placed c.in_ok-copy-in-Bytes.field-0)) table)
    c.add.ensures.placed

pub returns-in-Absent-clause-placed : goal.returns-in-Absent-clause-placed
returns-in-Absent-clause-placed g c =
    on_ok_more c.add-in-Absent.result _ (IsPlaced c.args.sought.now c.args.self.now → IsPlaced c.args.sought.now c.add-in-Absent.new.self)
    (λ h table. h c.args.sought.now.old.now (option_map key_of_code c.args.sought.now.key) c.in-Some.ensures.1 (subst (λ k. IsFinding (RisesIn c.args.sought.now.old.now) (option_map key_of_code c.args.sought.now.key) k c.in_ok-copy-in-Absent.field-0 c.unclear-found.result) c.in-Some.ensures.1 (c.unclear-found.ensures.placed c.args.sought.now.old.now (option_map key_of_code c.args.sought.now.key) c.in_ok-copy-in-Absent.field-0)) table)
    c.add-in-Absent.ensures.placed
