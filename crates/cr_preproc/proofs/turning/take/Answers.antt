use Rattle.std.proofs.Common.{◌≡◌, ◌<◌, length, refl, sym, ap, subst}
use Rattle.cr_preproc.specs.OpenFiles.{IsOpen, bytes_of, bytes_at}
use Rattle.cr_phase4.specs.Search.{world_of}
use Rattle.cr_preproc.proofs.NextTurns.{as_read, next_turn, limit_turn, took_turn}
use Rattle.cr_preproc.proofs.OpenLater.{open_reading}
use Rattle.cr_preproc.proofs.Falls.{reads_some, run_falls}
use Rattle.cr_preproc.proofs.turning.take.Goals as goal

pub may_read-requires : goal.may_read-requires
may_read-requires c = record { good = c.requires.working.progress }

pub expand_run-requires-clause-good : goal.expand_run-requires-clause-good
expand_run-requires-clause-good c = c.may_read.ensures.good

pub expand_run-requires-clause-literal : goal.expand_run-requires-clause-literal
expand_run-requires-clause-literal c =
    let o = subst (λ n. IsOpen n c.args.snapshot.now c.args.file.now) (sym c.may_read.ensures.names) c.requires.working.file in
    (c.in_ok-put_text.ensures.open c.args.snapshot.now o).literal

pub expand_run-requires-clause-run : goal.expand_run-requires-clause-run
expand_run-requires-clause-run c =
    let o = subst (λ n. IsOpen n c.args.snapshot.now c.args.file.now) (sym c.may_read.ensures.names) c.requires.working.file in
    (c.in_ok-put_text.ensures.open c.args.snapshot.now o).run

pub returns-then-not-may_read : goal.returns-then-not-may_read
returns-then-not-may_read c = record {
  turned = λ u.
      let files = c.args.snapshot.now in
      let p = c.args.progress.now in
      let q = c.may_read.new.self in
      let f = c.args.file.now in
      let g = c.put_text.new.self in
      let none = c.if-not-may_read.ensures.none refl in
      let o = c.in_ok-put_text.ensures.open files (subst (λ n. IsOpen n files f) (sym c.may_read.ensures.names) c.requires.working.file) in
      next_turn (world_of files) u files p q f g c.args.doing.now c.in_ok-doing.field-0 c.requires.reads
      (limit_turn (world_of files) u files p q f g c.in_ok-doing.field-0 c.site_of-place.result none.1 (as_read files p f c.args.doing.now c.requires.working) c.requires.line c.requires.token none.0
      c.in_ok-put_text.ensures.rest
      (c.in_ok-put_text.ensures.reads files)
      (λ k. c.in_ok-doing.ensures.left (world_of files) u files k o)
      o c.in_ok-doing.ensures.does);
  falls =
      run_falls c.args.progress.now c.may_read.new.self c.args.file.now c.put_text.new.self c.args.doing.now c.in_ok-doing.field-0 (ap (λ x. x.reading) (c.if-not-may_read.ensures.none refl).1)
      (c.in_ok-doing.ensures.falls c.put_text.new.self) (reads_some c.args.file.now c.args.doing.now c.requires.reads);
}

pub take-requires-clause-bytes : goal.take-requires-clause-bytes
take-requires-clause-bytes c = c.in-Known.ensures.small c.in-Known.field-0.0 c.in-Known.bytes.now (sym c.in-Known.ensures.found)

pub take-requires-clause-room : goal.take-requires-clause-room
take-requires-clause-room c = subst (λ n. length n < 2147483648) (sym c.may_read.ensures.names) c.requires.room

pub take-requires-clause-within : goal.take-requires-clause-within
take-requires-clause-within c =
    let files = c.args.snapshot.now in
    let o = subst (λ n. IsOpen n files c.args.file.now) (sym c.may_read.ensures.names) c.requires.working.file in
    (open_reading c.may_read.new.self.names files c.args.file.now c.in-Known.bytes.now o (ap bytes_of (sym c.in-Known.ensures.found))).0

pub returns : goal.returns
returns c = record {
  turned = λ u.
      let files = c.args.snapshot.now in
      let p = c.args.progress.now in
      let q = c.may_read.new.self in
      let f = c.args.file.now in
      let at : bytes_at files f.path ≡ c.in-Known.bytes.now = ap bytes_of (sym c.in-Known.ensures.found) in
      let o = subst (λ n. IsOpen n files f) (sym c.may_read.ensures.names) c.requires.working.file in
      took_turn (world_of files) u files p q c.take.new.names f c.take.new.self c.args.doing.now c.requires.reads c.defined_macros_are_known.ensures (as_read files p f c.args.doing.now c.requires.working)
      (c.if-not-may_read.ensures.read refl) c.may_read.ensures.good c.take.ensures.names (c.take.ensures.distinct c.may_read.ensures.good.distinct)
      (c.in_ok-take-in-Known.ensures.open files o at) c.requires.line c.requires.token (c.in_ok-take-in-Known.ensures.takes files o at);
  falls = tt;
}
