use Rattle.std.proofs.Common.{[], refl, sym, ap, ◌∙◌, arith}
use Rattle.cr_macros.specs.Tokens.{token_of, tokens_of}
use Rattle.cr_phase4.specs.Lines.{line_of}
use Rattle.cr_preproc.specs.OpenFiles.{Reading}
use Rattle.cr_preproc.specs.Seen.{seen_line}
use Rattle.cr_preproc.specs.declared.turning.Doing.TheVariants as doing
use Rattle.cr_preproc.specs.declared.turning.Then.TheVariants as then
use Rattle.cr_preproc.proofs.LineTurns.{word_does, led_names, led_asks}
use Rattle.cr_preproc.proofs.NextTurns.{parts_named, plain_next, skipped_next, directive_next, other_line, conditional_works, conditional_next}
use Rattle.cr_preproc.proofs.OpenLater.{given_later, named_later}
use Rattle.cr_preproc.proofs.Falls.{empty_below, conditional_reads, rank_below}
use Rattle.cr_preproc.proofs.turning.carry_out.Goals as goal

pub conditional-requires-clause-word : goal.conditional-requires-clause-word
conditional-requires-clause-word c =
    (parts_named c.args.progress.now.names c.args.file.now.line.items c.deref.result.now c.in-Conditional.ensures.parts.0 c.in-Conditional.t c.in-Conditional.rest.now c.requires.line c.deref.ensures.value c.in-Conditional.ensures.parts.1).0

pub conditional-requires-clause-rest : goal.conditional-requires-clause-rest
conditional-requires-clause-rest c =
    (parts_named c.args.progress.now.names c.args.file.now.line.items c.deref.result.now c.in-Conditional.ensures.parts.0 c.in-Conditional.t c.in-Conditional.rest.now c.requires.line c.deref.ensures.value c.in-Conditional.ensures.parts.1).1

pub follow-requires-clause-literal : goal.follow-requires-clause-literal
follow-requires-clause-literal c =
    let p = c.args.progress.now in
    let f = c.args.file.now in
    let d = c.in-Conditional in
    given_later p.names c.conditional.new.progress.names f.literal.0
    (led_names f.path p c.conditional.new.progress d.hash f.open_ifs c.conditional.new.open_ifs (word_does f.path d.hash (token_of p.names [] d.t) d.word (tokens_of p.names d.rest.now) f.open_ifs) c.in_ok-led-in-Conditional.led (c.in_ok-led-in-Conditional.ensures.led f.path))
    c.requires.literal

pub follow-requires-clause-run : goal.follow-requires-clause-run
follow-requires-clause-run c =
    let p = c.args.progress.now in
    let f = c.args.file.now in
    let d = c.in-Conditional in
    named_later p.names c.conditional.new.progress.names f.run.items
    (led_names f.path p c.conditional.new.progress d.hash f.open_ifs c.conditional.new.open_ifs (word_does f.path d.hash (token_of p.names [] d.t) d.word (tokens_of p.names d.rest.now) f.open_ifs) c.in_ok-led-in-Conditional.led (c.in_ok-led-in-Conditional.ensures.led f.path))
    c.requires.run

pub follow-requires-clause-asked : goal.follow-requires-clause-asked
follow-requires-clause-asked c =
    let p = c.args.progress.now in
    let f = c.args.file.now in
    let d = c.in-Conditional in
    led_asks f.path p c.conditional.new.progress d.hash f.open_ifs c.conditional.new.open_ifs (word_does f.path d.hash (token_of p.names [] d.t) d.word (tokens_of p.names d.rest.now) f.open_ifs) c.in_ok-led-in-Conditional.led (c.in_ok-led-in-Conditional.ensures.led f.path)

pub returns-in_ok-put_text-in-Plain : goal.returns-in_ok-put_text-in-Plain
returns-in_ok-put_text-in-Plain c = record {
  next = λ w u files works h.
      let names = c.args.progress.now.names in
      plain_next w u files c.args.progress.now c.args.file.now c.end_line.new.self works h
      (c.in-Plain.ensures.seen ∙ ap (λ l. line_of (tokens_of names l)) c.deref.ensures.value)
      (c.end_line.ensures.reads names files ∙ ap (λ (x : Reading). record x { taken = [] }) (c.in_ok-put_text-in-Plain.ensures.reads files))
      (c.end_line.ensures.open names files (c.in_ok-put_text-in-Plain.ensures.open files works.file))
      c.end_line.ensures.line;
  reading = refl;
  falls = empty_below c.end_line.new.self doing.Reads 6 (omega arith) c.end_line.ensures.line refl;
}

pub returns-in_ok-next-in-Conditional : goal.returns-in_ok-next-in-Conditional
returns-in_ok-next-in-Conditional c = record {
  next = λ w u files works h.
      let p = c.args.progress.now in
      let q = c.conditional.new.progress in
      let f = c.args.file.now in
      let d = c.in-Conditional in
      let t = token_of p.names [] d.t in
      let ts = tokens_of p.names d.rest.now in
      let ds = c.conditional.new.open_ifs in
      let led = c.in_ok-led-in-Conditional.ensures.led f.path in
      let then_works = conditional_works files p q f ds d.hash t d.word ts c.in_ok-led-in-Conditional.led works.file led works c.in_ok-led-in-Conditional.ensures.good in
      conditional_next files p q f ds d.hash t d.word ts c.in_ok-led-in-Conditional.led works.file led w u c.follow.new.file c.in_ok-next-in-Conditional.next h
      (d.ensures.seen ∙ ap (λ l. line_of (tokens_of p.names l)) c.deref.ensures.value)
      (λ k. c.in_ok-next-in-Conditional.ensures.next w u files k then_works)
      (c.in_ok-next-in-Conditional.ensures.working files then_works);
  reading =
      let p = c.args.progress.now in
      let f = c.args.file.now in
      let d = c.in-Conditional in
      conditional_reads f.path p c.conditional.new.progress d.hash f.open_ifs c.conditional.new.open_ifs (token_of p.names [] d.t) d.word (tokens_of p.names d.rest.now) c.in_ok-led-in-Conditional.led (c.in_ok-led-in-Conditional.ensures.led f.path);
  falls = c.in_ok-next-in-Conditional.ensures.falls;
}

pub returns-in_ok-begun-in-Directive : goal.returns-in_ok-begun-in-Directive
returns-in_ok-begun-in-Directive c = record {
  next = λ w u files works h.
      let names = c.args.progress.now.names in
      directive_next w u files c.args.progress.now c.args.file.now works c.in_ok-begun-in-Directive.begun then.Line
      (λ k. c.in_ok-begun-in-Directive.ensures.left w u files k works.file) c.in_ok-begun-in-Directive.ensures.does
      (seen_line names c.line_of.result) h
      (c.line_of.ensures.seen ∙ ap (λ l. line_of (tokens_of names l)) c.deref.ensures.value)
      (other_line names c.line_of.result c.in-Directive.is)
      (sym c.is_live.ensures ∙ c.if-is_live.true)
      refl;
  reading = refl;
  falls = rank_below c.args.file.now c.in_ok-begun-in-Directive.begun 5 6 (omega arith) (c.in_ok-begun-in-Directive.ensures.falls c.args.file.now);
}

pub returns-else-is_live : goal.returns-else-is_live
returns-else-is_live c = record {
  next = λ w u files works h.
      let names = c.args.progress.now.names in
      skipped_next w u files c.args.progress.now c.args.file.now c.end_line-else-is_live.new.self works (seen_line names c.line_of.result) h
      (c.line_of.ensures.seen ∙ ap (λ l. line_of (tokens_of names l)) c.deref.ensures.value)
      (other_line names c.line_of.result c.in-Directive.is)
      (sym c.is_live.ensures ∙ c.if-is_live.false)
      (c.end_line-else-is_live.ensures.reads names files)
      (c.end_line-else-is_live.ensures.open names files works.file)
      c.end_line-else-is_live.ensures.line;
  reading = refl;
  falls = empty_below c.end_line-else-is_live.new.self doing.Reads 6 (omega arith) c.end_line-else-is_live.ensures.line refl;
}
