use Rattle.std.proofs.Common.{◌≡◌, ap, subst, arith, None}
use Rattle.cr_ll.specs.Machine.{Config}
use Rattle.cr_sema.specs.Sema.{source_of}
use Rattle.cr_reading.specs.Loops.{LeadsOn}
use Rattle.cr_reading.proofs.Onwards.{first_reads}
use Rattle.cr_reading.proofs.reading.read_tokens.Goals as goal

pub tokens-init : goal.tokens-init
tokens-init c =
    let first : c.in_ok-machine.machine.place ≡ 0 = ap (λ (z : Config). z.place) c.in_ok-machine.ensures.0 in
    record {
      reads = first_reads (source_of c.args.names.now c.args.tokens.now) c.in_ok-machine.machine c.in_ok-sema.sema c.in_ok-machine.ensures (c.in_ok-sema.ensures (source_of c.args.names.now c.args.tokens.now));
      idle = c.in_ok-machine.ensures.1;
      place = first;
      placed = omega (arith, first);
    }

pub returns-in-Some : goal.returns-in-Some
returns-in-Some c =
    let t = source_of c.args.names.now c.args.tokens.now in
    c.read_of.ensures t (subst (LeadsOn t c.tokens.machine c.pass_token.new.machine c.pass_token.new.sema) c.in-Some.is (c.in_ok-end.ensures.leads))

pub tokens-preserved : goal.tokens-preserved
tokens-preserved c =
    let t = source_of c.args.names.now c.args.tokens.now in
    let l : LeadsOn t c.tokens.machine c.pass_token.new.machine c.pass_token.new.sema None =
    subst (LeadsOn t c.tokens.machine c.pass_token.new.machine c.pass_token.new.sema) c.in_default.is c.in_ok-end.ensures.leads
    in
    record { reads = l.0; idle = l.1; place = omega (arith, l.2, c.tokens.invariant.place); placed = c.in_ok-end.ensures.placed }
