use Rattle.std.proofs.Common.{◌<◌, subst, arith}
use Rattle.cr_preproc.specs.Falling.{IsUnexpanded}
use Rattle.cr_macros.specs.Tokens.{tokens_of}
use Rattle.cr_phase4.specs.Search.{world_of}
use Rattle.cr_preproc.proofs.DirectiveTurns.{follow_goes, follow_fails, follow_looks, follow_expands}
use Rattle.cr_preproc.proofs.Falls.{below_reads, below_looks}
use Rattle.cr_preproc.proofs.turning.follow_directed.Goals as goal

pub returns-in-Goes : goal.returns-in-Goes
returns-in-Goes c = record {
  behind = λ old m same h.
      follow_goes (world_of c.args.context.snapshot.now) c.args.context.unit.now c.args.context.snapshot.now old c.args.progress.now c.args.file.now c.args.hash (tokens_of c.args.progress.now.names c.args.rest.now) m same c.requires.good c.args.directed c.in-Goes.is h;
  falls = below_reads 5 (omega arith);
  unexpanded = λ h. below_reads 4 (omega arith);
}

pub returns-in-Fails : goal.returns-in-Fails
returns-in-Fails c = record {
  behind = λ old m same h.
      follow_fails (world_of c.args.context.snapshot.now) c.args.context.unit.now c.args.context.snapshot.now old c.args.progress.now c.args.file.now c.args.hash (tokens_of c.args.progress.now.names c.args.rest.now) m same c.requires.good c.args.directed c.in-Fails.fault c.in-Fails.is h;
  falls = tt;
  unexpanded = λ h. tt;
}

pub returns-in_ok-listing-in-Expands : goal.returns-in_ok-listing-in-Expands
returns-in_ok-listing-in-Expands c = record {
  behind = λ old m same h.
      let made = c.in_ok-listing-in-Expands.ensures in
      follow_expands (world_of c.args.context.snapshot.now) c.args.context.unit.now c.args.context.snapshot.now old c.args.progress.now c.args.file.now c.args.hash (tokens_of c.args.progress.now.names c.args.rest.now) m same c.requires.good c.args.directed
      c.in_ok-listing-in-Expands.listing c.in-Expands.is made.listing made.literal c.requires.open.literal_text made.still made.given made.hash h;
  falls = λ g none. let h : 4 < 5 = omega arith in h;
  unexpanded = λ h. absurd (subst IsUnexpanded c.in-Expands.is h);
}

pub returns-in_ok-doing-in-Looks : goal.returns-in_ok-doing-in-Looks
returns-in_ok-doing-in-Looks c = record {
  behind = λ old m same h.
      follow_looks (world_of c.args.context.snapshot.now) c.args.context.unit.now c.args.context.snapshot.now old c.args.progress.now c.args.file.now c.args.hash (tokens_of c.args.progress.now.names c.args.rest.now) m same c.requires.good c.args.directed
      c.in-Looks.header c.in-Looks.site c.in_ok-doing-in-Looks.doing c.in-Looks.is (c.in_ok-doing-in-Looks.ensures c.args.progress.now.names c.requires.open) h;
  falls = below_looks _ _ c.in_ok-doing-in-Looks.doing 5 (omega arith) (c.in_ok-doing-in-Looks.ensures c.args.progress.now.names c.requires.open);
  unexpanded = λ h. below_looks _ _ c.in_ok-doing-in-Looks.doing 4 (omega arith) (c.in_ok-doing-in-Looks.ensures c.args.progress.now.names c.requires.open);
}
