use Rattle.std.proofs.Common.{sym, subst}
use Rattle.cr_preproc.specs.Seen.{AreNamed}
use Rattle.cr_preproc.proofs.listing.Listing.new.Goals as goal

pub returns-clause-listing : goal.returns-clause-listing
returns-clause-listing c = record {
  expanding = c.in_ok-boxed.ensures.expanding;
  given = subst (AreNamed c.args.progress.now.names) (sym c.new.ensures.items) tt;
}
