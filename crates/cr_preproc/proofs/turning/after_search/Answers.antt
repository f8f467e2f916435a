use Rattle.std.proofs.Common.{◌≡◌, refl, sym, ap, ◌∙◌}
use Rattle.cr_snapshot.specs.Files.{finding}
use Rattle.cr_phase4.specs.Search as searching
use Rattle.cr_phase4.specs.Search.{world_of}
use Rattle.cr_phase4.specs.Directives.{opens, opens_found}
use Rattle.cr_preproc.specs.Seen.{seen_search}
use Rattle.cr_preproc.specs.Turning.{enters}
use Rattle.cr_preproc.proofs.Openings.{misses_file, finds_file, found_present, opened_behind}
use Rattle.cr_preproc.proofs.Falls.{same_most}
use Rattle.cr_preproc.proofs.turning.after_search.Goals as goal

pub returns-in-Misses : goal.returns-in-Misses
returns-in-Misses c = record {
  opened = λ u files paths e.
      (misses_file (world_of files) (enters (world_of files) u c.args.levels) c.args.site paths c.args.progress.now (sym (ap seen_search c.in-Misses.is) ∙ e), c.requires.good);
  counts = same_most c.args.progress.now c.args.progress.now refl;
}

pub returns-in_ok-turned-in-Finds : goal.returns-in_ok-turned-in-Finds
returns-in_ok-turned-in-Finds c = record {
  opened = λ u files paths e.
      let w = world_of files in
      let p = c.args.progress.now in
      let path = c.in-Finds.path in
      let n = c.in-Finds.number.0 in
      let bytes = c.in-Finds.bytes.now in
      let enter = enters w u c.args.levels in
      let found : searching.Finds path n bytes ≡ searching.search (λ path. finding path files) paths = sym (ap seen_search c.in-Finds.is) ∙ e in
      opened_behind w u files p c.open.new.progress (opens w enter c.args.site paths) (opens_found enter c.args.site (searching.Finds path n bytes)) c.in_ok-turned-in-Finds.turned c.requires.good
      (finds_file w enter c.args.site paths path n bytes p found)
      c.in_ok-turned-in-Finds.ensures.wants
      (c.in_ok-turned-in-Finds.ensures.opened w u c.args.site files (found_present (λ path. finding path files) paths path n bytes found));
  counts = c.in_ok-turned-in-Finds.ensures.counts;
}
