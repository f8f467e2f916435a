use Rattle.std.proofs.Common.{◌∙◌, List, [], ap, sym, subst}
use Rattle.cr_base.specs.declared.token.Place.{Place}
use Rattle.cr_base.specs.declared.token.PpTok.{PpTok}
use Rattle.cr_macros.specs.Tokens.{tokens_of}
use Rattle.cr_phase4.specs.Tasks.{Task, Nothing, Ends, End}
use Rattle.cr_phase4.specs.Search.{world_of}
use Rattle.cr_phase4.specs.Preprocessing.{does_file}
use Rattle.cr_preproc.specs.declared.progress.Progress.{Progress}
use Rattle.cr_preproc.specs.declared.turning.Doing.TheVariants as doing
use Rattle.cr_preproc.specs.Leading.{Leads, includes_given}
use Rattle.cr_preproc.specs.Listings.{IsListed, IsOneMore, IsListEnd, IsListFault}
use Rattle.cr_preproc.specs.OpenFiles.{reading_of, IsOpen}
use Rattle.cr_preproc.specs.Turning.{directed_left, IsBehind}
use Rattle.cr_preproc.proofs.DirectiveTurns.{behind_from}
use Rattle.cr_preproc.proofs.Falls.{same_most}
use Rattle.cr_preproc.proofs.IncludeTurns.{include_left, include_leads, include_ends, include_fails, noted_working}
use Rattle.cr_preproc.proofs.Turns.{with_used}
use Rattle.cr_preproc.proofs.turning.include_turn.Goals as goal

pub returns-in-Goes : goal.returns-in-Goes
returns-in-Goes c = record {
  turned =
      let w = world_of c.args.context.snapshot.now in
      let u = c.args.context.unit.now in
      let files = c.args.context.snapshot.now in
      let p = c.args.progress.now in
      let q = c.step.new.progress in
      let f = c.args.file.now in
      let l = c.args.listing in
      let m = c.step.new.self in
      let more : IsOneMore p q l m = subst (IsListed p q l m) c.in-Goes.is c.in_ok-step.ensures.listed in (
        λ k.
            subst (λ (h : Place). Leads 1 p q (include_left w u p (reading_of p.names files f) k l.expansion.value l.given.items l.hash) (include_left w u q (reading_of q.names files f) k m.expansion.value m.given.items h)) (sym more.hash)
            (include_leads c.defined_macros_are_known.ensures w u files p q f more.told l.expansion.value m.expansion.value l.hash l.given.items c.requires.good c.requires.open c.requires.listing.given more.noted more.one more.gave m.given.items more.still more.given k),
        noted_working files p q f more.told (doing.Includes m) c.requires.open c.requires.line more.noted c.in_ok-step.ensures.good (more.listing, more.literal ∙ c.requires.literal),
      );
  falls = tt;
}

pub returns-in-Fails : goal.returns-in-Fails
returns-in-Fails c = record {
  turned =
      let w = world_of c.args.context.snapshot.now in
      let u = c.args.context.unit.now in
      let files = c.args.context.snapshot.now in
      let p = c.args.progress.now in
      let q = c.step.new.progress in
      let f = c.args.file.now in
      let l = c.args.listing in
      let bad : IsListFault p q l _ = subst (IsListed p q l c.step.new.self) c.in-Fails.is c.in_ok-step.ensures.listed in (
        λ k.
            subst (λ (end : End). Leads {A = Nothing} 0 p q (include_left w u p (reading_of p.names files f) k l.expansion.value l.given.items l.hash) (Ends end [])) (sym bad.moves)
            (include_fails w u files p q f l.expansion.value l.hash l.given.items bad.cause bad.stops bad.noted.told k),
        c.in_ok-step.ensures.good,
      );
  falls = tt;
}

pub returns-in_ok-next-in-Ends : goal.returns-in_ok-next-in-Ends
returns-in_ok-next-in-Ends c = record {
  turned =
      let w = world_of c.args.context.snapshot.now in
      let u = c.args.context.unit.now in
      let files = c.args.context.snapshot.now in
      let p = c.args.progress.now in
      let q = c.step.new.progress in
      let v = c.after_include.new.progress in
      let f = c.args.file.now in
      let l = c.args.listing in
      let m = c.step.new.self in
      let n = c.used-progress.result in
      let end : IsListEnd p q l m = subst (IsListed p q l m) c.in-Ends.is c.in_ok-step.ensures.listed in
      let before = λ (k : Task Nothing). include_left w u p (reading_of p.names files f) k l.expansion.value l.given.items l.hash in
      let left = λ (us : List PpTok) (k : Task Nothing). directed_left w u (with_used q n) (reading_of q.names files f) k (includes_given w u (does_file w u f.levels) f.path m.hash (tokens_of q.names us)) in
      c.behind_run.ensures.turned w u files p v (doing.Includes l)
      (subst (λ names. IsOpen names files f) (sym c.after_include.ensures.names) (subst (λ (y : Progress). IsOpen y.names files f) (sym end.same) c.requires.open))
      (behind_from w u files p (with_used q n) v f before (left m.given.items) c.in_ok-next-in-Ends.next c.requires.good
      (include_ends w u files p q f l m n c.used-progress.ensures end)
      (subst (λ us. IsBehind w u files (with_used q n) v f (left us) c.in_ok-next-in-Ends.next) c.deref.ensures.value c.in_ok-next-in-Ends.ensures.behind));
  falls =
      let p = c.args.progress.now in
      let q = c.step.new.progress in
      let v = c.after_include.new.progress in
      let l = c.args.listing in
      let end : IsListEnd p q l c.step.new.self = subst (IsListed p q l c.step.new.self) c.in-Ends.is c.in_ok-step.ensures.listed in
      c.behind_run.ensures.falls p v (doing.Includes l) (same_most p v (c.in_ok-next-in-Ends.ensures.reading ∙ ap (λ x. x.reading) end.same)) c.in_ok-next-in-Ends.ensures.falls;
}
