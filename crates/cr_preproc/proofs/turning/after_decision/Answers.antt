use Rattle.std.proofs.Common.{◌≡◌, ◌+◌, ◌≤◌, [], List, length, Result, Ok, Err, Bool, refl, sym, ap, ◌∙◌, subst, arith}
use Rattle.cr_macros.specs.Tokens.{Text, tokens_of}
use Rattle.cr_preproc.specs.declared.expansion.Fault.{Fault}
use Rattle.cr_preproc.specs.declared.turning.Doing.TheVariants as doing
use Rattle.cr_phase4.specs.declared.conditionals.OpenIf.{OpenIf}
use Rattle.cr_preproc.specs.OpenFiles.{Reading, reading_of, IsOpen}
use Rattle.cr_preproc.specs.Progressing.{state_of}
use Rattle.cr_preproc.specs.Leading.{chosen, IsDecided}
use Rattle.cr_preproc.specs.Expanding.{end_by}
use Rattle.cr_preproc.proofs.Leadings.{leads_to}
use Rattle.cr_preproc.proofs.OpenLater.{ifs_open}
use Rattle.cr_preproc.proofs.ListsLeft.{decided_ok, decided_fails, goes_chosen, fails_same, again, good_used}
use Rattle.cr_preproc.proofs.Falls.{empty_below, rank_below}
use Rattle.cr_preproc.proofs.turning.after_decision.Goals as goal

pub returns-in_ok-choose-in-Ok : goal.returns-in_ok-choose-in-Ok
returns-in_ok-choose-in-Ok c = record {
  next = λ w u files open1 fits.
      let p = c.args.progress.now in
      let q = c.decide.new.progress in
      let f = c.args.file.now in
      let g = c.end_line.new.self in
      let f1 = record f { open_ifs = c.choose.new.open_ifs } in
      let us = tokens_of p.names c.args.given.now in
      let good = c.in_ok-holds.ensures.good in
      let names = c.in_ok-holds.ensures.names in
      let r = reading_of p.names files f in
      let now = chosen c.args.decision c.args.hash f.open_ifs c.in-Ok.holds in
      let d : IsDecided c.args.hash p q us (Ok c.in-Ok.holds) = subst (λ (x : Result Bool Fault). IsDecided c.args.hash p q us x) c.in-Ok.is c.in_ok-holds.ensures.decided in
      let same : reading_of q.names files g ≡ record r { open_ifs = now; taken = [] } =
      c.end_line.ensures.reads q.names files
      ∙ ap {A = List Text} {B = Reading} (λ n. record (reading_of n files f1) { taken = [] }) names
      ∙ ap {A = List OpenIf} {B = Reading} (λ cs. record r { open_ifs = cs; taken = [] }) c.in_ok-choose-in-Ok.ensures.chosen in (
        (λ k. leads_to 0 (record p { used = c.args.before }) q _ _ _ (goes_chosen w u r (reading_of q.names files g) now k (state_of q) same)
            (decided_ok w u r k c.args.decision c.args.hash p q c.args.before us c.in-Ok.holds d)),
        record {
          progress = good;
          file = c.end_line.ensures.open q.names files (ifs_open q.names files f f1 (subst (λ (n : List Text). IsOpen n files f) (sym names) open1));
          line = (let e = ap length c.end_line.ensures.line in let l = good.reading in omega (arith, e, l));
          does = tt;
        },
      );
  reading = c.in_ok-holds.ensures.reading;
  falls = empty_below c.end_line.new.self doing.Reads 5 (omega arith) c.end_line.ensures.line refl;
}

pub returns-in_ok-doing-in-Err : goal.returns-in_ok-doing-in-Err
returns-in_ok-doing-in-Err c = record {
  next = λ w u files open1 fits.
      let p = c.args.progress.now in
      let q = c.decide.new.progress in
      let f = c.args.file.now in
      let before = c.args.before in
      let us = tokens_of p.names c.args.given.now in
      let names = c.in_ok-holds.ensures.names in
      let r = reading_of p.names files f in
      let fault = c.in-Err.fault in
      let d : IsDecided c.args.hash p q us (Err fault) = subst (λ (x : Result Bool Fault). IsDecided c.args.hash p q us x) c.in-Err.is c.in_ok-holds.ensures.decided in
      let open2 : IsOpen q.names files f = subst (λ (n : List Text). IsOpen n files f) (sym names) open1 in (
        (λ k. leads_to 0 (record p { used = before }) (record q { used = before }) _ _ _
            (fails_same (end_by fault) f.path (tokens_of p.names f.run.items) (tokens_of q.names f.run.items) (state_of (record p { used = before })) (state_of (record q { used = before })) (ap (λ (n : List Text). tokens_of n f.run.items) names) (again p q before d.1)
            ∙ sym (c.in_ok-doing-in-Err.ensures.left w u files k open2))
            (decided_fails w u r k c.args.decision c.args.hash p q before us fault d)),
        record {
          progress = good_used q before c.in_ok-holds.ensures.good c.requires.before;
          file = open2;
          line = (let e : q.reading ≡ p.reading = ap (λ s. s.reading) d.1 in let h : length f.line.items + p.reading ≤ 33554432 = fits in omega (arith, e, h));
          does = c.in_ok-doing-in-Err.ensures.does;
        },
      );
  reading = c.in_ok-holds.ensures.reading;
  falls = rank_below c.args.file.now c.in_ok-doing-in-Err.doing 1 5 (omega arith) (c.in_ok-doing-in-Err.ensures.falls c.args.file.now);
}
