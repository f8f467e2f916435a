use Rattle.std.proofs.Common.{◌≡◌, ◌++◌, ◌-◌, [], length, None, drop, refl, sym, ap, ◌∙◌, subst}
use Rattle.cr_expand.specs.Held.{noted, watch_of}
use Rattle.cr_expand.specs.Machines.{IsAhead, IsStep, IsOutKnown}
use Rattle.cr_expand.specs.declared.machine.ExpStep.TheVariants as step
use Rattle.cr_expand.specs.declared.machine.TheConstants.{LIMIT}
use Rattle.cr_macros.specs.Tokens.{Gave}
use Rattle.cr_preproc.specs.Progressing.{IsProgress}
use Rattle.cr_preproc.proofs.NamesGrow.{known_later}
use Rattle.cr_preproc.proofs.Expandings.{noted_more, progress_more, expanding_more, distinct_of, seen_behind, seen_longer, keeps_nothing, stops_at}
use Rattle.cr_preproc.proofs.expansion.Expansion.step.Goals as goal

pub keep-requires : goal.keep-requires
keep-requires c =
    let a : IsAhead c.args.progress.now.names c.step.new.names c.args.progress.now.macros c.args.self.now.expander.machine c.step.new.self.machine [] (step.Out c.in-Ok-Out.t) = subst (λ s. IsAhead c.args.progress.now.names c.step.new.names c.args.progress.now.macros c.args.self.now.expander.machine c.step.new.self.machine [] s) c.in-Ok-Out.field-0-is (c.in-Ok-Out.ensures.ahead c.requires.expanding.fault [] (λ _. refl)) in
    seen_longer c.seen-before.result.now c.seen.result.now (noted (watch_of c.args.progress.now.names c.args.self.now.expander.machine.notes) a.1.events)
    (c.seen.ensures ∙ a.1.seen ∙ ap (λ l. l ++ noted (watch_of c.args.progress.now.names c.args.self.now.expander.machine.notes) a.1.events) (sym c.seen-before.ensures))

pub keep-requires-in-Ok-More : goal.keep-requires-in-Ok-More
keep-requires-in-Ok-More c =
    let a : IsAhead c.args.progress.now.names c.step.new.names c.args.progress.now.macros c.args.self.now.expander.machine c.step.new.self.machine [] (step.More) = subst (λ s. IsAhead c.args.progress.now.names c.step.new.names c.args.progress.now.macros c.args.self.now.expander.machine c.step.new.self.machine [] s) c.in-Ok-More.field-0-is (c.in-Ok-More.ensures.ahead c.requires.expanding.fault [] (λ _. refl)) in
    seen_longer c.seen-before.result.now c.seen-in-Ok-More.result.now (noted (watch_of c.args.progress.now.names c.args.self.now.expander.machine.notes) a.0.events)
    (c.seen-in-Ok-More.ensures ∙ a.0.seen ∙ ap (λ l. l ++ noted (watch_of c.args.progress.now.names c.args.self.now.expander.machine.notes) a.0.events) (sym c.seen-before.ensures))

pub text-requires : goal.text-requires
text-requires c = known_later c.args.progress.now.names c.step.new.names c.args.progress.now.renaming.old c.in-Err.ensures.grows c.requires.good.old

pub returns-in_ok-keep-in-Ok-Out-clause-used : goal.returns-in_ok-keep-in-Ok-Out-clause-used
returns-in_ok-keep-in-Ok-Out-clause-used c =
    let x = c.requires.expanding in
    let a : IsAhead c.args.progress.now.names c.step.new.names c.args.progress.now.macros c.args.self.now.expander.machine c.step.new.self.machine [] (step.Out c.in-Ok-Out.t) = subst (λ s. IsAhead c.args.progress.now.names c.step.new.names c.args.progress.now.macros c.args.self.now.expander.machine c.step.new.self.machine [] s) c.in-Ok-Out.field-0-is (c.in-Ok-Out.ensures.ahead c.requires.expanding.fault [] (λ _. refl)) in
    let s = c.in-Ok-Out.ensures.step x.fault in
    let p = c.args.progress.now in
    let n = noted (watch_of p.names c.args.self.now.expander.machine.notes) a.1.events in
    let e : c.seen.result.now ≡ c.seen-before.result.now ++ n = c.seen.ensures ∙ a.1.seen ∙ ap (λ l. l ++ n) (sym c.seen-before.ensures) in (
      a.0,
      a.1.events,
      a.2,
      (a.1.one, a.1.last),
      a.3,
      a.4,
      a.1.goes,
      subst (IsOutKnown c.step.new.names) c.in-Ok-Out.field-0-is c.in-Ok-Out.ensures.named,
      noted_more p c.step.new.names c.keep.new.trace c.args.self.now.expander.machine.notes a.1.events (drop (length c.seen-before.result.now) c.seen.result.now) c.requires.good s.1 x.from x.to (seen_behind c.seen-before.result.now c.seen.result.now n e) c.in_ok-keep-in-Ok-Out.ensures,
      expanding_more p c.step.new.names c.keep.new.trace c.args.self.now (record { expander = c.step.new.self; place = c.args.self.now.place }) x s.1 s.2 c.in-Ok-Out.ensures.running c.in-Ok-Out.ensures.fault (c.in-Ok-Out.ensures.limit x.limit),
      s.2.2,
    )

pub returns-in_ok-keep-in-Ok-Out-clause-good : goal.returns-in_ok-keep-in-Ok-Out-clause-good
returns-in_ok-keep-in-Ok-Out-clause-good c =
    let s = c.in-Ok-Out.ensures.step c.requires.expanding.fault in
    progress_more c.args.progress.now c.step.new.names c.keep.new.trace c.defined_macros_are_known.ensures c.requires.good s.1 (distinct_of c.step.new.names c.args.progress.now.macros c.step.new.self c.in-Ok-Out.ensures.running c.in-Ok-Out.ensures.fault)

pub returns-in_ok-keep-in-Ok-More-clause-used : goal.returns-in_ok-keep-in-Ok-More-clause-used
returns-in_ok-keep-in-Ok-More-clause-used c =
    let x = c.requires.expanding in
    let a : IsAhead c.args.progress.now.names c.step.new.names c.args.progress.now.macros c.args.self.now.expander.machine c.step.new.self.machine [] (step.More) = subst (λ s. IsAhead c.args.progress.now.names c.step.new.names c.args.progress.now.macros c.args.self.now.expander.machine c.step.new.self.machine [] s) c.in-Ok-More.field-0-is (c.in-Ok-More.ensures.ahead c.requires.expanding.fault [] (λ _. refl)) in
    let s = c.in-Ok-More.ensures.step x.fault in
    let p = c.args.progress.now in
    let n = noted (watch_of p.names c.args.self.now.expander.machine.notes) a.0.events in
    let e : c.seen-in-Ok-More.result.now ≡ c.seen-before.result.now ++ n = c.seen-in-Ok-More.ensures ∙ a.0.seen ∙ ap (λ l. l ++ n) (sym c.seen-before.ensures) in (
      a.0.events,
      (a.0.one, a.0.last),
      a.1,
      a.0.goes,
      noted_more p c.step.new.names c.keep-in-Ok-More.new.trace c.args.self.now.expander.machine.notes a.0.events (drop (length c.seen-before.result.now) c.seen-in-Ok-More.result.now) c.requires.good s.1 x.from x.to (seen_behind c.seen-before.result.now c.seen-in-Ok-More.result.now n e) c.in_ok-keep-in-Ok-More.ensures,
      expanding_more p c.step.new.names c.keep-in-Ok-More.new.trace c.args.self.now (record { expander = c.step.new.self; place = c.args.self.now.place }) x s.1 s.2 c.in-Ok-More.ensures.running c.in-Ok-More.ensures.fault (c.in-Ok-More.ensures.limit x.limit),
      s.2.2,
    )

pub returns-in_ok-keep-in-Ok-More-clause-good : goal.returns-in_ok-keep-in-Ok-More-clause-good
returns-in_ok-keep-in-Ok-More-clause-good c =
    let s = c.in-Ok-More.ensures.step c.requires.expanding.fault in
    progress_more c.args.progress.now c.step.new.names c.keep-in-Ok-More.new.trace c.defined_macros_are_known.ensures c.requires.good s.1 (distinct_of c.step.new.names c.args.progress.now.macros c.step.new.self c.in-Ok-More.ensures.running c.in-Ok-More.ensures.fault)

pub returns-in-Ok-End-clause-used : goal.returns-in-Ok-End-clause-used
returns-in-Ok-End-clause-used c =
    let x = c.requires.expanding in
    let a : IsAhead c.args.progress.now.names c.step.new.names c.args.progress.now.macros c.args.self.now.expander.machine c.step.new.self.machine [] (step.End) = subst (λ s. IsAhead c.args.progress.now.names c.step.new.names c.args.progress.now.macros c.args.self.now.expander.machine c.step.new.self.machine [] s) c.in-Ok-End.field-0-is (c.in-Ok-End.ensures.ahead c.requires.expanding.fault [] (λ _. refl)) in
    let s : IsStep c.args.progress.now.names c.step.new.names c.args.progress.now.macros c.args.self.now.expander.machine c.step.new.self.machine [] step.End = subst (λ s. IsStep c.args.progress.now.names c.step.new.names c.args.progress.now.macros c.args.self.now.expander.machine c.step.new.self.machine [] s) c.in-Ok-End.field-0-is ((c.in-Ok-End.ensures.step x.fault).0 [] (λ _. refl)) in
    let u = ap (λ m. m.used) a.1 in (
      ap (λ n. record c.args.progress.now { names = n }) a.0,
      c.in-Ok-End.ensures.limit x.limit,
      a.2 ∙ ap (λ n. Gave None (LIMIT - n) []) (sym u),
      s.2 ∙ ap (λ n. Gave [] (LIMIT - n) []) (sym u),
    )

pub returns-in-Ok-End-clause-good : goal.returns-in-Ok-End-clause-good
returns-in-Ok-End-clause-good c =
    let a : IsAhead c.args.progress.now.names c.step.new.names c.args.progress.now.macros c.args.self.now.expander.machine c.step.new.self.machine [] (step.End) = subst (λ s. IsAhead c.args.progress.now.names c.step.new.names c.args.progress.now.macros c.args.self.now.expander.machine c.step.new.self.machine [] s) c.in-Ok-End.field-0-is (c.in-Ok-End.ensures.ahead c.requires.expanding.fault [] (λ _. refl)) in
    subst (λ n. IsProgress (record c.args.progress.now { names = n })) (sym a.0) c.requires.good

pub returns-in_ok-fault-in-Err-clause-used : goal.returns-in_ok-fault-in-Err-clause-used
returns-in_ok-fault-in-Err-clause-used c =
    let x = c.requires.expanding in
    let p = c.args.progress.now in (
      stops_at _ c.in-Err.fault c.in_ok-fault-in-Err.fault (c.in-Err.ensures.ahead_faults x.fault [] (λ _. refl)) c.in_ok-fault-in-Err.ensures,
      stops_at _ c.in-Err.fault c.in_ok-fault-in-Err.fault (c.in-Err.ensures.faults x.fault [] (λ _. refl)) c.in_ok-fault-in-Err.ensures,
      noted_more p c.step.new.names p.trace c.args.self.now.expander.machine.notes [] [] c.requires.good c.in-Err.ensures.grows x.from x.to refl (keeps_nothing p.trace),
    )

pub returns-in_ok-fault-in-Err-clause-good : goal.returns-in_ok-fault-in-Err-clause-good
returns-in_ok-fault-in-Err-clause-good c =
    progress_more c.args.progress.now c.step.new.names c.args.progress.now.trace c.defined_macros_are_known.ensures c.requires.good c.in-Err.ensures.grows c.text.ensures.distinct
