use Rattle.cr_binding.specs.State.{start}
use Rattle.cr_bound.proofs.Tagging.{announced_typed, announced_does, announced_completes, announced_meant, had_meant, had_does}
use Rattle.cr_bound.proofs.bound.Bound.tag_type.Goals as goal

pub returns-in-Some-clause-meant : goal.returns-in-Some-clause-meant
returns-in-Some-clause-meant c = had_meant c.args.types.now c.args.self.now _ _ c.in-Some.is

pub returns-in-Some-clause-ok : goal.returns-in-Some-clause-ok
returns-in-Some-clause-ok c = had_does c.args.types.now c.args.self.now _ _ _ c.in-Some.is

pub returns-in_err-ty-in-None-clause-typed : goal.returns-in_err-ty-in-None-clause-typed
returns-in_err-ty-in-None-clause-typed c =
    announced_typed c.args.types.now c.announce.new.types c.args.self.now _ c.args.token c.announce.new.self c.requires.typed c.in_err-ty-in-None.ensures.keeps c.kind_of.ensures (c.names_stay.ensures _ _ _ c.in_err-ty-in-None.ensures.keeps c.requires.typed.names) c.in_err-ty-in-None.ensures.of

pub returns-in_ok-ty-in-None-clause-typed : goal.returns-in_ok-ty-in-None-clause-typed
returns-in_ok-ty-in-None-clause-typed c =
    announced_typed c.args.types.now c.announce.new.types c.args.self.now _ c.args.token c.announce.new.self c.requires.typed c.in_ok-ty-in-None.ensures.keeps c.kind_of.ensures (c.names_stay.ensures _ _ _ c.in_ok-ty-in-None.ensures.keeps c.requires.typed.names) c.in_ok-ty-in-None.ensures.of

pub returns-in_ok-ty-in-None-clause-meant : goal.returns-in_ok-ty-in-None-clause-meant
returns-in_ok-ty-in-None-clause-meant c =
    announced_meant c.args.types.now c.announce.new.types c.args.self.now _ c.args.token c.announce.new.self c.requires.typed c.in_ok-ty-in-None.ensures.keeps c.kind_of.ensures (c.names_stay.ensures _ _ _ c.in_ok-ty-in-None.ensures.keeps c.requires.typed.names) _ _ c.in-None.is c.in_ok-ty-in-None.ensures.meant

pub returns-in_ok-ty-in-None-clause-ok : goal.returns-in_ok-ty-in-None-clause-ok
returns-in_ok-ty-in-None-clause-ok c =
    announced_does c.args.types.now c.announce.new.types c.args.self.now _ c.args.token c.announce.new.self c.requires.typed c.in_ok-ty-in-None.ensures.keeps c.kind_of.ensures (c.names_stay.ensures _ _ _ c.in_ok-ty-in-None.ensures.keeps c.requires.typed.names)
    c.in_ok-ty-in-None.ensures.ok (λ source h. c.in_ok-ty-in-None.ensures.spelled source tt h) _ c.in-None.is

pub returns-in_ok-ty-in-None-clause-completed : goal.returns-in_ok-ty-in-None-clause-completed
returns-in_ok-ty-in-None-clause-completed c =
    announced_completes c.args.types.now c.announce.new.types c.args.self.now _ c.args.token c.announce.new.self c.requires.typed c.in_ok-ty-in-None.ensures.keeps c.kind_of.ensures (c.names_stay.ensures _ _ _ c.in_ok-ty-in-None.ensures.keeps c.requires.typed.names)
    c.in_ok-ty-in-None.ensures.ok start
