use Rattle.std.proofs.Common.{refl, sym, subst, ◌∙◌, arith, Ok}
use Rattle.cr_ll.specs.Running.{IsStuck, IsReady, Steps}
use Rattle.cr_ll.specs.declared.state.Event.TheVariants as event
use Rattle.cr_binding.specs.WellFormed.{terminals_of}
use Rattle.cr_sema.specs.Sema.{source_of}
use Rattle.cr_reading.specs.Loops.{IsEnded, IsBoundOrIll}
use Rattle.cr_reading.proofs.Onwards.{action_reads, asked_reads, token_next, action_next, end_next, ask_next, may, going_on, fault_read, ill_ends, end_ends, act_leaves, ask_leaves, act_place, ask_place, token_leads}
use Rattle.cr_reading.proofs.reading.pass_token.Goals as goal

pub returns-in-Err-clause-leads : goal.returns-in-Err-clause-leads
returns-in-Err-clause-leads c =
    subst (IsEnded (source_of c.args.names.now c.args.tokens.now) c.events.sema) (sym (c.ill_by.ensures (source_of c.args.names.now c.args.tokens.now) refl)) (fault_read (source_of c.args.names.now c.args.tokens.now) c.events.machine c.step.new.self c.events.sema c.events.sema c.in-Err.fault c.events.invariant.reads c.in-Err.ensures.stuck c.in-Err.ensures.steps)

pub bind-requires-clause-may : goal.bind-requires-clause-may
bind-requires-clause-may c =
    may (source_of c.args.names.now c.args.tokens.now) c.events.machine c.events.sema event.Done (going_on (source_of c.args.names.now c.args.tokens.now) c.events.machine c.step.new.self c.events.sema event.Done c.events.invariant.reads (subst (λ e. IsStuck c.events.machine (Ok e) c.step.new.self) c.in-Ok-Done.field-0-is c.in-Ok-Done.ensures.stuck)) (end_next (source_of c.args.names.now c.args.tokens.now) c.events.machine c.step.new.self c.events.sema (going_on (source_of c.args.names.now c.args.tokens.now) c.events.machine c.step.new.self c.events.sema event.Done c.events.invariant.reads (subst (λ e. IsStuck c.events.machine (Ok e) c.step.new.self) c.in-Ok-Done.field-0-is c.in-Ok-Done.ensures.stuck)) (subst (λ e. Steps (terminals_of (source_of c.args.names.now c.args.tokens.now)) c.events.machine (Ok e) c.step.new.self) c.in-Ok-Done.field-0-is c.in-Ok-Done.ensures.steps))

pub returns-in-Ok-Done-clause-leads : goal.returns-in-Ok-Done-clause-leads
returns-in-Ok-Done-clause-leads c =
    subst (IsEnded (source_of c.args.names.now c.args.tokens.now) c.bind.new.sema) (sym c.unwrap_or.ensures) (end_ends (source_of c.args.names.now c.args.tokens.now) (going_on (source_of c.args.names.now c.args.tokens.now) c.events.machine c.step.new.self c.events.sema event.Done c.events.invariant.reads (subst (λ e. IsStuck c.events.machine (Ok e) c.step.new.self) c.in-Ok-Done.field-0-is c.in-Ok-Done.ensures.stuck)).events c.bind.new.sema c.in_ok-ill-in-Ok-Done.ill (c.in_ok-ill-in-Ok-Done.ensures (going_on (source_of c.args.names.now c.args.tokens.now) c.events.machine c.step.new.self c.events.sema event.Done c.events.invariant.reads (subst (λ e. IsStuck c.events.machine (Ok e) c.step.new.self) c.in-Ok-Done.field-0-is c.in-Ok-Done.ensures.stuck)).events (going_on (source_of c.args.names.now c.args.tokens.now) c.events.machine c.step.new.self c.events.sema event.Done c.events.invariant.reads (subst (λ e. IsStuck c.events.machine (Ok e) c.step.new.self) c.in-Ok-Done.field-0-is c.in-Ok-Done.ensures.stuck)).come (end_next (source_of c.args.names.now c.args.tokens.now) c.events.machine c.step.new.self c.events.sema (going_on (source_of c.args.names.now c.args.tokens.now) c.events.machine c.step.new.self c.events.sema event.Done c.events.invariant.reads (subst (λ e. IsStuck c.events.machine (Ok e) c.step.new.self) c.in-Ok-Done.field-0-is c.in-Ok-Done.ensures.stuck)) (subst (λ e. Steps (terminals_of (source_of c.args.names.now c.args.tokens.now)) c.events.machine (Ok e) c.step.new.self) c.in-Ok-Done.field-0-is c.in-Ok-Done.ensures.steps))))

pub ask-requires-clause-may : goal.ask-requires-clause-may
ask-requires-clause-may c =
    may (source_of c.args.names.now c.args.tokens.now) c.events.machine c.events.sema (event.Ask c.in-Ok-Ask.i) (going_on (source_of c.args.names.now c.args.tokens.now) c.events.machine c.step.new.self c.events.sema (event.Ask c.in-Ok-Ask.i) c.events.invariant.reads (subst (λ e. IsStuck c.events.machine (Ok e) c.step.new.self) c.in-Ok-Ask.field-0-is c.in-Ok-Ask.ensures.stuck)) (ask_next (source_of c.args.names.now c.args.tokens.now) c.events.machine c.step.new.self c.events.sema c.in-Ok-Ask.i (going_on (source_of c.args.names.now c.args.tokens.now) c.events.machine c.step.new.self c.events.sema (event.Ask c.in-Ok-Ask.i) c.events.invariant.reads (subst (λ e. IsStuck c.events.machine (Ok e) c.step.new.self) c.in-Ok-Ask.field-0-is c.in-Ok-Ask.ensures.stuck)) (subst (λ e. Steps (terminals_of (source_of c.args.names.now c.args.tokens.now)) c.events.machine (Ok e) c.step.new.self) c.in-Ok-Ask.field-0-is c.in-Ok-Ask.ensures.steps))

pub events-smaller-in-Ok-Ask : goal.events-smaller-in-Ok-Ask
events-smaller-in-Ok-Ask c =
    ask_leaves c.events_fall.ensures.fall (source_of c.args.names.now c.args.tokens.now) c.events.machine c.step.new.self c.reply.new.self c.in-Ok-Ask.i c.in_ok-answer-in-Ok-Ask.answer (going_on (source_of c.args.names.now c.args.tokens.now) c.events.machine c.step.new.self c.events.sema (event.Ask c.in-Ok-Ask.i) c.events.invariant.reads (subst (λ e. IsStuck c.events.machine (Ok e) c.step.new.self) c.in-Ok-Ask.field-0-is c.in-Ok-Ask.ensures.stuck)).sound (subst (λ e. Steps (terminals_of (source_of c.args.names.now c.args.tokens.now)) c.events.machine (Ok e) c.step.new.self) c.in-Ok-Ask.field-0-is c.in-Ok-Ask.ensures.steps) c.reply.ensures.replies

pub events-preserved-in-Ok-Ask : goal.events-preserved-in-Ok-Ask
events-preserved-in-Ok-Ask c =
    record {
      reads = asked_reads (source_of c.args.names.now c.args.tokens.now) c.events.machine c.step.new.self c.reply.new.self c.events.sema c.ask.new.self c.in-Ok-Ask.i c.in_ok-answer-in-Ok-Ask.answer (going_on (source_of c.args.names.now c.args.tokens.now) c.events.machine c.step.new.self c.events.sema (event.Ask c.in-Ok-Ask.i) c.events.invariant.reads (subst (λ e. IsStuck c.events.machine (Ok e) c.step.new.self) c.in-Ok-Ask.field-0-is c.in-Ok-Ask.ensures.stuck)) (c.in_ok-answer-in-Ok-Ask.ensures.replies (going_on (source_of c.args.names.now c.args.tokens.now) c.events.machine c.step.new.self c.events.sema (event.Ask c.in-Ok-Ask.i) c.events.invariant.reads (subst (λ e. IsStuck c.events.machine (Ok e) c.step.new.self) c.in-Ok-Ask.field-0-is c.in-Ok-Ask.ensures.stuck)).events (going_on (source_of c.args.names.now c.args.tokens.now) c.events.machine c.step.new.self c.events.sema (event.Ask c.in-Ok-Ask.i) c.events.invariant.reads (subst (λ e. IsStuck c.events.machine (Ok e) c.step.new.self) c.in-Ok-Ask.field-0-is c.in-Ok-Ask.ensures.stuck)).come (ask_next (source_of c.args.names.now c.args.tokens.now) c.events.machine c.step.new.self c.events.sema c.in-Ok-Ask.i (going_on (source_of c.args.names.now c.args.tokens.now) c.events.machine c.step.new.self c.events.sema (event.Ask c.in-Ok-Ask.i) c.events.invariant.reads (subst (λ e. IsStuck c.events.machine (Ok e) c.step.new.self) c.in-Ok-Ask.field-0-is c.in-Ok-Ask.ensures.stuck)) (subst (λ e. Steps (terminals_of (source_of c.args.names.now c.args.tokens.now)) c.events.machine (Ok e) c.step.new.self) c.in-Ok-Ask.field-0-is c.in-Ok-Ask.ensures.steps))) (subst (λ e. Steps (terminals_of (source_of c.args.names.now c.args.tokens.now)) c.events.machine (Ok e) c.step.new.self) c.in-Ok-Ask.field-0-is c.in-Ok-Ask.ensures.steps) c.reply.ensures.replies;
      idle = c.reply.ensures.idle;
      placed = omega (arith, c.reply.ensures.placed, c.in-Ok-Ask.ensures.placed);
      stands = ask_place c.events_fall.ensures.places (source_of c.args.names.now c.args.tokens.now) c.events.machine c.step.new.self c.reply.new.self c.in-Ok-Ask.i (subst (λ e. Steps (terminals_of (source_of c.args.names.now c.args.tokens.now)) c.events.machine (Ok e) c.step.new.self) c.in-Ok-Ask.field-0-is c.in-Ok-Ask.ensures.steps) c.reply.ensures.placed ∙ c.events.invariant.stands;
    }

pub bind-requires-in-Ok-Act-clause-may : goal.bind-requires-in-Ok-Act-clause-may
bind-requires-in-Ok-Act-clause-may c =
    may (source_of c.args.names.now c.args.tokens.now) c.events.machine c.events.sema (event.Act c.in-Ok-Act.action) (going_on (source_of c.args.names.now c.args.tokens.now) c.events.machine c.step.new.self c.events.sema (event.Act c.in-Ok-Act.action) c.events.invariant.reads (subst (λ e. IsStuck c.events.machine (Ok e) c.step.new.self) c.in-Ok-Act.field-0-is c.in-Ok-Act.ensures.stuck)) (action_next (source_of c.args.names.now c.args.tokens.now) c.events.machine c.step.new.self c.events.sema c.in-Ok-Act.action (going_on (source_of c.args.names.now c.args.tokens.now) c.events.machine c.step.new.self c.events.sema (event.Act c.in-Ok-Act.action) c.events.invariant.reads (subst (λ e. IsStuck c.events.machine (Ok e) c.step.new.self) c.in-Ok-Act.field-0-is c.in-Ok-Act.ensures.stuck)) (subst (λ e. Steps (terminals_of (source_of c.args.names.now c.args.tokens.now)) c.events.machine (Ok e) c.step.new.self) c.in-Ok-Act.field-0-is c.in-Ok-Act.ensures.steps))

pub returns-in-Some-clause-leads : goal.returns-in-Some-clause-leads
returns-in-Some-clause-leads c =
    ill_ends (source_of c.args.names.now c.args.tokens.now) c.bind-in-Ok-Act.new.sema c.in-Some.end (subst (IsBoundOrIll (source_of c.args.names.now c.args.tokens.now) (going_on (source_of c.args.names.now c.args.tokens.now) c.events.machine c.step.new.self c.events.sema (event.Act c.in-Ok-Act.action) c.events.invariant.reads (subst (λ e. IsStuck c.events.machine (Ok e) c.step.new.self) c.in-Ok-Act.field-0-is c.in-Ok-Act.ensures.stuck)).events (event.Act c.in-Ok-Act.action) c.bind-in-Ok-Act.new.sema) c.in-Some.is (c.in_ok-end-in-Ok-Act.ensures (going_on (source_of c.args.names.now c.args.tokens.now) c.events.machine c.step.new.self c.events.sema (event.Act c.in-Ok-Act.action) c.events.invariant.reads (subst (λ e. IsStuck c.events.machine (Ok e) c.step.new.self) c.in-Ok-Act.field-0-is c.in-Ok-Act.ensures.stuck)).events (going_on (source_of c.args.names.now c.args.tokens.now) c.events.machine c.step.new.self c.events.sema (event.Act c.in-Ok-Act.action) c.events.invariant.reads (subst (λ e. IsStuck c.events.machine (Ok e) c.step.new.self) c.in-Ok-Act.field-0-is c.in-Ok-Act.ensures.stuck)).come (action_next (source_of c.args.names.now c.args.tokens.now) c.events.machine c.step.new.self c.events.sema c.in-Ok-Act.action (going_on (source_of c.args.names.now c.args.tokens.now) c.events.machine c.step.new.self c.events.sema (event.Act c.in-Ok-Act.action) c.events.invariant.reads (subst (λ e. IsStuck c.events.machine (Ok e) c.step.new.self) c.in-Ok-Act.field-0-is c.in-Ok-Act.ensures.stuck)) (subst (λ e. Steps (terminals_of (source_of c.args.names.now c.args.tokens.now)) c.events.machine (Ok e) c.step.new.self) c.in-Ok-Act.field-0-is c.in-Ok-Act.ensures.steps))))

pub events-smaller : goal.events-smaller
events-smaller c =
    act_leaves c.events_fall.ensures.fall (source_of c.args.names.now c.args.tokens.now) c.events.machine c.step.new.self c.in-Ok-Act.action (subst (λ e. Steps (terminals_of (source_of c.args.names.now c.args.tokens.now)) c.events.machine (Ok e) c.step.new.self) c.in-Ok-Act.field-0-is c.in-Ok-Act.ensures.steps)

pub events-preserved : goal.events-preserved
events-preserved c =
    record {
      reads = action_reads (source_of c.args.names.now c.args.tokens.now) c.events.machine c.step.new.self c.events.sema c.bind-in-Ok-Act.new.sema c.in-Ok-Act.action (going_on (source_of c.args.names.now c.args.tokens.now) c.events.machine c.step.new.self c.events.sema (event.Act c.in-Ok-Act.action) c.events.invariant.reads (subst (λ e. IsStuck c.events.machine (Ok e) c.step.new.self) c.in-Ok-Act.field-0-is c.in-Ok-Act.ensures.stuck)) (subst (λ e. Steps (terminals_of (source_of c.args.names.now c.args.tokens.now)) c.events.machine (Ok e) c.step.new.self) c.in-Ok-Act.field-0-is c.in-Ok-Act.ensures.steps) (subst (IsBoundOrIll (source_of c.args.names.now c.args.tokens.now) (going_on (source_of c.args.names.now c.args.tokens.now) c.events.machine c.step.new.self c.events.sema (event.Act c.in-Ok-Act.action) c.events.invariant.reads (subst (λ e. IsStuck c.events.machine (Ok e) c.step.new.self) c.in-Ok-Act.field-0-is c.in-Ok-Act.ensures.stuck)).events (event.Act c.in-Ok-Act.action) c.bind-in-Ok-Act.new.sema) c.in_default.is (c.in_ok-end-in-Ok-Act.ensures (going_on (source_of c.args.names.now c.args.tokens.now) c.events.machine c.step.new.self c.events.sema (event.Act c.in-Ok-Act.action) c.events.invariant.reads (subst (λ e. IsStuck c.events.machine (Ok e) c.step.new.self) c.in-Ok-Act.field-0-is c.in-Ok-Act.ensures.stuck)).events (going_on (source_of c.args.names.now c.args.tokens.now) c.events.machine c.step.new.self c.events.sema (event.Act c.in-Ok-Act.action) c.events.invariant.reads (subst (λ e. IsStuck c.events.machine (Ok e) c.step.new.self) c.in-Ok-Act.field-0-is c.in-Ok-Act.ensures.stuck)).come (action_next (source_of c.args.names.now c.args.tokens.now) c.events.machine c.step.new.self c.events.sema c.in-Ok-Act.action (going_on (source_of c.args.names.now c.args.tokens.now) c.events.machine c.step.new.self c.events.sema (event.Act c.in-Ok-Act.action) c.events.invariant.reads (subst (λ e. IsStuck c.events.machine (Ok e) c.step.new.self) c.in-Ok-Act.field-0-is c.in-Ok-Act.ensures.stuck)) (subst (λ e. Steps (terminals_of (source_of c.args.names.now c.args.tokens.now)) c.events.machine (Ok e) c.step.new.self) c.in-Ok-Act.field-0-is c.in-Ok-Act.ensures.steps))));
      idle = subst (λ e. IsReady (Ok e) c.step.new.self) c.in-Ok-Act.field-0-is c.in-Ok-Act.ensures.ready;
      placed = c.in-Ok-Act.ensures.placed;
      stands = act_place c.events_fall.ensures.places (source_of c.args.names.now c.args.tokens.now) c.events.machine c.step.new.self c.in-Ok-Act.action (subst (λ e. Steps (terminals_of (source_of c.args.names.now c.args.tokens.now)) c.events.machine (Ok e) c.step.new.self) c.in-Ok-Act.field-0-is c.in-Ok-Act.ensures.steps) ∙ c.events.invariant.stands;
    }

pub bind-requires-in-Ok-Token-clause-may : goal.bind-requires-in-Ok-Token-clause-may
bind-requires-in-Ok-Token-clause-may c =
    may (source_of c.args.names.now c.args.tokens.now) c.events.machine c.events.sema (event.Token c.in-Ok-Token.i) (going_on (source_of c.args.names.now c.args.tokens.now) c.events.machine c.step.new.self c.events.sema (event.Token c.in-Ok-Token.i) c.events.invariant.reads (subst (λ e. IsStuck c.events.machine (Ok e) c.step.new.self) c.in-Ok-Token.field-0-is c.in-Ok-Token.ensures.stuck)) (token_next (source_of c.args.names.now c.args.tokens.now) c.events.machine c.step.new.self c.events.sema c.in-Ok-Token.i (going_on (source_of c.args.names.now c.args.tokens.now) c.events.machine c.step.new.self c.events.sema (event.Token c.in-Ok-Token.i) c.events.invariant.reads (subst (λ e. IsStuck c.events.machine (Ok e) c.step.new.self) c.in-Ok-Token.field-0-is c.in-Ok-Token.ensures.stuck)) (subst (λ e. Steps (terminals_of (source_of c.args.names.now c.args.tokens.now)) c.events.machine (Ok e) c.step.new.self) c.in-Ok-Token.field-0-is c.in-Ok-Token.ensures.steps))

pub returns-in-Ok-Token-clause-leads : goal.returns-in-Ok-Token-clause-leads
returns-in-Ok-Token-clause-leads c =
    token_leads c.events_fall.ensures.places (source_of c.args.names.now c.args.tokens.now) c.args.machine.now c.events.machine c.step.new.self c.events.sema c.bind-in-Ok-Token.new.sema c.in-Ok-Token.i c.in_ok-end-in-Ok-Token.end (going_on (source_of c.args.names.now c.args.tokens.now) c.events.machine c.step.new.self c.events.sema (event.Token c.in-Ok-Token.i) c.events.invariant.reads (subst (λ e. IsStuck c.events.machine (Ok e) c.step.new.self) c.in-Ok-Token.field-0-is c.in-Ok-Token.ensures.stuck)) (subst (λ e. Steps (terminals_of (source_of c.args.names.now c.args.tokens.now)) c.events.machine (Ok e) c.step.new.self) c.in-Ok-Token.field-0-is c.in-Ok-Token.ensures.steps) c.events.invariant.stands (subst (λ e. IsReady (Ok e) c.step.new.self) c.in-Ok-Token.field-0-is c.in-Ok-Token.ensures.ready) (c.in_ok-end-in-Ok-Token.ensures (going_on (source_of c.args.names.now c.args.tokens.now) c.events.machine c.step.new.self c.events.sema (event.Token c.in-Ok-Token.i) c.events.invariant.reads (subst (λ e. IsStuck c.events.machine (Ok e) c.step.new.self) c.in-Ok-Token.field-0-is c.in-Ok-Token.ensures.stuck)).events (going_on (source_of c.args.names.now c.args.tokens.now) c.events.machine c.step.new.self c.events.sema (event.Token c.in-Ok-Token.i) c.events.invariant.reads (subst (λ e. IsStuck c.events.machine (Ok e) c.step.new.self) c.in-Ok-Token.field-0-is c.in-Ok-Token.ensures.stuck)).come (token_next (source_of c.args.names.now c.args.tokens.now) c.events.machine c.step.new.self c.events.sema c.in-Ok-Token.i (going_on (source_of c.args.names.now c.args.tokens.now) c.events.machine c.step.new.self c.events.sema (event.Token c.in-Ok-Token.i) c.events.invariant.reads (subst (λ e. IsStuck c.events.machine (Ok e) c.step.new.self) c.in-Ok-Token.field-0-is c.in-Ok-Token.ensures.stuck)) (subst (λ e. Steps (terminals_of (source_of c.args.names.now c.args.tokens.now)) c.events.machine (Ok e) c.step.new.self) c.in-Ok-Token.field-0-is c.in-Ok-Token.ensures.steps)))
