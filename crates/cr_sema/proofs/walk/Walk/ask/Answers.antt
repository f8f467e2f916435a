use Rattle.cr_acting.specs.Binding.{source_by}
use Rattle.cr_sema.proofs.Coming.{ask_taken}
use Rattle.cr_sema.proofs.walk.Walk.ask.Goals as goal

pub ask-requires : goal.ask-requires
ask-requires c =
    (c.in_ok-lead.ensures c.requires.may.0 c.requires.may.1 c.requires.may.2).of

pub returns : goal.returns
returns c =
    λ es come next. ask_taken (source_by c.args.words) es _ _ c.args.token c.in_ok-answer.answer _ c.calls_are_seen.ensures.asks (c.in_ok-lead.ensures es come next) c.in_ok-answer.ensures.answer c.in_ok-answer.ensures.asked c.reply.ensures
