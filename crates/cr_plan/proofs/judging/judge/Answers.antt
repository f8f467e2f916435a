use Rattle.std.proofs.Common.{Err, sym, ap, ◌∙◌}
use Rattle.std.specs.Option.{option_copied}
use Rattle.cr_plan.specs.Judgement.{IsClass, named}
use Rattle.cr_plan.proofs.Judged.{is_none, judged_none, judged_nothing, judged_refused, judged_accepts}
use Rattle.cr_plan.proofs.judging.judge.Goals as goal

pub returns-in_default-clause-judged : goal.returns-in_default-clause-judged
returns-in_default-clause-judged c =
    judged_none c.args.snapshot.now c.args.facts.now _ c.args.meant.now.old c.args.new.now (named c.args.meant.now) (sym c.named.ensures ∙ ap option_copied (is_none c.named.result c.in_default.not-Some)) c.no_symbol.result c.no_symbol.ensures

pub returns-in-Err-NoSymbol-clause-judged : goal.returns-in-Err-NoSymbol-clause-judged
returns-in-Err-NoSymbol-clause-judged c =
    judged_nothing c.args.snapshot.now c.args.facts.now _ c.bytes-old.result.now c.args.new.now c.args.meant.now.old c.bytes-old.ensures (named c.args.meant.now) c.in-Some.target.now (sym c.named.ensures ∙ ap option_copied c.in-Some.is) (c.in-Err-NoSymbol.ensures.no_symbol (ap (λ z. Err z) c.in-Err-NoSymbol.field-0-is)) c.no_symbol-in-Err-NoSymbol.result c.no_symbol-in-Err-NoSymbol.ensures

pub returns-in-Ok-verdict-clause-judged : goal.returns-in-Ok-verdict-clause-judged
returns-in-Ok-verdict-clause-judged c =
    let of : IsClass c.args.snapshot.now c.args.facts.now c.bytes-old.result.now c.in-Some.target.now c.in-Ok.class = record { keys = c.in-Ok.ensures.keys; keys_rise = c.in-Ok.ensures.keys_rise; places = c.in-Ok.ensures.places; places_rise = c.in-Ok.ensures.places_rise } in
    judged_accepts c.args.snapshot.now c.args.facts.now _ c.bytes-old.result.now c.args.new.now c.args.meant.now.old c.bytes-old.ensures (named c.args.meant.now) c.in-Some.target.now c.in-Ok.class c.in-Ok-verdict.places.items (sym c.named.ensures ∙ ap option_copied c.in-Some.is) c.in-Ok.ensures.symbol of c.in-Ok-verdict.ensures.accepted c.in-Ok-verdict.ensures.places

pub returns-in-Err-Refused-clause-judged : goal.returns-in-Err-Refused-clause-judged
returns-in-Err-Refused-clause-judged c =
    let of : IsClass c.args.snapshot.now c.args.facts.now c.bytes-old.result.now c.in-Some.target.now c.in-Ok.class = record { keys = c.in-Ok.ensures.keys; keys_rise = c.in-Ok.ensures.keys_rise; places = c.in-Ok.ensures.places; places_rise = c.in-Ok.ensures.places_rise } in
    judged_refused c.args.snapshot.now c.args.facts.now _ c.bytes-old.result.now c.args.new.now c.args.meant.now.old c.bytes-old.ensures (named c.args.meant.now) c.in-Some.target.now c.in-Ok.class c.in-Err-Refused.judged (sym c.named.ensures ∙ ap option_copied c.in-Some.is) c.in-Ok.ensures.symbol of
    (c.in-Err-Refused.ensures.refused c.in-Err-Refused.judged (ap (λ z. Err z) c.in-Err-Refused.field-0-is)) c.refused_by.result c.refused_by.ensures
