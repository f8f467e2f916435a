use Rattle.std.proofs.Common.{◌<◌, ◌+◌, true, drop, length, map, sym, ap, ◌∙◌, arith}
use Rattle.std.specs.Prelude.{bytes_eq}
use Rattle.std.specs.List.{zip}
use Rattle.std.specs.FinSet.{from_list}
use Rattle.cr_lex.specs.Seen.{seen}
use Rattle.cr_small.specs.Seen.{tokens_of}
use Rattle.cr_facts.specs.FactOrder.{fact_cmp}
use Rattle.cr_small_facts.specs.TextFacts.{facts_among}
use Rattle.cr_small_facts.proofs.Sets.{union_all}
use Rattle.cr_small_facts.proofs.Tokens.{and_all, told_more, told_none, told_end}
use Rattle.cr_small_facts.proofs.text_facts.facts_of.Goals as goal
use Rattle.cr_small_facts.proofs.text_facts.facts_of.Goals.{then-eq+in_ok-tell_token, else-eq}

pub loop-i-init : goal.loop-i-init
loop-i-init c =
    let law = c.facts_are_ordered.ensures in
    let told = facts_among c.args.file.0 c.args.old.now (tokens_of c.args.text.now) (zip (map (seen c.args.text.now.names) c.items-token-items.result.now) c.items-denotes.result.now) in
    ap (λ s. and_all s told) c.new-facts.ensures ∙ union_all law.total law.ties told

pub loop-i-preserved : goal.loop-i-preserved
loop-i-preserved c =
    let law = c.facts_are_ordered.ensures in
    let all = tokens_of c.args.text.now in
    let tokens = c.items-token-items.result.now in
    let denotes = c.items-denotes.result.now in
    let within : c.loop-i.i < length denotes = omega (arith, ap length c.items-denotes.ensures, ap length c.items-token-items.ensures, c.requires) in
    let spelled = ap (λ w. bytes_eq w c.args.old.now) (sym c.spelling.ensures) ∙ sym c.eq.ensures in
    elim c.if-eq.branch [
      | then-eq+in_ok-tell_token w ↦ told_more law c.args.file.0 c.args.old.now all c.args.text.now.names _ tokens denotes c.loop-i.i (omega arith) within c.loop-i.facts c.if-eq.facts true (spelled ∙ w.if-eq.true) (w.facts-is ∙ w.in_ok-tell_token.ensures) ∙ c.loop-i.invariant
      | else-eq w ↦ ap (λ s. and_all s (facts_among c.args.file.0 c.args.old.now all (zip (map (seen c.args.text.now.names) (drop (c.loop-i.i + 1) tokens)) (drop (c.loop-i.i + 1) denotes)))) w.facts-is
          ∙ told_none law c.args.file.0 c.args.old.now all c.args.text.now.names _ tokens denotes c.loop-i.i (omega arith) within c.loop-i.facts (spelled ∙ w.if-eq.false) ∙ c.loop-i.invariant
    ]

pub returns : goal.returns
returns c =
    sym (told_end c.facts_are_ordered.ensures c.args.file.0 c.args.old.now (tokens_of c.args.text.now) c.args.text.now.names c.items-token-items.result.now c.items-denotes.result.now c.loop-i.i (omega arith) c.loop-i.facts)
    ∙ c.loop-i.invariant
    ∙ ap (λ ts. from_list {R = fact_cmp} (facts_among c.args.file.0 c.args.old.now (tokens_of c.args.text.now) (zip (map (seen c.args.text.now.names) ts) c.items-denotes.result.now))) c.items-token-items.ensures
    ∙ ap (λ ds. from_list {R = fact_cmp} (facts_among c.args.file.0 c.args.old.now (tokens_of c.args.text.now) (zip (tokens_of c.args.text.now) ds))) c.items-denotes.ensures
