use Rattle.std.proofs.Common.{sym, ap, ◌∙◌}
use Rattle.std.specs.FinSet.{union, from_list}
use Rattle.std.specs.Option.{option_map}
use Rattle.cr_lex.specs.Seen.{seen}
use Rattle.cr_small.specs.Seen.{tokens_of, key_of_code}
use Rattle.cr_facts.specs.FactOrder.{fact_cmp}
use Rattle.cr_small_facts.specs.TextFacts.{facts_of_key, facts_if_denoted}
use Rattle.cr_small_facts.proofs.Sets.{union_none}
use Rattle.cr_small_facts.proofs.text_facts.tell_token.Goals as goal

pub returns-in_default : goal.returns-in_default
returns-in_default c =
    let law = c.facts_are_ordered.ensures in
    sym (union_none law.total law.ties c.args.facts.now)
    ∙ ap (λ d. union c.args.facts.now (from_list {R = fact_cmp} (facts_if_denoted c.args.file.0 (tokens_of c.args.text.now) (seen c.args.text.now.names c.args.token.now) d))) (sym c.in_default.is)

pub returns-in_default-key_of : goal.returns-in_default-key_of
returns-in_default-key_of c =
    let law = c.facts_are_ordered.ensures in
    sym (union_none law.total law.ties c.args.facts.now)
    ∙ ap (λ k. union c.args.facts.now (from_list {R = fact_cmp} (facts_of_key c.args.file.0 (seen c.args.text.now.names c.args.token.now) c.in-Some.denoted k))) (sym (ap (option_map key_of_code) c.in_default-key_of.is) ∙ c.key_of.ensures)
    ∙ ap (λ d. union c.args.facts.now (from_list {R = fact_cmp} (facts_if_denoted c.args.file.0 (tokens_of c.args.text.now) (seen c.args.text.now.names c.args.token.now) d))) (sym c.in-Some.is)
