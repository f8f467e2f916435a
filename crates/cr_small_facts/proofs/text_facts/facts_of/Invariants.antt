use Rattle.std.proofs.Common.{◌≡◌, drop, map}
use Rattle.std.specs.List.{zip}
use Rattle.std.specs.FinSet.{union, from_list}
use Rattle.cr_lex.specs.Seen.{seen}
use Rattle.cr_small.specs.Seen.{tokens_of}
use Rattle.cr_facts.specs.FactOrder.{fact_cmp}
use Rattle.cr_small_facts.specs.TextFacts.{facts_among}
use Rattle.cr_small_facts.proofs.text_facts.facts_of.Given as goal

abbrev pub invariant-loop-i : goal.invariant-loop-i
invariant-loop-i l =
    union l.facts (from_list {R = fact_cmp} (facts_among l.file.0 l.old (tokens_of l.text) (zip (map (seen l.text.names) (drop l.i l.token-items)) (drop l.i l.denotes))))
    ≡ from_list (facts_among l.file.0 l.old (tokens_of l.text) (zip (map (seen l.text.names) l.token-items) l.denotes))
