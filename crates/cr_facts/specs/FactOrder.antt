-- The derived order of facts: by variant, then by fields; places go by path number, then by offset.
use Rattle.std.specs.Cmp.{IsTotalOrder}
use Rattle.std.specs.declared.cmp.Ordering.{Ordering}
use Rattle.std.specs.Coded.{Coded}
use Rattle.std.specs.FinSet.{FinSet, IsAntisymmetric, code}
use Rattle.cr_facts.specs.declared.fact.Fact.{Fact}
use Rattle.cr_facts.specs.contracts.fact.Fact as fact
use Rattle.cr_facts.specs.contracts.fact.FactOrd.TheImpl as fact_ord

abbrev pub fact_cmp : Fact → Fact → Ordering
fact_cmp = (fact_ord.ghosts).cmp

-- a finite set of facts
abbrev pub Facts : Type 0
Facts = FinSet fact_cmp

-- by which a proof tells sets of facts apart
abbrev pub facts_code : Coded Facts
facts_code = code fact.the_row.coded

-- the order is total, and only equal facts tie
pub record FactsAreOrdered : Type 0 where
  pub total : IsTotalOrder fact_cmp
  pub ties : IsAntisymmetric fact_cmp
