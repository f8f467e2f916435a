use Rattle.std.proofs.Common.{rules, tests, ◌∙◌, sym}
use Rattle.std.proofs.lemmas.Iterator.{YieldsList-from_slice}
use Rattle.std.proofs.lemmas.Iterator.Search.{any_from_yields_List}
use Rattle.cr_words.specs.Givens as spec
use Rattle.cr_words.specs.Seen.{given_of}
use Rattle.cr_words.proofs.Lists.{list_any-map}
use Rattle.cr_words.proofs.given.is_given.Goals as goal

pub returns : goal.returns
returns c =
    any_from_yields_List (λ g. spec.is_of c.args.kind (given_of g)) _ _ _ c.any.ensures.ran (YieldsList-from_slice c.args.givens.now cc) (λ x b q k. search (rules, tests))
    ∙ sym (list_any-map (spec.is_of c.args.kind) given_of c.args.givens.now)
