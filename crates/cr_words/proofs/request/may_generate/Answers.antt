use Rattle.std.proofs.Common.{rules, tests, ◌∙◌, sym}
use Rattle.std.proofs.lemmas.Iterator.{YieldsList-from_slice}
use Rattle.std.proofs.lemmas.Iterator.Search.{all_from_yields_List}
use Rattle.std.proofs.lemmas.List.Folds.{list_all-map}
use Rattle.cr_words.specs.Requests as spec
use Rattle.cr_words.specs.Seen.{given_of}
use Rattle.cr_words.proofs.request.may_generate.Goals as goal

pub returns : goal.returns
returns c =
    all_from_yields_List (λ g. spec.may_stand_by_generate (given_of g)) _ _ _ c.all.ensures.ran (YieldsList-from_slice c.args.givens.now cc) (λ x b q k. search (rules, tests))
    ∙ sym (list_all-map spec.may_stand_by_generate given_of c.args.givens.now)
