use Rattle.std.proofs.Common.{◌++◌, ◌∷◌, [], ℕ, Vec, Global, arith, ap, ◌∙◌}
use Rattle.cr_small_facts.proofs.Lists.{placed_in}
use Rattle.cr_small_facts.proofs.places.put.Goals as goal

pub returns-in_ok-push : goal.returns-in_ok-push
returns-in_ok-push c =
    placed_in (λ v. v.items) c.args.places.now.items c.args.place c.index_mut.result.now c.push.new.self (omega arith)
    (c.in_ok-push.ensures.items ∙ ap (λ (v : Vec ℕ Global). v.items ++ c.args.place.offset ∷ []) c.index_mut.ensures.value)
