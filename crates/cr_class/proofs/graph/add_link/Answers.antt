use Rattle.std.proofs.Common.{ℕ, ◌++◌, ◌∷◌, [], map, sym, ap, ◌∙◌, Vec, Global}
use Rattle.std.specs.Prelude.{slice_set}
use Rattle.std.proofs.lemmas.List.{map-set, get_or-map}
use Rattle.cr_class.proofs.graph.add_link.Goals as goal

pub returns : goal.returns
returns c =
    let items : Vec ℕ Global → _ = λ v. v.items in
    let links = c.args.links.now.items in
    map-set items links c.args.from c.push.new.self
    ∙ ap (slice_set (map items links) c.args.from)
    (c.in_ok-push.ensures.items ∙ ap (λ (v : Vec ℕ Global). v.items ++ c.args.to ∷ []) c.index_mut.ensures.value ∙ ap (λ ns. ns ++ c.args.to ∷ []) (sym (get_or-map items links c.args.from c.index_mut.result.now [] c.requires)))
