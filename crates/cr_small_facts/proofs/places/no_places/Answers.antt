use Rattle.std.proofs.Common.{◌≡◌, [], ◌∷◌, ◌++◌, map, slice_get, rules, sym, ap, ◌∙◌}
use Rattle.std.proofs.lemmas.List.{map-append}
use Rattle.cr_small_facts.proofs.Lists.{empty_more}
use Rattle.cr_small_facts.proofs.places.no_places.Goals as goal

pub loop-preserved : goal.loop-preserved
loop-preserved c =
    let lists : map (λ v. v.items) c.push.new.self.items ≡ map (λ v. v.items) c.loop.places.items ++ [] ∷ [] =
    ap (map (λ v. v.items)) c.in_ok-push.ensures.items ∙ map-append (λ v. v.items) c.loop.places.items (c.new.result ∷ []) ∙ ap (λ l. map (λ v. v.items) c.loop.places.items ++ l ∷ []) c.new.ensures.items in (
      search rules,
      λ n offsets at. empty_more (map (λ v. v.items) c.loop.places.items) c.loop.invariant.1 n offsets (ap (λ ls. slice_get ls n) (sym lists) ∙ at),
    )
