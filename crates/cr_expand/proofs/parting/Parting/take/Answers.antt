use Rattle.std.proofs.Common.{arith, refl, sym, ap, ◌∙◌, map, ◌++◌, [], ◌∷◌}
use Rattle.std.proofs.lemmas.List.{map-append}
use Rattle.cr_expand.proofs.parting.Parting.take.Goals as goal

pub overflow_sub-self : goal.overflow_sub-self
overflow_sub-self c = omega (arith, c.in-None.ensures.small)

pub returns-in_ok-push-in-None-clause-taken : goal.returns-in_ok-push-in-None-clause-taken
returns-in_ok-push-in-None-clause-taken c = (
  λ sets. sym (c.in-None.ensures.depth sets),
  ap (map (λ v. v.items)) c.in_ok-push-in-None.ensures.items
      ∙ map-append (λ v. v.items) c.args.self.now.lists.items (c.replace-list.result ∷ [])
      ∙ ap (λ l. map (λ v. v.items) c.args.self.now.lists.items ++ l.items ∷ []) c.replace-list.ensures.value,
  ap (λ v. v.items) c.replace-list.ensures.after ∙ c.new.ensures.items,
  refl,
  refl,
)

pub returns-in_ok-keep-in-Some-clause-taken : goal.returns-in_ok-keep-in-Some-clause-taken
returns-in_ok-keep-in-Some-clause-taken c = (
  λ sets. sym (c.in-Some.ensures.depth sets),
  ap (map (λ v. v.items)) c.in_ok-keep-in-Some.ensures.lists.0,
  c.in_ok-keep-in-Some.ensures.list,
  c.in_ok-keep-in-Some.ensures.lists.1,
)
