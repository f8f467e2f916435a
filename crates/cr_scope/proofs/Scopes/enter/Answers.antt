use Rattle.std.proofs.Common.{◌++◌, ◌∷◌, [], ◌+◌, length, sym, ◌∙◌, ap}
use Rattle.cr_scope.specs.Declarations.{Flat, entered}
use Rattle.cr_scope.proofs.Moves.{counted, entered_kept, entered_flat}
use Rattle.cr_scope.proofs.Scopes.enter.Goals as goal

pub invariant_of-self-2 : goal.invariant_of-self-2
invariant_of-self-2 c =
    entered_kept c.self.inside.parents.items c.self.inside.depths.items c.self.inside.present.items c.self.inside.current c.self.inside.entries.items _ _ _ _ c.self.invariant
    (c.len-scope.ensures ∙ c.reserve-2.ensures.len ∙ c.self.inside.depths.ok.0)
    (c.put.ensures ∙ ap (λ l. l ++ c.self.inside.current ∷ []) c.reserve.ensures.items)
    (c.put-2.ensures ∙ ap (λ l. l ++ (c.len.result + 1) ∷ []) c.reserve-2.ensures.items ∙ ap (λ n. c.self.inside.depths.items ++ (n + 1) ∷ []) (c.len.ensures ∙ c.reserve-3.ensures.len ∙ c.self.inside.present.ok.0))
    (c.put-3.ensures ∙ ap (λ l. l ++ c.len-scope.result ∷ []) c.reserve-3.ensures.items)

pub returns-clause-number : goal.returns-clause-number
returns-clause-number c =
    c.len-scope.ensures ∙ c.reserve-2.ensures.len ∙ c.self.inside.depths.ok.0
    ∙ sym (counted c.self.inside.parents.items c.self.inside.depths.items c.self.inside.present.items c.self.inside.current c.self.inside.entries.items c.self.invariant)
    ∙ ap (λ (f : Flat). length f.scopes) c.self.view_is

pub returns-clause-ok : goal.returns-clause-ok
returns-clause-ok c =
    entered_flat c.self.inside.parents.items c.self.inside.depths.items c.self.inside.present.items c.self.inside.current c.self.inside.entries.items _ _ _ c.self.invariant
    (c.len-scope.ensures ∙ c.reserve-2.ensures.len ∙ c.self.inside.depths.ok.0)
    (c.put.ensures ∙ ap (λ l. l ++ c.self.inside.current ∷ []) c.reserve.ensures.items)
    (c.put-3.ensures ∙ ap (λ l. l ++ c.len-scope.result ∷ []) c.reserve-3.ensures.items)
    ∙ ap entered c.self.view_is
