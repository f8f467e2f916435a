use Rattle.std.proofs.Common.{◌≡◌, ◌∙◌, ◌<◌, length, Some, ap, sym, subst, arith}
use Rattle.std.specs.Prelude.{slice_get}
use Rattle.std.proofs.lemmas.Option.{slice_get-get_or}
use Rattle.cr_names.specs.Kept.{KnownNames, IsOf}
use Rattle.cr_names.proofs.Doing.{found, not_found, rows_within}
use Rattle.cr_names.proofs.Seen.{given_at}
use Rattle.cr_names.proofs.names.Names.get.Goals as goal

type_there : (c : goal.After-row-1) → slice_get c.self.inside.types_of.items c.in_ok-n.n ≡ Some c.index-ty.result.now
type_there c = slice_get-get_or c.self.inside.types_of.items c.in_ok-n.n c.index-ty.result.now (omega (arith, c.if-n-len.true, c.len.ensures)) ∙ ap Some (sym c.index-ty.ensures)

pub returns-then-n-len-clause-found : goal.returns-then-n-len-clause-found
returns-then-n-len-clause-found c =
    let lt : c.in_ok-n.n < length c.self.inside.types_of.items = omega (arith, c.if-n-len.true, c.len.ensures) in
    rw (← c.self.view_is)
    (found _ c.self.invariant _ c.rows-rows.ensures.entries _ _ c.in_ok-n.was _ _
    (slice_get-get_or c.rows-rows.result.now c.in_ok-n.n _ (rows_within _ c.self.invariant c.rows-rows.result.now c.rows-rows.ensures.entries c.in_ok-n.n lt))
    (type_there c))

pub returns-then-n-len-clause-given : goal.returns-then-n-len-clause-given
returns-then-n-len-clause-given c t of = given_at t _ _ _ (type_there c) (subst (λ (x : KnownNames). IsOf t x) (sym c.self.view_is) of)

pub returns-else-n-len-clause-found : goal.returns-else-n-len-clause-found
returns-else-n-len-clause-found c =
    rw (← c.self.view_is) (not_found _ c.self.invariant _ _ c.in_ok-n.was (omega (arith, c.if-n-len.false, c.len.ensures)))
