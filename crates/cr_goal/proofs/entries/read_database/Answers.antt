use Rattle.std.proofs.Common.{◌∙◌, ◌++◌, ◌∷◌, [], sym, ap, arith, length, ℕ, List, ◌≤◌}
use Rattle.cr_goal.proofs.Readings.{own_at}
use Rattle.cr_goal.proofs.entries.read_database.Goals as goal

pub returns-in-Bytes-clause-own : goal.returns-in-Bytes-clause-own
returns-in-Bytes-clause-own g c =
    let short : length c.deref.result.now ≤ 67108864 = omega (arith, ap length c.deref.ensures.value, c.in-Bytes.ensures.handed) in
    own_at (λ v. v.items) c.args.path.now c.deref.result.now _ _ (c.in-Bytes.ensures.asked ∙ ap (λ (b : List ℕ). g.T.Tree.readings c.args.tree.now ++ (c.args.path.now, b) ∷ []) (sym c.deref.ensures.value)) short c.entries_in.result c.entries_in.ensures.decided
