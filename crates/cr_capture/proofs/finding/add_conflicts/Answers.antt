use Rattle.std.proofs.Common.{sym, subst}
use Rattle.cr_capture.specs.declared.Mention.{Mention}
use Rattle.cr_capture.specs.Conflicts.{IsConflict}
use Rattle.cr_capture.specs.Finding.{Adds}
use Rattle.cr_capture.proofs.finding.add_conflicts.Goals as goal

pub returns-in_ok-add_named-in-Named : goal.returns-in_ok-add_named-in-Named
returns-in_ok-add_named-in-Named c =
    subst (λ (m : Mention). Adds c.args.found.now.items c.add_named.new.found.items (λ x. IsConflict c.args.scopes.now c.args.names.old c.args.names.new x m)) (sym c.in-Named.is) c.in_ok-add_named-in-Named.ensures

pub returns-in_ok-add_asked-in-Asked : goal.returns-in_ok-add_asked-in-Asked
returns-in_ok-add_asked-in-Asked c =
    subst (λ (m : Mention). Adds c.args.found.now.items c.add_asked.new.found.items (λ x. IsConflict c.args.scopes.now c.args.names.old c.args.names.new x m)) (sym c.in-Asked.is) c.in_ok-add_asked-in-Asked.ensures

pub returns-in_ok-add_declared-in-Declared : goal.returns-in_ok-add_declared-in-Declared
returns-in_ok-add_declared-in-Declared c =
    subst (λ (m : Mention). Adds c.args.found.now.items c.add_declared.new.found.items (λ x. IsConflict c.args.scopes.now c.args.names.old c.args.names.new x m)) (sym c.in-Declared.is) c.in_ok-add_declared-in-Declared.ensures
