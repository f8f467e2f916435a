use Rattle.std.proofs.Common.{◌≡◌, map, take}
use Rattle.indexmap.specs.IndexMap.{values}
use Rattle.cr_snapshot.specs.BuiltIns.{headers}
use Rattle.cr_snapshot.specs.Files as spec
use Rattle.cr_snapshot.specs.Tables.{IsKeyed}
use Rattle.cr_snapshot.proofs.known.built_ins.Given as goal

abbrev pub invariant-loop-header : goal.invariant-loop-header
invariant-loop-header l = IsKeyed (λ v. v.items) l.files.entries × (values l.files ≡ map spec.built_in (take l.header-index headers))
