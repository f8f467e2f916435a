use Rattle.std.proofs.Common.{rules, tests}
use Rattle.std.specs.Prelude.{bytes_eq}
use Rattle.std.proofs.lemmas.Iterator.{YieldsList-from_slice}
use Rattle.std.proofs.lemmas.Iterator.Search.{any_from_yields_List}
use Rattle.cr_snapshot.specs.BuiltIns as spec
use Rattle.cr_snapshot.proofs.header.is_built_in.Goals as goal

pub returns : goal.returns
unfolding spec.is_built_in
returns c = any_from_yields_List (λ header. bytes_eq (spec.name_of header) c.args.name.now) _ _ _ c.any.ensures.ran (YieldsList-from_slice spec.headers cc) (λ x b q k. search (rules, tests))
