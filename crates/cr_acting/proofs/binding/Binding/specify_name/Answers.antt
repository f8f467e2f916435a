use Rattle.cr_acting.proofs.Parts.{any_refuses, by_bound_alone}
use Rattle.cr_acting.specs.Binding.{source_by}
use Rattle.cr_bound.specs.Specifying.{naming_type}
use Rattle.cr_names.specs.Names.{IsNamed}
use Rattle.std.proofs.lemmas.Result.{err_from_is_err_and}
use Rattle.cr_acting.proofs.binding.Binding.specify_name.Goals as goal

pub returns-in_err-typedef_name : goal.returns-in_err-typedef_name
returns-in_err-typedef_name c =
    let p = err_from_is_err_and c.from_residual.result c.from_residual.ensures.1 in
    rw (p.1, p.2) (any_refuses (source_by c.args.spot.words) c.args.self.now.types c.args.self.now.bound c.args.self.now.operands c.requires (IsNamed c.args.token c.name_at.result) (naming_type c.args.token) _ c.name_at.ensures c.in_err-typedef_name.ensures.ill)

pub returns : goal.returns
returns c =
    by_bound_alone (source_by c.args.spot.words) c.args.self.now.types c.args.self.now.bound c.args.self.now.operands c.requires (IsNamed c.args.token c.name_at.result) (naming_type c.args.token) _ c.operands_stay.ensures c.name_at.ensures (c.in_ok-typedef_name.ensures.ok c.args.self.now.types c.requires.whole.typed) (c.in_ok-typedef_name.ensures.typed c.args.self.now.types c.requires.whole.typed)
