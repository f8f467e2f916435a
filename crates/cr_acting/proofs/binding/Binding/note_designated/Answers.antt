use Rattle.cr_acting.proofs.Parts.{becomes_as, by_bound_alone}
use Rattle.cr_acting.specs.Binding.{source_by, state_of}
use Rattle.cr_binding.specs.Declaring.{used}
use Rattle.cr_binding.specs.State.{Selects}
use Rattle.cr_bound.specs.Bound.{Any}
use Rattle.cr_operands.specs.Operands.{may_select}
use Rattle.std.proofs.Common.{ap, sym}
use Rattle.cr_acting.proofs.binding.Binding.note_designated.Goals as goal

pub returns-in_ok-select-in-Some : goal.returns-in_ok-select-in-Some
returns-in_ok-select-in-Some c =
    becomes_as (source_by c.args.spot.words) c.args.self.now _ (λ _. used (Selects c.args.token c.in-Some.member)) (λ _. may_select c.args.member c.args.token) (ap (λ m. may_select m c.args.token (state_of c.args.self.now)) (sym c.in-Some.is))
    (by_bound_alone (source_by c.args.spot.words) c.args.self.now.types c.args.self.now.bound c.args.self.now.operands c.requires Any (λ _. used (Selects c.args.token c.in-Some.member)) _ c.operands_stay.ensures tt (c.in_ok-select-in-Some.ensures.ok c.args.self.now.types) (c.in_ok-select-in-Some.ensures.typed c.args.self.now.types c.requires.whole.typed))
