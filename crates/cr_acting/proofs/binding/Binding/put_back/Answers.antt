use Rattle.cr_acting.proofs.Parts.{leads_as, leads_by_bound, leads_by_operands_alone}
use Rattle.cr_acting.specs.Binding.{state_of}
use Rattle.cr_acting.specs.Ends.{IsTypedSaving, kept_by, putting_back}
use Rattle.cr_bound.specs.Saving.{saved_by}
use Rattle.cr_known.specs.Known.{put_back}
use Rattle.cr_operands.specs.Operands.{target_of, with_target}
use Rattle.std.proofs.Common.{ap, subst, sym}
use Rattle.cr_acting.proofs.binding.Binding.put_back.Goals as goal

pub returns-in-Declaring : goal.returns-in-Declaring
returns-in-Declaring c =
    leads_as c.args.self.now _ (λ _. put_back (saved_by c.args.self.now.types c.in-Declaring.saved)) (putting_back (kept_by c.args.self.now.types c.args.saving)) (λ source. ap (λ x. put_back (kept_by c.args.self.now.types x) (state_of c.args.self.now)) (sym c.in-Declaring.is))
    (leads_by_bound c.args.self.now.types c.args.self.now.bound c.args.self.now.operands c.requires.whole (put_back (saved_by c.args.self.now.types c.in-Declaring.saved)) _ c.operands_stay.ensures (c.restore.ensures.ok c.args.self.now.types) (c.restore.ensures.typed c.args.self.now.types c.requires.whole.typed (subst (IsTypedSaving c.args.self.now.types) c.in-Declaring.is c.requires.typed)))

pub returns-in-Aiming : goal.returns-in-Aiming
returns-in-Aiming c =
    leads_as c.args.self.now _ (λ _. with_target (target_of c.args.self.now.types c.in-Aiming.target)) (putting_back (kept_by c.args.self.now.types c.args.saving)) (λ source. ap (λ x. put_back (kept_by c.args.self.now.types x) (state_of c.args.self.now)) (sym c.in-Aiming.is))
    (leads_by_operands_alone c.args.self.now.types c.args.self.now.bound c.args.self.now.operands c.requires.whole (with_target (target_of c.args.self.now.types c.in-Aiming.target)) _ (c.put_back.ensures.grows c.args.self.now.types c.requires.whole.held (subst (IsTypedSaving c.args.self.now.types) c.in-Aiming.is c.requires.typed)) (c.put_back.ensures.ok c.args.self.now.types))
