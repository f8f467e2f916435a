use Rattle.std.proofs.Common.{◌≡◌, ℕ, Bool, false, drop, refl, sym, ap, ◌∙◌, arith}
use Rattle.std.specs.Prelude.{nat_lt}
use Rattle.std.proofs.lemmas.Bool.Decides.{nat_tests}
use Rattle.cr_expand.specs.Machines.{put_for_call}
use Rattle.cr_expand.proofs.Sets.{grows_same}
use Rattle.cr_expand.proofs.Puttings.{put_again}
use Rattle.cr_expand.proofs.machine.Machine.end_argument.Goals as goal

is_none : (n m : ℕ) (b : Bool) → b ≡ nat_lt 0 n → b ≡ false → n ≡ m → m ≡ 0
is_none n m b e f g = let q : nat_lt 0 m ≡ false = ap (nat_lt 0) (sym g) ∙ sym e ∙ f in grind (arith, nat_tests)

pub returns-then-not-has_more-clause-ended : goal.returns-then-not-has_more-clause-ended
returns-then-not-has_more-clause-ended c = λ rest e. (
  c.pop.new.self.items,
  c.in-Some.frame,
  c.in-Some.ensures.items,
  is_none c.finish_argument.new.self.more c.in-Some.frame.more c.has_more.result c.has_more.ensures c.if-not-has_more.true (ap (λ x. x.more) c.in_ok-finish_argument.ensures),
  c.in_ok-complete.ensures.same.1,
  put_again c.args.names.now c.complete.new.names c.args.self.now _ c.complete.new.self
      (put_for_call c.args.names.now c.args.macros.now c.args.self.now.sets c.finish_argument.new.self) _ c.pop_front.new.self.items rest refl refl (grows_same c.args.self.now.sets)
      (ap (put_for_call c.args.names.now c.args.macros.now c.args.self.now.sets) c.in_ok-finish_argument.ensures)
      (c.pop_front.ensures.rest ∙ ap (drop 1) e)
      c.in_ok-complete.ensures.put,
  refl,
)
