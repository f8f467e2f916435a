use Rattle.std.proofs.Common.{◌∙◌, ap, sym, arith}
use Rattle.cr_lex.specs.Lexing.{cut}
use Rattle.cr_lex.specs.Standing.{left_at, before, found_gives}
use Rattle.cr_lex.proofs.First.{cut_none}
use Rattle.cr_lex.proofs.Spots.{moved}
use Rattle.cr_lex.proofs.spot.go_on.Goals as goal

pub loop-first-preserved-in-Space : goal.loop-first-preserved-in-Space
unfolding left_at
loop-first-preserved-in-Space c =
    let bytes = c.args.bytes.now in
    let e = c.behind-spot.ensures in
    let h = c.loop-first.invariant in
    let n = c.next_part.ensures in
    let gives = h.same ∙ n.gives ∙ ap (found_gives bytes (before c.loop-first.spot) c.in-Some.first.at c.next_part.result.0.end) c.in-Space.is in
    record {
      spot = moved bytes c.loop-first.spot _ c.in-Some.first.at _ _ _ e h.spot c.in-Some.ensures.0 n.within n.marks;
      from = omega (arith, ap (λ s. s.at) e, c.in-Some.ensures.0, n.within, h.from);
      same = gives ∙ sym (ap (λ s. left_at bytes s) e);
    }

pub loop-first-preserved : goal.loop-first-preserved
unfolding left_at
loop-first-preserved c =
    let bytes = c.args.bytes.now in
    let e = c.behind-spot-in-LineEnd.ensures in
    let h = c.loop-first.invariant in
    let n = c.next_part.ensures in
    let gives = h.same ∙ n.gives ∙ ap (found_gives bytes (before c.loop-first.spot) c.in-Some.first.at c.next_part.result.0.end) c.in-LineEnd.is in
    record {
      spot = moved bytes c.loop-first.spot _ c.in-Some.first.at _ _ _ e h.spot c.in-Some.ensures.0 n.within n.marks;
      from = omega (arith, ap (λ s. s.at) e, c.in-Some.ensures.0, n.within, h.from);
      same = gives ∙ sym (ap (λ s. left_at bytes s) e);
    }

pub returns-clause-given : goal.returns-clause-given
unfolding left_at
returns-clause-given c = c.loop-first.invariant.same ∙ ap (cut (before c.loop-first.spot) 0) c.in_default.ensures ∙ cut_none (before c.loop-first.spot)
