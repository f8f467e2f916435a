use Rattle.std.proofs.Common.{true, false, sym, ◌∙◌, arith, map}
use Rattle.cr_lex.specs.Seen.{seen}
use Rattle.cr_small.proofs.Pairs.{target_here}
use Rattle.cr_small.proofs.renaming.target_at.Goals as goal

pub returns-then-covers : goal.returns-then-covers
returns-then-covers c =
    c.target_of.ensures
    ∙ sym (target_here c.args.names.now _ c.args.tokens.now c.args.denotes.now c.loop-i.i (omega arith) (omega (arith, c.requires)) (map (seen c.args.names.now) c.args.tokens.now) c.args.offset true (sym (c.covers.ensures c.args.names.now) ∙ c.if-covers.true))
    ∙ c.loop-i.invariant

pub loop-i-preserved : goal.loop-i-preserved
loop-i-preserved c =
    sym (target_here c.args.names.now _ c.args.tokens.now c.args.denotes.now c.loop-i.i (omega arith) (omega (arith, c.requires)) (map (seen c.args.names.now) c.args.tokens.now) c.args.offset false (sym (c.covers.ensures c.args.names.now) ∙ c.if-covers.false)) ∙ c.loop-i.invariant
