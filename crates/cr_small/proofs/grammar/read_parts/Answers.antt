use Rattle.std.proofs.Common.{◌++◌, ◌∙◌, None, map, sym, ap, arith}
use Rattle.std.specs.Option.{option_map}
use Rattle.cr_lex.specs.Seen.{seen}
use Rattle.cr_small.specs.Terminals.{terminal_of}
use Rattle.cr_small.proofs.Parts.{has_parts, moved, read_ended, read_moves_at, read_stops_at}
use Rattle.cr_small.proofs.grammar.read_parts.Goals as goal
use Rattle.cr_small.proofs.grammar.read_parts.Goals.{then-is_end, else-is_end}

pub returns-in_default : goal.returns-in_default
returns-in_default c =
    let stops = read_stops_at c.args.names.now _ c.args.tokens.now c.loop-i.i c.loop-i.state _ _ _ (omega arith) (c.terminal_of-terminal.ensures ∙ ap terminal_of c.spelling.ensures) c.opens.ensures c.step.ensures c.in_default.is in
    has_parts (map (seen c.args.names.now) c.args.tokens.now) None (c.loop-i.invariant ∙ ap (option_map (λ ps. c.loop-i.parts.items ++ ps)) stops)

pub loop-i-preserved : goal.loop-i-preserved
loop-i-preserved c =
    let moves = read_moves_at c.args.names.now _ c.args.tokens.now c.loop-i.i c.loop-i.state _ _ _ (omega arith) (c.terminal_of-terminal.ensures ∙ ap terminal_of c.spelling.ensures) c.opens.ensures c.step.ensures c.in-Some.step c.in-Some.is in
    moved c.loop-i.parts.items c.push.new.self.items c.in-Some.step.part _ _ (c.loop-i.invariant ∙ ap (option_map (λ ps. c.loop-i.parts.items ++ ps)) moves) c.in_ok-push.ensures.items

pub returns : goal.returns
returns c = elim c.if-is_end.branch [ then-is_end w ↦ rw w.result-is (read_ended c.args.names.now c.args.tokens.now c.loop-i.i c.loop-i.state c.loop-i.parts.items _ (omega arith) (sym c.is_end.ensures ∙ w.if-is_end.true) c.loop-i.invariant) | else-is_end w ↦ rw w.result-is (read_ended c.args.names.now c.args.tokens.now c.loop-i.i c.loop-i.state c.loop-i.parts.items _ (omega arith) (sym c.is_end.ensures ∙ w.if-is_end.false) c.loop-i.invariant) ]
