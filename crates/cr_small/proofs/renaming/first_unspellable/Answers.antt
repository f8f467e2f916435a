use Rattle.std.proofs.Common.{false, sym, subst, ◌∙◌, arith, map, length}
use Rattle.cr_lex.specs.Order.{AreInOrder}
use Rattle.cr_lex.specs.Seen.{seen}
use Rattle.cr_small.specs.Seen.{key_of_code}
use Rattle.cr_small.proofs.Cuts.{ends_within, and_false, false_and}
use Rattle.cr_small.proofs.Parts.{no_token}
use Rattle.cr_small.proofs.Pairs.{unspellable_here}
use Rattle.cr_small.proofs.renaming.first_unspellable.Goals as goal
use Rattle.cr_small.proofs.renaming.first_unspellable.Goals.{else-denotes_key-via-then-denotes_key+else-is_unspellable, else-denotes_key-via-else-denotes_key}

pub is_unspellable-requires : goal.is_unspellable-requires
is_unspellable-requires c =
    ends_within c.args.names.now no_token c.args.tokens.now 0 (length c.args.bytes.now) c.loop-i.i
    (subst (λ ts. AreInOrder 0 ts (length c.args.bytes.now)) (sym c.requires.tokens) (c.tokens_stand_in_order.ensures c.args.bytes.now)) (omega arith)

pub loop-i-preserved : goal.loop-i-preserved
loop-i-preserved c =
    elim c.else-denotes_key.branch [
      | else-denotes_key-via-then-denotes_key+else-is_unspellable w ↦ sym (unspellable_here c.args.names.now no_token c.args.tokens.now c.args.denotes.now c.loop-i.i (omega arith) (omega (arith, c.requires.length)) (map (seen c.args.names.now) c.args.tokens.now) c.args.bytes.now c.args.new.now (key_of_code c.args.key) false (and_false _ _ (sym w.is_unspellable.ensures ∙ w.if-is_unspellable.false))) ∙ c.loop-i.invariant
      | else-denotes_key-via-else-denotes_key w ↦ sym (unspellable_here c.args.names.now no_token c.args.tokens.now c.args.denotes.now c.loop-i.i (omega arith) (omega (arith, c.requires.length)) (map (seen c.args.names.now) c.args.tokens.now) c.args.bytes.now c.args.new.now (key_of_code c.args.key) false (false_and _ _ (sym c.denotes_key.ensures ∙ w.if-denotes_key.false))) ∙ c.loop-i.invariant
    ]
