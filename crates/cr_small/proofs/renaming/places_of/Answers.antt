use Rattle.std.proofs.Common.{◌++◌, ◌≡◌, ◌+◌, sym, ◌∙◌, arith, subst, map, drop}
use Rattle.std.specs.List.{zip}
use Rattle.cr_small.specs.Renaming as renaming
use Rattle.cr_lex.specs.Seen.{seen}
use Rattle.cr_small.specs.Seen.{key_of_code}
use Rattle.cr_small.proofs.Parts.{no_token}
use Rattle.cr_small.proofs.Pairs.{places_yes, places_no, one_place_more, no_place_more}
use Rattle.cr_small.proofs.renaming.places_of.Goals as goal
use Rattle.cr_small.proofs.renaming.places_of.Goals.{then-denotes_key+in_ok-push, else-denotes_key}

pub loop-i-preserved : goal.loop-i-preserved
loop-i-preserved c =
    let tokens = map (seen c.args.names.now) c.args.tokens.now in
    let key = key_of_code c.args.key in
    elim c.if-denotes_key.branch [
      | then-denotes_key+in_ok-push w ↦ subst (λ v. v.items ++ renaming.places_among tokens key (zip (map (seen c.args.names.now) (drop (c.loop-i.i + 1) c.args.tokens.now)) (drop (c.loop-i.i + 1) c.args.denotes.now)) ≡ renaming.places_of key tokens c.args.denotes.now) (sym w.places-is)
          (one_place_more c.loop-i.places.items w.push.new.self.items _ _ _ _ c.loop-i.invariant (places_yes c.args.names.now _ c.args.tokens.now c.args.denotes.now c.loop-i.i (omega arith) (omega (arith, c.requires)) tokens key (sym c.denotes_key.ensures ∙ w.if-denotes_key.true)) w.in_ok-push.ensures.items)
      | else-denotes_key w ↦ subst (λ v. v.items ++ renaming.places_among tokens key (zip (map (seen c.args.names.now) (drop (c.loop-i.i + 1) c.args.tokens.now)) (drop (c.loop-i.i + 1) c.args.denotes.now)) ≡ renaming.places_of key tokens c.args.denotes.now) (sym w.places-is)
          (no_place_more c.loop-i.places.items _ _ _ c.loop-i.invariant (places_no c.args.names.now no_token c.args.tokens.now c.args.denotes.now c.loop-i.i (omega arith) (omega (arith, c.requires)) tokens key (sym c.denotes_key.ensures ∙ w.if-denotes_key.false)))
    ]
