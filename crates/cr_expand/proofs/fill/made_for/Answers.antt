use Rattle.std.proofs.Common.{map}
use Rattle.std.proofs.lemmas.Result.{err_from_is_err_and}
use Rattle.cr_macros.specs.Tokens.{token_of}
use Rattle.cr_expand.specs.Held.{watch_of}
use Rattle.cr_expand.proofs.Fills.{string_made, string_item_stops}
use Rattle.cr_expand.proofs.fill.made_for.Goals as goal

pub returns-in_err-made-in-Spelt-clause-stops : goal.returns-in_err-made-in-Spelt-clause-stops
returns-in_err-made-in-Spelt-clause-stops c = λ hide full. let p = err_from_is_err_and c.from_residual.result c.from_residual.ensures.1 in
    rw (p.1, p.2) (string_item_stops c.args.names.now c.args.sets.now (token_of c.args.names.now hide c.args.name) (map (λ v. v.items) c.args.raw.now) full c.args.item c.in-Spelt.hash c.in-Spelt.n c.arg.result.now _ c.in-Spelt.is c.arg.ensures (c.in_err-made-in-Spelt.ensures.stops hide))

pub returns-in_ok-made-in-Spelt-clause-made : goal.returns-in_ok-made-in-Spelt-clause-made
returns-in_ok-made-in-Spelt-clause-made c = λ hide.
    string_made (watch_of c.args.names.now c.args.notes.now) c.args.notes.now.seen.items c.string_of.new.notes.seen.items c.args.names.now c.string_of.new.names c.args.sets.now (token_of c.args.names.now hide c.args.name)
    (map (λ v. v.items) c.args.raw.now) c.in_ok-made-in-Spelt.made c.args.item c.in-Spelt.hash c.in-Spelt.n c.arg.result.now c.in-Spelt.is c.arg.ensures (c.in_ok-made-in-Spelt.ensures.does hide) c.in_ok-made-in-Spelt.ensures.known
