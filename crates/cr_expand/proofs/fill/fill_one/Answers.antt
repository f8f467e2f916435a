use Rattle.std.proofs.Common.{[], map}
use Rattle.std.proofs.lemmas.Result.{err_from_is_err_and}
use Rattle.cr_macros.specs.Tokens.{token_of}
use Rattle.cr_expand.specs.Held.{watch_of}
use Rattle.cr_expand.specs.Parts.{filled_here}
use Rattle.std.proofs.Common.{ap, arith}
use Rattle.cr_expand.specs.Parts.{joins}
use Rattle.cr_expand.proofs.Joins.{joins_append, one_name}
use Rattle.cr_expand.proofs.Fills.{fill_does, fill_known}
use Rattle.cr_expand.proofs.fill.fill_one.Goals as goal

pub returns-clause-adds : goal.returns-clause-adds
returns-clause-adds c = λ hide. (
  filled_here (map (λ v. v.items) c.args.raw.now) (map (λ v. v.items) c.args.full.now) c.in_ok-made.made c.args.item,
  c.in_ok-put_item.ensures,
  fill_does (watch_of c.args.names.now c.args.notes.now) c.args.notes.now.seen.items c.made_for.new.notes.seen.items c.args.names.now c.made_for.new.names c.args.sets.now (token_of c.args.names.now hide c.args.name)
      (map (λ v. v.items) c.args.raw.now) (map (λ v. v.items) c.args.full.now) c.in_ok-made.made c.args.item c.requires.tables.first (c.in_ok-made.ensures.made hide),
  fill_known (watch_of c.args.names.now c.args.notes.now) c.args.notes.now.seen.items c.made_for.new.notes.seen.items c.args.names.now c.made_for.new.names c.args.sets.now (token_of c.args.names.now hide c.args.name)
      (map (λ v. v.items) c.args.raw.now) (map (λ v. v.items) c.args.full.now) c.in_ok-made.made c.args.item c.requires.tables.some c.requires.named c.requires.raw c.requires.full (c.in_ok-made.ensures.made hide),
)

pub returns-in_err-made-clause-stops : goal.returns-in_err-made-clause-stops
returns-in_err-made-clause-stops c = λ hide. let p = err_from_is_err_and c.from_residual.result c.from_residual.ensures.1 in
    rw (p.1, p.2) (c.in_err-made.ensures.stops hide (map (λ v. v.items) c.args.full.now))

pub returns-clause-joins : goal.returns-clause-joins
returns-clause-joins c =
    let e = ap joins c.in_ok-put_item.ensures in
    let f = joins_append c.args.parts.now.items (filled_here (map (λ v. v.items) c.args.raw.now) (map (λ v. v.items) c.args.full.now) c.in_ok-made.made c.args.item) in
    let g = one_name (watch_of c.args.names.now c.args.notes.now) c.args.notes.now.seen.items c.made_for.new.notes.seen.items c.args.names.now c.made_for.new.names c.args.sets.now (token_of c.args.names.now [] c.args.name)
    (map (λ v. v.items) c.args.raw.now) (map (λ v. v.items) c.args.full.now) c.in_ok-made.made c.args.item (c.in_ok-made.ensures.made []) c.in_ok-made.ensures.length in
    omega (arith, e, f, g)
