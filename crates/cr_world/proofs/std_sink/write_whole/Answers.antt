use Rattle.std.proofs.Common.{◌≡◌, [], ◌++◌, take, rules, drop_of_length-le}
use Rattle.std.proofs.KnownBytes.{Appends-trans, Keeps-refl}
use Rattle.cr_world.proofs.Written.{moves_front, wrote_all, wrote_front}
use Rattle.cr_world.proofs.std_sink.write_whole.Goals as goal

pub loop-rest-preserved : goal.loop-rest-preserved
loop-rest-preserved g c =
    let (gone, split, appended) = c.loop-rest.invariant in
    let rest = c.loop-rest.rest.now in
    let n = c.in-Ok.count in
    (gone ++ take n rest, moves_front _ gone rest n split, Appends-trans _ _ _ _ _ appended c.in-Ok.ensures.bytes)

pub returns-in-Ok-eq0 : goal.returns-in-Ok-eq0
returns-in-Ok-eq0 g c =
    let (gone, split, appended) = c.loop-rest.invariant in
    let rest = c.loop-rest.rest.now in
    let n = c.in-Ok-eq0.field-0 in
    wrote_front _ _ _ _ (gone ++ take n rest) _ (moves_front _ gone rest n split) (Appends-trans _ _ _ _ _ appended c.in-Ok-eq0.ensures.bytes) (Keeps-refl _)

pub returns-in-Err : goal.returns-in-Err
returns-in-Err g c =
    let (gone, split, appended) = c.loop-rest.invariant in
    wrote_front _ _ _ _ gone c.loop-rest.rest.now split appended c.in-Err.ensures.bytes

pub returns-in-Ok-flush : goal.returns-in-Ok-flush
returns-in-Ok-flush g c =
    let (gone, split, appended) = c.loop-rest.invariant in
    let rest = c.loop-rest.rest.now in
    let none : rest ≡ [] = drop_of_length-le rest {i = 0} (search rules) in
    wrote_all _ _ _ _ gone rest split none appended c.in-Ok-flush.ensures.bytes

pub returns-in-Err-flush : goal.returns-in-Err-flush
returns-in-Err-flush g c =
    let (gone, split, appended) = c.loop-rest.invariant in
    wrote_front _ _ _ _ gone c.loop-rest.rest.now split appended c.in-Err-flush.ensures.bytes
