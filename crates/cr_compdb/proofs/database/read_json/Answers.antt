use Rattle.std.proofs.Common.{refl, rules}
use Rattle.cr_compdb.proofs.Json.{json_read, json_refused}
use Rattle.cr_compdb.proofs.database.read_json.Goals as goal

pub returns-in-Ok : goal.returns-in-Ok
returns-in-Ok c =
    let e = json_read c.args.bytes.now _ c.in-Ok.ensures.ok.0 c.in-Ok.ensures.ok.1 in
    rw e refl

pub returns-in-Err-2 : goal.returns-in-Err-2
returns-in-Err-2 c =
    let e = json_refused c.args.bytes.now (λ text. c.in-Err.ensures.err (λ m. search rules) text) in
    rw e refl
