use Rattle.std.proofs.Common.{◌≡◌, refl, ap, sym, ◌∙◌, Some, map, arith}
use Rattle.std.specs.Option.{option_copied}
use Rattle.cr_macros.specs.MacroTables.{macro_named}
use Rattle.cr_expand.proofs.Sets.{grows_same}
use Rattle.cr_expand.proofs.Puttings.{put_again}
use Rattle.cr_expand.proofs.Looked.{found_known, found_short, call_work}
use Rattle.cr_expand.proofs.machine.Machine.complete.Goals as goal

pub put-requires-clause-room : goal.put-requires-clause-room
put-requires-clause-room c =
    let e : macro_named c.name.result.token.text c.args.macros.now ≡ Some c.in-Some.m.now = sym c.lookup.ensures ∙ ap option_copied c.in-Some.is in
    omega (arith, c.requires.room, found_short c.args.names.now c.args.macros.now c.name.result.token.text c.in-Some.m.now c.requires.macros e)

pub put-requires-clause-known : goal.put-requires-clause-known
put-requires-clause-known c =
    let e : macro_named c.name.result.token.text c.args.macros.now ≡ Some c.in-Some.m.now = sym c.lookup.ensures ∙ ap option_copied c.in-Some.is in
    found_known c.args.names.now c.args.macros.now c.name.result.token.text c.in-Some.m.now c.requires.macros e

pub returns-clause-put : goal.returns-clause-put
returns-clause-put c =
    let e : macro_named c.args.frame.now.name.token.text c.args.macros.now ≡ Some c.in-Some.m.now =
    ap (λ h. macro_named h.token.text c.args.macros.now) (sym c.name.ensures) ∙ sym c.lookup.ensures ∙ ap option_copied c.in-Some.is in
    put_again c.args.names.now c.put.new.names c.args.self.now c.args.self.now c.put.new.self _ _ c.args.self.now.slots.items c.args.self.now.slots.items refl refl (grows_same c.args.self.now.sets)
    (call_work c.args.names.now c.args.macros.now c.args.self.now.sets c.args.frame.now c.name-in-Some.result c.in-Some.m.now (map (λ v. v.items) c.raw.result.now) (map (λ v. v.items) c.done.result.now) c.hide.result.0
    c.name-in-Some.ensures e c.raw.ensures c.done.ensures c.hide.ensures)
    refl
    c.in_ok-put-in-Some.ensures.put
