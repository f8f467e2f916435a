use Rattle.std.proofs.Common.{length, ◌-◌, [], map, arith, refl, sym, ap, ◌∙◌, inr}
use Rattle.std.specs.Prelude.{option_map}
use Rattle.cr_expand.proofs.PartedLists.{call_place}
use Rattle.cr_expand.proofs.Counting.{some_lists, taken, miscounted, commas_are, length_map}
use Rattle.cr_expand.proofs.Wholes.{length_all_kept}
use Rattle.cr_expand.specs.Calls.{IsCallAt}
use Rattle.cr_expand.specs.Wanted.{counted, is_marked_whole}
use Rattle.cr_expand.proofs.machine.Machine.take_arguments.Goals as goal

pub most_commas-commas-requires : goal.most_commas-commas-requires
most_commas-commas-requires c = call_place c.args.self.now.slots.items c.args.close c.requires.call

pub overflow_sub-more : goal.overflow_sub-more
overflow_sub-more c =
    let k : IsCallAt c.args.self.now.slots.items c.args.close = c.requires.call in
    let r = c.in_ok-lists.ensures k.0 k.1 k.2 k.3 k.4 k.5 k.6 in
    let s = some_lists c.args.names.now c.args.m.now [] k.0 k.1 k.3 k.4 c.part.new.slots.items r.0 c.most_commas-commas.result r.1 in
    let l = length_map (λ v. v.items) c.in_ok-lists.lists.items in
    let m = ap length r.2 in
    let n = length_all_kept (is_marked_whole c.args.needs.now) 0 r.0 in
    omega (arith, s, l, m, n, c.len-more.ensures, c.in_ok-lists.lists.ok)

pub returns-in-None-clause-faults : goal.returns-in-None-clause-faults
returns-in-None-clause-faults c = λ a b end inside rest params e f p q.
    let r = c.in_ok-lists.ensures a b end inside rest e f in
    let n = commas_are c.args.m.now.variadic c.most_commas-commas.result c.args.count c.args.close params inside c.most_commas-commas.ensures q f in
    inr (
      refl,
      miscounted c.args.names.now c.args.m.now params a b inside rest c.part.new.slots.items r.0 c.most_commas-commas.result r.1 (is_marked_whole c.args.needs.now) (map (λ v. v.items) c.in_ok-lists.lists.items) r.2 n
          (sym (ap (option_map (λ v. map (λ l. l.items) v.items)) c.in-None.is) ∙ c.in_ok-counted.ensures ∙ ap (λ x. counted x c.args.m.now.variadic (map (λ v. v.items) c.in_ok-lists.lists.items)) q),
    )

pub returns-in-Some-clause-taken : goal.returns-in-Some-clause-taken
returns-in-Some-clause-taken c = λ a b end inside rest params e f p q.
    let r = c.in_ok-lists.ensures a b end inside rest e f in
    let n = commas_are c.args.m.now.variadic c.most_commas-commas.result c.args.count c.args.close params inside c.most_commas-commas.ensures q f in
    let s = some_lists c.args.names.now c.args.m.now params a b inside rest c.part.new.slots.items r.0 c.most_commas-commas.result r.1 in
    let l = length_map (λ v. v.items) c.in_ok-lists.lists.items in
    let k = ap length r.2 in
    let o = length_all_kept (is_marked_whole c.args.needs.now) 0 r.0 in
    taken c.args.names.now c.args.m.now params a b inside rest c.part.new.slots.items r.0 c.most_commas-commas.result r.1 (is_marked_whole c.args.needs.now) (map (λ v. v.items) c.in_ok-lists.lists.items) _ (c.len-more.result - 1) r.2 n
    (sym (ap (option_map (λ v. map (λ l. l.items) v.items)) c.in-Some.is) ∙ c.in_ok-counted.ensures ∙ ap (λ x. counted x c.args.m.now.variadic (map (λ v. v.items) c.in_ok-lists.lists.items)) q)
    (omega (arith, s, l, k, o, c.len-more.ensures, c.in_ok-lists.lists.ok))
