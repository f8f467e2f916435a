use Rattle.std.proofs.Common.{◌≡◌, ◌<◌, ◌-◌, suc, length, refl, sym, rules, arith, ap, ◌∙◌, get_or, drop}
use Rattle.cr_macros.specs.Definition.{has_name}
use Rattle.cr_expand.specs.HideSets.{set_at, with_numbers}
use Rattle.cr_expand.proofs.Forks.{name_within, name_at, held_above, numbers_start}
use Rattle.cr_expand.proofs.Sets.{name_below, grows_same, grows_then, numbers_at, numbers_new}
use Rattle.cr_expand.proofs.hide_sets.HideSets.with_all.Goals as goal

pub loop-i-init : goal.loop-i-init
loop-i-init c =
    let count : c.len-i.result ≡ length c.in_ok-fork.fork.names.items = search rules in
    record {
      below = λ bound h. h;
      set = (
        grows_same c.args.self.now,
        c.requires.set,
        numbers_start c.args.self.now (set_at c.args.self.now c.args.more.0) (set_at c.args.self.now c.args.set.0) c.in_ok-fork.fork.at.0 c.in_ok-fork.fork.names.items c.in_ok-fork.fork.others.keys c.in_ok-fork.ensures ∙ ap (λ i. with_numbers (set_at c.args.self.now c.args.set.0) (drop i (set_at c.args.self.now c.args.more.0))) (sym count),
      );
    }

pub with_wanted-requires-clause-new : goal.with_wanted-requires-clause-new
with_wanted-requires-clause-new c =
    let sets = c.args.self.now in
    let set = set_at sets c.args.more.0 in
    let other = set_at sets c.args.set.0 in
    let fork = c.in_ok-fork.fork in
    let n = c.index.result.now in
    let j = c.loop-i.i - 1 in
    let step : c.loop-i.i ≡ suc j = omega (arith, c.loop-i-test.true) in
    let long : j < length fork.names.items = search rules in
    let here : n ≡ get_or fork.names.items j n = c.index.ensures in
    let within : j < length set = name_within sets set other fork.at.0 fork.names.items fork.others.keys c.in_ok-fork.ensures j long in
    let there : n ≡ get_or set j n = name_at sets set other fork.at.0 fork.names.items fork.others.keys c.in_ok-fork.ensures j n long here in
    let held : c.contains.result ≡ has_name other n = held_above sets set other fork.at.0 fork.names.items fork.others.keys c.in_ok-fork.ensures c.contains.result j c.loop-i.i n step long here c.contains.ensures in
    numbers_new other set (set_at c.loop-i.self c.loop-i.all.0) c.contains.result j c.loop-i.i n c.in_ok-fork.ensures.once step within there held c.loop-i.invariant.set.2

pub loop-i-preserved : goal.loop-i-preserved
loop-i-preserved c =
    let sets = c.args.self.now in
    let set = set_at sets c.args.more.0 in
    let other = set_at sets c.args.set.0 in
    let fork = c.in_ok-fork.fork in
    let n = c.index.result.now in
    let j = c.loop-i.i - 1 in
    let step : c.loop-i.i ≡ suc j = omega (arith, c.loop-i-test.true) in
    let long : j < length fork.names.items = search rules in
    let here : n ≡ get_or fork.names.items j n = c.index.ensures in
    let within : j < length set = name_within sets set other fork.at.0 fork.names.items fork.others.keys c.in_ok-fork.ensures j long in
    let there : n ≡ get_or set j n = name_at sets set other fork.at.0 fork.names.items fork.others.keys c.in_ok-fork.ensures j n long here in
    let held : c.contains.result ≡ has_name other n = held_above sets set other fork.at.0 fork.names.items fork.others.keys c.in_ok-fork.ensures c.contains.result j c.loop-i.i n step long here c.contains.ensures in
    record {
      below = λ bound h. c.in_ok-all.ensures.below bound (name_below bound sets c.args.more.0 set j n h refl within there) (c.loop-i.invariant.below bound h);
      set = (
        grows_then sets c.loop-i.self c.with_wanted.new.self c.loop-i.invariant.set.0 c.in_ok-all.ensures.puts.0,
        c.in_ok-all.ensures.puts.1,
        c.in_ok-all.ensures.puts.2 ∙ numbers_at other set (set_at c.loop-i.self c.loop-i.all.0) c.contains.result j c.loop-i.i n c.in_ok-fork.ensures.once step within there held c.loop-i.invariant.set.2,
      );
    }

pub returns-in_err-all-clause-below : goal.returns-in_err-all-clause-below
returns-in_err-all-clause-below c = λ bound h.
    let sets = c.args.self.now in
    let set = set_at sets c.args.more.0 in
    let other = set_at sets c.args.set.0 in
    let fork = c.in_ok-fork.fork in
    let n = c.index.result.now in
    let j = c.loop-i.i - 1 in
    let step : c.loop-i.i ≡ suc j = omega (arith, c.loop-i-test.true) in
    let long : j < length fork.names.items = search rules in
    let here : n ≡ get_or fork.names.items j n = c.index.ensures in
    let within : j < length set = name_within sets set other fork.at.0 fork.names.items fork.others.keys c.in_ok-fork.ensures j long in
    let there : n ≡ get_or set j n = name_at sets set other fork.at.0 fork.names.items fork.others.keys c.in_ok-fork.ensures j n long here in
    c.in_err-all.ensures.below bound (name_below bound sets c.args.more.0 set j n h refl within there) (c.loop-i.invariant.below bound h)
