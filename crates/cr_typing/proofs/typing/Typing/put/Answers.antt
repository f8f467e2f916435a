use Rattle.std.proofs.Common.{◌≡◌, ℕ, ◌+◌, ◌++◌, ◌∷◌, [], None, length, length-append, rules, sym, ap, subst, ◌∙◌}
use Rattle.cr_typing.specs.declared.members.Placed.{Placed}
use Rattle.cr_typing.specs.Members.{listed, listed_in, redeclared}
use Rattle.cr_typing.specs.Kept.{IsListedBelow, AreNamedBelow}
use Rattle.cr_typing.proofs.Lists.{each_listed}
use Rattle.cr_typing.proofs.Names.{are_new, one_more_below, with_member_below}
use Rattle.cr_typing.proofs.typing.Typing.put.Goals as goal

pub invariant_of-self : goal.invariant_of-self
invariant_of-self c = rw c.reserve.ensures.items c.self.invariant

pub invariant_of-self-in_err-put_in : goal.invariant_of-self-in_err-put_in
invariant_of-self-in_err-put_in c = rw (c.reserve.ensures.items, c.in_err-put_in.ensures.err) c.self.invariant

pub put_in-requires : goal.put_in-requires
put_in-requires c =
    let e : redeclared (listed_in c.self.inside.records.entries c.args.member.rec.0) c.args.more.now ≡ None = ap (λ m. redeclared (listed m c.args.member.rec.0) c.args.more.now) c.self.view_is ∙ sym c.redeclared.ensures ∙ c.in-None.is in
    are_new (listed_in c.self.inside.records.entries c.args.member.rec.0) c.args.more.now c.requires.apart e

pub invariant_of-self-2 : goal.invariant_of-self-2
invariant_of-self-2 c =
    let n : ℕ = length c.self.inside.all.items in
    let r : ℕ = c.args.member.rec.0 in
    let p : Placed = record { member = c.args.member; place = c.declared_len-place.result } in
    let len : length c.push_placed.new.all.items ≡ n + 1 = ap length (c.push_placed.ensures ∙ ap (λ x. x ++ p ∷ []) c.reserve.ensures.items) ∙ length-append c.self.inside.all.items (p ∷ []) in
    let members : AreNamedBelow (n + 1) c.args.more.now = subst (λ m. AreNamedBelow (length m.all + 1) c.args.more.now) (sym c.self.view_is) c.requires.members in
    let here : IsListedBelow (n + 1) (listed_in c.put_in.new.records.entries r) = subst (IsListedBelow (n + 1)) (sym c.in_ok-put_in.ensures.this) (with_member_below n (listed_in c.self.inside.records.entries r) _ c.args.more.now (c.self.invariant r) members (search rules)) in
    subst (λ k. (q : ℕ) → IsListedBelow k (listed_in c.put_in.new.records.entries q)) (sym len)
    (each_listed (IsListedBelow (n + 1)) c.self.inside.records.entries c.put_in.new.records.entries r here
    (λ q. one_more_below n (listed_in c.self.inside.records.entries q) (c.self.invariant q))
    c.in_ok-put_in.ensures.others)

pub returns-in-Some-clause-listed : goal.returns-in-Some-clause-listed
returns-in-Some-clause-listed c = rw (← c.self.view_is) c.self.invariant

pub returns-in_err-reserve-clause-listed : goal.returns-in_err-reserve-clause-listed
returns-in_err-reserve-clause-listed c = rw (← c.self.view_is) c.self.invariant

pub returns-in_err-put_in-clause-listed : goal.returns-in_err-put_in-clause-listed
returns-in_err-put_in-clause-listed c = rw (← c.self.view_is) c.self.invariant

pub returns-clause-listed : goal.returns-clause-listed
returns-clause-listed c = rw (← c.self.view_is) c.self.invariant
