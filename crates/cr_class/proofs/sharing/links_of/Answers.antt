use Rattle.std.proofs.Common.{ℕ, List, length, map, sym, ◌∙◌, subst, arith, Bor, Vec, Global}
use Rattle.std.proofs.lemmas.List.{length-map}
use Rattle.cr_base.specs.declared.key.Key.{Key}
use Rattle.cr_base.specs.declared.token.Place.{Place}
use Rattle.cr_class.specs.RenameClass.{key_cmp, place_cmp}
use Rattle.cr_class.specs.Graph.{AreBelow, AreLinked}
use Rattle.cr_class.proofs.Sharings.{IsLeading, leading, links_equal, map_same, key_ties, key_own, place_ties, place_own}
use Rattle.cr_class.proofs.sharing.links_of.Goals as goal

abbrev items : Vec ℕ Global → List ℕ
items v = v.items

pub link-requires-clause-below : goal.link-requires-clause-below
link-requires-clause-below c =
    let below : AreBelow (length c.in_ok-by_key.by_key.items) c.in_ok-by_key.by_key.items = λ n has. omega (arith, c.in_ok-by_key.ensures.below n has, c.in_ok-by_key.ensures.length) in
    subst (λ l. AreBelow (length l) l) (sym c.deref-2.ensures.value) below

pub link-requires-2-clause-below : goal.link-requires-2-clause-below
link-requires-2-clause-below c =
    let below : AreBelow (length c.in_ok-by_place.by_place.items) c.in_ok-by_place.by_place.items = λ n has. omega (arith, c.in_ok-by_place.ensures.below n has, c.in_ok-by_place.ensures.length) in
    subst (λ l. AreBelow (length l) l) (sym c.deref-4.ensures.value) below

pub returns-clause-links : goal.returns-clause-links
returns-clause-links c =
    let law = c.facts_are_ordered.ensures in
    let keys = map (λ (k : Bor Key). k.now) c.args.all.now.keys.items in
    let places = c.args.all.now.places.items in
    let by_key = c.in_ok-by_key.by_key.items in
    let by_place = c.in_ok-by_place.by_place.items in
    let leads_key : IsLeading keys by_key =
    subst (λ l. IsLeading (map (λ (k : Bor Key). k.now) l) by_key) c.deref.ensures.value
    (leading (λ (k : Bor Key). k.now) key_cmp (key_ties law) (key_own law) c.deref.result.now by_key c.in_ok-by_key.ensures.length c.in_ok-by_key.ensures.below c.in_ok-by_key.ensures.equal c.in_ok-by_key.ensures.one) in
    let leads_place : IsLeading places by_place =
    subst (λ l. IsLeading l by_place) (map_same c.deref-3.result.now ∙ c.deref-3.ensures.value)
    (leading (λ (p : Place). p) place_cmp (place_ties law) (place_own law) c.deref-3.result.now by_place c.in_ok-by_place.ensures.length c.in_ok-by_place.ensures.below c.in_ok-by_place.ensures.equal c.in_ok-by_place.ensures.one) in
    let zero = map items c.in_ok-links.links.items in
    let one = map items c.link.new.links.items in
    let two = map items c.link-2.new.links.items in
    let first : AreLinked zero one (length by_key) by_key = subst (λ l. AreLinked zero one (length l) l) c.deref-2.ensures.value c.in_ok-link.ensures.links in
    let second : AreLinked one two (length by_place) by_place = subst (λ l. AreLinked one two (length l) l) c.deref-4.ensures.value c.in_ok-link-2.ensures.links in
    links_equal keys places (length-map c.args.all.now.keys.items (λ (k : Bor Key). k.now) ∙ c.requires) by_key by_place leads_key leads_place zero one two c.in_ok-links.ensures.empty first second
    (length-map c.link-2.new.links.items items ∙ c.in_ok-link-2.ensures.count ∙ c.in_ok-link.ensures.count ∙ c.in_ok-links.ensures.length ∙ c.len.ensures ∙ c.args.all.now.keys.ok.0 ∙ sym (length-map c.args.all.now.keys.items (λ (k : Bor Key). k.now)))
