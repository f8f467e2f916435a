use Rattle.std.proofs.Common.{◌≡◌, ◌⊎◌, ℕ, List, true, false, Some, length, map, get_or, slice_get, sym, ap, ◌∙◌, subst, inl, inr, arith, Bor, Vec, Global}
use Rattle.std.specs.Prelude.{◌↔◌}
use Rattle.std.specs.List.{Contains}
use Rattle.std.specs.BTreeSet as tree
use Rattle.std.proofs.lemmas.List.{length-map}
use Rattle.std.proofs.lemmas.Option.{slice_get_within}
use Rattle.cr_base.specs.declared.key.Key.{Key}
use Rattle.cr_class.specs.RenameClass.{key_cmp}
use Rattle.cr_class.specs.Graph.{IsGraph, Reaches}
use Rattle.cr_class.specs.Sharing.{Shares, given}
use Rattle.cr_class.proofs.Sharings.{any_key, key_any, shares_sound, shares_complete}
use Rattle.cr_class.proofs.sharing.shared_keys.Goals as goal

abbrev items : Vec ℕ Global → List ℕ
items v = v.items

abbrev key_of : Bor Key → Key
key_of k = k.now

pub reached-requires-clause-start : goal.reached-requires-clause-start
reached-requires-clause-start c n has =
    let h = (c.in_ok-start.ensures n).0 has in
    omega (arith, slice_get_within (map key_of c.deref.result.now) n h.0 h.1, length-map c.deref.result.now key_of, ap length c.deref.ensures.value, c.in_ok-links.ensures.length, ap length c.deref-2.ensures.value)

pub reached-requires-clause-links : goal.reached-requires-clause-links
reached-requires-clause-links c = subst (λ l. IsGraph (map items l)) (sym c.deref-2.ensures.value) c.in_ok-links.ensures.links.graph

pub returns : goal.returns
returns c k =
    let law = c.facts_are_ordered.ensures in
    let targets = c.args.targets.items in
    let keys = map key_of c.in_ok-all.all.keys.items in
    let places = c.in_ok-all.all.places.items in
    let links = map items c.in_ok-links.links.items in
    let start = c.in_ok-start.start.items in
    let seen = c.in_ok-seen.seen.items in
    let known = tree.contains key_cmp c.in_ok-known.known in
    let starts : (i : ℕ) → Contains start i ↔ ((l : Key) × (slice_get keys i ≡ Some l) × Contains targets l) = λ i. (
      λ has. (let h = (c.in_ok-start.ensures i).0 has in (h.0, ap (λ l. slice_get (map key_of l) i) (sym c.deref.ensures.value) ∙ h.1, any_key law h.0 targets (sym (c.in_ok-known.ensures h.0) ∙ h.2))),
      λ h. (c.in_ok-start.ensures i).1 (h.0, ap (λ l. slice_get (map key_of l) i) c.deref.ensures.value ∙ h.1, c.in_ok-known.ensures h.0 ∙ key_any law h.0 targets h.2),
    ) in
    let size = length-map c.in_ok-links.links.items items ∙ c.in_ok-links.ensures.length ∙ sym (length-map c.in_ok-all.all.keys.items key_of) in
    let sound : (n : ℕ) → get_or seen n false ≡ true → Reaches links start n = λ n e. subst (λ l. Reaches (map items l) start n) c.deref-2.ensures.value (c.in_ok-seen.ensures.sound n e) in
    let complete : (n : ℕ) → Reaches links start n → get_or seen n false ≡ true = λ n way. c.in_ok-seen.ensures.complete n (subst (λ l. Reaches (map items l) start n) (sym c.deref-2.ensures.value) way) in
    let to : (known k ≡ true) ⊎ ((i : ℕ) × (slice_get (map key_of c.deref-3.result.now) i ≡ Some k) × (get_or c.deref-4.result.now i false ≡ true)) → Shares c.args.facts.now targets k = elim [
      | inl h ↦ given (any_key law k targets (sym (c.in_ok-known.ensures k) ∙ h))
      | inr h ↦
          shares_sound c.args.facts.now targets keys places c.in_ok-all.ensures links size c.in_ok-links.ensures.links start starts h.0 k
          (sound h.0 (ap (λ l. get_or l h.0 false) (sym c.deref-4.ensures.value) ∙ h.2)) (ap (λ l. slice_get (map key_of l) h.0) (sym c.deref-3.ensures.value) ∙ h.1)
    ] in
    let from : Contains targets k ⊎ ((i : ℕ) × (slice_get keys i ≡ Some k) × Reaches links start i) → (known k ≡ true) ⊎ ((i : ℕ) × (slice_get (map key_of c.deref-3.result.now) i ≡ Some k) × (get_or c.deref-4.result.now i false ≡ true)) = elim [
      | inl h ↦ inl (c.in_ok-known.ensures k ∙ key_any law k targets h)
      | inr h ↦ inr (h.0, ap (λ l. slice_get (map key_of l) h.0) c.deref-3.ensures.value ∙ h.1, ap (λ l. get_or l h.0 false) c.deref-4.ensures.value ∙ complete h.0 h.2)
    ] in (
      λ has. to ((c.in_ok-add_seen.ensures k).0 has),
      λ share. (c.in_ok-add_seen.ensures k).1 (from (shares_complete c.args.facts.now targets keys places c.in_ok-all.ensures links size c.in_ok-links.ensures.links start starts k share)),
    )
