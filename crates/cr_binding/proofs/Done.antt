-- In a unit without a fault every action is done.
use Rattle.std.specs.Prelude.{◌≡◌, ℕ, Bool, true, false, if◌then◌else◌, Option, Some, None, is_some, unwrap_or}
use Rattle.std.proofs.Common.{refl, sym, ◌∙◌, ap, subst}
use Rattle.cr_base.specs.declared.cause.IllCause.{IllCause}
use Rattle.cr_grammar.specs.declared.symbols.NonTerm.{NonTerm}
use Rattle.cr_grammar.specs.declared.symbols.NonTerm.TheVariants as n
use Rattle.cr_ll.specs.Derivation.{Trees, none, token, action, node}
use Rattle.cr_binding.specs.Source.{Source}
use Rattle.cr_binding.specs.State.{State, start}
use Rattle.cr_binding.specs.Scoping.{unless_failed}
use Rattle.cr_binding.specs.Actions.{passed, acted}
use Rattle.cr_binding.specs.Binding.{is_empty, ended_as, ended, asked, unless_refused, goes_on, walk, bound}
use Rattle.cr_binding.specs.BindingGrows.{Grows}
use Rattle.cr_binding.specs.BindingStays.{Along}
use Rattle.cr_binding.specs.SoundUnits.{IsDone, ActionsAreDone}
use Rattle.cr_binding.proofs.Growing.{binding_grows, fault_stays, followed, itself, ended_grows}

-- no fault in the end, so none at first
pub none_before : (t : Source) (m : NonTerm) (first : Option ℕ) (trees : Trees) (s : State) → (walk t m first trees s).fault ≡ None → s.fault ≡ None
none_before t m first trees s h = by (s.fault) refl
  where
    by : (o : Option (IllCause × ℕ)) → s.fault ≡ o → o ≡ None
    by None e = refl
    by (Some f) e = let k : (walk t m first trees s).fault ≡ Some f = fault_stays t m first trees s f e in absurd (differ (sym h ∙ k))
      where
        differ : None ≡ Some f → ⊥
        differ e = cc

-- where nothing failed, what is done is done
pub unless_gives : (s x : State) → (unless_failed s x).fault ≡ None → (s.fault ≡ None) × (unless_failed s x ≡ x)
unless_gives s x h = by (s.fault) refl
  where
    by : (o : Option (IllCause × ℕ)) → s.fault ≡ o → (s.fault ≡ None) × (unless_failed s x ≡ x)
    by None e = (e, ap (λ o. if is_some o then s else x) e)
    by (Some f) e =
        let k : unless_failed s x ≡ s = ap (λ o. if is_some o then s else x) e in
        absurd (differ (sym h ∙ ap (λ (z : State). z.fault) k ∙ e))
      where
        differ : None ≡ Some f → ⊥
        differ e = cc

refused_gives : (r : Option ℕ) (s x : State) → (unless_refused r s x).fault ≡ None → unless_refused r s x ≡ x
refused_gives None s x h = refl
refused_gives (Some i) s x h = cc

pub goes_on_gives : (s x : State) → (goes_on s x).fault ≡ None → (s.fault ≡ None) × (goes_on s x ≡ x)
goes_on_gives s x h =
    let u : (s.fault ≡ None) × (goes_on s x ≡ unless_refused s.refused s x) = unless_gives s (unless_refused s.refused s x) h in
    let k : unless_refused s.refused s x ≡ x = refused_gives s.refused s x (ap (λ (z : State). z.fault) (sym u.1) ∙ h) in
    (u.0, u.1 ∙ k)

-- the end of a node is no fault
if_fault : (b : Bool) (x y : State) → x.fault ≡ y.fault → (if b then x else y).fault ≡ y.fault
if_fault true x y h = h
if_fault false x y h = refl

pub ended_as_fault : (m : NonTerm) (children : Trees) (before s : State) → (ended_as m children before s).fault ≡ s.fault
ended_as_fault n.AssMore children before s = by (is_empty children)
  where
    by : (b : Bool) → (if b then s else ended_as n.AssMore (token 0 none) before s).fault ≡ s.fault
    by true = refl
    by false = refl
ended_as_fault n.SpecsB children before s = by (is_empty children)
  where
    permitted : (b : Bool) → (if b then record s { refused = Some s.pending.last_basic } else s).fault ≡ s.fault
    permitted b = if_fault b (record s { refused = Some s.pending.last_basic }) s refl

    by : (b : Bool) → (if b then ended_as n.SpecsB none before s else s).fault ≡ s.fault
    by true = permitted _
    by false = refl
ended_as_fault _ children before s = refl

done : (t : Source) (end : State) (m : NonTerm) (first : Option ℕ) (trees : Trees) (s : State) → Grows (walk t m first trees s) end → (walk t m first trees s).fault ≡ None → Along (IsDone t end) t m first trees s
done t end m first none s g h = tt
done t end m first (token i next) s g h = done t end m (Some (unwrap_or first i)) next (goes_on s (passed t m i s)) g h
done t end m first (action x next) s g h =
    let y = acted t m (unwrap_or first s.last) x s in
    let after : (goes_on s y).fault ≡ None = none_before t m first next (goes_on s y) h in
    let u : (s.fault ≡ None) × (goes_on s y ≡ y) = goes_on_gives s y after in
    let grown : Grows (goes_on s y) end = followed (goes_on s y) (walk t m first next (goes_on s y)) end (binding_grows t m first next (goes_on s y)) g in (
      record { before = u.0; after = ap (λ (z : State). z.fault) (sym u.1) ∙ after; stays = subst (λ z. Grows z end) u.1 grown },
      done t end m first next (goes_on s y) g h,
    )
done t end m first (node k asks children next) s g h =
    let below = walk t k None children (asked asks s) in
    let y = ended m k children s below in
    let after : (unless_failed s y).fault ≡ None = none_before t m first next (unless_failed s y) h in
    let u : (s.fault ≡ None) × (unless_failed s y ≡ y) = unless_gives s y after in
    let sound : below.fault ≡ None = sym (ended_as_fault k children s below) ∙ ap (λ (z : State). z.fault) (sym u.1) ∙ after in
    let grown : Grows (unless_failed s y) end = followed (unless_failed s y) (walk t m first next (unless_failed s y)) end (binding_grows t m first next (unless_failed s y)) g in
    let inner : Grows below end = followed below y end (ended_grows m k children s below) (subst (λ z. Grows z end) u.1 grown) in
    (done t end k None children (asked asks s) inner sound, done t end m first next (unless_failed s y) g h)

pub actions_are_done : ActionsAreDone
actions_are_done t tree h = done t (bound t tree) n.Unit None tree start (itself (bound t tree)) h
