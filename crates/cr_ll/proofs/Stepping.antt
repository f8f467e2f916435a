-- From moves to steps.
use Rattle.std.proofs.Common.{◌≡◌, Some, List, [], Ok, Err, sym, ◌∙◌, ap, subst, inr}
use Rattle.cr_ll.specs.Guards.{Terminal}
use Rattle.cr_ll.specs.declared.state.State.{State}
use Rattle.cr_ll.specs.declared.state.Event.{Event}
use Rattle.cr_ll.specs.declared.state.MachineFault.{MachineFault}
use Rattle.cr_ll.specs.declared.state.Event.TheVariants.{Token, Act, Ask, Done}
use Rattle.cr_ll.specs.declared.state.MachineFault.TheVariants.{Syntax, LimitDepth}
use Rattle.cr_ll.specs.declared.state.Moved.TheVariants.{Gave, Failed}
use Rattle.cr_ll.specs.Derivation.{Item}
use Rattle.cr_ll.specs.Machine.{Config, Run, stop, gives, move}
use Rattle.cr_ll.specs.Running.{config_of, Advances, Steps}

abbrev pub Same : List Terminal → State → State → Type 0
Same ts old mid = (xs : List Item) (e : Config) → Run ts (config_of mid) xs e → Run ts (config_of old) xs e

-- a run to an equal configuration
pub stays : (ts : List Terminal) (old mid : State) (c : Config) → Same ts old mid → c ≡ config_of mid → Run ts (config_of old) [] c
stays ts old mid c same e =
    let P : Config → Type 0 = λ z. Run ts (config_of old) [] z in
    subst P (sym e) (same [] (config_of mid) stop)

pub step_gave : (ts : List Terminal) (old mid new : State) (x : Event) → Same ts old mid → mid.waits ≡ old.waits → mid.fault ≡ old.fault → Advances ts mid (Gave x) new → Steps ts old (Ok x) new
step_gave ts old mid new (Token i) same w f a = (same _ _ (gives a.0 stop), (a.1.0 ∙ w, a.1.1 ∙ f))
step_gave ts old mid new (Act b) same w f a = (same _ _ (gives a.0 stop), (a.1.0 ∙ w, a.1.1 ∙ f))
step_gave ts old mid new (Ask i) same w f a =
    (stays ts old mid (config_of new) same a.2, (a.0, ap (λ z. move ts z) a.2 ∙ a.1, a.3, a.4 ∙ f))
step_gave ts old mid new Done same w f a =
    let e : config_of new ≡ config_of mid = ap config_of a.1 in
    (stays ts old mid (config_of new) same e, ap (λ z. move ts z) e ∙ a.0, (ap (λ (z : State). z.waits) a.1 ∙ w, ap (λ (z : State). z.fault) a.1 ∙ f))

pub step_failed : (ts : List Terminal) (old mid new last : State) (x : MachineFault) → Same ts old mid → mid.waits ≡ old.waits → Advances ts mid (Failed x) new → config_of last ≡ config_of new → last.waits ≡ new.waits → last.fault ≡ Some x → Steps ts old (Err x) last
step_failed ts old mid new last (Syntax i) same w a e v f =
    let g : config_of last ≡ config_of mid = e ∙ ap config_of a.2 in
    (f, v ∙ ap (λ (z : State). z.waits) a.2 ∙ w, stays ts old mid (config_of last) same g, inr (ap (λ z. move ts z) g ∙ a.0, a.1 ∙ ap (λ (z : Config). z.place) (sym g)))
step_failed ts old mid new last LimitDepth same w a e v f =
    let g : config_of last ≡ config_of mid = e ∙ ap config_of a.3 in
    (f, v ∙ ap (λ (z : State). z.waits) a.3 ∙ w, stays ts old mid (config_of last) same g, inr (a.0, ap (λ z. move ts z) g ∙ a.1, a.2))
