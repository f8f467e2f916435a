-- Why a read failed, later on.
use Rattle.std.proofs.Common.{◌≡◌, ℕ, List, Result, Err, sym, ap, subst, ◌∙◌}
use Rattle.cr_growth.specs.Growing.{HasCause}
use Rattle.cr_growth.specs.declared.grow.GrowFault.{GrowFault}
use Rattle.cr_growth.specs.declared.grow.GrowFault.TheVariants as fault

pub cause_on : (V W : Type 0) (P Q : List ℕ → Type 0) (s : Result W GrowFault) (x y : GrowFault) → s ≡ Err y → y ≡ x → ((p : List ℕ) → P p → Q p) → HasCause {V = V} P (Err x) → HasCause {V = W} Q s
cause_on V W P Q s x y f same wider h = by x h s (f ∙ ap (λ z. Err z) same)
  where
    by : (x : GrowFault) → HasCause {V = V} P (Err x) → (s : Result W GrowFault) → s ≡ Err x → HasCause {V = W} Q s
    by (fault.ReadFault path) h s is = subst (HasCause {V = W} Q) (sym is) (wider path h)
    by fault.LimitFiles h s is = subst (HasCause {V = W} Q) (sym is) tt
    by fault.OutOfMemory h s is = subst (HasCause {V = W} Q) (sym is) tt

pub fault_is : {B E : Type 0} (r : Result B E) (x y l : E) → r ≡ Err y → y ≡ x → r ≡ Err l → x ≡ l
fault_is r x y l f same is = let one : y ≡ l = cc in sym same ∙ one
