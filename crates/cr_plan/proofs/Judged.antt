-- What a verdict comes to.
use Rattle.std.proofs.Common.{◌≡◌, ℕ, List, Option, Some, None, Ok, Err, refl, sym, subst}
use Rattle.std.specs.Prelude.{codes}
use Rattle.cr_base.specs.declared.token.Place.{Place}
use Rattle.cr_base.specs.declared.key.Key.{Key}
use Rattle.cr_facts.specs.FactOrder.{Facts}
use Rattle.cr_snapshot.specs.declared.known.KnownFile.{KnownFile}
use Rattle.cr_class.specs.RenameClass.{IsTargetKey}
use Rattle.cr_class.specs.Accepted.{NothingRefuses}
use Rattle.cr_class.specs.Verdict.{IsFirstRefusal}
use Rattle.cr_class.specs.declared.class.Class.{Class}
use Rattle.cr_class.specs.declared.target.Target.{Target}
use Rattle.cr_class.specs.declared.refusal.Refusal.{Refusal as Judged}
use Rattle.cr_goal.specs.Refusals.{IfDecided, IsRefusal}
use Rattle.cr_goal.specs.declared.refusal.Status.TheVariants as status
use Rattle.cr_goal.specs.declared.refusal.Refused.{Refused}
use Rattle.cr_goal.specs.declared.refusal.Refusal.{Refusal}
use Rattle.cr_goal.specs.declared.refusal.Refusal.TheVariants as refusal
use Rattle.cr_plan.specs.Judgement.{IsClass, HasSymbol, IsJudged, no_name, nothing, refuses, accepts, refused_by}

pub is_none : {X : Type 0} (o : Option X) → ((x : X) → o ≡ Some x → ⊥) → o ≡ None
is_none None h = refl
is_none (Some x) h = absurd (h x refl)

-- a refusal is the one that is judged, unless memory ran out
decided : (P : Refused → Type 0) (d : Refused) (r : Refusal) → IsRefusal d.status d.text r → P d → IfDecided P r
decided P d (refusal.Decided e) h p = subst P (sym h) p
decided P d (refusal.ReadFault path) h p = tt
decided P d refusal.OutOfMemory h p = tt

module _ (files : List KnownFile) (facts : Facts) (root : Option (List ℕ)) (old new : List ℕ) where
  pub judged_none : (t : Option Target) → t ≡ None → (r : Refusal) → IsRefusal status.NoSymbol (codes "no symbol") r → IfDecided (λ d. IsJudged files facts root old new t (Err d)) r
  judged_none t is r h = decided (λ d. IsJudged files facts root old new t (Err d)) (record { status = status.NoSymbol; text = codes "no symbol" }) r h
      (subst (λ z. IsJudged files facts root old new z (Err (record { status = status.NoSymbol; text = codes "no symbol" }))) (sym is) no_name)

  module _ (name : List ℕ) (same : old ≡ name) where
    pub judged_nothing : (t : Option Target) (x : Target) → t ≡ Some x → ((k : Key) → IsTargetKey files facts old x k → ⊥) → (r : Refusal) → IsRefusal status.NoSymbol (codes "no symbol") r → IfDecided (λ d. IsJudged files facts root name new t (Err d)) r
    judged_nothing t x is none r h = decided (λ d. IsJudged files facts root name new t (Err d)) (record { status = status.NoSymbol; text = codes "no symbol" }) r h
        (subst (λ o. IsJudged files facts root o new t (Err (record { status = status.NoSymbol; text = codes "no symbol" }))) same (subst (λ z. IsJudged files facts root old new z (Err (record { status = status.NoSymbol; text = codes "no symbol" }))) (sym is) (nothing none)))

    pub judged_refused : (t : Option Target) (x : Target) (class : Class) (j : Judged) → t ≡ Some x → HasSymbol files facts old x → IsClass files facts old x class → IsFirstRefusal facts class files root old new j
        → (r : Refusal) → IsRefusal (refused_by files new j).status (refused_by files new j).text r → IfDecided (λ d. IsJudged files facts root name new t (Err d)) r
    judged_refused t x class j is symbol of first r h = decided (λ d. IsJudged files facts root name new t (Err d)) (refused_by files new j) r h
        (subst (λ o. IsJudged files facts root o new t (Err (refused_by files new j))) same (subst (λ z. IsJudged files facts root old new z (Err (refused_by files new j))) (sym is) (refuses class j symbol of first)))

    pub judged_accepts : (t : Option Target) (x : Target) (class : Class) (places : List Place) → t ≡ Some x → HasSymbol files facts old x → IsClass files facts old x class → NothingRefuses facts class files root old new → places ≡ class.places
        → IsJudged files facts root name new t (Ok places)
    judged_accepts t x class places is symbol of none are =
        subst (λ o. IsJudged files facts root o new t (Ok places)) same (subst (λ z. IsJudged files facts root old new z (Ok places)) (sym is) (subst (λ p. IsJudged files facts root old new (Some x) (Ok p)) (sym are) (accepts class symbol of none)))
