use Rattle.std.proofs.Common.{refl}
use Rattle.cr_bound.proofs.Scopes.{body_entered, body_typed}
use Rattle.cr_bound.proofs.bound.Bound.enter_body.Goals as goal

pub returns-clause-ok : goal.returns-clause-ok
returns-clause-ok c = body_entered _ _ refl c.clear.ensures.items refl refl refl _ _ c.in-Some.is c.in_ok-enter_again.ensures.ok refl

pub returns-clause-typed : goal.returns-clause-typed
returns-clause-typed c = body_typed _ _ refl c.clear.ensures.items refl refl refl _ (λ t. (c.in_ok-enter_again.ensures.ok t).typed)
