-- What is told of expansion that stops.
use Rattle.std.proofs.Common.{◌≡◌, ℕ, ◌+◌, ◌-◌, Bool, true, false, cond, List, [], ◌∷◌, ◌++◌, length, refl, sym, ap, ◌∙◌, arith, append_assoc}
use Rattle.std.specs.Prelude.{nat_lt}
use Rattle.cr_base.specs.declared.cause.Role.TheVariants.{MacroName}
use Rattle.cr_macros.specs.Tokens.{Token, Event, Rule, Taken, Over, Answer, Gave, Stopped, Work, after, then_do, ◌>>=◌, pay, takes, both, with_name}
use Rattle.cr_macros.specs.Substitution.{body_items, made, subst}
use Rattle.cr_macros.specs.Expansion.{Table, Use, Keep, Predefined, Object, Call, Wrong, expanded, put_in, expand}
use Rattle.cr_macros.specs.Uses.{put_for}
use Rattle.cr_expand.specs.Machines.{uses, EndsWithRule}
use Rattle.cr_phase4.specs.Tasks.{role_before, told_by_uses}

-- of what has no use nothing is told
pub told_none : (events : List Event) → uses events ≡ 0 → told_by_uses events ≡ []
told_none [] h = refl
told_none (Rule ∷ events) h = absurd (omega (arith, h))
told_none (Taken text place role ∷ events) h = ap (role_before (Taken text place role)) (told_none events h)

before_rule : (e : Event) (roles more : List Event) → role_before e (roles ++ Rule ∷ more) ≡ e ∷ (roles ++ Rule ∷ more)
before_rule e [] more = refl
before_rule e (r ∷ roles) more = refl

told_before_rule : (roles more : List Event) → told_by_uses (roles ++ Rule ∷ more) ≡ roles ++ Rule ∷ told_by_uses more
told_before_rule [] more = refl
told_before_rule (Rule ∷ roles) more = ap (λ es. Rule ∷ es) (told_before_rule roles more)
told_before_rule (Taken text place role ∷ roles) more =
    ap (role_before (Taken text place role)) (told_before_rule roles more) ∙ before_rule (Taken text place role) roles (told_by_uses more)

-- a use is told whole, whatever comes behind it
pub told_uses : (events more : List Event) → EndsWithRule events → told_by_uses (events ++ more) ≡ events ++ told_by_uses more
told_uses events more (roles, e) =
    ap (λ es. told_by_uses (es ++ more)) e
    ∙ ap told_by_uses (append_assoc roles (Rule ∷ []) more)
    ∙ told_before_rule roles more
    ∙ sym (append_assoc roles (Rule ∷ []) (told_by_uses more))
    ∙ ap (λ es. es ++ told_by_uses more) (sym e)

-- what a use of a rule tells ends with the rule
abbrev pub TellsRule : Answer (List Token) → Type 0
TellsRule (Gave ts left events) = EndsWithRule events
TellsRule (Stopped cause stopped) = Unit {0}

rule_after : (events : List Event) (r : Answer (List Token)) → TellsRule r → TellsRule (after events r)
rule_after events (Gave ts left more) (roles, e) = (events ++ roles, ap (λ es. events ++ es) e ∙ sym (append_assoc events roles (Rule ∷ [])))
rule_after events (Stopped cause stopped) h = tt

rule_then : {A : Type 0} (r : Answer A) (f : A → Work (List Token)) → ((a : A) (left : ℕ) → TellsRule (f a left)) → TellsRule (then_do r f)
rule_then (Gave a left events) f h = rule_after events (f a left) (h a left)
rule_then (Stopped cause stopped) f h = tt

rule_paid : (n : ℕ) (ts : List Token) (left : ℕ) → TellsRule (pay n ts left)
rule_paid n ts left = by (nat_lt left n) where
  by : (b : Bool) → TellsRule (cond b (Stopped Over []) (Gave ts (left - n) (Rule ∷ [])))
  by true = tt
  by false = ([], refl)

pub put_tells_rule : (table : Table) (t : Token) (u : Use) (left : ℕ) → TellsRule (put_for table t u left)
put_tells_rule table t Keep left = ([], refl)
put_tells_rule table t (Predefined kind text) left = rule_after (takes MacroName t) (pay 2 (made t kind text t.space [] ∷ []) left) (rule_paid 2 (made t kind text t.space [] ∷ []) left)
put_tells_rule table t (Object m) left = rule_then (subst t m [] [] (with_name t.text t.hide) left) put_in (λ ts k. rule_paid (1 + length ts) ts k)
put_tells_rule table t (Call m args close behind) left =
    rule_then (expanded (expand table) (body_items m) 0 args left) (λ fulls. subst t m args fulls (with_name t.text (both t.hide close.hide)) >>= put_in)
    (λ fulls k. rule_then (subst t m args fulls (with_name t.text (both t.hide close.hide)) k) put_in (λ ts k1. rule_paid (1 + length ts) ts k1))
put_tells_rule table t (Wrong cause) left = tt
