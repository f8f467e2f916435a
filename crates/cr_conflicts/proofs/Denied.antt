-- What is noted by tokens is what the uses say of them.
use Rattle.std.proofs.Common.{◌≡◌, ◌⊎◌, inl, inr, ℕ, Bool, true, false, ◌||◌, cond, Option, Some, None, List, length, refl, sym, ap, subst, ◌∙◌, true≢false}
use Rattle.std.specs.Prelude.{is_some, MatchOption}
use Rattle.std.proofs.lemmas.Bool.{eq-eqb}
use Rattle.std.proofs.lemmas.Option.{slice_get_within}
use Rattle.cr_base.specs.declared.token.Name.{Name}
use Rattle.cr_base.specs.declared.token.Tok.{Tok}
use Rattle.cr_scope.specs.Declarations.{same_name}
use Rattle.cr_facts.specs.FactOrder.{Facts}
use Rattle.cr_facts.specs.declared.fact.Fact.{Fact}
use Rattle.cr_declared.specs.declared.rows.Row.{Row}
use Rattle.cr_declared.specs.declared.rows.UseRow.{UseRow}
use Rattle.cr_declared.specs.declared.rows.UseRow.TheVariants as row
use Rattle.cr_declared.specs.declared.rows.Slot.{Slot}
use Rattle.cr_groups.specs.declared.groups.Group.{Group}
use Rattle.cr_groups.specs.Adding.{Adds}
use Rattle.cr_groups.specs.Firsts.{find_number, IsFirstOf, NoneOf, AreFirsts}
use Rattle.cr_groups.specs.Rows.{name_in, IsOneOf}
use Rattle.cr_groups.proofs.Added.{adds_same, adds_none}
use Rattle.cr_conflicts.specs.Asks.{if_named, parameter_token, built_in_token, HasUse, DeniedAdds, AnswerAdds, AreByToken}
use Rattle.cr_conflicts.specs.declared.asks.ByToken.{ByToken}

some_is : (o : Option ℕ) → is_some o ≡ true → (c : ℕ) × (o ≡ Some c)
some_is None h = absurd (true≢false (sym h))
some_is (Some c) h = (c, refl)

-- a use that has a key is noted, and what is noted is such a use
module _ (key : UseRow → Option ℕ) (uses : List UseRow) (fs : List (ℕ × ℕ)) (i : ℕ) (u : UseRow) (firsts : AreFirsts key uses fs (length uses)) where
  noted_is : ((v : UseRow) → key v ≡ Some i → v ≡ u) → is_some (find_number i fs) ≡ true → HasUse uses u
  noted_is only h =
      let c : (c : ℕ) × (find_number i fs ≡ Some c) = some_is (find_number i fs) h in
      let f : IsFirstOf key uses (length uses) i c.0 = subst (λ z. MatchOption z (NoneOf key uses (length uses) i) (IsFirstOf key uses (length uses) i)) c.1 (firsts i) in
      (c.0, f.itself.1 ∙ ap Some (only f.itself.0 f.itself.2))

  is_noted : key u ≡ Some i → HasUse uses u → is_some (find_number i fs) ≡ true
  is_noted has h = by (find_number i fs) (firsts i)
    where
      by : (o : Option ℕ) → MatchOption o (NoneOf key uses (length uses) i) (IsFirstOf key uses (length uses) i) → is_some o ≡ true
      by (Some c) f = refl
      by None f = absurd (f h.0 u (slice_get_within uses h.0 u h.1) h.1 has)

module _ (tokens : List Tok) (old new : Name) where
  named_true : (i : ℕ) → IsOneOf old new (name_in tokens i) → (same_name (name_in tokens i) old || same_name (name_in tokens i) new) ≡ true
  named_true i (inl e) = ap (λ b. b || same_name (name_in tokens i) new) (ap (same_name (name_in tokens i)) (sym e) ∙ eq-eqb (name_in tokens i).0 (name_in tokens i).0 refl)
  named_true i (inr e) = either (same_name (name_in tokens i) old) (same_name (name_in tokens i) new) (ap (same_name (name_in tokens i)) (sym e) ∙ eq-eqb (name_in tokens i).0 (name_in tokens i).0 refl)
    where
      either : (a b : Bool) → b ≡ true → (a || b) ≡ true
      either true b h = refl
      either false b h = h

  named_is : (i : ℕ) → IsOneOf old new (name_in tokens i) → if_named tokens old new i ≡ Some i
  named_is i one = ap (λ b. cond b (Some i) None) (named_true i one)

  if_is : (b : Bool) (k i : ℕ) → cond b (Some k) None ≡ Some i → k ≡ i
  if_is true k i h = cc
  if_is false k i h = cc

  only_parameter : (i : ℕ) (v : UseRow) → parameter_token tokens old new v ≡ Some i → v ≡ row.IsParameter i
  only_parameter i (row.IsParameter k) h = ap row.IsParameter (if_is (same_name (name_in tokens k) old || same_name (name_in tokens k) new) k i h)
  only_parameter i (row.LookedUp sp k path before denoted) h = cc
  only_parameter i (row.GoesTo k label) h = cc
  only_parameter i (row.Selects k member) h = cc
  only_parameter i (row.IsBuiltIn k) h = cc
  only_parameter i (row.WasAsked k path before answer) h = cc

  only_built_in : (i : ℕ) (v : UseRow) → built_in_token tokens old new v ≡ Some i → v ≡ row.IsBuiltIn i
  only_built_in i (row.IsBuiltIn k) h = ap row.IsBuiltIn (if_is (same_name (name_in tokens k) old || same_name (name_in tokens k) new) k i h)
  only_built_in i (row.LookedUp sp k path before denoted) h = cc
  only_built_in i (row.GoesTo k label) h = cc
  only_built_in i (row.Selects k member) h = cc
  only_built_in i (row.IsParameter k) h = cc
  only_built_in i (row.WasAsked k path before answer) h = cc

  module _ (ps : List (List ℕ)) (rows : List Row) (es : List (Slot × Group)) (uses : List UseRow) (found : ByToken) (i path before : ℕ) (noted : AreByToken tokens rows uses old new found) where
    abbrev Denied : Type 0 → Fact → Type 0
    Denied P f = DeniedAdds tokens ps rows es old new i path before P f

    abbrev Answered : Bool → Fact → Type 0
    Answered b f = AnswerAdds tokens ps rows es old new uses i path before b f

    abbrev Parameter : Type 0
    Parameter = HasUse uses (row.IsParameter i)

    abbrev parameter : Bool
    parameter = is_some (find_number i found.parameters.entries)

    abbrev built_in : Bool
    built_in = is_some (find_number i found.built_ins.entries)

    one_name : (P : Type 0) (f : Fact) → Denied P f → IsOneOf old new (name_in tokens i)
    one_name P f (inl k) = inr k.0
    one_name P f (inr k) = inl k.0

    change : (P Q : Type 0) → (P → Q) → (f : Fact) → Denied P f → Denied Q f
    change P Q g f (inl k) = inl k
    change P Q g f (inr (e, inl k)) = inr (e, inl k)
    change P Q g f (inr (e, inr k)) = inr (e, inr (g k.0, k.1))

    to_parameter : parameter ≡ true → Parameter
    to_parameter = noted_is (parameter_token tokens old new) uses found.parameters.entries i (row.IsParameter i) noted.parameters (only_parameter i)

    from_parameter : IsOneOf old new (name_in tokens i) → Parameter → parameter ≡ true
    from_parameter one = is_noted (parameter_token tokens old new) uses found.parameters.entries i (row.IsParameter i) noted.parameters (named_is i one)

    to_built_in : built_in ≡ true → HasUse uses (row.IsBuiltIn i)
    to_built_in = noted_is (built_in_token tokens old new) uses found.built_ins.entries i (row.IsBuiltIn i) noted.built_ins (only_built_in i)

    from_built_in : IsOneOf old new (name_in tokens i) → HasUse uses (row.IsBuiltIn i) → built_in ≡ true
    from_built_in one = is_noted (built_in_token tokens old new) uses found.built_ins.entries i (row.IsBuiltIn i) noted.built_ins (named_is i one)

    pub yes_answered : (start : Facts) (answer : Bool) → answer ≡ true → Adds start start (Answered answer)
    yes_answered start answer e = adds_none start (Answered answer) (λ f h. subst (λ z. Answered z f) e h)

    pub neither : (start : Facts) (answer : Bool) → answer ≡ false → parameter ≡ false → built_in ≡ false → Adds start start (Answered answer)
    neither start answer e p b = adds_none start (Answered answer) (λ f h. none f (subst (λ z. Answered z f) e h))
      where
        none : (f : Fact) → Answered false f → ⊥
        none f (inl u, k) = true≢false (sym (from_parameter (one_name Parameter f k) u) ∙ p)
        none f (inr u, k) = true≢false (sym (from_built_in (one_name Parameter f k) u) ∙ b)

    pub denied : (start end : Facts) (answer : Bool) → answer ≡ false → (parameter ≡ true) ⊎ (built_in ≡ true) → Adds start end (Denied (parameter ≡ true)) → Adds start end (Answered answer)
    denied start end answer e either h =
        subst (λ z. Adds start end (Answered z)) (sym e)
        (adds_same start end (Denied (parameter ≡ true)) (Answered false)
        (λ f k. (elim either [ inl p ↦ inl (to_parameter p) | inr b ↦ inr (to_built_in b) ], change (parameter ≡ true) Parameter to_parameter f k))
        (λ f k. change Parameter (parameter ≡ true) (from_parameter (one_name Parameter f k.1)) f k.1)
        h)
