-- Ways to hide sets.
use Rattle.std.proofs.Common.{◌≡◌, ℕ, suc, ◌-◌, ◌<◌, Bool, true, false, cond, leb, [], ◌∷◌, ◌++◌, length, length-append, slice_get, Option, Some, None, refl, sym, ap, ◌∙◌, subst, arith}
use Rattle.std.specs.Prelude.{◌==◌, ◌||◌}
use Rattle.std.specs.Map.{lookup}
use Rattle.std.proofs.lemmas.Bool.{le-leb, lt-leb, or_right}
use Rattle.std.proofs.lemmas.Option.{none-some, same_Some}
use Rattle.cr_base.specs.declared.token.Name.{Name}
use Rattle.cr_macros.specs.Definition.{has_name}
use Rattle.cr_expand.specs.declared.hide_sets.HideSet.{HideSet}
use Rattle.cr_expand.specs.HideSets.{Sets, set_at, Grows}
use Rattle.cr_expand.specs.HidePaths.{Steps, IsStep, AreStepsFrom, end_from, IsPath, IsFront}
use Rattle.cr_expand.proofs.Onces.{or_none}
use Rattle.cr_expand.proofs.Sets.{set_kept}

-- whether a step that was found made the set or an earlier one
abbrev pub is_by : HideSet → Option HideSet → Bool
is_by set None = false
is_by set (Some made) = leb made.0 set.0

later_at : (sets : Sets) (from : ℕ) (steps : Steps) (test : Name → Bool) (made : HideSet) → AreStepsFrom sets from steps → lookup test steps ≡ Some made → from < made.0
later_at sets from [] test made p h = absurd (none-some made h)
later_at sets from (s ∷ steps) test made p h = go (test s.0) h (later_at sets s.1.0 steps test made p.1) where
  go : (b : Bool) → cond b (Some s.1) (lookup test steps) ≡ Some made → (lookup test steps ≡ Some made → s.1.0 < made.0) → from < made.0
  go true e rest = let same = ap (λ m. m.0) (same_Some s.1 made e) in omega (arith, p.0.later, same)
  go false e rest = omega (arith, p.0.later, rest e)

-- a name of a later step isn't one of the set's
none_by : (sets : Sets) (set : HideSet) (steps : Steps) (test : Name → Bool) → AreStepsFrom sets set.0 steps → is_by set (lookup test steps) ≡ false
none_by sets set steps test p = go (lookup test steps) refl where
  go : (o : Option HideSet) → lookup test steps ≡ o → is_by set o ≡ false
  go None e = refl
  go (Some made) e = lt-leb made.0 set.0 (later_at sets set.0 steps test made p e)

-- the set of the first step has its name more
has_here : (sets : Sets) (from : ℕ) (s : Name × HideSet) (steps : Steps) (name : Name) (d : Bool) → IsStep sets from s → AreStepsFrom sets s.1.0 steps → (name.0 == s.0.0) ≡ d
    → has_name (set_at sets s.1.0) name ≡ (has_name (set_at sets from) name || is_by s.1 (cond d (Some s.1) (lookup (λ n. name.0 == n.0) steps)))
has_here sets from s steps name true p q e =
    ap (λ l. has_name l name) p.made
    ∙ ap (λ b. b || has_name (set_at sets from) name) e
    ∙ sym (or_right (has_name (set_at sets from) name) (leb s.1.0 s.1.0) (le-leb s.1.0 s.1.0 (omega arith)))
has_here sets from s steps name false p q e =
    ap (λ l. has_name l name) p.made
    ∙ ap (λ b. b || has_name (set_at sets from) name) e
    ∙ sym (or_none (has_name (set_at sets from) name))
    ∙ ap (λ b. has_name (set_at sets from) name || b) (sym (none_by sets s.1 steps (λ n. name.0 == n.0) q))

-- a later one has it too
has_later : (sets : Sets) (from : ℕ) (s : Name × HideSet) (steps : Steps) (set : HideSet) (name : Name) (d : Bool) → IsStep sets from s → s.1.0 < set.0 → (name.0 == s.0.0) ≡ d
    → has_name (set_at sets set.0) name ≡ (has_name (set_at sets s.1.0) name || is_by set (lookup (λ n. name.0 == n.0) steps))
    → has_name (set_at sets set.0) name ≡ (has_name (set_at sets from) name || is_by set (cond d (Some s.1) (lookup (λ n. name.0 == n.0) steps)))
has_later sets from s steps set name true p l e h =
    h
    ∙ ap (λ b. b || is_by set (lookup (λ n. name.0 == n.0) steps)) (ap (λ l. has_name l name) p.made ∙ ap (λ b. b || has_name (set_at sets from) name) e)
    ∙ sym (or_right (has_name (set_at sets from) name) (leb s.1.0 set.0) (le-leb s.1.0 set.0 (omega (arith, l))))
has_later sets from s steps set name false p l e h =
    h ∙ ap (λ b. b || is_by set (lookup (λ n. name.0 == n.0) steps)) (ap (λ l. has_name l name) p.made ∙ ap (λ b. b || has_name (set_at sets from) name) e)

has_from : (sets : Sets) (from : ℕ) (steps : Steps) (last name : Name) (set : HideSet) → AreStepsFrom sets from steps → lookup (λ n. last.0 == n.0) steps ≡ Some set
    → has_name (set_at sets set.0) name ≡ (has_name (set_at sets from) name || is_by set (lookup (λ n. name.0 == n.0) steps))
has_from sets from [] last name set p h = absurd (none-some set h)
has_from sets from (s ∷ steps) last name set p h = go (last.0 == s.0.0) h (has_from sets s.1.0 steps last name set p.1) where
  go : (b : Bool) → cond b (Some s.1) (lookup (λ n. last.0 == n.0) steps) ≡ Some set
      → (lookup (λ n. last.0 == n.0) steps ≡ Some set → has_name (set_at sets set.0) name ≡ (has_name (set_at sets s.1.0) name || is_by set (lookup (λ n. name.0 == n.0) steps)))
      → has_name (set_at sets set.0) name ≡ (has_name (set_at sets from) name || is_by set (lookup (λ n. name.0 == n.0) (s ∷ steps)))
  go true e rest =
      subst (λ m. has_name (set_at sets m.0) name ≡ (has_name (set_at sets from) name || is_by m (lookup (λ n. name.0 == n.0) (s ∷ steps)))) (same_Some s.1 set e)
      (has_here sets from s steps name (name.0 == s.0.0) p.0 p.1 refl)
  go false e rest = has_later sets from s steps set name (name.0 == s.0.0) p.0 (later_at sets s.1.0 steps (λ n. last.0 == n.0) set p.1 e) refl (rest e)

pub has_at : (sets : Sets) (steps : Steps) (last name : Name) (set : HideSet) → IsPath sets steps → lookup (λ n. last.0 == n.0) steps ≡ Some set → is_by set (lookup (λ n. name.0 == n.0) steps) ≡ has_name (set_at sets set.0) name
has_at sets steps last name set p h =
    sym (has_from sets 0 steps last name set p.onward h ∙ ap (λ l. has_name l name || is_by set (lookup (λ n. name.0 == n.0) steps)) p.first)

front_from : (sets : Sets) (from : ℕ) (front rest : Steps) → AreStepsFrom sets from (front ++ rest) → AreStepsFrom sets from front
front_from sets from [] rest p = tt
front_from sets from (s ∷ front) rest p = (p.0, front_from sets s.1.0 front rest p.1)

pub front_path : (sets : Sets) (all front : Steps) → IsFront all front → IsPath sets all → IsPath sets front
front_path sets all front f p = record {
  first = p.first;
  onward = front_from sets 0 front f.0 (subst (AreStepsFrom sets 0) f.1 p.onward);
}

push_from : (sets : Sets) (from : ℕ) (steps : Steps) (step : Name × HideSet) → AreStepsFrom sets from steps → IsStep sets (end_from from steps) step → AreStepsFrom sets from (steps ++ step ∷ [])
push_from sets from [] step p h = (h, tt)
push_from sets from (s ∷ steps) step p h = (p.0, push_from sets s.1.0 steps step p.1 h)

pub push_path : (sets : Sets) (steps : Steps) (from : ℕ) (step : Name × HideSet) → IsPath sets steps → from ≡ end_from 0 steps → IsStep sets from step → IsPath sets (steps ++ step ∷ [])
push_path sets steps from step p e h = record {
  first = p.first;
  onward = push_from sets 0 steps step p.onward (subst (λ n. IsStep sets n step) e h);
}

pub end_last : (from : ℕ) (steps : Steps) (step : Name × HideSet) → slice_get steps (length steps - 1) ≡ Some step → end_from from steps ≡ step.1.0
end_last from [] step h = absurd (none-some step h)
end_last from (s ∷ []) step h = ap (λ x. x.1.0) (same_Some s step h)
end_last from (s ∷ t ∷ steps) step h =
    let e : length (s ∷ t ∷ steps) - 1 ≡ suc (length (t ∷ steps) - 1) = omega arith in
    end_last s.1.0 (t ∷ steps) step (ap (slice_get (s ∷ t ∷ steps)) (sym e) ∙ h)

pub end_none : (steps : Steps) → length steps ≡ 0 → end_from 0 steps ≡ 0
end_none [] h = refl
end_none (s ∷ steps) h = absurd (omega (arith, h))

kept_from : (old new : Sets) (from : ℕ) (steps : Steps) → Grows old new → from < length old → AreStepsFrom old from steps → AreStepsFrom new from steps
kept_from old new from [] g h p = tt
kept_from old new from (s ∷ steps) g h p = (
  record {
    known = let e = ap length g.1 in let f = length-append old g.0 in omega (arith, e, f, p.0.known);
    later = p.0.later;
    made = set_kept old new s.1.0 g p.0.known ∙ p.0.made ∙ ap (λ l. s.0 ∷ l) (sym (set_kept old new from g h));
  },
  kept_from old new s.1.0 steps g p.0.known p.1,
)

-- a way stays one as sets are made
pub path_kept : (old new : Sets) (steps : Steps) → Grows old new → 0 < length old → IsPath old steps → IsPath new steps
path_kept old new steps g h p = record {
  first = set_kept old new 0 g h ∙ p.first;
  onward = kept_from old new 0 steps g h p.onward;
}
