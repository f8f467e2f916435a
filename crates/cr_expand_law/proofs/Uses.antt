-- A renaming keeps each use of a rule.
use Rattle.std.proofs.Common.{◌≡◌, ℕ, suc, ◌+◌, Bool, true, false, List, [], ◌∷◌, length, map, refl, ap, sym, ◌∙◌, subst, append-nil}
use Rattle.std.specs.List.{AllByRecursion}
use Rattle.std.proofs.lemmas.List.{length-map}
use Rattle.cr_base.specs.declared.cause.Role.TheVariants.{MacroName}
use Rattle.cr_macros.specs.Tokens.{Token, MacroText, Rule, Event, Answer, Gave, Work, ◌>>=◌, note, pay, takes, both, with_name}
use Rattle.cr_macros.specs.Substitution.{body_items, made, Args}
use Rattle.cr_macros.specs.Substitution
use Rattle.cr_macros.specs.Expansion.{Table, Use, Keep, Predefined, Object, Call, Wrong, expanded, put_in, use_of, expand_within, expand}
use Rattle.cr_macros.specs.Uses.{put_for, is_given, left_behind}
use Rattle.cr_expand_law.specs.Renaming.{Renaming, is_renamed, shifted, renamed, all_renamed, renamed_macro, renamed_table, IsHarmless, IsFree}
use Rattle.cr_expand_law.specs.Uses.{KeepsUses}
use Rattle.cr_expand_law.proofs.Following.{renamed_events, Follows, Sim, sim_then, sim_to, sim_note, sim_pay, Harms, Never, never_first, never_then}
use Rattle.cr_expand_law.proofs.Renamed.{by_renamed, same_token, same_takes, never_name}
use Rattle.cr_expand_law.proofs.Items.{renamed_item, renamed_args, items_renamed, subst_sim, never_subst}
use Rattle.cr_expand_law.proofs.Calls.{renamed_use, use_of_same, new_keeps, UsesFree, free_use}
use Rattle.cr_expand_law.proofs.Law.{expanded_sim, within_sim}

module _ (r : Renaming) (table : Table) (free : IsFree r table) where
  abbrev table1 : Table
  table1 = renamed_table r table

  expand_sim : (ts : List Token) → Sim r (all_renamed r) (expand table ts) (expand table1 (all_renamed r ts))
  unfolding expand
  expand_sim ts = record {
    at = λ left.
        subst (λ n. Follows r (all_renamed r) (expand_within (suc (left + length ts)) table ts left) (expand_within (suc (left + n)) table1 (all_renamed r ts) left)) (sym (length-map ts (renamed r)))
        ((within_sim r table free (suc (left + length ts)) ts).at left);
  }

  pay_sim : (ts : List Token) → Sim r (all_renamed r) (put_in ts) (put_in (all_renamed r ts))
  pay_sim ts =
      sim_to r (all_renamed r) (put_in ts) (put_in (all_renamed r ts)) (pay (1 + length ts) (all_renamed r ts))
      (ap (λ n. pay (1 + n) (all_renamed r ts)) (length-map ts (renamed r))) (sim_pay r (all_renamed r) (1 + length ts) ts)

  abbrev then_subst : Token → MacroText → Args → Token → Args → Work (List Token)
  then_subst t m args close fulls = Substitution.subst t m args fulls (with_name t.text (both t.hide close.hide)) >>= put_in

  -- a head that isn't renamed
  put_sim : (t : Token) (u : Use) → renamed r t ≡ shifted r t → UsesFree r u → Sim r (all_renamed r) (put_for table t u) (put_for table1 (shifted r t) (renamed_use r u))
  put_sim t Keep s h = record { at = λ left fine. ap (λ x. Gave (x ∷ []) left (Rule ∷ [])) (sym s) }
  put_sim t (Predefined kind text) s h =
      sim_then r (all_renamed r) (all_renamed r) (note (takes MacroName t) (made t kind text t.space [] ∷ [])) (note (takes MacroName (shifted r t)) (made (shifted r t) kind text t.space [] ∷ []))
      (pay 2) (pay 2) (sim_note r (all_renamed r) (takes MacroName t) (takes MacroName (shifted r t)) (made t kind text t.space [] ∷ []) (same_takes r MacroName t s))
      (λ ts. sim_pay r (all_renamed r) 2 ts)
  put_sim t (Object m) s h =
      sim_then r (all_renamed r) (all_renamed r) (Substitution.subst t m [] [] (with_name t.text t.hide)) (Substitution.subst (shifted r t) (renamed_macro r m) [] [] (with_name t.text t.hide))
      put_in put_in (subst_sim r t m [] [] (with_name t.text t.hide) s h) pay_sim
  put_sim t (Call m args close after) s h =
      sim_to r (all_renamed r) (put_for table t (Call m args close after)) (put_for table1 (shifted r t) (renamed_use r (Call m args close after)))
      (expanded (expand table1) (map (renamed_item r) (body_items m)) 0 (renamed_args r args) >>= then_subst (shifted r t) (renamed_macro r m) (renamed_args r args) (renamed r close))
      (ap (λ x. expanded (expand table1) x 0 (renamed_args r args) >>= then_subst (shifted r t) (renamed_macro r m) (renamed_args r args) (renamed r close)) (items_renamed r m m.body false 0 h))
      (sim_then r (renamed_args r) (all_renamed r) (expanded (expand table) (body_items m) 0 args) (expanded (expand table1) (map (renamed_item r) (body_items m)) 0 (renamed_args r args))
      (then_subst t m args close) (then_subst (shifted r t) (renamed_macro r m) (renamed_args r args) (renamed r close)) (expanded_sim r (expand table) (expand table1) expand_sim (body_items m) args 0)
      (λ fulls. sim_then r (all_renamed r) (all_renamed r) (Substitution.subst t m args fulls (with_name t.text (both t.hide close.hide))) (Substitution.subst (shifted r t) (renamed_macro r m) (renamed_args r args) (renamed_args r fulls) (with_name t.text (both t.hide close.hide)))
      put_in put_in (subst_sim r t m args fulls (with_name t.text (both t.hide close.hide)) s h) pay_sim))
  put_sim t (Wrong cause) s h = record { at = λ left. tt }

  -- a head that is renamed stays, or does harm
  abbrev HarmsOrStays : Token → Use → Type 0
  HarmsOrStays t Keep = Unit {0}
  HarmsOrStays t u = Never r (put_for table t u)

  harms : (t : Token) (u : Use) → is_renamed r t ≡ true → HarmsOrStays t u
  harms t Keep n = tt
  harms t (Predefined kind text) n =
      never_first r (note (takes MacroName t) (made t kind text t.space [] ∷ [])) (pay 2)
      (subst (λ x. Never r (note x (made t kind text t.space [] ∷ []))) (append-nil (takes MacroName t)) (never_name r t [] (made t kind text t.space [] ∷ []) n))
  harms t (Object m) n = never_first r (Substitution.subst t m [] [] (with_name t.text t.hide)) put_in (never_subst r t m [] [] (with_name t.text t.hide) n)
  harms t (Call m args close after) n =
      never_then r (expanded (expand table) (body_items m) 0 args) (then_subst t m args close)
      (λ fulls. never_first r (Substitution.subst t m args fulls (with_name t.text (both t.hide close.hide))) put_in (never_subst r t m args fulls (with_name t.text (both t.hide close.hide)) n))
  harms t (Wrong cause) n = record { at = λ left. tt }

  abbrev Kept : List Token → Use → Use → List Token → Token → List Token → ℕ → ℕ → List Event → Type 0
  Kept rest u u1 rest1 t1 out left1 left2 events =
      (put_for table1 t1 u1 left1 ≡ Gave (all_renamed r out) left2 (renamed_events r events)) × (is_given u1 ≡ is_given u) × (left_behind rest1 u1 ≡ all_renamed r (left_behind rest u))

  given_same : (u : Use) → is_given (renamed_use r u) ≡ is_given u
  given_same Keep = refl
  given_same (Predefined kind text) = refl
  given_same (Object m) = refl
  given_same (Call m args close after) = refl
  given_same (Wrong cause) = refl

  behind_same : (rest : List Token) (u : Use) → left_behind (all_renamed r rest) (renamed_use r u) ≡ all_renamed r (left_behind rest u)
  behind_same rest Keep = refl
  behind_same rest (Predefined kind text) = refl
  behind_same rest (Object m) = refl
  behind_same rest (Call m args close after) = refl
  behind_same rest (Wrong cause) = refl

  harmless_never : (p : Answer (List Token)) (out : List Token) (left : ℕ) (events : List Event) → Harms r p → p ≡ Gave out left events → AllByRecursion (IsHarmless r) events → ⊥
  harmless_never p out left events h e fine = subst (Harms r) e h fine

  stays : (t : Token) (rest out : List Token) (u : Use) (left1 left2 : ℕ) (events : List Event) → HarmsOrStays t u → put_for table t u left1 ≡ Gave out left2 events → AllByRecursion (IsHarmless r) events
      → Kept rest u Keep (all_renamed r rest) (renamed r t) out left1 left2 events
  stays t rest out Keep left1 left2 events h e fine = (subst (λ p. Follows r (all_renamed r) p (Gave (renamed r t ∷ []) left1 (Rule ∷ []))) e (λ f. refl) fine, refl, refl)
  stays t rest out (Predefined kind text) left1 left2 events h e fine = absurd (harmless_never _ out left2 events (h.at left1) e fine)
  stays t rest out (Object m) left1 left2 events h e fine = absurd (harmless_never _ out left2 events (h.at left1) e fine)
  stays t rest out (Call m args close after) left1 left2 events h e fine = absurd (harmless_never _ out left2 events (h.at left1) e fine)
  stays t rest out (Wrong cause) left1 left2 events h e fine = absurd (harmless_never _ out left2 events (h.at left1) e fine)

  kept : (t : Token) (rest out : List Token) (left1 left2 : ℕ) (events : List Event) → put_for table t (use_of table t rest) left1 ≡ Gave out left2 events → AllByRecursion (IsHarmless r) events
      → Kept rest (use_of table t rest) (use_of table1 (renamed r t) (all_renamed r rest)) (all_renamed r rest) (renamed r t) out left1 left2 events
  kept t rest out left1 left2 events e fine = go (is_renamed r t) refl where
    go : (b : Bool) → is_renamed r t ≡ b → Kept rest (use_of table t rest) (use_of table1 (renamed r t) (all_renamed r rest)) (all_renamed r rest) (renamed r t) out left1 left2 events
    go false n =
        subst (λ x. Kept rest (use_of table t rest) (use_of table1 x (all_renamed r rest)) (all_renamed r rest) x out left1 left2 events) (sym (same_token r t n))
        (subst (λ u. Kept rest (use_of table t rest) u (all_renamed r rest) (shifted r t) out left1 left2 events) (sym (use_of_same r table t rest)) (
          subst (λ p. Follows r (all_renamed r) p (put_for table1 (shifted r t) (renamed_use r (use_of table t rest)) left1)) e ((put_sim t (use_of table t rest) (same_token r t n) (free_use r table t rest free)).at left1) fine,
          given_same (use_of table t rest),
          behind_same rest (use_of table t rest),
        ))
    go true n =
        subst (λ u. Kept rest (use_of table t rest) u (all_renamed r rest) (renamed r t) out left1 left2 events)
        (sym (ap (λ x. use_of table1 x (all_renamed r rest)) (by_renamed r t true n) ∙ new_keeps r table (shifted r t) (all_renamed r rest) free))
        (stays t rest out (use_of table t rest) left1 left2 events (harms t (use_of table t rest) n) e fine)

pub keeps_uses : KeepsUses
keeps_uses r table t rest out left1 left2 events free e fine = kept r table free t rest out left1 left2 events e fine
