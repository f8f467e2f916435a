-- A renaming keeps macro expansion.
use Rattle.std.proofs.Common.{◌≡◌, ℕ, zero, suc, ◌+◌, Bool, true, false, List, [], ◌∷◌, ◌++◌, length, map, refl, ap, sym, ◌∙◌, subst, append-nil}
use Rattle.std.specs.List.{list_any}
use Rattle.std.proofs.lemmas.List.{map-append, length-map}
use Rattle.cr_base.specs.declared.cause.Role.TheVariants.{MacroName}
use Rattle.cr_macros.specs.Tokens.{Token, MacroText, Rule, Work, ◌>>=◌, give, note, pay, takes, both, with_name}
use Rattle.cr_macros.specs.Substitution.{Item, items, body_items, is_full, made, Args}
use Rattle.cr_macros.specs.Substitution
use Rattle.cr_macros.specs.Expansion.{Table, Use, Keep, Predefined, Object, Call, Wrong, expanded_if, expanded, put_in, use_of, by_use, rules, expand_within, expand}
use Rattle.cr_expand_law.specs.Renaming.{Renaming, is_renamed, shifted, renamed, all_renamed, renamed_macro, renamed_table, IsFree, KeepsExpansion}
use Rattle.cr_expand_law.proofs.Following.{Follows, Sim, sim_then, sim_give, sim_to, sim_note, sim_pay, never_first, never_then, sim_never, Never}
use Rattle.cr_expand_law.proofs.Renamed.{by_renamed, same_token, same_takes, never_name}
use Rattle.cr_expand_law.proofs.Items.{renamed_item, renamed_args, items_renamed, full_same, any_same, subst_sim, never_subst}
use Rattle.cr_expand_law.proofs.Calls.{renamed_use, use_of_same, new_keeps, UsesFree, free_use}

sim_cons : (r : Renaming) (t : Token) (out : List Token) → Sim r (all_renamed r) (give (t ∷ out)) (give (renamed r t ∷ all_renamed r out))
sim_cons r t out = sim_give r (all_renamed r) (t ∷ out)

abbrev then_put : (List Token → Work (List Token)) → List Token → List Token → Work (List Token)
then_put e rest ts = put_in ts >>= λ ts1. e (ts1 ++ rest)

abbrev then_subst : (List Token → Work (List Token)) → Token → MacroText → Args → Token → List Token → Args → Work (List Token)
then_subst e t m args close rest fulls = Substitution.subst t m args fulls (with_name t.text (both t.hide close.hide)) >>= λ ts. put_in ts >>= λ ts1. e (ts1 ++ rest)

abbrev then_expand : (List Token → Work (List Token)) → List Token → Token → Work (List Token)
then_expand e rest t = e rest >>= λ out. give (t ∷ out)

module _ (r : Renaming) (e f : List Token → Work (List Token)) (se : (ts : List Token) → Sim r (all_renamed r) (e ts) (f (all_renamed r ts))) where
  put_sim : (rest ts : List Token) → Sim r (all_renamed r) (then_put e rest ts) (then_put f (all_renamed r rest) (all_renamed r ts))
  put_sim rest ts =
      sim_to r (all_renamed r) (then_put e rest ts) (then_put f (all_renamed r rest) (all_renamed r ts)) (pay (1 + length ts) (all_renamed r ts) >>= λ x. f (x ++ all_renamed r rest))
      (ap (λ n. pay (1 + n) (all_renamed r ts) >>= λ x. f (x ++ all_renamed r rest)) (length-map ts (renamed r)))
      (sim_then r (all_renamed r) (all_renamed r) (pay (1 + length ts) ts) (pay (1 + length ts) (all_renamed r ts)) (λ x. e (x ++ rest)) (λ x. f (x ++ all_renamed r rest)) (sim_pay r (all_renamed r) (1 + length ts) ts)
      (λ x. sim_to r (all_renamed r) (e (x ++ rest)) (f (all_renamed r x ++ all_renamed r rest)) (f (all_renamed r (x ++ rest))) (ap f (sym (map-append (renamed r) x rest))) (se (x ++ rest))))

  one_sim : (arg : List Token) (b : Bool) → Sim r (all_renamed r) (expanded_if e arg b) (expanded_if f (all_renamed r arg) b)
  one_sim arg true = se arg
  one_sim arg false = sim_give r (all_renamed r) []

  pub expanded_sim : (its : List Item) (args : Args) (i : ℕ) → Sim r (renamed_args r) (expanded e its i args) (expanded f (map (renamed_item r) its) i (renamed_args r args))
  expanded_sim its [] i = sim_give r (renamed_args r) []
  expanded_sim its (arg ∷ args) i =
      sim_to r (renamed_args r) (expanded e its i (arg ∷ args)) (expanded f (map (renamed_item r) its) i (renamed_args r (arg ∷ args)))
      (expanded_if f (all_renamed r arg) (list_any (is_full i) its) >>= λ full. expanded f (map (renamed_item r) its) (i + 1) (renamed_args r args) >>= λ fulls. give (full ∷ fulls))
      (ap (λ b. expanded_if f (all_renamed r arg) b >>= λ full. expanded f (map (renamed_item r) its) (i + 1) (renamed_args r args) >>= λ fulls. give (full ∷ fulls)) (any_same r (is_full i) (full_same r i) its))
      (sim_then r (all_renamed r) (renamed_args r) (expanded_if e arg (list_any (is_full i) its)) (expanded_if f (all_renamed r arg) (list_any (is_full i) its))
      (λ full. expanded e its (i + 1) args >>= λ fulls. give (full ∷ fulls)) (λ full. expanded f (map (renamed_item r) its) (i + 1) (renamed_args r args) >>= λ fulls. give (full ∷ fulls)) (one_sim arg (list_any (is_full i) its))
      (λ full. sim_then r (renamed_args r) (renamed_args r) (expanded e its (i + 1) args) (expanded f (map (renamed_item r) its) (i + 1) (renamed_args r args)) (λ fulls. give (full ∷ fulls)) (λ fulls. give (all_renamed r full ∷ fulls))
      (expanded_sim its args (i + 1)) (λ fulls. sim_give r (renamed_args r) (full ∷ fulls))))

  rest_sim : (rest : List Token) (t : Token) → Sim r (all_renamed r) (then_expand e rest t) (then_expand f (all_renamed r rest) (renamed r t))
  rest_sim rest t = sim_then r (all_renamed r) (all_renamed r) (e rest) (f (all_renamed r rest)) (λ out. give (t ∷ out)) (λ out. give (renamed r t ∷ out)) (se rest) (sim_cons r t)

  keep_sim : (t : Token) (rest : List Token) → Sim r (all_renamed r) (by_use e t rest Keep) (by_use f (renamed r t) (all_renamed r rest) Keep)
  keep_sim t rest =
      sim_then r (renamed r) (all_renamed r) (note (Rule ∷ []) t) (note (Rule ∷ []) (renamed r t)) (then_expand e rest) (then_expand f (all_renamed r rest)) (sim_note r (renamed r) (Rule ∷ []) (Rule ∷ []) t refl) (rest_sim rest)

  -- a head that isn't renamed
  use_sim : (t : Token) (rest : List Token) (u : Use) → renamed r t ≡ shifted r t → UsesFree r u → Sim r (all_renamed r) (by_use e t rest u) (by_use f (shifted r t) (all_renamed r rest) (renamed_use r u))
  use_sim t rest Keep s h = subst (λ x. Sim r (all_renamed r) (by_use e t rest Keep) (by_use f x (all_renamed r rest) Keep)) s (keep_sim t rest)
  use_sim t rest (Predefined kind text) s h =
      sim_then r (renamed r) (all_renamed r) (note (takes MacroName t) (made t kind text t.space [])) (note (takes MacroName (shifted r t)) (made (shifted r t) kind text t.space []))
      (λ one. pay 2 one >>= λ one1. then_expand e rest one1) (λ one. pay 2 one >>= λ one1. then_expand f (all_renamed r rest) one1) (sim_note r (renamed r) (takes MacroName t) (takes MacroName (shifted r t)) (made t kind text t.space []) (same_takes r MacroName t s))
      (λ one. sim_then r (renamed r) (all_renamed r) (pay 2 one) (pay 2 (renamed r one)) (then_expand e rest) (then_expand f (all_renamed r rest)) (sim_pay r (renamed r) 2 one) (rest_sim rest))
  use_sim t rest (Object m) s h =
      sim_then r (all_renamed r) (all_renamed r) (Substitution.subst t m [] [] (with_name t.text t.hide)) (Substitution.subst (shifted r t) (renamed_macro r m) [] [] (with_name t.text t.hide))
      (then_put e rest) (then_put f (all_renamed r rest)) (subst_sim r t m [] [] (with_name t.text t.hide) s h) (put_sim rest)
  use_sim t rest (Call m args close after) s h =
      sim_to r (all_renamed r) (by_use e t rest (Call m args close after)) (by_use f (shifted r t) (all_renamed r rest) (renamed_use r (Call m args close after)))
      (expanded f (map (renamed_item r) (body_items m)) 0 (renamed_args r args) >>= then_subst f (shifted r t) (renamed_macro r m) (renamed_args r args) close (all_renamed r after))
      (ap (λ x. expanded f x 0 (renamed_args r args) >>= then_subst f (shifted r t) (renamed_macro r m) (renamed_args r args) close (all_renamed r after)) (items_renamed r m m.body false 0 h))
      (sim_then r (renamed_args r) (all_renamed r) (expanded e (body_items m) 0 args) (expanded f (map (renamed_item r) (body_items m)) 0 (renamed_args r args))
      (then_subst e t m args close after) (then_subst f (shifted r t) (renamed_macro r m) (renamed_args r args) close (all_renamed r after)) (expanded_sim (body_items m) args 0)
      (λ fulls. sim_then r (all_renamed r) (all_renamed r) (Substitution.subst t m args fulls (with_name t.text (both t.hide close.hide))) (Substitution.subst (shifted r t) (renamed_macro r m) (renamed_args r args) (renamed_args r fulls) (with_name t.text (both t.hide close.hide)))
      (then_put e after) (then_put f (all_renamed r after)) (subst_sim r t m args fulls (with_name t.text (both t.hide close.hide)) s h) (put_sim after)))
  use_sim t rest (Wrong cause) s h = record { at = λ left. tt }

  -- a renamed head stays
  renamed_sim : (t : Token) (rest : List Token) (u : Use) → is_renamed r t ≡ true → Sim r (all_renamed r) (by_use e t rest u) (by_use f (renamed r t) (all_renamed r rest) Keep)
  renamed_sim t rest Keep n = keep_sim t rest
  renamed_sim t rest (Predefined kind text) n = sim_never r (all_renamed r) _ _ (never_first r (note (takes MacroName t) (made t kind text t.space [])) (λ one. pay 2 one >>= λ one1. then_expand e rest one1)
      (subst (λ x. Never r (note x (made t kind text t.space []))) (append-nil (takes MacroName t)) (never_name r t [] (made t kind text t.space []) n)))
  renamed_sim t rest (Object m) n = sim_never r (all_renamed r) _ _ (never_first r (Substitution.subst t m [] [] (with_name t.text t.hide)) (then_put e rest) (never_subst r t m [] [] (with_name t.text t.hide) n))
  renamed_sim t rest (Call m args close after) n = sim_never r (all_renamed r) _ _ (never_then r (expanded e (body_items m) 0 args) (then_subst e t m args close after)
      (λ fulls. never_first r (Substitution.subst t m args fulls (with_name t.text (both t.hide close.hide))) (then_put e after) (never_subst r t m args fulls (with_name t.text (both t.hide close.hide)) n)))
  renamed_sim t rest (Wrong cause) n = record { at = λ left. tt }

  rules_sim : (table : Table) → IsFree r table → (ts : List Token) → Sim r (all_renamed r) (rules table e ts) (rules (renamed_table r table) f (all_renamed r ts))
  rules_sim table h [] = sim_give r (all_renamed r) []
  rules_sim table h (t ∷ rest) = go (is_renamed r t) refl where
    go : (b : Bool) → is_renamed r t ≡ b → Sim r (all_renamed r) (by_use e t rest (use_of table t rest)) (by_use f (renamed r t) (all_renamed r rest) (use_of (renamed_table r table) (renamed r t) (all_renamed r rest)))
    go false n =
        subst (λ x. Sim r (all_renamed r) (by_use e t rest (use_of table t rest)) (by_use f x (all_renamed r rest) (use_of (renamed_table r table) x (all_renamed r rest)))) (sym (same_token r t n))
        (subst (λ u. Sim r (all_renamed r) (by_use e t rest (use_of table t rest)) (by_use f (shifted r t) (all_renamed r rest) u)) (sym (use_of_same r table t rest)) (use_sim t rest (use_of table t rest) (same_token r t n) (free_use r table t rest h)))
    go true n =
        subst (λ u. Sim r (all_renamed r) (by_use e t rest (use_of table t rest)) (by_use f (renamed r t) (all_renamed r rest) u))
        (sym (ap (λ x. use_of (renamed_table r table) x (all_renamed r rest)) (by_renamed r t true n) ∙ new_keeps r table (shifted r t) (all_renamed r rest) h))
        (renamed_sim t rest (use_of table t rest) n)

pub within_sim : (r : Renaming) (table : Table) → IsFree r table → (n : ℕ) (ts : List Token) → Sim r (all_renamed r) (expand_within n table ts) (expand_within n (renamed_table r table) (all_renamed r ts))
within_sim r table h zero ts = record { at = λ left. tt }
within_sim r table h (suc n) ts = rules_sim r (expand_within n table) (expand_within n (renamed_table r table)) (within_sim r table h n) table h ts

pub keeps_expansion : KeepsExpansion
unfolding expand
keeps_expansion r table ts out left rest events h e fine =
    ap (λ n. expand_within (suc (left + n)) (renamed_table r table) (all_renamed r ts) left) (length-map ts (renamed r))
    ∙ subst (λ x. Follows r (all_renamed r) x (expand_within (suc (left + length ts)) (renamed_table r table) (all_renamed r ts) left)) e ((within_sim r table h (suc (left + length ts)) ts).at left) fine
