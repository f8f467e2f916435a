-- The walk of the code is that of the definition.
use Rattle.std.proofs.Common.{◌≡◌, ℕ, ◌+◌, ◌<◌, ◌≤◌, Bool, false, List, [], ◌∷◌, ◌++◌, length, map, drop, get_or, Option, Some, None, refl, sym, ap, ◌∙◌, subst, append_assoc, append-nil}
use Rattle.std.specs.Option.{option_map, option_and_then}
use Rattle.std.specs.List.{zip}
use Rattle.std.proofs.lemmas.List.{drop_more, drop_all}
use Rattle.cr_lex.specs.Lexing.{Token}
use Rattle.cr_base.specs.declared.token.PpTok.{PpTok}
use Rattle.cr_lex.specs.Seen.{seen}
use Rattle.cr_small.specs.Resolution.{Bindings, Bound, bound, resolved, file_scope}
use Rattle.cr_small.specs.Holding.{Holds, Answers, AreBraced, MayStand, level_behind}
use Rattle.cr_small.specs.declared.grammar.Part.{Part}
use Rattle.cr_small.specs.declared.scopes.Scopes.{Scopes}
use Rattle.cr_small.specs.declared.binder.Denotation.{Denotation}
use Rattle.cr_small.specs.declared.binder.Binding.{Binding}

pub braced_at : (parts : List Part) (i : ℕ) (p : Part) (in_body : Bool) → i < length parts → AreBraced (drop i parts) in_body → MayStand (get_or parts i p) in_body × AreBraced (drop (i + 1) parts) (level_behind (get_or parts i p) in_body)
braced_at parts i p in_body h k = subst (λ ps. AreBraced ps in_body) (drop_more parts i p h) k

module _ (names : List (List ℕ)) where
  -- the tokens and what they do, from an index on
  abbrev pub rest : List PpTok → List Part → ℕ → List (Token × Part)
  rest tokens parts i = zip (map (seen names) (drop i tokens)) (drop i parts)

  pub rest_at : (tokens : List PpTok) (parts : List Part) (i : ℕ) (x : PpTok) (p : Part) → i < length tokens → i < length parts
      → rest tokens parts i ≡ (seen names (get_or tokens i x), get_or parts i p) ∷ rest tokens parts (i + 1)
  rest_at tokens parts i x p h k =
      ap (λ ts. zip (map (seen names) ts) (drop i parts)) (drop_more tokens i x h)
      ∙ ap (zip (map (seen names) (get_or tokens i x ∷ drop (i + 1) tokens))) (drop_more parts i p k)

  pub rest_end : (tokens : List PpTok) (parts : List Part) (i : ℕ) → length tokens ≤ i → rest tokens parts i ≡ []
  rest_end tokens parts i h = ap (λ ts. zip (map (seen names) ts) (drop i parts)) (drop_all i tokens h)

-- how far the walk has come
pub record Walked (names : List (List ℕ)) (tokens : List PpTok) (parts : List Part) (i : ℕ) (scopes : Scopes) (done : List (Option Denotation)) : Type 0 where
  pub flat : Bindings
  pub holds : Holds scopes flat
  pub braced : AreBraced (drop i parts) scopes.in_body
  pub walked : resolved 0 file_scope (rest names tokens parts 0) ≡ option_map (λ ds. done ++ ds) (resolved i flat (rest names tokens parts i))

module _ (names : List (List ℕ)) where
  pub started : (tokens : List PpTok) (parts : List Part) (scopes : Scopes) → Holds scopes file_scope → AreBraced parts false → scopes.in_body ≡ false → Walked names tokens parts 0 scopes []
  started tokens parts scopes h b e = record {
    flat = file_scope;
    holds = h;
    braced = subst (AreBraced parts) (sym e) b;
    walked = sym (same (resolved 0 file_scope (rest names tokens parts 0)));
  }
    where
      same : (o : Option (List (Option Denotation))) → option_map (λ ds. [] ++ ds) o ≡ o
      same None = refl
      same (Some ds) = refl

  module _ (tokens : List PpTok) (parts : List Part) (i : ℕ) (scopes after : Scopes) (done : List (Option Denotation)) (x : PpTok) (p : Part)
      (w : Walked names tokens parts i scopes done) (h : i < length tokens) (k : i < length parts) where
    at_token : resolved i w.flat (rest names tokens parts i)
        ≡ option_and_then (λ d. option_map (λ ds. d.denotes ∷ ds) (resolved (i + 1) d.after (rest names tokens parts (i + 1)))) (bound w.flat i (seen names (get_or tokens i x)).text (get_or parts i p))
    at_token = ap (resolved i w.flat) (rest_at names tokens parts i x p h k)

    pub walk_stops : ((b : Bindings) → Holds scopes b → Answers after (bound b i (seen names (get_or tokens i x)).text (get_or parts i p)) None) → None ≡ resolved 0 file_scope (rest names tokens parts 0)
    walk_stops meets = by (bound w.flat i (seen names (get_or tokens i x)).text (get_or parts i p)) refl (meets w.flat w.holds)
      where
        by : (o : Option Bound) → bound w.flat i (seen names (get_or tokens i x)).text (get_or parts i p) ≡ o → Answers after o None → None ≡ resolved 0 file_scope (rest names tokens parts 0)
        by None e a =
            sym (w.walked ∙ ap (option_map (λ ds. done ++ ds)) (at_token ∙ ap (option_and_then (λ d. option_map (λ ds. d.denotes ∷ ds) (resolved (i + 1) d.after (rest names tokens parts (i + 1))))) e))
        by (Some d) e a = elim a [ ]

    pub walk_goes : (binding : Binding) (grown : List (Option Denotation))
        → ((b : Bindings) → Holds scopes b → Answers after (bound b i (seen names (get_or tokens i x)).text (get_or parts i p)) (Some binding))
        → after.in_body ≡ level_behind (get_or parts i p) scopes.in_body → grown ≡ done ++ binding.denotes ∷ [] → Walked names tokens parts (i + 1) after grown
    walk_goes binding grown meets level more = by (bound w.flat i (seen names (get_or tokens i x)).text (get_or parts i p)) refl (meets w.flat w.holds)
      where
        joined : (x : Option Denotation) (o : Option (List (Option Denotation))) → binding.denotes ≡ x → option_map (λ ds. done ++ ds) (option_map (λ ds. x ∷ ds) o) ≡ option_map (λ ds. grown ++ ds) o
        joined x None e = refl
        joined x (Some ds) e = ap (λ l. Some l) (sym (append_assoc done (x ∷ []) ds) ∙ ap (λ y. done ++ y ∷ [] ++ ds) (sym e) ∙ ap (λ l. l ++ ds) (sym more))

        by : (o : Option Bound) → bound w.flat i (seen names (get_or tokens i x)).text (get_or parts i p) ≡ o → Answers after o (Some binding) → Walked names tokens parts (i + 1) after grown
        by None e a = elim a [ ]
        by (Some d) e a = record {
          flat = d.after;
          holds = a.0;
          braced = subst (AreBraced (drop (i + 1) parts)) (sym level) (braced_at parts i p scopes.in_body k w.braced).1;
          walked = w.walked
              ∙ ap (option_map (λ ds. done ++ ds)) (at_token ∙ ap (option_and_then (λ d. option_map (λ ds. d.denotes ∷ ds) (resolved (i + 1) d.after (rest names tokens parts (i + 1))))) e)
              ∙ joined d.denotes (resolved (i + 1) d.after (rest names tokens parts (i + 1))) a.1;
        }

  pub walk_ends : (tokens : List PpTok) (parts : List Part) (i : ℕ) (scopes : Scopes) (done : List (Option Denotation)) → Walked names tokens parts i scopes done → length tokens ≤ i → Some done ≡ resolved 0 file_scope (rest names tokens parts 0)
  walk_ends tokens parts i scopes done w h =
      sym (w.walked ∙ ap (λ r. option_map (λ ds. done ++ ds) (resolved i w.flat r)) (rest_end names tokens parts i h) ∙ ap (λ l. Some l) (append-nil done))
