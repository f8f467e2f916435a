-- What derives is run: the machine gives a tree's events.
use Rattle.std.proofs.Common.{◌≡◌, ℕ, zero, suc, ◌+◌, true, false, List, [], ◌∷◌, ◌++◌, drop, refl, sym, ◌∙◌, ap, subst, append_assoc, add-one, inl, inr}
use Rattle.cr_grammar.specs.declared.symbols.NonTerm.{NonTerm}
use Rattle.cr_grammar.specs.declared.symbols.Symbol.{Symbol}
use Rattle.cr_grammar.specs.declared.symbols.Symbol.TheVariants.{Term, Non, Act}
use Rattle.cr_grammar.specs.Grammar.{Row, rule}
use Rattle.cr_ll.specs.Guards.{Terminal}
use Rattle.cr_ll.specs.declared.guards.Verdict.{Verdict}
use Rattle.cr_ll.specs.declared.guards.Verdict.TheVariants.{Holds, Fails, Asks}
use Rattle.cr_ll.specs.declared.guards.Choice.{Choice}
use Rattle.cr_ll.specs.Guards.{token_at, verdict, chosen, choice}
use Rattle.cr_ll.specs.Derivation.{Item, Passed, Due, Trees, none, token, action, node, events, Chosen, ChosenBy, Derives}
use Rattle.cr_ll.specs.Machine.{Config, at, Gives, body_at, move_by, pass, Run, gives, opens, asks}

-- the first of the rows from k on is the body at k
pub body_first : (rows : List Row) (k : ℕ) (r : Row) (rs : List Row) → drop k rows ≡ r ∷ rs → body_at rows k ≡ r.1
body_first [] zero r rs h = cc
body_first [] (suc k) r rs h = cc
body_first (q ∷ rows) zero r rs h = let e : q ≡ r = cc in ap (λ (z : Row). z.1) e
body_first (q ∷ rows) (suc k) r rs h = body_first rows k r rs h

pub rows_next : (rows : List Row) (k : ℕ) (r : Row) (rs : List Row) → drop k rows ≡ r ∷ rs → drop (k + 1) rows ≡ rs
rows_next [] zero r rs h = cc
rows_next [] (suc k) r rs h = cc
rows_next (q ∷ rows) zero r rs h = let e : rows ≡ rs = cc in e
rows_next (q ∷ rows) (suc k) r rs h = ap (λ m. drop m (q ∷ rows)) (add-one (suc k)) ∙ ap (λ m. drop m rows) (sym (add-one k)) ∙ rows_next rows k r rs h

module _ (ts : List Terminal) (i : ℕ) (n : NonTerm) (ss : List Symbol) where
  abbrev pub here : ℕ → Config
  here refused = record { place = i; refused = refused; stack = Non n ∷ ss }

  abbrev pub first : Terminal
  first = token_at ts i

  abbrev pub second : Terminal
  second = token_at ts (i + 1)

  -- a run after the body is one from each configuration that chooses as the rows do
  abbrev pub Leads : Choice → List Item → List Item → Config → Type 0
  Leads ch xs ys e = (refused : ℕ) → choice refused (drop refused (rule n)) first second ≡ ch → Run ts (here refused) (xs ++ ys) e

  pub chosen_runs_by : (v : Verdict) (r : Row) (k : ℕ) (xs ys : List Item) (body : List Symbol) (e : Config) (later : List Item → Type 0) (other : Choice) → body_at (rule n) k ≡ r.1 → ((more : List Item) → later more → Leads other more ys e) → ((more : List Item) → later more → Run ts (here (k + 1)) (more ++ ys) e) → ChosenBy v r later i xs body → Run ts (at i (body ++ ss)) ys e → Leads (chosen v k other) xs ys e
  chosen_runs_by Holds r k xs ys body e later other b go again h run refused eq =
      let P : List Symbol → Type 0 = λ z. Run ts (at i (z ++ ss)) ys e in
      let run' : Run ts (at i (body_at (rule n) k ++ ss)) ys e = subst P (h.1 ∙ sym b) run in
      let Q : List Item → Type 0 = λ z. Run ts (here refused) (z ++ ys) e in
      subst Q (sym h.0) (opens (ap (λ z. move_by z i n ss) eq) run')
  chosen_runs_by Fails r k xs ys body e later other b go again h run refused eq = go xs h refused eq
  chosen_runs_by (Asks ahead) r k xs ys body e later other b go again h run refused eq =
      let Q : List Item → Type 0 = λ z. Run ts (here refused) (z ++ ys) e in
      elim h as (λ _. Run ts (here refused) (xs ++ ys) e) [
        | inl w ↦
            let P : List Symbol → Type 0 = λ z. Run ts (at i (z ++ ss)) ys e in
            let run' : Run ts (at i (body_at (rule n) k ++ ss)) ys e = subst P (w.1 ∙ sym b) run in
            subst Q (sym w.0) (asks true (ap (λ z. move_by z i n ss) eq) run')
        | inr w ↦ subst Q (sym w.1) (asks false (ap (λ z. move_by z i n ss) eq) (again w.0 w.2))
      ]

  pub chosen_runs : (rows : List Row) (k : ℕ) (xs ys : List Item) (body : List Symbol) (e : Config) → drop k (rule n) ≡ rows → Chosen rows first second i xs body → Run ts (at i (body ++ ss)) ys e → Leads (choice k rows first second) xs ys e
  chosen_runs [] k xs ys body e eq h run = absurd h
  chosen_runs (r ∷ rows) k xs ys body e eq h run =
      let next : drop (k + 1) (rule n) ≡ rows = rows_next (rule n) k r rows eq in
      chosen_runs_by (verdict r.0 first second) r k xs ys body e (λ more. Chosen rows first second i more body) (choice (k + 1) rows first second)
      (body_first (rule n) k r rows eq)
      (λ more g. chosen_runs rows (k + 1) more ys body e next g run)
      (λ more g. chosen_runs rows (k + 1) more ys body e next g run (k + 1) (ap (λ z. choice (k + 1) z first second) next))
      h run

pub complete : (ts : List Terminal) (f : Trees) (i : ℕ) (ss : List Symbol) (j : ℕ) (rest : List Symbol) (ys : List Item) (e : Config) → Derives ts f i ss j → Run ts (at j rest) ys e → Run ts (at i (ss ++ rest)) (events f ++ ys) e
complete ts none i [] j rest ys e d run = let P : ℕ → Type 0 = λ z. Run ts (at z rest) ys e in subst P (sym d) run
complete ts none i (s ∷ ss) j rest ys e d run = absurd d
complete ts (token k next) i [] j rest ys e d run = absurd d
complete ts (token k next) i (Term t ∷ ss) j rest ys e d run =
    let P : ℕ → Type 0 = λ z. Run ts (at i (Term t ∷ (ss ++ rest))) (Passed z ∷ (events next ++ ys)) e in
    subst P (sym d.0) (gives (ap (λ z. pass z i (ss ++ rest)) d.1) (complete ts next (i + 1) ss j rest ys e d.2 run))
complete ts (token k next) i (Non t ∷ ss) j rest ys e d run = absurd d
complete ts (token k next) i (Act t ∷ ss) j rest ys e d run = absurd d
complete ts (action a next) i [] j rest ys e d run = absurd d
complete ts (action a next) i (Act b ∷ ss) j rest ys e d run =
    gives (ap (λ z. Gives (Due z) (at i (ss ++ rest))) (sym d.0)) (complete ts next i ss j rest ys e d.1 run)
complete ts (action a next) i (Non b ∷ ss) j rest ys e d run = absurd d
complete ts (action a next) i (Term b ∷ ss) j rest ys e d run = absurd d
complete ts (node m asked children next) i [] j rest ys e d run = absurd d
complete ts (node m asked children next) i (Non n ∷ ss) j rest ys e d run =
    let body : List Symbol = d.1 in
    let sib : Run ts (at d.2 (ss ++ rest)) (events next ++ ys) e = complete ts next d.2 ss j rest ys e d.5 run in
    let kids : Run ts (at i (body ++ (ss ++ rest))) (events children ++ (events next ++ ys)) e = complete ts children i body d.2 (ss ++ rest) (events next ++ ys) e d.4 sib in
    let all : Run ts (at i (Non n ∷ (ss ++ rest))) (asked ++ (events children ++ (events next ++ ys))) e = chosen_runs ts i n (ss ++ rest) (rule n) 0 asked (events children ++ (events next ++ ys)) body e refl d.3 kids 0 refl in
    let P : List Item → Type 0 = λ z. Run ts (at i (Non n ∷ (ss ++ rest))) z e in
    subst P (ap (λ z. asked ++ z) (sym (append_assoc (events children) (events next) ys)) ∙ sym (append_assoc asked (events children ++ events next) ys)) all
complete ts (node m asked children next) i (Term b ∷ ss) j rest ys e d run = absurd d
complete ts (node m asked children next) i (Act b ∷ ss) j rest ys e d run = absurd d
