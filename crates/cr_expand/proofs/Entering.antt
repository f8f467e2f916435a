-- Calls are entered, and their arguments expanded one after another.
use Rattle.std.proofs.Common.{◌≡◌, ℕ, zero, suc, ◌+◌, Bool, true, false, None, List, [], ◌∷◌, ◌++◌, length, refl, sym, ap, ◌∙◌, arith, append_assoc, append-nil, length-append, ◌⊎◌, inl, inr}
use Rattle.std.specs.List.{list_any}
use Rattle.cr_macros.specs.Tokens.{Text, Token, MacroText, Gave, Work, after, then_do, ◌>>=◌, give, takes}
use Rattle.cr_macros.specs.Substitution.{Args, Item, Stays, Spelt, Bare, Full, CommaRest, Paste, body_items, is_full, arg_at, with_space, parts_of, or_placemarker, comma_and, filled, all_filled, all_pasted, placed, dropped}
use Rattle.cr_macros.specs.Expansion.{Table, expand, expanded, expanded_if, put_in}
use Rattle.cr_macros.specs.Laws.{FollowsTheRules}
use Rattle.cr_base.specs.declared.cause.Role.TheVariants.{MacroName}
use Rattle.cr_expand.specs.Running.{Piece, Ends, current, behind, before, first_lists, behind_lists, Waiting, put_for, resumes, goes_on_by}
use Rattle.cr_expand.proofs.Going.{then_then, then_same, after_none, with_done, is_wanted, IsDropped, one_argument}

-- Two lists of arguments are the same at each place, where one that is missing is empty.
abbrev pub SameAt : Args → Args → Type 0
SameAt as1 bs = (i : ℕ) → arg_at as1 i ≡ arg_at bs i

same_longer : (as1 : Args) → SameAt (as1 ++ [] ∷ []) as1
same_longer [] zero = refl
same_longer [] (suc i) = refl
same_longer (a ∷ as1) zero = refl
same_longer (a ∷ as1) (suc i) = same_longer as1 i

filled_same : (name : Token) (raw full full2 : Args) → SameAt full full2 → (item : Item) (left : ℕ) → filled name raw full item left ≡ filled name raw full2 item left
filled_same name raw full full2 h (Stays t) left = refl
filled_same name raw full full2 h (Spelt hash i) left = refl
filled_same name raw full full2 h (Bare t i) left = refl
filled_same name raw full full2 h (Full t i) left = ap (λ a. Gave (parts_of (with_space t.space a)) left []) (h i)
filled_same name raw full full2 h (CommaRest comma t i) left = ap (λ a. Gave (comma_and comma (or_placemarker (with_space t.space a)) (arg_at raw i)) left []) (h i)
filled_same name raw full full2 h Paste left = refl

all_filled_same : (name : Token) (raw full full2 : Args) → SameAt full full2 → (its : List Item) (left : ℕ) → all_filled name raw full its left ≡ all_filled name raw full2 its left
all_filled_same name raw full full2 h [] left = refl
all_filled_same name raw full full2 h (item ∷ its) left =
    ap (λ r. then_do r (λ ps. all_filled name raw full its >>= λ more. give (ps ++ more))) (filled_same name raw full full2 h item left)
    ∙ then_same (filled name raw full2 item left) (λ ps. all_filled name raw full its >>= λ more. give (ps ++ more)) (λ ps. all_filled name raw full2 its >>= λ more. give (ps ++ more))
    (λ ps left1. ap (λ r. then_do r (λ more. give (ps ++ more))) (all_filled_same name raw full full2 h its left1))

pub put_same : (name : Token) (m : MacroText) (raw full full2 : Args) (hide : List Text) → SameAt full full2 → (left : ℕ) → put_for name m raw full hide left ≡ put_for name m raw full2 hide left
put_same name m raw full full2 hide h left =
    ap (λ r. then_do (after (takes MacroName name ++ dropped (body_items m) 0 raw) (then_do r (λ ps. all_pasted name None false ps >>= λ ts. give (placed name hide ts)))) (λ ts. put_in ts)) (all_filled_same name raw full full2 h (body_items m) left)

-- The arguments of a call are the lists between its commas; but the variable one may be missing, and where no argument is
-- wanted, none stands there.
abbrev pub AreArguments : Args → Args → Type 0
AreArguments args lists = (args ≡ lists) ⊎ ((args ≡ lists ++ [] ∷ []) ⊎ ((args ≡ []) × (lists ≡ [] ∷ [])))

abbrev pub entered : Token → MacroText → Args → List Text → ℕ → Waiting
entered t m raw hide n = record { name = t; means = m; hide = hide; raw = raw; done = []; out = []; more = n }

module _ (table : Table) (law : FollowsTheRules) where
  -- an empty argument expands to nothing
  expanded_none : (b : Bool) (left : ℕ) → expanded_if (expand table) [] b left ≡ Gave [] left []
  expanded_none true left = law table [] left
  expanded_none false left = refl

  one_empty : (its : List Item) (i left : ℕ) → expanded (expand table) its i ([] ∷ []) left ≡ Gave ([] ∷ []) left []
  one_empty its i left = ap (λ r. then_do r (λ full. expanded (expand table) its (i + 1) [] >>= λ fulls. give (full ∷ fulls))) (expanded_none (list_any (is_full i) its) left)

  expanded_longer : (its : List Item) (i : ℕ) (args : Args) (left : ℕ) → expanded (expand table) its i (args ++ [] ∷ []) left ≡ then_do (expanded (expand table) its i args left) (λ fulls. give (fulls ++ [] ∷ []))
  expanded_longer its i [] left = one_empty its i left
  expanded_longer its i (arg ∷ args) left =
      let r = expanded_if (expand table) arg (list_any (is_full i) its) left in
      then_same r (λ full. expanded (expand table) its (i + 1) (args ++ [] ∷ []) >>= λ fulls. give (full ∷ fulls)) (λ full. (expanded (expand table) its (i + 1) args >>= λ fulls. give (full ∷ fulls)) >>= λ fulls. give (fulls ++ [] ∷ []))
      (λ full left1.
      ap (λ r. then_do r (λ fulls. give (full ∷ fulls))) (expanded_longer its (i + 1) args left1)
      ∙ then_then (expanded (expand table) its (i + 1) args left1) (λ fulls. give (fulls ++ [] ∷ [])) (λ fulls. give (full ∷ fulls))
      ∙ sym (then_then (expanded (expand table) its (i + 1) args left1) (λ fulls. give (full ∷ fulls)) (λ fulls. give (fulls ++ [] ∷ []))))
      ∙ sym (then_then r (λ full. expanded (expand table) its (i + 1) args >>= λ fulls. give (full ∷ fulls)) (λ fulls. give (fulls ++ [] ∷ [])))

  pub arguments_same : {B : Type 0} (t : Token) (m : MacroText) (raw args lists : Args) (hide : List Text) (go : List Token → Work B) (left : ℕ) → AreArguments args lists
      → (expanded (expand table) (body_items m) 0 args >>= λ fulls. put_for t m raw fulls hide >>= go) left
      ≡ (expanded (expand table) (body_items m) 0 lists >>= λ fulls. put_for t m raw fulls hide >>= go) left
  arguments_same t m raw args lists hide go left h = elim h [
    | inl e ↦ ap (λ l. (expanded (expand table) (body_items m) 0 l >>= λ fulls. put_for t m raw fulls hide >>= go) left) e
    | inr (inl e) ↦
        ap (λ l. (expanded (expand table) (body_items m) 0 l >>= λ fulls. put_for t m raw fulls hide >>= go) left) e
        ∙ ap (λ r. then_do r (λ fulls. put_for t m raw fulls hide >>= go)) (expanded_longer (body_items m) 0 lists left)
        ∙ then_then (expanded (expand table) (body_items m) 0 lists left) (λ fulls. give (fulls ++ [] ∷ [])) (λ fulls. put_for t m raw fulls hide >>= go)
        ∙ then_same (expanded (expand table) (body_items m) 0 lists left) (λ fulls. give (fulls ++ [] ∷ []) >>= λ fulls1. put_for t m raw fulls1 hide >>= go) (λ fulls. put_for t m raw fulls hide >>= go)
        (λ fulls left1. after_none _ ∙ ap (λ r. then_do r go) (put_same t m raw (fulls ++ [] ∷ []) fulls hide (same_longer fulls) left1))
    | inr (inr p) ↦
        ap (λ l. (expanded (expand table) (body_items m) 0 l >>= λ fulls. put_for t m raw fulls hide >>= go) left) p.0
        ∙ after_none _
        ∙ ap (λ r. then_do r go) (sym (put_same t m raw ([] ∷ []) [] hide (same_longer []) left))
        ∙ sym (after_none _)
        ∙ ap (λ r. then_do r (λ fulls. put_for t m raw fulls hide >>= go)) (sym (one_empty (body_items m) 0 left))
        ∙ ap (λ l. (expanded (expand table) (body_items m) 0 l >>= λ fulls. put_for t m raw fulls hide >>= go) left) (sym p.1)
  ]

behind_dropped : (b : Bool) (ps qs : List Piece) → IsDropped b ps qs → behind qs ≡ behind ps
behind_dropped true ps qs h = ap behind h
behind_dropped false ps qs h = ap behind h

module _ {A : Type 0} (table : Table) (law : FollowsTheRules) (last : List Token → Work A) where
  -- the next argument of a call
  pub goes_next : (ws : List Waiting) (w : Waiting) (ps qs : List Piece) (n left : ℕ) → w.more ≡ suc n → IsDropped (is_wanted w.means (suc (length w.done))) ps qs
      → goes_on_by last table (w ∷ ws) (Ends ∷ ps) left ≡ goes_on_by last table (with_done w n ∷ ws) qs left
  goes_next ws w ps qs n left e h =
      let its = body_items w.means in
      let F : List Piece → List Token → Args → Work A = λ l o fulls. put_for w.name w.means w.raw (w.done ++ o ∷ fulls) w.hide >>= λ ts. goes_on_by last table ws (before ts (behind_lists n l)) in
      ap (λ r. then_do r (resumes table (goes_on_by last table ws) w ps)) (law table [] left)
      ∙ after_none (resumes table (goes_on_by last table ws) w ps [] left)
      ∙ ap (λ k. (expanded (expand table) its (suc (length w.done)) (first_lists k ps)
      >>= λ fulls. put_for w.name w.means w.raw (w.done ++ (w.out ++ []) ∷ fulls) w.hide >>= λ ts. goes_on_by last table ws (before ts (behind_lists k ps))) left) e
      ∙ ap (λ o. (expanded (expand table) its (suc (length w.done)) (first_lists (suc n) ps) >>= F (behind ps) o) left) (append-nil w.out)
      ∙ one_argument table law (is_wanted w.means (suc (length w.done))) ps qs its (suc (length w.done) + 1) n (F (behind ps) w.out) left h
      ∙ ap (λ l. then_do (expand table (current qs) left) (λ full. expanded (expand table) its (suc (length w.done) + 1) (first_lists n (behind qs)) >>= λ fulls. F l w.out (full ∷ fulls))) (sym (behind_dropped (is_wanted w.means (suc (length w.done))) ps qs h))
      ∙ ap (λ k. then_do (expand table (current qs) left) (λ full. expanded (expand table) its k (first_lists n (behind qs)) >>= λ fulls. F (behind qs) w.out (full ∷ fulls)))
      (let l = length-append w.done (w.out ∷ []) in let q : suc (length w.done) + 1 ≡ suc (length (w.done ++ w.out ∷ [])) = omega (arith, l) in q)
      ∙ then_same (expand table (current qs) left) (λ full. expanded (expand table) its (suc (length (w.done ++ w.out ∷ []))) (first_lists n (behind qs)) >>= λ fulls. F (behind qs) w.out (full ∷ fulls))
      (resumes table (goes_on_by last table ws) (with_done w n) (behind qs))
      (λ full left1. then_same (expanded (expand table) its (suc (length (w.done ++ w.out ∷ []))) (first_lists n (behind qs)) left1) (λ fulls. F (behind qs) w.out (full ∷ fulls))
      (λ fulls. put_for w.name w.means w.raw ((w.done ++ w.out ∷ []) ++ full ∷ fulls) w.hide >>= λ ts. goes_on_by last table ws (before ts (behind_lists n (behind qs))))
      (λ fulls left2. ap (λ l. (put_for w.name w.means w.raw l w.hide >>= λ ts. goes_on_by last table ws (before ts (behind_lists n (behind qs)))) left2) (sym (append_assoc w.done (w.out ∷ []) (full ∷ fulls)))))

  -- the first argument of a call
  pub goes_first : (ws : List Waiting) (t : Token) (m : MacroText) (raw : Args) (hide : List Text) (n : ℕ) (ps qs : List Piece) (left : ℕ) → IsDropped (is_wanted m 0) ps qs
      → (expanded (expand table) (body_items m) 0 (first_lists (suc n) ps) >>= λ fulls. put_for t m raw fulls hide >>= λ ts. goes_on_by last table ws (before ts (behind_lists (suc n) ps))) left
      ≡ goes_on_by last table (entered t m raw hide n ∷ ws) qs left
  goes_first ws t m raw hide n ps qs left h =
      let its = body_items m in
      let F : List Piece → Args → Work A = λ l fulls. put_for t m raw fulls hide >>= λ ts. goes_on_by last table ws (before ts (behind_lists n l)) in
      one_argument table law (is_wanted m 0) ps qs its 1 n (F (behind ps)) left h
      ∙ ap (λ l. then_do (expand table (current qs) left) (λ full. expanded (expand table) its 1 (first_lists n (behind qs)) >>= λ fulls. F l (full ∷ fulls))) (sym (behind_dropped (is_wanted m 0) ps qs h))
