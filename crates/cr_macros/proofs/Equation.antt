-- Expansion is what the rules say of expansion itself.
use Rattle.std.proofs.Common.{◌≡◌, ℕ, zero, suc, ◌+◌, ◌-◌, ◌<◌, ◌≤◌, Bool, true, false, cond, List, [], ◌∷◌, ◌++◌, length, refl, ap, ◌∙◌, arith, Some, None, Option, length-append}
use Rattle.std.specs.Prelude.{nat_lt, nat_le, if◌then◌else◌, codes, ◌==◌, ◌&&◌, not, ◌||◌}
use Rattle.std.specs.List.{list_any, AllByRecursion}
use Rattle.std.proofs.lemmas.Bool.Decides.{nat_tests}
use Rattle.cr_base.specs.declared.token.PpKind.{PpKind}
use Rattle.cr_base.specs.declared.cause.Role.TheVariants.{MacroName}
use Rattle.cr_macros.specs.Tokens.{Text, Token, MacroText, Rule, Over, Answer, Gave, Stopped, Work, after, then_do, ◌>>=◌, give, note, pay, takes, both, with_name, is_mark, is_ident, has}
use Rattle.cr_macros.specs.Substitution.{Item, Args, body_items, is_full, made}
use Rattle.cr_macros.specs.Substitution
use Rattle.cr_macros.specs.Expansion.{Table, Use, Keep, Predefined, Object, Call, Wrong, predefined, found_after, to_close, into_first, parted, closed_by, counted_call, closed_call, use_by_params, use_of_macro, use_of_name, arguments, expanded, expanded_if, call_of, use_of, by_use, rules, expand_within, expand}
use Rattle.cr_macros.proofs.Work.{Leaves, Lessens, lessens_then, lessens_give, lessens_note, lessens_fail, lessens_pay, lessens_subst, lessens_expanded, lessens_expanded_if}

-- A use of a list's head takes its lists from the rest.
abbrev pub IsShort : ℕ → List Token → Type 0
IsShort n ts = length ts ≤ n

abbrev pub Within : ℕ → Use → Type 0
Within n Keep = Unit {0}
Within n (Predefined kind text) = Unit {0}
Within n (Object m) = Unit {0}
Within n (Call m args close rest) = AllByRecursion (IsShort n) args × (length rest ≤ n)
Within n (Wrong cause) = Unit {0}

abbrev Closed : ℕ → Option (List Token × Token × List Token) → Type 0
Closed n None = Unit {0}
Closed n (Some p) = length p.0 + length p.2 < n

closed_after : (n : ℕ) (t : Token) (o : Option (List Token × Token × List Token)) → Closed n o → Closed (suc n) (found_after t o)
closed_after n t None h = tt
closed_after n t (Some p) h = omega arith

pub by_cond : {A : Type 0} (P : A → Type 0) (b : Bool) (x y : A) → P x → P y → P (cond b x y)
by_cond P true x y h k = h
by_cond P false x y h k = k

closed_here : (t : Token) (ts : List Token) (more : ℕ → Option (List Token × Token × List Token)) (depth : ℕ) → ((d : ℕ) → Closed (length ts) (more d)) → Closed (suc (length ts)) (closed_by t ts more depth)
closed_here t ts more zero h = omega arith
closed_here t ts more (suc depth) h = closed_after (length ts) t (more depth) (h depth)

closed : (ts : List Token) (depth : ℕ) → Closed (length ts) (to_close depth ts)
closed [] depth = tt
closed (t ∷ ts) depth =
    by_cond (Closed (suc (length ts))) (is_mark (codes ")") t) _ _
    (closed_here t ts (λ d. to_close d ts) depth (closed ts))
    (closed_after (length ts) t (to_close (cond (is_mark (codes "(") t) (suc depth) depth) ts) (closed ts (cond (is_mark (codes "(") t) (suc depth) depth)))

all_longer : (m n : ℕ) → m ≤ n → (args : Args) → AllByRecursion (IsShort m) args → AllByRecursion (IsShort n) args
all_longer m n h [] a = tt
all_longer m n h (arg ∷ args) a = (omega (arith, a.0), all_longer m n h args a.1)

all_into_first : (n : ℕ) (t : Token) (args : Args) → AllByRecursion (IsShort n) args → AllByRecursion (IsShort (suc n)) (into_first t args)
all_into_first n t [] a = (omega arith, tt)
all_into_first n t (arg ∷ args) a = (omega (arith, a.0), all_longer n (suc n) (omega arith) args a.1)

all_parted : (ts : List Token) (n depth : ℕ) → AllByRecursion (IsShort (length ts)) (parted n depth ts)
all_parted [] n depth = (omega arith, tt)
all_parted (t ∷ ts) n depth =
    let P : Args → Type 0 = AllByRecursion (IsShort (suc (length ts))) in
    by_cond P (is_mark (codes "(") t) _ _ (all_into_first (length ts) t (parted n (depth + 1) ts) (all_parted ts n (depth + 1)))
    (by_cond P (is_mark (codes ")") t) _ _ (all_into_first (length ts) t (parted n (depth - 1) ts) (all_parted ts n (depth - 1)))
    (by_cond P (is_mark (codes ",") t && depth == 0 && nat_le 1 n) _ _
    (omega arith, all_longer (length ts) (suc (length ts)) (omega arith) (parted (n - 1) depth ts) (all_parted ts (n - 1) depth))
    (all_into_first (length ts) t (parted n depth ts) (all_parted ts n depth))))

abbrev Shorts : ℕ → Option Args → Type 0
Shorts n None = Unit {0}
Shorts n (Some args) = AllByRecursion (IsShort n) args

all_append : (n : ℕ) (as1 bs : Args) → AllByRecursion (IsShort n) as1 → AllByRecursion (IsShort n) bs → AllByRecursion (IsShort n) (as1 ++ bs)
all_append n [] bs a b = b
all_append n (x ∷ xs) bs a b = (a.0, all_append n xs bs a.1 b)

counted : (names : List Text) (inside : List Token) → Shorts (length inside) (let args = parted (length inside) 0 inside in if length args == length names then Some args else None)
counted names inside = by_cond (Shorts (length inside)) (length (parted (length inside) 0 inside) == length names) _ _ (all_parted inside (length inside) 0) tt

all_arguments : (names : List Text) (variadic : Bool) (inside : List Token) → Shorts (length inside) (arguments names variadic inside)
all_arguments names true inside =
    by_cond (Shorts (length inside)) (length (parted (length names) 0 inside) == length names + 1) _ _ (all_parted inside (length names) 0)
    (by_cond (Shorts (length inside)) (length (parted (length names) 0 inside) == length names) _ _ (all_append (length inside) (parted (length names) 0 inside) ([] ∷ []) (all_parted inside (length names) 0) (omega arith, tt)) tt)
all_arguments [] false [] = tt
all_arguments [] false (t ∷ ts) = counted [] (t ∷ ts)
all_arguments (n ∷ ns) false inside = counted (n ∷ ns) inside

within_counted : (t : Token) (m : MacroText) (close : Token) (after : List Token) (n : ℕ) (o : Option Args) → Shorts n o → length after ≤ n → Within n (counted_call t m close after o)
within_counted t m close after n None h k = tt
within_counted t m close after n (Some args) h k = (h, k)

shorts_longer : (m n : ℕ) → m ≤ n → (o : Option Args) → Shorts m o → Shorts n o
shorts_longer m n h None a = tt
shorts_longer m n h (Some args) a = all_longer m n h args a

within_closed : (t : Token) (m : MacroText) (names : List Text) (n : ℕ) (o : Option (List Token × Token × List Token)) → Closed n o → Within (suc n) (closed_call t m names o)
within_closed t m names n None h = tt
within_closed t m names n (Some p) h =
    within_counted t m p.1 p.2 (suc n) (arguments names m.variadic p.0) (shorts_longer (length p.0) (suc n) (omega arith) (arguments names m.variadic p.0) (all_arguments names m.variadic p.0)) (omega arith)

within_call : (t : Token) (m : MacroText) (names : List Text) (rest : List Token) → Within (length rest) (call_of t m names rest)
within_call t m names [] = tt
within_call t m names (u ∷ rest) = by_cond (Within (suc (length rest))) (is_mark (codes "(") u) _ _ (within_closed t m names (length rest) (to_close 0 rest) (closed rest 0)) tt

within_params : (t : Token) (m : MacroText) (rest : List Token) (o : Option (List Text)) → Within (length rest) (use_by_params t m rest o)
within_params t m rest None = tt
within_params t m rest (Some names) = within_call t m names rest

within_macro : (t : Token) (rest : List Token) (o : Option MacroText) → Within (length rest) (use_of_macro t rest o)
within_macro t rest None = tt
within_macro t rest (Some m) = within_params t m rest m.params

within_name : (table : Table) (t : Token) (rest : List Token) (o : Option (PpKind × Text)) → Within (length rest) (use_of_name table t rest o)
within_name table t rest None = within_macro t rest (table.macro t.text)
within_name table t rest (Some p) = tt

pub within_use : (table : Table) (t : Token) (rest : List Token) → Within (length rest) (use_of table t rest)
within_use table t rest = by_cond (Within (length rest)) (not (is_ident t.kind) || has t.hide t.text) _ _ tt (within_name table t rest (predefined table.file t.line t.text))

-- two works that agree wherever less is left and listed
abbrev pub Agree : (List Token → Work (List Token)) → (List Token → Work (List Token)) → ℕ → Type 0
Agree f g n = (ts : List Token) (left : ℕ) → left + length ts < n → f ts left ≡ g ts left

pub then_agree : {A B : Type 0} (r : Answer A) (f g : A → Work B) (left : ℕ) → Leaves left r → ((a : A) (left1 : ℕ) → left1 ≤ left → f a left1 ≡ g a left1) → then_do r f ≡ then_do r g
then_agree (Gave a left1 events) f g left h k = ap (after events) (k a left1 h)
then_agree (Stopped cause stopped) f g left h k = refl

-- the same, where the first part agrees too
pub both_agree : {A B : Type 0} (m n : Work A) (f g : A → Work B) (left : ℕ) → m left ≡ n left → Lessens m → ((a : A) (left1 : ℕ) → left1 ≤ left → f a left1 ≡ g a left1) → (m >>= f) left ≡ (n >>= g) left
both_agree m n f g left e h k = then_agree (m left) f g left (h.leaves left) k ∙ ap (λ r. then_do r g) e

-- what is paid is at least what is put in
pub paid : {B : Type 0} (ts : List Token) (f g : List Token → Work B) (left : ℕ) → ((left1 : ℕ) → left1 + length ts < left → f ts left1 ≡ g ts left1) → (pay (1 + length ts) ts >>= f) left ≡ (pay (1 + length ts) ts >>= g) left
paid {B} ts f g left h = go (nat_lt left (1 + length ts)) refl where
  go : (b : Bool) → nat_lt left (1 + length ts) ≡ b → then_do {B = B} (cond b (Stopped Over []) (Gave ts (left - (1 + length ts)) (Rule ∷ []))) f ≡ then_do (cond b (Stopped Over []) (Gave ts (left - (1 + length ts)) (Rule ∷ []))) g
  go true e = refl
  go false e = ap (after (Rule ∷ [])) (h (left - (1 + length ts)) (let k : 1 + length ts ≤ left = grind (arith, nat_tests) in omega arith))

abbrev put : Token → MacroText → Args → Token → Args → Work (List Token)
put t m args close fulls = Substitution.subst t m args fulls (with_name t.text (both t.hide close.hide))

abbrev then_put : (List Token → Work (List Token)) → Token → MacroText → Args → Token → List Token → Args → Work (List Token)
then_put e t m args close rest fulls = put t m args close fulls >>= λ ts. pay (1 + length ts) ts >>= λ ts. e (ts ++ rest)

module _ (f g : List Token → Work (List Token)) (lf : (ts : List Token) → Lessens (f ts)) where
  one_agrees : (arg : List Token) (b : Bool) (left : ℕ) → f arg left ≡ g arg left → expanded_if f arg b left ≡ expanded_if g arg b left
  one_agrees arg true left h = h
  one_agrees arg false left h = refl

  expanded_agree : (its : List Item) (n : ℕ) (args : Args) (i left : ℕ) → AllByRecursion (IsShort n) args → Agree f g (suc (left + n)) → expanded f its i args left ≡ expanded g its i args left
  expanded_agree its n [] i left a h = refl
  expanded_agree its n (arg ∷ args) i left a h =
      both_agree (expanded_if f arg (list_any (is_full i) its)) (expanded_if g arg (list_any (is_full i) its))
      (λ full. expanded f its (i + 1) args >>= λ fulls. give (full ∷ fulls)) (λ full. expanded g its (i + 1) args >>= λ fulls. give (full ∷ fulls)) left
      (one_agrees arg (list_any (is_full i) its) left (h arg left (omega (arith, a.0)))) (lessens_expanded_if f lf arg (list_any (is_full i) its))
      (λ full left1 k. ap (λ r. then_do r (λ fulls. give (full ∷ fulls))) (expanded_agree its n args (i + 1) left1 a.1 (λ ts left2 s. h ts left2 (omega arith))))

  by_use_agree : (t : Token) (rest : List Token) (u : Use) (left : ℕ) → Within (length rest) u → Agree f g (left + suc (length rest)) → by_use f t rest u left ≡ by_use g t rest u left
  by_use_agree t rest Keep left w h = ap (λ r. after (Rule ∷ []) (then_do r (λ out. give (t ∷ out)))) (h rest left (omega arith))
  by_use_agree t rest (Predefined kind text) left w h =
      both_agree (note (takes MacroName t) (made t kind text t.space [])) (note (takes MacroName t) (made t kind text t.space []))
      (λ one. pay 2 one >>= λ one1. f rest >>= λ out. give (one1 ∷ out)) (λ one. pay 2 one >>= λ one1. g rest >>= λ out. give (one1 ∷ out)) left refl (lessens_note _ _)
      (λ one left1 k. both_agree (pay 2 one) (pay 2 one) (λ one. f rest >>= λ out. give (one ∷ out)) (λ one. g rest >>= λ out. give (one ∷ out)) left1 refl (lessens_pay 2 one)
      (λ two left2 k2. ap (λ r. then_do r (λ out. give (two ∷ out))) (h rest left2 (omega arith))))
  by_use_agree t rest (Object m) left w h =
      both_agree (Substitution.subst t m [] [] (with_name t.text t.hide)) (Substitution.subst t m [] [] (with_name t.text t.hide))
      (λ ts. pay (1 + length ts) ts >>= λ ts. f (ts ++ rest)) (λ ts. pay (1 + length ts) ts >>= λ ts. g (ts ++ rest)) left refl (lessens_subst t m [] [] (with_name t.text t.hide))
      (λ ts left1 k. paid ts (λ ts. f (ts ++ rest)) (λ ts. g (ts ++ rest)) left1 (λ left2 p. h (ts ++ rest) left2 (omega (arith, length-append ts rest))))
  by_use_agree t rest (Call m args close after) left w h =
      both_agree (expanded f (body_items m) 0 args) (expanded g (body_items m) 0 args) (then_put f t m args close after) (then_put g t m args close after) left
      (expanded_agree (body_items m) (length rest) args 0 left w.0 (λ ts left1 s. h ts left1 (omega arith)))
      (lessens_expanded f lf (body_items m) 0 args)
      (λ fulls left1 k. both_agree (put t m args close fulls) (put t m args close fulls) (λ ts. pay (1 + length ts) ts >>= λ ts. f (ts ++ after)) (λ ts. pay (1 + length ts) ts >>= λ ts. g (ts ++ after)) left1 refl (lessens_subst t m args fulls (with_name t.text (both t.hide close.hide)))
      (λ ts left2 k2. paid ts (λ ts. f (ts ++ after)) (λ ts. g (ts ++ after)) left2 (λ left3 p. h (ts ++ after) left3 (omega (arith, w.1, length-append ts after)))))
  by_use_agree t rest (Wrong cause) left w h = refl

  rules_agree : (table : Table) (ts : List Token) (left : ℕ) → Agree f g (left + length ts) → rules table f ts left ≡ rules table g ts left
  rules_agree table [] left h = refl
  rules_agree table (t ∷ rest) left h = by_use_agree t rest (use_of table t rest) left (within_use table t rest) h

  lessens_use : (t : Token) (rest : List Token) (u : Use) → Lessens (by_use f t rest u)
  lessens_use t rest Keep = lessens_then _ _ (lessens_note (Rule ∷ []) t) (λ t1. lessens_then _ _ (lf rest) (λ out. lessens_give (t1 ∷ out)))
  lessens_use t rest (Predefined kind text) =
      lessens_then _ _ (lessens_note (takes MacroName t) (made t kind text t.space []))
      (λ one. lessens_then _ _ (lessens_pay 2 one) (λ two. lessens_then _ _ (lf rest) (λ out. lessens_give (two ∷ out))))
  lessens_use t rest (Object m) =
      lessens_then _ _ (lessens_subst t m [] [] (with_name t.text t.hide)) (λ ts. lessens_then _ _ (lessens_pay (1 + length ts) ts) (λ ts1. lf (ts1 ++ rest)))
  lessens_use t rest (Call m args close after) =
      lessens_then _ _ (lessens_expanded f lf (body_items m) 0 args)
      (λ fulls. lessens_then _ _ (lessens_subst t m args fulls (with_name t.text (both t.hide close.hide))) (λ ts. lessens_then _ _ (lessens_pay (1 + length ts) ts) (λ ts1. lf (ts1 ++ after))))
  lessens_use t rest (Wrong cause) = lessens_fail cause

lessens_within : (n : ℕ) (table : Table) (ts : List Token) → Lessens (expand_within n table ts)
lessens_within zero table ts = lessens_fail Over
lessens_within (suc n) table [] = lessens_give []
lessens_within (suc n) table (t ∷ rest) = lessens_use (expand_within n table) (expand_within n table) (lessens_within n table) t rest (use_of table t rest)

-- it doesn't matter how deep, once that is deep enough
deep_enough : (n m : ℕ) (table : Table) (ts : List Token) (left : ℕ) → left + length ts < n → left + length ts < m → expand_within n table ts left ≡ expand_within m table ts left
deep_enough zero m table ts left h k = absurd (omega arith)
deep_enough (suc n) zero table ts left h k = absurd (omega arith)
deep_enough (suc n) (suc m) table ts left h k =
    rules_agree (expand_within n table) (expand_within m table) (lessens_within n table) table ts left
    (λ ts1 left1 s. deep_enough n m table ts1 left1 (omega arith) (omega arith))

pub expand_rules : (table : Table) (ts : List Token) (left : ℕ) → expand table ts left ≡ rules table (expand table) ts left
unfolding expand
expand_rules table ts left =
    rules_agree (expand_within (left + length ts) table) (expand table) (lessens_within (left + length ts) table) table ts left
    (λ ts1 left1 s. deep_enough (left + length ts) (suc (left1 + length ts1)) table ts1 left1 s (omega arith))

pub lessens_expand : (table : Table) (ts : List Token) → Lessens (expand table ts)
unfolding expand
lessens_expand table ts = record { leaves = λ left. (lessens_within (suc (left + length ts)) table ts).leaves left }
