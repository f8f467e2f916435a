-- No work of expansion leaves more macro work than there was.
use Rattle.std.proofs.Common.{◌≡◌, ℕ, zero, suc, ◌+◌, ◌-◌, ◌≤◌, Bool, true, false, cond, List, [], ◌∷◌, ◌++◌, length, refl, Some, None, Option, arith}
use Rattle.std.specs.Prelude.{nat_lt}
use Rattle.std.specs.List.{list_any}
use Rattle.std.proofs.lemmas.Bool.Decides.{nat_tests}
use Rattle.cr_base.specs.declared.token.PpKind.{PpKind}
use Rattle.cr_base.specs.declared.token.PpKind.TheVariants.{Str}
use Rattle.cr_base.specs.declared.cause.Role.TheVariants.{MacroName}
use Rattle.cr_macros.specs.OneToken.{one_token, is_string}
use Rattle.cr_macros.specs.Tokens.{Text, Token, MacroText, Event, Rule, Cause, Over, Answer, Gave, Stopped, Work, after, then_do, ◌>>=◌, give, fail, note, pay, takes, both, with_name}
use Rattle.cr_macros.specs.Substitution.{Item, Stays, Spelt, Bare, Full, CommaRest, Paste, body_items, Args, arg_at, Part, Is, Placemarker, Joins, parts_of, or_placemarker, comma_and, with_space, or_none, paste_after, filled, all_filled, string_of, in_quotes, spelling, made, paste, pasted_as, all_pasted, is_full, dropped, placed, subst}
use Rattle.cr_macros.specs.Expansion.{Table, Use, Keep, Predefined, Object, Call, Wrong, expanded_if, expanded, put_in, use_of, by_use, rules, expand_within, expand}
use Rattle.cr_macros.specs.Uses.{put_for, is_given}

abbrev pub AtMost : {A : Type 0} → ℕ → Answer A → Type 0
AtMost n (Gave a left events) = left ≤ n
AtMost n (Stopped cause stopped) = Unit {0}

pub record Leaves {A : Type 0} (m : Work A) : Type 0 where
  pub at : (left : ℕ) → AtMost left (m left)

most_after : {A : Type 0} (n k : ℕ) (events : List Event) (p : Answer A) → k ≤ n → AtMost k p → AtMost n (after events p)
most_after n k events (Gave a left more) h l = omega arith
most_after n k events (Stopped cause stopped) h l = tt

most_then : {A B : Type 0} (n : ℕ) (p : Answer A) (f : A → Work B) → AtMost n p → ((a : A) → Leaves (f a)) → AtMost n (then_do p f)
most_then n (Gave a left events) f h k = most_after n left events (f a left) h ((k a).at left)
most_then n (Stopped cause stopped) f h k = tt

leaves_then : {A B : Type 0} (m : Work A) (f : A → Work B) → Leaves m → ((a : A) → Leaves (f a)) → Leaves (m >>= f)
leaves_then m f h k = record { at = λ left. most_then left (m left) f (h.at left) k }

leaves_give : {A : Type 0} (a : A) → Leaves (give a)
leaves_give a = record { at = λ left. omega arith }

leaves_note : {A : Type 0} (events : List Event) (a : A) → Leaves (note events a)
leaves_note events a = record { at = λ left. omega arith }

leaves_fail : {A : Type 0} (cause : Cause) → Leaves {A = A} (fail cause)
leaves_fail cause = record { at = λ left. tt }

leaves_pay : {A : Type 0} (n : ℕ) (a : A) → Leaves (pay n a)
leaves_pay {A} n a = record { at = λ left. go left (nat_lt left n) } where
  go : (left : ℕ) (b : Bool) → AtMost left (cond b (Stopped Over []) (Gave a (left - n) (Rule ∷ [])))
  go left true = tt
  go left false = omega arith

leaves_if : {A : Type 0} (b : Bool) (m n : Work A) → Leaves m → Leaves n → Leaves (cond b m n)
leaves_if true m n h k = h
leaves_if false m n h k = k

leaves_string : (name hash : Token) (arg : List Token) → Leaves (string_of name hash arg)
leaves_string name hash arg = leaves_if (is_string (in_quotes (spelling arg))) _ _ (leaves_note _ (made name Str (in_quotes (spelling arg)) hash.space [])) (leaves_fail _)

leaves_filled : (name : Token) (raw full : Args) (item : Item) → Leaves (filled name raw full item)
leaves_filled name raw full (Stays t) = leaves_give (Is t ∷ [])
leaves_filled name raw full (Spelt hash n) = leaves_then (string_of name hash (arg_at raw n)) (λ s. give (Is s ∷ [])) (leaves_string name hash (arg_at raw n)) (λ s. leaves_give (Is s ∷ []))
leaves_filled name raw full (Bare t n) = leaves_give (or_placemarker (with_space t.space (arg_at raw n)))
leaves_filled name raw full (Full t n) = leaves_give (parts_of (with_space t.space (arg_at full n)))
leaves_filled name raw full (CommaRest comma t n) = leaves_give (comma_and comma (or_placemarker (with_space t.space (arg_at full n))) (arg_at raw n))
leaves_filled name raw full Paste = leaves_give (Joins ∷ [])

leaves_all_filled : (name : Token) (raw full : Args) (its : List Item) → Leaves (all_filled name raw full its)
leaves_all_filled name raw full [] = leaves_give []
leaves_all_filled name raw full (item ∷ its) =
    leaves_then (filled name raw full item) (λ ps. all_filled name raw full its >>= λ more. give (ps ++ more)) (leaves_filled name raw full item)
    (λ ps. leaves_then (all_filled name raw full its) (λ more. give (ps ++ more)) (leaves_all_filled name raw full its) (λ more. leaves_give (ps ++ more)))

leaves_paste : (name a b : Token) → Leaves (paste name a b)
leaves_paste name a b = go (one_token (a.text ++ b.text)) where
  go : (o : Option PpKind) → Leaves (pasted_as name a b o)
  go None = leaves_fail _
  go (Some kind) = leaves_note _ (made name kind (a.text ++ b.text) a.space (both a.hide b.hide))

leaves_paste_after : (name b : Token) (left : Option Token) → Leaves (paste_after name b left)
leaves_paste_after name b None = leaves_give b
leaves_paste_after name b (Some a) = leaves_paste name a b

leaves_pasted : (name : Token) (left : Option Token) (pasting : Bool) (ps : List Part) → Leaves (all_pasted name left pasting ps)
leaves_pasted name left pasting [] = leaves_give (or_none left)
leaves_pasted name left pasting (Joins ∷ ps) = leaves_pasted name left true ps
leaves_pasted name left true (Is b ∷ ps) = leaves_then (paste_after name b left) (λ c. all_pasted name (Some c) false ps) (leaves_paste_after name b left) (λ c. leaves_pasted name (Some c) false ps)
leaves_pasted name left true (Placemarker ∷ ps) = leaves_pasted name left false ps
leaves_pasted name left false (Is b ∷ ps) = leaves_then (all_pasted name (Some b) false ps) (λ rest. give (or_none left ++ rest)) (leaves_pasted name (Some b) false ps) (λ rest. leaves_give (or_none left ++ rest))
leaves_pasted name left false (Placemarker ∷ ps) = leaves_then (all_pasted name None false ps) (λ rest. give (or_none left ++ rest)) (leaves_pasted name None false ps) (λ rest. leaves_give (or_none left ++ rest))

leaves_subst : (name : Token) (m : MacroText) (raw full : Args) (hide : List Text) → Leaves (subst name m raw full hide)
leaves_subst name m raw full hide =
    leaves_then (note (takes MacroName name ++ dropped (body_items m) 0 raw) (body_items m)) (λ its. all_filled name raw full its >>= λ ps. all_pasted name None false ps >>= λ ts. give (placed name hide ts)) (leaves_note _ (body_items m))
    (λ its. leaves_then (all_filled name raw full its) (λ ps. all_pasted name None false ps >>= λ ts. give (placed name hide ts)) (leaves_all_filled name raw full its)
    (λ ps. leaves_then (all_pasted name None false ps) (λ ts. give (placed name hide ts)) (leaves_pasted name None false ps) (λ ts. leaves_give (placed name hide ts))))

leaves_put_in : (ts : List Token) → Leaves (put_in ts)
leaves_put_in ts = leaves_pay (1 + length ts) ts

module _ (e : List Token → Work (List Token)) (h : (ts : List Token) → Leaves (e ts)) where
  leaves_expanded : (its : List Item) (args : Args) (i : ℕ) → Leaves (expanded e its i args)
  leaves_expanded its [] i = leaves_give []
  leaves_expanded its (arg ∷ args) i =
      leaves_then (expanded_if e arg (list_any (is_full i) its)) (λ full. expanded e its (i + 1) args >>= λ fulls. give (full ∷ fulls)) (one (list_any (is_full i) its) (h arg))
      (λ full. leaves_then (expanded e its (i + 1) args) (λ fulls. give (full ∷ fulls)) (leaves_expanded its args (i + 1)) (λ fulls. leaves_give (full ∷ fulls))) where
        one : (b : Bool) → Leaves (e arg) → Leaves (expanded_if e arg b)
        one true g = g
        one false g = leaves_give []

  leaves_use : (t : Token) (rest : List Token) (u : Use) → Leaves (by_use e t rest u)
  leaves_use t rest Keep = leaves_then (note (Rule ∷ []) t) (λ t1. e rest >>= λ out. give (t1 ∷ out)) (leaves_note (Rule ∷ []) t) (λ t1. leaves_then (e rest) (λ out. give (t1 ∷ out)) (h rest) (λ out. leaves_give (t1 ∷ out)))
  leaves_use t rest (Predefined kind text) =
      leaves_then (note (takes MacroName t) (made t kind text t.space [])) (λ one. pay 2 one >>= λ one1. e rest >>= λ out. give (one1 ∷ out)) (leaves_note (takes MacroName t) (made t kind text t.space []))
      (λ one. leaves_then (pay 2 one) (λ one1. e rest >>= λ out. give (one1 ∷ out)) (leaves_pay 2 one) (λ one1. leaves_then (e rest) (λ out. give (one1 ∷ out)) (h rest) (λ out. leaves_give (one1 ∷ out))))
  leaves_use t rest (Object m) =
      leaves_then (subst t m [] [] (with_name t.text t.hide)) (λ ts. put_in ts >>= λ ts1. e (ts1 ++ rest)) (leaves_subst t m [] [] (with_name t.text t.hide))
      (λ ts. leaves_then (put_in ts) (λ ts1. e (ts1 ++ rest)) (leaves_put_in ts) (λ ts1. h (ts1 ++ rest)))
  leaves_use t rest (Call m args close behind) =
      leaves_then (expanded e (body_items m) 0 args) (λ fulls. subst t m args fulls (with_name t.text (both t.hide close.hide)) >>= λ ts. put_in ts >>= λ ts1. e (ts1 ++ behind)) (leaves_expanded (body_items m) args 0)
      (λ fulls. leaves_then (subst t m args fulls (with_name t.text (both t.hide close.hide))) (λ ts. put_in ts >>= λ ts1. e (ts1 ++ behind)) (leaves_subst t m args fulls (with_name t.text (both t.hide close.hide)))
      (λ ts. leaves_then (put_in ts) (λ ts1. e (ts1 ++ behind)) (leaves_put_in ts) (λ ts1. h (ts1 ++ behind))))
  leaves_use t rest (Wrong cause) = leaves_fail cause

  leaves_rules : (table : Table) (ts : List Token) → Leaves (rules table e ts)
  leaves_rules table [] = leaves_give []
  leaves_rules table (t ∷ rest) = leaves_use t rest (use_of table t rest)

leaves_within : (n : ℕ) (table : Table) (ts : List Token) → Leaves (expand_within n table ts)
leaves_within zero table ts = leaves_fail Over
leaves_within (suc n) table ts = leaves_rules (expand_within n table) (leaves_within n table) table ts

leaves_expand : (table : Table) (ts : List Token) → Leaves (expand table ts)
unfolding expand
leaves_expand table ts = record { at = λ left. (leaves_within (suc (left + length ts)) table ts).at left }

-- what a use leaves: less than there was by its tokens, where they are expanded again
abbrev pub Pays : ℕ → Bool → Answer (List Token) → Type 0
Pays n given (Gave ts left events) = cond given left (left + length ts + 1) ≤ n
Pays n given (Stopped cause stopped) = Unit {0}

pays_after : (n k : ℕ) (given : Bool) (events : List Event) (p : Answer (List Token)) → k ≤ n → Pays k given p → Pays n given (after events p)
pays_after n k given events (Gave ts left more) h l = omega arith
pays_after n k given events (Stopped cause stopped) h l = tt

pays_then : {A : Type 0} (n : ℕ) (given : Bool) (p : Answer A) (f : A → Work (List Token)) → AtMost n p → ((a : A) (left : ℕ) → Pays left given (f a left)) → Pays n given (then_do p f)
pays_then n given (Gave a left events) f h k = pays_after n left given events (f a left) h (k a left)
pays_then n given (Stopped cause stopped) f h k = tt

pays_put : (ts : List Token) (left : ℕ) → Pays left false (put_in ts left)
pays_put ts left = go (nat_lt left (1 + length ts)) refl where
  go : (b : Bool) → nat_lt left (1 + length ts) ≡ b → Pays left false (cond b (Stopped Over []) (Gave ts (left - (1 + length ts)) (Rule ∷ [])))
  go true e = tt
  go false e = let k : 1 + length ts ≤ left = grind (arith, nat_tests) in omega arith

most_pays : (n : ℕ) (p : Answer (List Token)) → AtMost n p → Pays n true p
most_pays n (Gave ts left events) h = h
most_pays n (Stopped cause stopped) h = tt

pub put_pays : (table : Table) (t : Token) (u : Use) (left : ℕ) → Pays left (is_given u) (put_for table t u left)
put_pays table t Keep left = omega arith
put_pays table t (Predefined kind text) left =
    most_pays left (put_for table t (Predefined kind text) left)
    ((leaves_then (note (takes MacroName t) (made t kind text t.space [] ∷ [])) (pay 2) (leaves_note (takes MacroName t) (made t kind text t.space [] ∷ [])) (λ ts. leaves_pay 2 ts)).at left)
put_pays table t (Object m) left = pays_then left false (subst t m [] [] (with_name t.text t.hide) left) put_in ((leaves_subst t m [] [] (with_name t.text t.hide)).at left) pays_put
put_pays table t (Call m args close behind) left =
    pays_then left false (expanded (expand table) (body_items m) 0 args left) (λ fulls. subst t m args fulls (with_name t.text (both t.hide close.hide)) >>= put_in) ((leaves_expanded (expand table) (leaves_expand table) (body_items m) args 0).at left)
    (λ fulls k. pays_then k false (subst t m args fulls (with_name t.text (both t.hide close.hide)) k) put_in ((leaves_subst t m args fulls (with_name t.text (both t.hide close.hide))).at k) pays_put)
put_pays table t (Wrong cause) left = tt
