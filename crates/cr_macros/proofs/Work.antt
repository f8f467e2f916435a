-- Work leaves no more than it was given.
use Rattle.std.proofs.Common.{ℕ, ◌+◌, ◌-◌, ◌≤◌, Bool, true, false, cond, List, [], ◌∷◌, ◌++◌, arith, Some, None, Option}
use Rattle.std.specs.Prelude.{nat_lt, slice_index_or}
use Rattle.std.specs.List.{list_any}
use Rattle.cr_base.specs.declared.token.PpKind.{PpKind}
use Rattle.cr_base.specs.declared.cause.Role.TheVariants.{MacroName}
use Rattle.cr_macros.specs.OneToken.{one_token, is_string}
use Rattle.cr_macros.specs.Tokens.{Text, Token, MacroText, Event, Rule, Cause, Over, Answer, Gave, Stopped, Work, after, then_do, ◌>>=◌, give, fail, note, pay, takes}
use Rattle.cr_macros.specs.Substitution.{Item, Stays, Spelt, Bare, Full, CommaRest, Paste, Args, Part, Is, Placemarker, Joins, or_none, paste_after, filled, all_filled, string_of, spelling, in_quotes, made, pasted_as, paste, all_pasted, items, body_items, is_full, with_space, dropped, placed}
use Rattle.cr_macros.specs.Substitution
use Rattle.cr_macros.specs.Expansion.{expanded, expanded_if}

abbrev pub Leaves : {A : Type 0} → ℕ → Answer A → Type 0
Leaves left (Gave a left1 events) = left1 ≤ left
Leaves left (Stopped cause stopped) = Unit {0}

pub record Lessens {A : Type 0} (m : Work A) : Type 0 where
  pub leaves : (left : ℕ) → Leaves left (m left)

leaves_after : {A : Type 0} (left : ℕ) (events : List Event) (r : Answer A) → Leaves left r → Leaves left (after events r)
leaves_after left events (Gave a left1 more) h = h
leaves_after left events (Stopped cause stopped) h = tt

leaves_less : {A : Type 0} (left left1 : ℕ) (r : Answer A) → left1 ≤ left → Leaves left1 r → Leaves left r
leaves_less left left1 (Gave a left2 more) h k = omega arith
leaves_less left left1 (Stopped cause stopped) h k = tt

leaves_then : {A B : Type 0} (left : ℕ) (r : Answer A) (f : A → Work B) → Leaves left r → ((a : A) → Lessens (f a)) → Leaves left (then_do r f)
leaves_then left (Gave a left1 events) f h g = leaves_after left events (f a left1) (leaves_less left left1 (f a left1) h ((g a).leaves left1))
leaves_then left (Stopped cause stopped) f h g = tt

pub lessens_then : {A B : Type 0} (m : Work A) (f : A → Work B) → Lessens m → ((a : A) → Lessens (f a)) → Lessens (m >>= f)
lessens_then m f h g = record { leaves = λ left. leaves_then left (m left) f (h.leaves left) g }

pub lessens_give : {A : Type 0} (a : A) → Lessens (give a)
lessens_give a = record { leaves = λ left. omega arith }

pub lessens_note : {A : Type 0} (events : List Event) (a : A) → Lessens (note events a)
lessens_note events a = record { leaves = λ left. omega arith }

pub lessens_fail : {A : Type 0} (cause : Cause) → Lessens (fail {A = A} cause)
lessens_fail cause = record { leaves = λ left. tt }

lessens_cond : {A : Type 0} (b : Bool) (m n : Work A) → Lessens m → Lessens n → Lessens (cond b m n)
lessens_cond true m n h k = h
lessens_cond false m n h k = k

lessens_string : (name hash : Token) (arg : List Token) → Lessens (string_of name hash arg)
lessens_string name hash arg = lessens_cond (is_string (in_quotes (spelling arg))) _ _ (lessens_note _ _) (lessens_fail _)

lessens_filled : (name : Token) (raw full : Args) (item : Item) → Lessens (filled name raw full item)
lessens_filled name raw full (Stays t) = lessens_give _
lessens_filled name raw full (Spelt hash i) = lessens_then _ _ (lessens_string name hash (slice_index_or raw i [])) (λ s. lessens_give (Is s ∷ []))
lessens_filled name raw full (Bare t i) = lessens_give _
lessens_filled name raw full (Full t i) = lessens_give _
lessens_filled name raw full (CommaRest comma t i) = lessens_give _
lessens_filled name raw full Paste = lessens_give _

lessens_all_filled : (name : Token) (raw full : Args) (its : List Item) → Lessens (all_filled name raw full its)
lessens_all_filled name raw full [] = lessens_give _
lessens_all_filled name raw full (item ∷ its) = lessens_then _ _ (lessens_filled name raw full item) (λ f. lessens_then _ _ (lessens_all_filled name raw full its) (λ fs. lessens_give (f ++ fs)))

lessens_pasted_as : (name a b : Token) (o : Option PpKind) → Lessens (pasted_as name a b o)
lessens_pasted_as name a b None = lessens_fail _
lessens_pasted_as name a b (Some kind) = lessens_note _ _

lessens_paste : (name a b : Token) → Lessens (paste name a b)
lessens_paste name a b = lessens_pasted_as name a b (one_token (a.text ++ b.text))

lessens_paste_after : (name b : Token) (left : Option Token) → Lessens (paste_after name b left)
lessens_paste_after name b None = lessens_give _
lessens_paste_after name b (Some a) = lessens_paste name a b

lessens_all_pasted : (name : Token) (left : Option Token) (pasting : Bool) (ps : List Part) → Lessens (all_pasted name left pasting ps)
lessens_all_pasted name left pasting [] = lessens_give _
lessens_all_pasted name left pasting (Joins ∷ ps) = lessens_all_pasted name left true ps
lessens_all_pasted name left true (Is b ∷ ps) = lessens_then _ _ (lessens_paste_after name b left) (λ c. lessens_all_pasted name (Some c) false ps)
lessens_all_pasted name left true (Placemarker ∷ ps) = lessens_all_pasted name left false ps
lessens_all_pasted name left false (Is b ∷ ps) = lessens_then _ _ (lessens_all_pasted name (Some b) false ps) (λ rest. lessens_give (or_none left ++ rest))
lessens_all_pasted name left false (Placemarker ∷ ps) = lessens_then _ _ (lessens_all_pasted name None false ps) (λ rest. lessens_give (or_none left ++ rest))

pub lessens_subst : (name : Token) (m : MacroText) (raw full : Args) (hide : List Text) → Lessens (Substitution.subst name m raw full hide)
lessens_subst name m raw full hide =
    lessens_then _ _ (lessens_note (takes MacroName name ++ dropped (body_items m) 0 raw) (body_items m))
    (λ its. lessens_then _ _ (lessens_all_filled name raw full its)
    (λ ps. lessens_then _ _ (lessens_all_pasted name None false ps) (λ ts. lessens_give (placed name hide ts))))

pub lessens_pay : {A : Type 0} (n : ℕ) (a : A) → Lessens (pay n a)
lessens_pay n a = record { leaves = λ left. go left (nat_lt left n) } where
  go : (left : ℕ) (b : Bool) → Leaves left (cond b (Stopped Over []) (Gave a (left - n) (Rule ∷ [])))
  go left true = tt
  go left false = omega arith

pub lessens_expanded_if : (expand : List Token → Work (List Token)) → ((ts : List Token) → Lessens (expand ts)) → (arg : List Token) (b : Bool) → Lessens (expanded_if expand arg b)
lessens_expanded_if expand h arg false = lessens_give _
lessens_expanded_if expand h arg true = h arg

pub lessens_expanded : (expand : List Token → Work (List Token)) → ((ts : List Token) → Lessens (expand ts)) → (its : List Item) (i : ℕ) (args : Args) → Lessens (expanded expand its i args)
lessens_expanded expand h its i [] = lessens_give _
lessens_expanded expand h its i (arg ∷ args) =
    lessens_then _ _ (lessens_expanded_if expand h arg (list_any (is_full i) its))
    (λ full. lessens_then _ _ (lessens_expanded expand h its (i + 1) args) (λ fulls. lessens_give _))
