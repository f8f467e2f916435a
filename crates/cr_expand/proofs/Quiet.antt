-- What is put in for a name uses no rule.
use Rattle.std.proofs.Common.{◌≡◌, ℕ, ◌+◌, Bool, true, false, cond, List, [], ◌∷◌, ◌++◌, refl, arith, Some, None, Option}
use Rattle.std.specs.Prelude.{slice_index_or, flat_map}
use Rattle.std.specs.List.{list_any}
use Rattle.cr_base.specs.declared.token.Origin.{Origin}
use Rattle.cr_base.specs.declared.token.Origin.TheVariants.{At, Made}
use Rattle.cr_base.specs.declared.token.PpKind.{PpKind}
use Rattle.cr_base.specs.declared.cause.Role.{Role}
use Rattle.cr_base.specs.declared.cause.Role.TheVariants.{MacroName, Stringized, Pasted, Dropped}
use Rattle.cr_macros.specs.OneToken.{one_token, is_string}
use Rattle.cr_macros.specs.Tokens.{Text, Token, MacroText, Event, Rule, Taken, Cause, Answer, Gave, Stopped, Work, after, then_do, ◌>>=◌, give, fail, note, is_ident, taken_at, takes}
use Rattle.cr_macros.specs.Substitution.{Item, Stays, Spelt, Bare, Full, CommaRest, Paste, Args, Part, Is, Placemarker, Joins, or_none, paste_after, filled, all_filled, string_of, spelling, in_quotes, pasted_as, paste, all_pasted, body_items, is_use, dropped, placed}
use Rattle.cr_macros.specs.Substitution
use Rattle.cr_expand.specs.Machines.{uses}

pub uses_append : (xs ys : List Event) → uses (xs ++ ys) ≡ uses xs + uses ys
uses_append [] ys = omega arith
uses_append (Rule ∷ xs) ys = let r = uses_append xs ys in omega (arith, r)
uses_append (Taken text place role ∷ xs) ys = uses_append xs ys

abbrev pub QuietAnswer : {A : Type 0} → Answer A → Type 0
QuietAnswer (Gave a left events) = uses events ≡ 0
QuietAnswer (Stopped cause stopped) = uses stopped ≡ 0

pub record Quiet {A : Type 0} (m : Work A) : Type 0 where
  pub at : (left : ℕ) → QuietAnswer (m left)

quiet_after : {A : Type 0} (events : List Event) (r : Answer A) → uses events ≡ 0 → QuietAnswer r → QuietAnswer (after events r)
quiet_after events (Gave a left more) h k = let u = uses_append events more in omega (arith, u, h, k)
quiet_after events (Stopped cause stopped) h k = let u = uses_append events stopped in omega (arith, u, h, k)

quiet_then_do : {A B : Type 0} (r : Answer A) (f : A → Work B) → QuietAnswer r → ((a : A) → Quiet (f a)) → QuietAnswer (then_do r f)
quiet_then_do (Gave a left events) f h g = quiet_after events (f a left) h ((g a).at left)
quiet_then_do (Stopped cause stopped) f h g = h

quiet_then : {A B : Type 0} (m : Work A) (f : A → Work B) → Quiet m → ((a : A) → Quiet (f a)) → Quiet (m >>= f)
quiet_then m f h g = record { at = λ left. quiet_then_do (m left) f (h.at left) g }

quiet_give : {A : Type 0} (a : A) → Quiet (give a)
quiet_give a = record { at = λ left. refl }

quiet_note : {A : Type 0} (events : List Event) (a : A) → uses events ≡ 0 → Quiet (note events a)
quiet_note events a h = record { at = λ left. h }

quiet_fail : {A : Type 0} (cause : Cause) → Quiet (fail {A = A} cause)
quiet_fail cause = record { at = λ left. refl }

quiet_cond : {A : Type 0} (b : Bool) (m n : Work A) → Quiet m → Quiet n → Quiet (cond b m n)
quiet_cond true m n h k = h
quiet_cond false m n h k = k

pub takes_none : (role : Role) (t : Token) → uses (takes role t) ≡ 0
takes_none role t = by t.origin where
  one : (p : _) (b : Bool) → uses (cond b (Taken t.text p role ∷ []) []) ≡ 0
  one p true = refl
  one p false = refl

  by : (o : Origin) → uses (taken_at role t o) ≡ 0
  by Made = refl
  by (At place) = one place (is_ident t.kind)

all_take_none : (role : Role) (ts : List Token) → uses (flat_map (takes role) ts) ≡ 0
all_take_none role [] = refl
all_take_none role (t ∷ ts) = let a = uses_append (takes role t) (flat_map (takes role) ts) in let b = takes_none role t in let c = all_take_none role ts in omega (arith, a, b, c)

dropped_none : (its : List Item) (i : ℕ) (args : Args) → uses (dropped its i args) ≡ 0
dropped_none its i [] = refl
dropped_none its i (arg ∷ args) =
    let d = if_none (list_any (is_use i) its) in
    let r = dropped_none its (i + 1) args in
    let a = uses_append (cond (list_any (is_use i) its) [] (flat_map (takes Dropped) arg)) (dropped its (i + 1) args) in omega (arith, a, d, r) where
      if_none : (b : Bool) → uses (cond b [] (flat_map (takes Dropped) arg)) ≡ 0
      if_none true = refl
      if_none false = all_take_none Dropped arg

quiet_string : (name hash : Token) (arg : List Token) → Quiet (string_of name hash arg)
quiet_string name hash arg = quiet_cond (is_string (in_quotes (spelling arg))) _ _ (quiet_note _ _ (all_take_none Stringized arg)) (quiet_fail _)

quiet_filled : (name : Token) (raw full : Args) (item : Item) → Quiet (filled name raw full item)
quiet_filled name raw full (Stays t) = quiet_give _
quiet_filled name raw full (Spelt hash i) = quiet_then _ _ (quiet_string name hash (slice_index_or raw i [])) (λ s. quiet_give (Is s ∷ []))
quiet_filled name raw full (Bare t i) = quiet_give _
quiet_filled name raw full (Full t i) = quiet_give _
quiet_filled name raw full (CommaRest comma t i) = quiet_give _
quiet_filled name raw full Paste = quiet_give _

quiet_all_filled : (name : Token) (raw full : Args) (its : List Item) → Quiet (all_filled name raw full its)
quiet_all_filled name raw full [] = quiet_give _
quiet_all_filled name raw full (item ∷ its) = quiet_then _ _ (quiet_filled name raw full item) (λ f. quiet_then _ _ (quiet_all_filled name raw full its) (λ fs. quiet_give (f ++ fs)))

quiet_pasted_as : (name a b : Token) (o : Option PpKind) → Quiet (pasted_as name a b o)
quiet_pasted_as name a b None = quiet_fail _
quiet_pasted_as name a b (Some kind) = quiet_note _ _ (let u = uses_append (takes Pasted a) (takes Pasted b) in let c = takes_none Pasted a in let d = takes_none Pasted b in omega (arith, u, c, d))

quiet_paste_after : (name b : Token) (left : Option Token) → Quiet (paste_after name b left)
quiet_paste_after name b None = quiet_give _
quiet_paste_after name b (Some a) = quiet_pasted_as name a b (one_token (a.text ++ b.text))

quiet_all_pasted : (name : Token) (left : Option Token) (pasting : Bool) (ps : List Part) → Quiet (all_pasted name left pasting ps)
quiet_all_pasted name left pasting [] = quiet_give _
quiet_all_pasted name left pasting (Joins ∷ ps) = quiet_all_pasted name left true ps
quiet_all_pasted name left true (Is b ∷ ps) = quiet_then _ _ (quiet_paste_after name b left) (λ c. quiet_all_pasted name (Some c) false ps)
quiet_all_pasted name left true (Placemarker ∷ ps) = quiet_all_pasted name left false ps
quiet_all_pasted name left false (Is b ∷ ps) = quiet_then _ _ (quiet_all_pasted name (Some b) false ps) (λ rest. quiet_give (or_none left ++ rest))
quiet_all_pasted name left false (Placemarker ∷ ps) = quiet_then _ _ (quiet_all_pasted name None false ps) (λ rest. quiet_give (or_none left ++ rest))

pub quiet_subst : (name : Token) (m : MacroText) (raw full : Args) (hide : List Text) → Quiet (Substitution.subst name m raw full hide)
quiet_subst name m raw full hide =
    quiet_then _ _ (quiet_note (takes MacroName name ++ dropped (body_items m) 0 raw) (body_items m)
    (let u = uses_append (takes MacroName name) (dropped (body_items m) 0 raw) in let c = takes_none MacroName name in let d = dropped_none (body_items m) 0 raw in omega (arith, u, c, d)))
    (λ its. quiet_then _ _ (quiet_all_filled name raw full its)
    (λ ps. quiet_then _ _ (quiet_all_pasted name None false ps) (λ ts. quiet_give (placed name hide ts))))
