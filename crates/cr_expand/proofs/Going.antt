-- What waiting calls and pieces still give, use by use.
use Rattle.std.proofs.Common.{◌≡◌, ℕ, suc, ◌-◌, ◌<◌, ◌≤◌, Bool, true, false, cond, List, [], ◌∷◌, ◌++◌, length, refl, sym, ap, ◌∙◌, arith, append_assoc, append-nil, Option, Some, None}
use Rattle.std.specs.Prelude.{nat_lt}
use Rattle.std.specs.List.{list_any}
use Rattle.std.proofs.lemmas.Bool.Decides.{nat_tests}
use Rattle.cr_base.specs.declared.token.PpKind.{PpKind}
use Rattle.cr_base.specs.declared.cause.Role.TheVariants.{MacroName}
use Rattle.cr_macros.specs.Tokens.{Text, Token, MacroText, Event, Rule, Cause, Over, Answer, Gave, Stopped, Work, after, then_do, ◌>>=◌, give, note, pay, takes, with_name, both}
use Rattle.cr_macros.specs.Substitution.{Args, Item, body_items, is_full, made}
use Rattle.cr_macros.specs.Substitution
use Rattle.cr_macros.specs.Expansion.{Table, Use, Keep, Predefined, Object, Call, Wrong, use_of, by_use, expand, expanded, expanded_if, put_in}
use Rattle.cr_macros.specs.Uses
use Rattle.cr_macros.specs.Uses.{is_given, left_behind}
use Rattle.cr_macros.specs.Laws.{FollowsTheRules}
use Rattle.cr_expand.specs.Running.{Piece, Stands, Ends, current, behind, before, first_lists, behind_lists, Waiting, put_for, resumes, goes_on_by, goes_on, leads}
use Rattle.cr_expand.specs.Ahead.{Next, next_on, next_by, next_token}
use Rattle.cr_expand.proofs.NextRules.{next_follows_the_rules}

pub after_none : {A : Type 0} (r : Answer A) → after [] r ≡ r
after_none (Gave a left events) = refl
after_none (Stopped cause stopped) = refl

after_after : {A : Type 0} (s1 s2 : List Event) (r : Answer A) → after s1 (after s2 r) ≡ after (s1 ++ s2) r
after_after s1 s2 (Gave a left events) = ap (Gave a left) (sym (append_assoc s1 s2 events))
after_after s1 s2 (Stopped cause stopped) = ap (Stopped cause) (sym (append_assoc s1 s2 stopped))

after_then : {A B : Type 0} (s : List Event) (r : Answer A) (f : A → Work B) → then_do (after s r) f ≡ after s (then_do r f)
after_then s (Gave a left events) f = sym (after_after s events (f a left))
after_then s (Stopped cause stopped) f = refl

pub then_then : {A B C : Type 0} (r : Answer A) (f : A → Work B) (g : B → Work C) → then_do (then_do r f) g ≡ then_do r (λ a. f a >>= g)
then_then (Gave a left events) f g = after_then events (f a left) g
then_then (Stopped cause stopped) f g = refl

pub then_same : {A B : Type 0} (r : Answer A) (f g : A → Work B) → ((a : A) (left : ℕ) → f a left ≡ g a left) → then_do r f ≡ then_do r g
then_same (Gave a left events) f g h = ap (after events) (h a left)
then_same (Stopped cause stopped) f g h = refl

then_give : {A : Type 0} (r : Answer A) → then_do r give ≡ r
then_give (Gave a left events) = ap (Gave a left) (append-nil events)
then_give (Stopped cause stopped) = refl

pub leads_none : (events : List Event) (r : Answer (List Token)) → after events r ≡ leads [] events r
leads_none events (Gave ts left more) = refl
leads_none events (Stopped cause stopped) = refl

pub current_before : (ts : List Token) (ps : List Piece) → current (before ts ps) ≡ ts ++ current ps
current_before [] ps = refl
current_before (t ∷ ts) ps = ap (λ l. t ∷ l) (current_before ts ps)

pub behind_before : (ts : List Token) (ps : List Piece) → behind (before ts ps) ≡ behind ps
behind_before [] ps = refl
behind_before (t ∷ ts) ps = behind_before ts ps

-- the call with one more token of its argument's expansion
abbrev pub with_out : Waiting → Token → Waiting
with_out w t = record w { out = w.out ++ t ∷ [] }

-- what a predefined macro gives, where the work allows it (rule 3)
abbrev pub predefined_events : Token → List Event
predefined_events t = takes MacroName t ++ Rule ∷ []

-- the call with its argument's expansion behind those that are done
abbrev pub with_done : Waiting → ℕ → Waiting
with_done w more = record w { done = w.done ++ w.out ∷ []; out = []; more = more }

abbrev pub is_wanted : MacroText → ℕ → Bool
is_wanted m i = list_any (is_full i) (body_items m)

-- the first list is dropped where it isn't wanted
abbrev pub IsDropped : Bool → List Piece → List Piece → Type 0
IsDropped true ps qs = qs ≡ ps
IsDropped false ps qs = qs ≡ Ends ∷ behind ps

pay_done : {A : Type 0} (n left : ℕ) (a : A) → n ≤ left → pay n a left ≡ Gave a (left - n) (Rule ∷ [])
pay_done n left a h = ap (λ b. cond b (Stopped Over []) (Gave a (left - n) (Rule ∷ []))) (let e : nat_lt left n ≡ false = grind (arith, nat_tests) in e)

pay_over : {A : Type 0} (n left : ℕ) (a : A) → left < n → pay n a left ≡ Stopped Over []
pay_over n left a h = ap (λ b. cond b (Stopped Over []) (Gave a (left - n) (Rule ∷ []))) (let e : nat_lt left n ≡ true = grind (arith, nat_tests) in e)

-- What is done with the list that no call waits for follows the rules: what a use puts in goes on before what is behind it.
pub record UsesRules {A : Type 0} (table : Table) (last : List Token → Work A) : Type 0 where
  pub puts : (t : Token) (rest : List Token) (u : Use) (left : ℕ) → use_of table t rest ≡ u → is_given u ≡ false → last (t ∷ rest) left ≡ (Uses.put_for table t u >>= λ ts. last (ts ++ left_behind rest u)) left
  pub over : (t : Token) (rest : List Token) (kind : PpKind) (text : Text) (left : ℕ) → use_of table t rest ≡ Predefined kind text → left < 2 → last (t ∷ rest) left ≡ Stopped Over (takes MacroName t ++ [])

-- so it is with expansion
module _ (table : Table) (law : FollowsTheRules) where
  pub by_law : (t : Token) (rest : List Token) (u : Use) (left : ℕ) → use_of table t rest ≡ u → expand table (t ∷ rest) left ≡ by_use (expand table) t rest u left
  by_law t rest u left e = law table (t ∷ rest) left ∙ ap (λ v. by_use (expand table) t rest v left) e

  puts_by : (t : Token) (rest : List Token) (u : Use) (left : ℕ) → is_given u ≡ false → by_use (expand table) t rest u left ≡ (Uses.put_for table t u >>= λ ts. expand table (ts ++ left_behind rest u)) left
  puts_by t rest Keep left h = absurd (let q : ⊥ = cc in q)
  puts_by t rest (Predefined kind text) left h = absurd (let q : ⊥ = cc in q)
  puts_by t rest (Object m) left h = sym (then_then (Substitution.subst t m [] [] (with_name t.text t.hide) left) put_in (λ ts. expand table (ts ++ rest)))
  puts_by t rest (Call m args close behind) left h =
      let hide = with_name t.text (both t.hide close.hide) in
      let r = expanded (expand table) (body_items m) 0 args left in
      sym (
      then_then r (λ fulls. Substitution.subst t m args fulls hide >>= put_in) (λ ts. expand table (ts ++ behind))
      ∙ then_same r (λ fulls. (Substitution.subst t m args fulls hide >>= put_in) >>= λ ts. expand table (ts ++ behind)) (λ fulls. Substitution.subst t m args fulls hide >>= λ ts. put_in ts >>= λ ts1. expand table (ts1 ++ behind))
      (λ fulls left1. then_then (Substitution.subst t m args fulls hide left1) put_in (λ ts. expand table (ts ++ behind))))
  puts_by t rest (Wrong cause) left h = refl

  pub expand_rules : UsesRules table (expand table)
  expand_rules = record {
    puts = λ t rest u left e g. by_law t rest u left e ∙ puts_by t rest u left g;
    over = λ t rest kind text left e h.
        by_law t rest (Predefined kind text) left e
        ∙ ap (λ r. after (takes MacroName t) (then_do r (λ y. expand table rest >>= λ out. give (y ∷ out)))) (pay_over 2 left (made t kind text t.space []) h);
  }

  -- nothing is left
  pub goes_end : (left : ℕ) → goes_on table [] [] left ≡ Gave [] left []
  goes_end left = law table [] left

  -- one token is given, and these events
  gives_one : (t : Token) (events : List Event) (r : Answer (List Token)) → after events (then_do r (λ out. give (t ∷ out))) ≡ leads (t ∷ []) events r
  gives_one t events (Gave ts left more) = ap (λ es. Gave (t ∷ ts) left (events ++ es)) (append-nil more)
  gives_one t events (Stopped cause stopped) = refl

  pub outer_keeps : (t : Token) (ps : List Piece) (left : ℕ) → use_of table t (current ps) ≡ Keep
      → goes_on table [] (Stands t ∷ ps) left ≡ leads (t ∷ []) (Rule ∷ []) (goes_on table [] ps left)
  outer_keeps t ps left e = by_law t (current ps) Keep left e ∙ gives_one t (Rule ∷ []) (expand table (current ps) left)

  pub predefined_paid : (t one : Token) (ps : List Piece) (left : ℕ) → 2 ≤ left
      → (note (takes MacroName t) one >>= λ x. pay 2 x >>= λ y. expand table (current ps) >>= λ out. give (y ∷ out)) left
      ≡ after (predefined_events t) (then_do (expand table (current ps) (left - 2)) (λ out. give (one ∷ out)))
  predefined_paid t one ps left h =
      ap (λ r. after (takes MacroName t) (then_do r (λ y. expand table (current ps) >>= λ out. give (y ∷ out)))) (pay_done 2 left one h)
      ∙ after_after (takes MacroName t) (Rule ∷ []) (then_do (expand table (current ps) (left - 2)) (λ out. give (one ∷ out)))

  pub outer_predefined : (t : Token) (kind : PpKind) (text : Text) (ps : List Piece) (left : ℕ) → use_of table t (current ps) ≡ Predefined kind text → 2 ≤ left
      → goes_on table [] (Stands t ∷ ps) left ≡ leads (made t kind text t.space [] ∷ []) (predefined_events t) (goes_on table [] ps (left - 2))
  outer_predefined t kind text ps left e h =
      by_law t (current ps) (Predefined kind text) left e ∙ predefined_paid t (made t kind text t.space []) ps left h
      ∙ gives_one (made t kind text t.space []) (predefined_events t) (expand table (current ps) (left - 2))

  pub one_argument : {B : Type 0} (b : Bool) (ps qs : List Piece) (its : List Item) (i : ℕ) (n : ℕ) (F : Args → Work B) (left : ℕ) → IsDropped b ps qs
      → ((expanded_if (expand table) (current ps) b >>= λ full. expanded (expand table) its i (first_lists n (behind ps)) >>= λ fulls. give (full ∷ fulls)) >>= F) left
      ≡ then_do (expand table (current qs) left) (λ full. expanded (expand table) its i (first_lists n (behind qs)) >>= λ fulls. F (full ∷ fulls))
  one_argument b ps qs its i n F left h =
      then_then (expanded_if (expand table) (current ps) b left) (λ full. expanded (expand table) its i (first_lists n (behind ps)) >>= λ fulls. give (full ∷ fulls)) F
      ∙ then_same (expanded_if (expand table) (current ps) b left) (λ full. (expanded (expand table) its i (first_lists n (behind ps)) >>= λ fulls. give (full ∷ fulls)) >>= F)
      (λ full. expanded (expand table) its i (first_lists n (behind ps)) >>= λ fulls. F (full ∷ fulls))
      (λ full left1. then_then (expanded (expand table) its i (first_lists n (behind ps)) left1) (λ fulls. give (full ∷ fulls)) F
      ∙ then_same (expanded (expand table) its i (first_lists n (behind ps)) left1) (λ fulls. give (full ∷ fulls) >>= F) (λ fulls. F (full ∷ fulls)) (λ fulls left2. after_none (F (full ∷ fulls) left2)))
      ∙ by_wanted b qs h where
        by_wanted : (b : Bool) (qs : List Piece) → IsDropped b ps qs
            → then_do (expanded_if (expand table) (current ps) b left) (λ full. expanded (expand table) its i (first_lists n (behind ps)) >>= λ fulls. F (full ∷ fulls))
            ≡ then_do (expand table (current qs) left) (λ full. expanded (expand table) its i (first_lists n (behind qs)) >>= λ fulls. F (full ∷ fulls))
        by_wanted true qs h = ap (λ l. then_do (expand table (current l) left) (λ full. expanded (expand table) its i (first_lists n (behind l)) >>= λ fulls. F (full ∷ fulls))) (sym h)
        by_wanted false qs h =
            ap (λ r. then_do r (λ full. expanded (expand table) its i (first_lists n (behind ps)) >>= λ fulls. F (full ∷ fulls))) (sym (law table [] left))
            ∙ ap (λ l. then_do (expand table (current l) left) (λ full. expanded (expand table) its i (first_lists n (behind l)) >>= λ fulls. F (full ∷ fulls))) (sym h)

-- and with the next token
module _ (table : Table) where
  next_by_law : (t : Token) (rest : List Token) (u : Use) (left : ℕ) → use_of table t rest ≡ u → next_token table (t ∷ rest) left ≡ next_by (next_token table) table t rest u left
  next_by_law t rest u left e = next_follows_the_rules table (t ∷ rest) left ∙ ap (λ v. next_by (next_token table) table t rest v left) e

  pub next_token_rules : UsesRules table (next_token table)
  next_token_rules = record {
    puts = λ t rest u left e g. next_by_law t rest u left e ∙ ap (λ b. (Uses.put_for table t u >>= λ ts. next_on (next_token table) b ts (left_behind rest u)) left) g;
    over = λ t rest kind text left e h.
        next_by_law t rest (Predefined kind text) left e
        ∙ ap (λ r. then_do (after (takes MacroName t) r) (λ ts. next_on (next_token table) true ts rest)) (pay_over 2 left (made t kind text t.space [] ∷ []) h);
  }

  pub next_end : (left : ℕ) → next_token table [] left ≡ Gave None left []
  next_end left = next_follows_the_rules table [] left

  pub next_keeps : (t : Token) (rest : List Token) (left : ℕ) → use_of table t rest ≡ Keep → next_token table (t ∷ rest) left ≡ Gave (Some (record { tokens = t ∷ []; rest = rest })) left (Rule ∷ [])
  next_keeps t rest left e = next_by_law t rest Keep left e

  pub next_predefined : (t : Token) (kind : PpKind) (text : Text) (rest : List Token) (left : ℕ) → use_of table t rest ≡ Predefined kind text → 2 ≤ left
      → next_token table (t ∷ rest) left ≡ Gave (Some (record { tokens = made t kind text t.space [] ∷ []; rest = rest })) (left - 2) (predefined_events t)
  next_predefined t kind text rest left e h =
      next_by_law t rest (Predefined kind text) left e
      ∙ ap (λ r. then_do (after (takes MacroName t) r) (λ ts. next_on (next_token table) true ts rest)) (pay_done 2 left (made t kind text t.space [] ∷ []) h)
      ∙ ap (Gave (Some (record { tokens = made t kind text t.space [] ∷ []; rest = rest })) (left - 2)) (append-nil (predefined_events t))

module _ {A : Type 0} (table : Table) (law : FollowsTheRules) (last : List Token → Work A) (rules : UsesRules table last) where
  -- what is put in goes on before the pieces behind
  goes_put : (ws : List Waiting) (t : Token) (u : Use) (ps qs : List Piece) (left : ℕ) → use_of table t (current ps) ≡ u → is_given u ≡ false → left_behind (current ps) u ≡ current qs → behind qs ≡ behind ps
      → goes_on_by last table ws (Stands t ∷ ps) left ≡ (Uses.put_for table t u >>= λ ts. goes_on_by last table ws (before ts qs)) left
  goes_put [] t u ps qs left e g l b =
      rules.puts t (current ps) u left e g
      ∙ then_same (Uses.put_for table t u left) (λ ts. last (ts ++ left_behind (current ps) u)) (λ ts. last (current (before ts qs)))
      (λ ts left1. ap (λ x. last x left1) (ap (λ x. ts ++ x) l ∙ sym (current_before ts qs)))
  goes_put (w ∷ ws) t u ps qs left e g l b =
      let go = resumes table (goes_on_by last table ws) w in
      ap (λ r. then_do r (go (behind ps))) ((expand_rules table law).puts t (current ps) u left e g)
      ∙ then_then (Uses.put_for table t u left) (λ ts. expand table (ts ++ left_behind (current ps) u)) (go (behind ps))
      ∙ then_same (Uses.put_for table t u left) (λ ts. expand table (ts ++ left_behind (current ps) u) >>= go (behind ps)) (λ ts. goes_on_by last table (w ∷ ws) (before ts qs))
      (λ ts left1. ap (λ x. then_do (expand table x left1) (go (behind ps))) (ap (λ x. ts ++ x) l ∙ sym (current_before ts qs))
      ∙ ap (λ x. then_do (expand table (current (before ts qs)) left1) (go x)) (sym b ∙ sym (behind_before ts qs)))

  pub goes_wrong : (ws : List Waiting) (t : Token) (ps : List Piece) (cause : Cause) (left : ℕ) → use_of table t (current ps) ≡ Wrong cause
      → goes_on_by last table ws (Stands t ∷ ps) left ≡ Stopped cause []
  goes_wrong ws t ps cause left e = goes_put ws t (Wrong cause) ps ps left e refl refl refl

  pub goes_object : (ws : List Waiting) (t : Token) (m : MacroText) (ps : List Piece) (left : ℕ) → use_of table t (current ps) ≡ Object m
      → goes_on_by last table ws (Stands t ∷ ps) left ≡ (put_for t m [] [] (with_name t.text t.hide) >>= λ ts. goes_on_by last table ws (before ts ps)) left
  goes_object ws t m ps left e = goes_put ws t (Object m) ps ps left e refl refl refl

  -- a call is entered: once its arguments are expanded, what is put in goes on before what is behind the call
  pub goes_call : (ws : List Waiting) (t : Token) (m : MacroText) (args : Args) (close : Token) (ps qs : List Piece) (left : ℕ) → use_of table t (current ps) ≡ Call m args close (current qs) → behind qs ≡ behind ps
      → goes_on_by last table ws (Stands t ∷ ps) left
      ≡ (expanded (expand table) (body_items m) 0 args >>= λ fulls. put_for t m args fulls (with_name t.text (both t.hide close.hide)) >>= λ ts. goes_on_by last table ws (before ts qs)) left
  goes_call ws t m args close ps qs left e h =
      goes_put ws t (Call m args close (current qs)) ps qs left e refl refl h
      ∙ then_then (expanded (expand table) (body_items m) 0 args left) (λ fulls. put_for t m args fulls (with_name t.text (both t.hide close.hide))) (λ ts. goes_on_by last table ws (before ts qs))

  pub predefined_over : (ws : List Waiting) (t : Token) (kind : PpKind) (text : Text) (ps : List Piece) (left : ℕ) → use_of table t (current ps) ≡ Predefined kind text → left < 2
      → goes_on_by last table ws (Stands t ∷ ps) left ≡ Stopped Over (takes MacroName t ++ [])
  predefined_over [] t kind text ps left e h = rules.over t (current ps) kind text left e h
  predefined_over (w ∷ ws) t kind text ps left e h = ap (λ r. then_do r (resumes table (goes_on_by last table ws) w (behind ps))) ((expand_rules table law).over t (current ps) kind text left e h)

  resumes_out : (ws : List Waiting) (w : Waiting) (t : Token) (ps : List Piece) (out : List Token) (left : ℕ)
      → resumes table (goes_on_by last table ws) w ps (t ∷ out) left ≡ resumes table (goes_on_by last table ws) (with_out w t) ps out left
  resumes_out ws w t ps out left =
      ap (λ l. (expanded (expand table) (body_items w.means) (suc (length w.done)) (first_lists w.more ps)
      >>= λ fulls. put_for w.name w.means w.raw (w.done ++ l ∷ fulls) w.hide
      >>= λ ts. goes_on_by last table ws (before ts (behind_lists w.more ps))) left) (sym (append_assoc w.out (t ∷ []) out))

  -- a token of an argument's expansion
  gives_inner : (ws : List Waiting) (w : Waiting) (t : Token) (ps : List Piece) (events : List Event) (r : Answer (List Token))
      → then_do (after events (then_do r (λ out. give (t ∷ out)))) (resumes table (goes_on_by last table ws) w ps)
      ≡ after events (then_do r (resumes table (goes_on_by last table ws) (with_out w t) ps))
  gives_inner ws w t ps events r =
      after_then events (then_do r (λ out. give (t ∷ out))) (resumes table (goes_on_by last table ws) w ps)
      ∙ ap (after events) (then_then r (λ out. give (t ∷ out)) (resumes table (goes_on_by last table ws) w ps)
      ∙ then_same r (λ out. give (t ∷ out) >>= resumes table (goes_on_by last table ws) w ps) (resumes table (goes_on_by last table ws) (with_out w t) ps)
      (λ out left. after_none (resumes table (goes_on_by last table ws) w ps (t ∷ out) left) ∙ resumes_out ws w t ps out left))

  pub inner_keeps : (ws : List Waiting) (w : Waiting) (t : Token) (ps : List Piece) (left : ℕ) → use_of table t (current ps) ≡ Keep
      → goes_on_by last table (w ∷ ws) (Stands t ∷ ps) left ≡ after (Rule ∷ []) (goes_on_by last table (with_out w t ∷ ws) ps left)
  inner_keeps ws w t ps left e =
      ap (λ r. then_do r (resumes table (goes_on_by last table ws) w (behind ps))) (by_law table law t (current ps) Keep left e) ∙ gives_inner ws w t (behind ps) (Rule ∷ []) (expand table (current ps) left)

  pub inner_predefined : (ws : List Waiting) (w : Waiting) (t : Token) (kind : PpKind) (text : Text) (ps : List Piece) (left : ℕ) → use_of table t (current ps) ≡ Predefined kind text → 2 ≤ left
      → goes_on_by last table (w ∷ ws) (Stands t ∷ ps) left ≡ after (predefined_events t) (goes_on_by last table (with_out w (made t kind text t.space []) ∷ ws) ps (left - 2))
  inner_predefined ws w t kind text ps left e h =
      ap (λ r. then_do r (resumes table (goes_on_by last table ws) w (behind ps))) (by_law table law t (current ps) (Predefined kind text) left e ∙ predefined_paid table law t (made t kind text t.space []) ps left h)
      ∙ gives_inner ws w (made t kind text t.space []) (behind ps) (predefined_events t) (expand table (current ps) (left - 2))

  -- the last argument of a call is expanded
  pub goes_last : (ws : List Waiting) (w : Waiting) (ps : List Piece) (left : ℕ) → w.more ≡ 0
      → goes_on_by last table (w ∷ ws) (Ends ∷ ps) left ≡ (put_for w.name w.means w.raw (w.done ++ w.out ∷ []) w.hide >>= λ ts. goes_on_by last table ws (before ts ps)) left
  goes_last ws w ps left e =
      ap (λ r. then_do r (resumes table (goes_on_by last table ws) w ps)) (law table [] left)
      ∙ after_none (resumes table (goes_on_by last table ws) w ps [] left)
      ∙ ap (λ n. (expanded (expand table) (body_items w.means) (suc (length w.done)) (first_lists n ps)
      >>= λ fulls. put_for w.name w.means w.raw (w.done ++ (w.out ++ []) ∷ fulls) w.hide >>= λ ts. goes_on_by last table ws (before ts (behind_lists n ps))) left) e
      ∙ after_none _
      ∙ ap (λ l. (put_for w.name w.means w.raw (w.done ++ l ∷ []) w.hide >>= λ ts. goes_on_by last table ws (before ts ps)) left) (append-nil w.out)

-- What is done, by the macros, with the list that no call waits for.
pub record Outermost (A : Type 0) : Type 0 where
  pub does : Table → List Token → Work A
  pub rules : (table : Table) → UsesRules table (does table)

-- it is expanded
abbrev pub expanding : FollowsTheRules → Outermost (List Token)
expanding law = record { does = expand; rules = λ table. expand_rules table law }

-- or its next token is found
abbrev pub seeking : Outermost (Option Next)
seeking = record { does = next_token; rules = next_token_rules }

abbrev pub gave_next : Token → List Token → ℕ → List Event → Answer (Option Next)
gave_next t rest left events = Gave (Some (record { tokens = t ∷ []; rest = rest })) left events
