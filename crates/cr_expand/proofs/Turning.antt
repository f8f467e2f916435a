-- What comes next, case by case.
use Rattle.std.proofs.Common.{◌≡◌, ℕ, ◌<◌, ◌≤◌, Bool, true, false, cond, List, [], ◌∷◌, ◌++◌, length, map, get_or, refl, sym, ap, subst, ◌∙◌, arith, append-nil, Some}
use Rattle.std.specs.Prelude.{codes}
use Rattle.cr_base.specs.declared.token.Name.{Name}
use Rattle.cr_macros.specs.declared.macros.Macro.{Macro}
use Rattle.cr_expand.specs.declared.held.Held.{Held}
use Rattle.cr_expand.specs.declared.slot.Slot.{Slot}
use Rattle.cr_expand.specs.declared.slot.Slot.TheVariants as slot
use Rattle.cr_expand.specs.declared.turn.Turn.{Turn}
use Rattle.cr_expand.specs.declared.turn.Turn.TheVariants as turn
use Rattle.cr_expand.specs.declared.closing.Close.TheVariants as close
use Rattle.cr_macros.specs.Tokens.{Text, Token, is_mark, OpenCall}
use Rattle.cr_macros.specs.Expansion.{Use, Keep, Wrong, closed_call, call_of, use_of, to_close}
use Rattle.cr_macros.specs.Definition.{text_of}
use Rattle.cr_macros.specs.MacroTables.{Macros, macro_text, table_of}
use Rattle.cr_expand.specs.HideSets.{Sets}
use Rattle.cr_expand.specs.Held.{held, all_held}
use Rattle.cr_expand.specs.Running.{current, before, is_open, wants_more}
use Rattle.cr_expand.specs.Slots.{tokens}
use Rattle.cr_expand.specs.Calls.{IsClosed}
use Rattle.cr_expand.specs.Slots.{ends}
use Rattle.cr_expand.specs.Turns.{list_of, IsUsed, IsCallUse, IsTurn, IsTurnOf, IsNext, IsWanting}

-- tokens before slots are tokens before their list
pub list_tokens : (names : List Text) (sets : Sets) (hs : List Held) (rest : List Slot) (more : List Token) → list_of names sets (tokens hs ++ rest) more ≡ all_held names sets hs ++ list_of names sets rest more
list_tokens names sets [] rest more = refl
list_tokens names sets (h ∷ hs) rest more = ap (λ l. held names sets h ∷ l) (list_tokens names sets hs rest more)

-- the same, where nothing comes
list_alone : (names : List Text) (sets : Sets) (hs : List Held) → list_of names sets (tokens hs) [] ≡ all_held names sets hs
list_alone names sets [] = refl
list_alone names sets (h ∷ hs) = ap (λ l. held names sets h ∷ l) (list_alone names sets hs)

list_ended : (names : List Text) (sets : Sets) (hs : List Held) (rest : List Slot) (more : List Token) → list_of names sets (tokens hs ++ slot.End ∷ rest) more ≡ all_held names sets hs
list_ended names sets hs rest more = list_tokens names sets hs (slot.End ∷ rest) more ∙ append-nil (all_held names sets hs)

module _ (names : List Text) (sets : Sets) (h : Held) (m : Macro) (params : List Name) where
  abbrev by_call : List Token → Use
  by_call = call_of (held names sets h) (macro_text names m) (map (text_of names) params)

  opened : (t : Token) (rest : List Token) → is_mark (codes "(") t ≡ true → by_call (t ∷ rest) ≡ closed_call (held names sets h) (macro_text names m) (map (text_of names) params) (to_close 0 rest)
  opened t rest e = ap (λ b. cond b (closed_call (held names sets h) (macro_text names m) (map (text_of names) params) (to_close 0 rest)) Keep) e

  pub not_opened : (t : Token) (rest : List Token) → is_mark (codes "(") t ≡ false → by_call (t ∷ rest) ≡ Keep
  not_opened t rest e = ap (λ b. cond b (closed_call (held names sets h) (macro_text names m) (map (text_of names) params) (to_close 0 rest)) Keep) e

  same_slots : (opens a b : Slot) (rest rest2 tail : List Slot) → slot.Token h ∷ opens ∷ rest ≡ a ∷ b ∷ rest2 → (slot.Token h ≡ a) × (opens ≡ b) × (rest ≡ rest2)
  same_slots opens a b rest rest2 tail e = (cc, cc, cc)

  pub call_at : (file : Text) (slots rest : List Slot) (opens : Held) (more : List Token) (count n : ℕ) (m2 : Macro) → slots ≡ slot.Token h ∷ slot.Token opens ∷ rest → is_mark (codes "(") (held names sets opens) ≡ true
      → m.params ≡ Some params → count ≡ length params → IsClosed names sets slots (close.At n)
      → IsCallUse names sets slots more by_call h m count n
  call_at file slots rest opens more count n m2 e g p q (a, b, inside, end, rest2, s, k, c, w) =
      let both = same_slots (slot.Token opens) a b rest (tokens inside ++ slot.Token end ∷ rest2) [] (sym e ∙ s) in
      record {
        params = params;
        opens = opens;
        inside = inside;
        closes = end;
        rest = rest2;
        macro_params = p;
        counts = q;
        slots_are = e ∙ ap (λ r. slot.Token h ∷ slot.Token opens ∷ r) both.2;
        place = k;
        within = w;
        used = opened (held names sets opens) (list_of names sets (tokens inside ++ slot.Token end ∷ rest2) more) g
            ∙ ap (λ l. closed_call (held names sets h) (macro_text names m) (map (text_of names) params) (to_close 0 l)) (list_tokens names sets inside (slot.Token end ∷ rest2) more)
            ∙ ap (closed_call (held names sets h) (macro_text names m) (map (text_of names) params)) (c (list_of names sets rest2 more));
      }

  pub call_missing : (slots rest : List Slot) (opens : Held) (more : List Token) → slots ≡ slot.Token h ∷ slot.Token opens ∷ rest → is_mark (codes "(") (held names sets opens) ≡ true
      → IsClosed names sets slots close.Missing
      → IsUsed names sets slots more by_call h (Wrong (OpenCall h.token.site))
  call_missing slots rest opens more e g (a, b, inside, rest2, s, c) =
      let both = same_slots (slot.Token opens) a b rest (tokens inside ++ slot.End ∷ rest2) [] (sym e ∙ s) in (
        slot.Token opens ∷ rest,
        e,
        opened (held names sets opens) (list_of names sets rest more) g
            ∙ ap (λ r. closed_call (held names sets h) (macro_text names m) (map (text_of names) params) (to_close 0 (list_of names sets r more))) both.2
            ∙ ap (λ l. closed_call (held names sets h) (macro_text names m) (map (text_of names) params) (to_close 0 l)) (list_ended names sets inside rest2 more)
            ∙ ap (closed_call (held names sets h) (macro_text names m) (map (text_of names) params)) c,
      )

  pub call_open : (slots rest : List Slot) (opens : Held) (more : List Token) → slots ≡ slot.Token h ∷ slot.Token opens ∷ rest → is_mark (codes "(") (held names sets opens) ≡ true
      → more ≡ [] → IsClosed names sets slots close.NotYet
      → IsUsed names sets slots more by_call h (Wrong (OpenCall h.token.site))
  call_open slots rest opens more e g n (a, b, inside, s, c) =
      let both = same_slots (slot.Token opens) a b rest (tokens inside) [] (sym e ∙ s) in (
        slot.Token opens ∷ rest,
        e,
        opened (held names sets opens) (list_of names sets rest more) g
            ∙ ap (λ r. closed_call (held names sets h) (macro_text names m) (map (text_of names) params) (to_close 0 (list_of names sets r more))) both.2
            ∙ ap (λ l. closed_call (held names sets h) (macro_text names m) (map (text_of names) params) (to_close 0 (list_of names sets (tokens inside) l))) n
            ∙ ap (λ l. closed_call (held names sets h) (macro_text names m) (map (text_of names) params) (to_close 0 l)) (list_alone names sets inside)
            ∙ ap (closed_call (held names sets h) (macro_text names m) (map (text_of names) params)) c,
      )

  -- the name at the end of everything
  pub name_last : (slots rest : List Slot) (more : List Token) → slots ≡ slot.Token h ∷ rest → length slots ≤ 1 → more ≡ [] → IsUsed names sets slots more by_call h Keep
  name_last slots [] more e l n = ([], e, ap (λ x. by_call (current (before x []))) n)
  name_last slots (r ∷ rest) more e l n = let k = ap length e in absurd (omega (arith, k, l))

  -- the name at the end of an argument
  pub name_ended : (slots rest : List Slot) (more : List Token) (x : Slot) → slots ≡ slot.Token h ∷ rest → 1 < length slots → x ≡ get_or slots 1 x → x ≡ slot.End → IsUsed names sets slots more by_call h Keep
  name_ended slots [] more x e l g k = let y = ap length e in absurd (omega (arith, y, l))
  name_ended slots (r ∷ rest) more x e l g k =
      let is : r ≡ slot.End = sym (ap (λ s. get_or s 1 x) e) ∙ sym g ∙ k in
      (r ∷ rest, e, ap (λ s. by_call (list_of names sets (s ∷ rest) more)) is)

  -- what the second slot is
  pub second : (slots rest : List Slot) (x : Slot) (t : Held) → slots ≡ slot.Token h ∷ rest → 1 < length slots → x ≡ get_or slots 1 x → x ≡ slot.Token t → (rest2 : List Slot) × (rest ≡ slot.Token t ∷ rest2)
  second slots [] x t e l g k = let y = ap length e in absurd (omega (arith, y, l))
  second slots (r ∷ rest) x t e l g k = (rest, ap (λ s. s ∷ rest) (sym (ap (λ s. get_or s 1 x) e) ∙ sym g ∙ k))

  pub name_alone : (slots rest : List Slot) (more : List Token) (x : Slot) (t : Held) → slots ≡ slot.Token h ∷ rest → 1 < length slots → x ≡ get_or slots 1 x → x ≡ slot.Token t → is_mark (codes "(") (held names sets t) ≡ false → IsUsed names sets slots more by_call h Keep
  name_alone slots rest more x t e l g k n =
      let s = second slots rest x t e l g k in
      (rest, e, ap (λ r. by_call (list_of names sets r more)) s.1 ∙ not_opened (held names sets t) (list_of names sets s.0 more) n)

-- the same turn by the same uses
pub turn_by : (names : List Text) (sets : Sets) (file : Text) (slots : List Slot) (more : List Token) (f g : List Token → Use) (t : Turn) → ((rest : List Token) → g rest ≡ f rest) → IsTurn names sets file slots more f t → IsTurn names sets file slots more g t
turn_by names sets file slots more f g turn.End e k = k
turn_by names sets file slots more f g turn.Hungry e k = tt
turn_by names sets file slots more f g turn.ArgumentEnd e k = k
turn_by names sets file slots more f g (turn.Stays h) e (rest, s, u) = (rest, s, e _ ∙ u)
turn_by names sets file slots more f g (turn.Predefined h p) e (rest, s, u) = (rest, s, e _ ∙ u)
turn_by names sets file slots more f g (turn.Object h m) e (rest, s, u) = (rest, s, e _ ∙ u)
turn_by names sets file slots more f g (turn.Call h m count n) e k =
    record { params = k.params; opens = k.opens; inside = k.inside; closes = k.closes; rest = k.rest; macro_params = k.macro_params; counts = k.counts; slots_are = k.slots_are; place = k.place; within = k.within; used = e _ ∙ k.used }
turn_by names sets file slots more f g (turn.Unclosed site) e (h, (rest, s, u)) = (h, (rest, s, e _ ∙ u))

-- the first slot
pub first_is : (slots : List Slot) (x y : Slot) → 0 < length slots → x ≡ get_or slots 0 x → x ≡ y → (rest : List Slot) × (slots ≡ y ∷ rest)
first_is [] x y h e k = absurd (omega arith)
first_is (s ∷ slots) x y h e k = (slots, ap (λ z. z ∷ slots) (sym e ∙ k))

pub next_token : (names : List Text) (sets : Sets) (macros : Macros) (file : Text) (slots : List Slot) (h : Held) (rest : List Slot) (more : List Token) (t : Turn) → slots ≡ slot.Token h ∷ rest
    → IsTurn names sets file slots more (use_of (table_of names macros file) (held names sets h)) t → IsTurnOf macros h t → IsNext names sets macros file slots more t
next_token names sets macros file slots h rest more t e k o =
    subst (λ s. IsNext names sets macros file s more t) (sym e) (subst (λ s. IsTurn names sets file s more (use_of (table_of names macros file) (held names sets h)) t) e k, o)

ends_tokens : (hs : List Held) → ends (tokens hs) ≡ 0
ends_tokens [] = refl
ends_tokens (h ∷ hs) = ends_tokens hs

-- a call whose `)` isn't there yet
pub open_wanting : (names : List Text) (sets : Sets) (h : Held) (m : Macro) (params : List Name) (finished : Bool) (slots rest : List Slot) (opens : Held) → slots ≡ slot.Token h ∷ slot.Token opens ∷ rest → is_mark (codes "(") (held names sets opens) ≡ true
    → finished ≡ false → IsClosed names sets slots close.NotYet → IsWanting names sets finished slots (λ x. call_of (held names sets x) (macro_text names m) (map (text_of names) params)) turn.Hungry
unfolding call_open
open_wanting names sets h m params finished slots rest opens e g n k =
    subst (λ s. IsWanting names sets finished s (λ x. call_of (held names sets x) (macro_text names m) (map (text_of names) params)) turn.Hungry) (sym e)
    (n, no_ends k, ap is_open (call_open names sets h m params slots rest opens [] e g refl k).2) where
      no_ends : IsClosed names sets slots close.NotYet → ends rest ≡ 0
      no_ends (a, b, inside, s, c) =
          let both = same_slots names sets h m params (slot.Token opens) a b rest (tokens inside) [] (sym e ∙ s) in
          ap ends both.2 ∙ ends_tokens inside

wants_by : (f g : List Token → Use) (t : Token) (l : List Token) → ((rest : List Token) → g rest ≡ f rest) → wants_more f t l ≡ true → wants_more g t l ≡ true
wants_by f g t [] e k = ap is_open (e _) ∙ k
wants_by f g t (u ∷ l) e k = ap is_open (e (u ∷ l)) ∙ k

-- the same is wanted by the same uses of the head
pub wanting_by : (names : List Text) (sets : Sets) (finished : Bool) (slots rest : List Slot) (h : Held) (f g : Held → List Token → Use) (t : Turn) → slots ≡ slot.Token h ∷ rest → ((l : List Token) → g h l ≡ f h l)
    → IsWanting names sets finished slots f t → IsWanting names sets finished slots g t
wanting_by names sets finished slots rest h f g t e x k =
    subst (λ s. IsWanting names sets finished s g t) (sym e) (by t (subst (λ s. IsWanting names sets finished s f t) e k)) where
      by : (t : Turn) → IsWanting names sets finished (slot.Token h ∷ rest) f t → IsWanting names sets finished (slot.Token h ∷ rest) g t
      by turn.Hungry k = (k.0, k.1, wants_by (f h) (g h) (held names sets h) (list_of names sets rest []) x k.2)
      by turn.End k = k
      by turn.ArgumentEnd k = tt
      by (turn.Stays y) k = tt
      by (turn.Predefined y p) k = tt
      by (turn.Object y m) k = tt
      by (turn.Call y m c n) k = tt
      by (turn.Unclosed site) k = k
