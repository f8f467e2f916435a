-- What a step leaves of the groups that are known.
use Rattle.std.proofs.Common.{◌≡◌, ℕ, suc, ◌+◌, ◌-◌, ◌<◌, ◌≤◌, min, Bool, true, false, List, [], ◌∷◌, ◌++◌, length, drop, replicate, refl, sym, ap, subst, ◌∙◌, arith, append_assoc, length-append, Option, Some, None, inl, inr}
use Rattle.std.specs.Prelude.{codes, slice_index_or}
use Rattle.std.specs.Option.{option_and_then}
use Rattle.std.proofs.lemmas.List.{length-drop, length-replicate}
use Rattle.std.proofs.lemmas.List.Elements.{All-head, All-tail, All-nil, All-cons}
use Rattle.cr_expand.specs.declared.held.Held.{Held}
use Rattle.cr_expand.specs.declared.slot.Slot.{Slot}
use Rattle.cr_expand.specs.declared.slot.Slot.TheVariants as slot
use Rattle.cr_expand.specs.declared.machine.Machine.{Machine}
use Rattle.cr_expand.specs.declared.machine.ExpStep.{ExpStep}
use Rattle.cr_macros.specs.declared.macros.Macro.{Macro}
use Rattle.cr_macros.specs.Tokens.{Text, Token, is_mark}
use Rattle.cr_macros.specs.Expansion.{Use}
use Rattle.cr_macros.specs.MacroTables.{Macros, macro_text}
use Rattle.cr_expand.specs.Turns.{IsCallUse}
use Rattle.cr_expand.specs.Wanted.{is_wanted}
use Rattle.cr_expand.specs.Machines.{IsArgumentEnd, IsEntered}
use Rattle.cr_expand.specs.HideSets.{Sets, Grows}
use Rattle.cr_expand.specs.Held.{IsKnown, AreKnown}
use Rattle.cr_expand.specs.Slots.{tokens, ended, from_end, begun, IsSlotKnown, AreSlotsKnown}
use Rattle.cr_expand.specs.Calls.{nested, shown, depth_after, IsInside, parted_slots}
use Rattle.cr_expand.specs.Groups.{IsSpan, AreGroups, AreNoted, moved, Leaves}
use Rattle.cr_expand.proofs.Kept.{token_kept}
use Rattle.cr_expand.proofs.Closes.{drop_drop, length_tokens}
use Rattle.cr_expand.proofs.Spans.{groups_drop, groups_behind}
use Rattle.cr_expand.proofs.PartedGroups.{groups_parted}

and_then_same : (o : Option ℕ) (f g : ℕ → Option ℕ) → ((x : ℕ) → f x ≡ g x) → option_and_then f o ≡ option_and_then g o
and_then_same None f g h = refl
and_then_same (Some x) f g h = h x

module _ (names new : List Text) (sets : Sets) (grows : Grows names new) where
  shown_later : (h : Held) → IsKnown names sets h → shown new h ≡ shown names h
  shown_later h k = token_kept names new [] h.token grows k.0

  pub depth_later : (hs : List Held) (d : ℕ) → AreKnown names sets hs → depth_after new hs d ≡ depth_after names hs d
  depth_later [] d k = refl
  depth_later (h ∷ hs) d k =
      ap (λ t. option_and_then (λ x. depth_after new hs x) (nested t d)) (shown_later h (All-head (IsKnown names sets) h hs k))
      ∙ and_then_same (nested (shown names h) d) (λ x. depth_after new hs x) (λ x. depth_after names hs x) (λ x. depth_later hs x (All-tail (IsKnown names sets) h hs k))

  pub tokens_are_known : (hs : List Held) (rest : List Slot) → AreSlotsKnown names sets (tokens hs ++ rest) → AreKnown names sets hs × AreSlotsKnown names sets rest
  tokens_are_known [] rest k = (All-nil (IsKnown names sets), k)
  tokens_are_known (h ∷ hs) rest k =
      let r = tokens_are_known hs rest (All-tail (IsSlotKnown names sets) (slot.Token h) (tokens hs ++ rest) k) in
      (All-cons (IsKnown names sets) h hs (All-head (IsSlotKnown names sets) (slot.Token h) (tokens hs ++ rest) k) r.0, r.1)

  inside_later : (inside : List Held) (closes : Held) (tail : List Slot) → AreSlotsKnown names sets (tokens inside ++ slot.Token closes ∷ tail) → IsInside names inside closes → IsInside new inside closes
  inside_later inside closes tail k w =
      let r = tokens_are_known inside (slot.Token closes ∷ tail) k in
      (depth_later inside 0 r.0 ∙ w.0, ap (is_mark (codes ")")) (shown_later closes (All-head (IsSlotKnown names sets) (slot.Token closes) tail r.1)) ∙ w.1)

  span_later : (s : Slot) (rest : List Slot) (g : ℕ) → AreSlotsKnown names sets (s ∷ rest) → IsSpan names rest g s → IsSpan new rest g s
  span_later slot.End rest g a k = tt
  span_later (slot.Token h) rest g a k = λ o.
      elim (k (sym (ap (is_mark (codes "(")) (shown_later h (All-head (IsSlotKnown names sets) (slot.Token h) rest a))) ∙ o)) [
        | inl z ↦ inl z
        | inr (inside, closes, tail, e, n, w) ↦ inr (inside, closes, tail, e, n, inside_later inside closes tail (subst (AreSlotsKnown names sets) e (All-tail (IsSlotKnown names sets) (slot.Token h) rest a)) w)
      ]

  pub groups_later : (slots : List Slot) (groups : List ℕ) → AreSlotsKnown names sets slots → AreGroups names slots groups → AreGroups new slots groups
  groups_later [] groups a k = tt
  groups_later (s ∷ slots) [] a k = tt
  groups_later (s ∷ slots) (g ∷ groups) a k = (span_later s slots g a k.0, groups_later slots groups (All-tail (IsSlotKnown names sets) s slots a) k.1)

moved_front : (groups : List ℕ) (before now f : ℕ) → 0 < before → now ≡ f + (before - 1) → moved groups before now ≡ replicate f 0 ++ drop 1 groups
moved_front groups before now f h e =
    let k : min (before - 1) now ≡ before - 1 = omega arith in
    ap (λ kept. replicate (now - kept) 0 ++ drop (before - kept) groups) k
    ∙ ap (λ n. replicate n 0 ++ drop (before - (before - 1)) groups) (let x : now - (before - 1) ≡ f = omega arith in x)
    ∙ ap (λ n. replicate f 0 ++ drop n groups) (let x : before - (before - 1) ≡ 1 = omega arith in x)

moved_back : (groups : List ℕ) (before now gone : ℕ) → 0 < gone → before ≡ gone + now → moved groups before now ≡ drop gone groups
moved_back groups before now gone h e =
    let k : min (before - 1) now ≡ now = omega arith in
    ap (λ kept. replicate (now - kept) 0 ++ drop (before - kept) groups) k
    ∙ ap (λ n. replicate n 0 ++ drop (before - now) groups) (let x : now - now ≡ 0 = omega arith in x)
    ∙ ap (λ n. drop n groups) (let x : before - now ≡ gone = omega arith in x)

-- the first slot is used, and tokens are put in
pub leaves_front : (names new : List Text) (sets : Sets) (old now front rest : List Slot) (x : Slot) → Grows names new → AreSlotsKnown names sets old → old ≡ x ∷ rest → now ≡ front ++ rest → Leaves names new old now
leaves_front names new sets old now front rest x g a e f = record {
  at = λ groups k.
      let l = ap length e in
      let m = ap length f in
      let n = length-append front rest in
      let moves : moved groups (length old) (length now) ≡ replicate (length front) 0 ++ drop 1 groups = moved_front groups (length old) (length now) (length front) (omega (arith, l)) (omega (arith, l, m, n)) in (
        ap length moves ∙ (let p = length-append (replicate (length front) 0) (drop 1 groups) in let q = length-replicate {A = ℕ} (length front) 0 in let r = length-drop 1 groups in let z : length (replicate (length front) 0 ++ drop 1 groups) ≡ length now = omega (arith, p, q, r, k.0, l, m, n) in z),
        subst (AreGroups new now) (sym moves) (subst (λ s. AreGroups new s (replicate (length front) 0 ++ drop 1 groups)) (sym f)
            (groups_behind new front rest (drop 1 groups) (groups_later names new sets g rest (drop 1 groups) (All-tail (IsSlotKnown names sets) x rest (subst (AreSlotsKnown names sets) e a))
            (groups_drop names 1 (x ∷ rest) groups (subst (λ s. AreGroups names s groups) e k.1))))),
      );
}

from_end_drop : (slots : List Slot) → (n : ℕ) × (from_end slots ≡ drop n slots) × (n ≤ length slots)
from_end_drop [] = (0, refl, omega arith)
from_end_drop (slot.Token h ∷ slots) = let r = from_end_drop slots in (suc r.0, r.1, (let l = r.2 in omega (arith, l)))
from_end_drop (slot.End ∷ slots) = (0, refl, omega arith)

begun_drop : (b : Bool) (slots : List Slot) → (n : ℕ) × (begun b slots ≡ drop n slots) × (n ≤ length slots)
begun_drop true slots = (0, refl, omega arith)
begun_drop false slots = from_end_drop slots

-- slots at the front are used
leaves_back : (names : List Text) (old mid now : List Slot) (b : Bool) (gone : ℕ) (groups : List ℕ) → 0 < gone → length old ≡ gone + length mid → now ≡ begun b mid → length groups ≡ length old → AreGroups names mid (drop gone groups)
    → AreNoted names now (moved groups (length old) (length now))
leaves_back names old mid now b gone groups h l e n k =
    let d = begun_drop b mid in
    let f = ap length (e ∙ d.1) in
    let m = length-drop d.0 mid in
    let moves : moved groups (length old) (length now) ≡ drop (gone + d.0) groups = moved_back groups (length old) (length now) (gone + d.0) (omega (arith, h)) (omega (arith, l, f, m, d.2)) in (
      ap length moves ∙ (let p = length-drop (gone + d.0) groups in let z : length (drop (gone + d.0) groups) ≡ length now = omega (arith, p, n, l, f, m, d.2) in z),
      subst (AreGroups names now) (sym (moves ∙ drop_drop gone d.0 groups)) (subst (λ s. AreGroups names s (drop d.0 (drop gone groups))) (sym (e ∙ d.1)) (groups_drop names d.0 mid (drop gone groups) k)),
    )

-- an argument ends, and the next one is begun
pub leaves_begun : (names : List Text) (old now rest : List Slot) (b : Bool) (x : Slot) → old ≡ x ∷ rest → now ≡ begun b rest → Leaves names names old now
leaves_begun names old now rest b x e f = record {
  at = λ groups k.
      let l = ap length e in
      leaves_back names old rest now b 1 groups (omega arith) (omega (arith, l)) f k.0 (groups_drop names 1 (x ∷ rest) groups (subst (λ s. AreGroups names s groups) e k.1));
}

-- a call is entered
pub leaves_call : (names : List Text) (old now ended rest : List Slot) (first second : Slot) (inside : List Held) (closes : Held) (b : Bool) (n : ℕ) → old ≡ first ∷ second ∷ (tokens inside ++ slot.Token closes ∷ rest) → IsInside names inside closes
    → ended ≡ parted_slots names n 0 inside ++ slot.End ∷ [] → length ended ≡ suc (length inside) → now ≡ begun b (ended ++ rest) → Leaves names names old now
leaves_call names old now ended rest first second inside closes b n e w p s f = record {
  at = λ groups k.
      let l = ap length e in
      let m = length-append (tokens inside) (slot.Token closes ∷ rest) in
      let o = length_tokens inside in
      let q = length-append ended rest in
      let mid : ended ++ rest ≡ parted_slots names n 0 inside ++ slot.End ∷ rest = ap (λ x. x ++ rest) p ∙ append_assoc (parted_slots names n 0 inside) (slot.End ∷ []) rest in
      leaves_back names old (ended ++ rest) now b 2 groups (omega arith) (omega (arith, l, m, o, q, s)) f k.0
      (subst (λ x. AreGroups names x (drop 2 groups)) (sym mid) (groups_parted names inside closes rest (drop 2 groups) n 0 w.0
      (groups_drop names 2 (first ∷ second ∷ (tokens inside ++ slot.Token closes ∷ rest)) groups (subst (λ x. AreGroups names x groups) e k.1))));
}

-- nothing is changed
pub leaves_same : (names : List Text) (old : List Slot) → Leaves names names old old
leaves_same names [] = record { at = λ groups k. (none groups k.0, tt) } where
  none : (groups : List ℕ) → length groups ≡ 0 → length (moved groups 0 0) ≡ 0
  none [] l = refl
  none (g ∷ groups) l = absurd (omega (arith, l))
leaves_same names (x ∷ rest) = record {
  at = λ groups k.
      let moves : moved groups (length (x ∷ rest)) (length (x ∷ rest)) ≡ 0 ∷ drop 1 groups = moved_front groups (length (x ∷ rest)) (length (x ∷ rest)) 1 (omega arith) (omega arith) in
      let r = length-drop 1 groups in (
        ap length moves ∙ (let z : length (0 ∷ drop 1 groups) ≡ length (x ∷ rest) = omega (arith, r, k.0) in z),
        subst (AreGroups names (x ∷ rest)) (sym moves) (groups_behind names (x ∷ []) rest (drop 1 groups) (groups_drop names 1 (x ∷ rest) groups k.1)),
      );
}

-- an argument ends
pub leaves_ended : (names new : List Text) (macros : Macros) (old now : Machine) (rest : List Slot) (o : Option ExpStep) → AreSlotsKnown names old.sets old.slots.items → old.slots.items ≡ slot.End ∷ rest → IsArgumentEnd names new macros old now rest o
    → Leaves names new old.slots.items now.slots.items
leaves_ended names new macros old now rest None a e (cs, c, f, m, n, s, x, y, u, z) =
    subst (λ l. Leaves names l old.slots.items now.slots.items) (sym z) (leaves_begun names old.slots.items now.slots.items rest (slice_index_or c.wanted (length c.done + 1) false) slot.End e s)
leaves_ended names new macros old now rest (Some s) a e (cs, c, f, m, n, p, q) =
    leaves_front names new old.sets old.slots.items now.slots.items (tokens p.list) rest slot.End p.names_grow a e p.slots

-- a call is entered
pub leaves_entered : (names : List Text) (old now : Machine) (h : Held) (m : Macro) (more : List Token) (count n : ℕ) (f : List Token → Use) (u : IsCallUse names old.sets old.slots.items more f h m count n)
    → IsEntered names old now h m u.params u.inside u.closes u.rest → Leaves names names old.slots.items now.slots.items
leaves_entered names old now h m more count n f u i =
    leaves_call names old.slots.items now.slots.items (ended i.lists) u.rest (slot.Token h) (slot.Token u.opens) u.inside u.closes (is_wanted (macro_text names m) 0) i.places.0 u.slots_are u.within i.places.1 i.size i.slots

-- what is known when the numbers are moved
pub after_step : (names new : List Text) (old now : List Slot) (groups groups2 : List ℕ) (before len : ℕ) → Leaves names new old now → AreNoted names old groups → before ≡ length old → len ≡ length now → groups2 ≡ moved groups before len → AreNoted new now groups2
after_step names new old now groups groups2 before len k n a b e = subst (AreNoted new now) (sym (e ∙ ap (λ x. moved groups x len) a ∙ ap (moved groups (length old)) b)) (k.at groups n)
