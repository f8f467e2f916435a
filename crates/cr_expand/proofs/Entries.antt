-- A call that is entered, by its slots.
use Rattle.std.proofs.Common.{◌≡◌, ℕ, suc, ◌+◌, ◌<◌, Bool, false, List, [], ◌∷◌, ◌++◌, length, drop, refl, sym, ap, subst, ◌∙◌, arith, Some}
use Rattle.std.specs.Prelude.{slice_get, slice_index_or}
use Rattle.std.proofs.lemmas.List.Elements.{All-get_or}
use Rattle.std.proofs.lemmas.Option.{get_or_from_slice_get, slice_get_within}
use Rattle.cr_base.specs.declared.token.Name.{Name}
use Rattle.cr_macros.specs.declared.macros.Macro.{Macro}
use Rattle.cr_expand.specs.declared.held.Held.{Held}
use Rattle.cr_expand.specs.declared.slot.Slot.{Slot}
use Rattle.cr_expand.specs.declared.slot.Slot.TheVariants as slot
use Rattle.cr_expand.specs.declared.machine.Machine.{Machine}
use Rattle.cr_macros.specs.Tokens.{Text, with_name, both}
use Rattle.cr_macros.specs.Definition.{text_of}
use Rattle.cr_macros.specs.MacroTables.{macro_text}
use Rattle.cr_expand.specs.HideSets.{Sets}
use Rattle.cr_expand.specs.Held.{hidden, IsKnown}
use Rattle.cr_expand.specs.Hiding.{IsHidden}
use Rattle.cr_expand.specs.Frames.{Call}
use Rattle.cr_expand.specs.Slots.{tokens, begun, AreSlotsKnown, IsSlotKnown}
use Rattle.cr_expand.specs.Wanted.{is_wanted, is_whole}
use Rattle.cr_expand.specs.Machines.{AreTaken, IsEntered}
use Rattle.cr_expand.proofs.PartedLists.{get_mid}
use Rattle.cr_expand.proofs.Wholes.{all_kept_same}

length_tokens : (hs : List Held) → length (tokens hs) ≡ length hs
length_tokens [] = refl
length_tokens (h ∷ hs) = ap suc (length_tokens hs)

-- the `)` of a call
pub closes_at : (slots : List Slot) (a b : Slot) (inside : List Held) (closes : Held) (rest : List Slot) (close : ℕ) (end : Held) → slots ≡ a ∷ b ∷ (tokens inside ++ slot.Token closes ∷ rest) → close ≡ 2 + length inside
    → slice_get slots close ≡ Some (slot.Token end) → end ≡ closes
closes_at slots a b inside closes rest close end e f g =
    let l = length_tokens inside in
    same (sym g ∙ ap (λ s. slice_get s close) e
    ∙ ap (slice_get (a ∷ b ∷ (tokens inside ++ slot.Token closes ∷ rest))) (let x : close ≡ suc (suc (length (tokens inside))) = omega (arith, l) in x)
    ∙ get_mid (tokens inside) (slot.Token closes) rest) where
      same : Some (slot.Token end) ≡ Some (slot.Token closes) → end ≡ closes
      same e = cc

pub slot_known : (names : List Text) (sets : Sets) (slots : List Slot) (n : ℕ) (h : Held) → AreSlotsKnown names sets slots → slice_get slots n ≡ Some (slot.Token h) → IsKnown names sets h
slot_known names sets slots n h k e =
    subst (IsSlotKnown names sets) (get_or_from_slice_get slots n (slot.Token h) slot.End e) (All-get_or (IsSlotKnown names sets) slots n slot.End (slice_get_within slots n (slot.Token h) e) k)

-- a call is entered with the arguments that were taken
pub entered : (names : List Text) (old now : Machine) (h : Held) (m : Macro) (params : List Name) (a b : Slot) (inside : List Held) (closes end : Held) (rest taken : List Slot) (whole : ℕ → Bool) (raw : List (List Held)) (more hide : ℕ) (call : Call) (wanted : List Bool) (first : Bool)
    → AreTaken names taken m params a b inside rest whole raw more → end ≡ closes
    → IsHidden names old.sets now.sets hide (with_name (text_of names h.token.text) (both (hidden names old.sets h.hide.0) (hidden names old.sets end.hide.0)))
    → ((n : ℕ) → n < length params + 1 → slice_index_or wanted n false ≡ is_wanted (macro_text names m) n)
    → ((n : ℕ) → n < length params + 1 → whole n ≡ is_whole (macro_text names m) n)
    → call ≡ record { name = h; hide = hide; raw = raw; done = []; out = []; more = more; wanted = wanted }
    → now.frames.items ≡ old.frames.items ++ call ∷ []
    → first ≡ slice_index_or call.wanted (length call.done) false
    → now.slots.items ≡ begun first (drop 1 (drop 1 taken))
    → IsEntered names old now h m params inside closes rest
entered names old now h m params a b inside closes end rest taken whole raw more hide call wanted first t e p w v c f g s = record {
  lists = t.lists;
  all = t.all;
  call = call;
  frames = f;
  name = ap (λ x. x.name) c;
  done = ap (λ x. x.done) c;
  out = ap (λ x. x.out) c;
  count = t.count ∙ ap (λ x. suc x.more) (sym c);
  all_are = t.all_are;
  args = t.args old.sets;
  raw = ap (λ x. x.raw) c ∙ t.raw_are ∙ all_kept_same whole (is_whole (macro_text names m)) 0 t.all (λ i l. v i (let k = t.few.0 in omega (arith, k, l)));
  among = t.among;
  size = t.size;
  places = t.places;
  hide = ap (λ x. hidden names now.sets x.hide) c ∙ p.text ∙ ap (λ x. with_name (text_of names h.token.text) (both (hidden names old.sets h.hide.0) (hidden names old.sets x.hide.0))) e;
  hide_known = subst (λ x. x.hide < length now.sets) (sym c) p.known;
  wanted = λ i l. ap (λ x. slice_index_or x.wanted i false) c ∙ w i (let k = ap (λ x. x.more) c in let d = t.few.1 in omega (arith, k, l, d));
  slots = s ∙ ap (λ x. begun x (drop 1 (drop 1 taken))) (g ∙ ap (λ x. slice_index_or x.wanted (length x.done) false) c ∙ w 0 (omega arith))
      ∙ ap (λ l. begun (is_wanted (macro_text names m) 0) (drop 1 (drop 1 l))) t.slots;
  sets_grow = p.grows;
  tables = p.tables;
}
