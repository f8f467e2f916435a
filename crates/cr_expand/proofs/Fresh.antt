-- A machine that was fed nothing, and what feeding adds.
use Rattle.std.proofs.Common.{◌≡◌, ℕ, suc, ◌+◌, ◌-◌, ◌<◌, ◌≤◌, true, List, [], ◌∷◌, ◌++◌, length, map, replicate, refl, sym, ap, subst, ◌∙◌, arith, append_assoc, append-nil, length-append, Option, Some, None}
use Rattle.std.specs.List.{All}
use Rattle.std.proofs.lemmas.List.{map-append, length-replicate}
use Rattle.std.proofs.lemmas.List.Elements.{All-head, All-tail, All-nil, All-cons, All-append}
use Rattle.cr_base.specs.NameTable.{IsDistinct}
use Rattle.cr_base.specs.declared.token.PpTok.{PpTok}
use Rattle.cr_macros.specs.declared.fault.ExpandFault.{ExpandFault}
use Rattle.cr_expand.specs.declared.held.Held.{Held}
use Rattle.cr_expand.specs.declared.hide_sets.HideSet.{HideSet}
use Rattle.cr_expand.specs.declared.slot.Slot.{Slot}
use Rattle.cr_expand.specs.declared.slot.Slot.TheVariants as slot
use Rattle.cr_expand.specs.declared.machine.Machine.{Machine}
use Rattle.cr_expand.specs.declared.machine.TheConstants.{LIMIT}
use Rattle.cr_macros.specs.Tokens.{Text, Token, token_of, tokens_of, Work}
use Rattle.cr_macros.specs.Expansion.{Table}
use Rattle.cr_macros.specs.Definition.{text_of}
use Rattle.cr_macros.specs.MacroTables.{Macros, table_of}
use Rattle.cr_expand.specs.HideSets.{Sets, set_at}
use Rattle.cr_expand.specs.Held.{all_held, IsNamed, IsKnown, AreKnown, AreTables}
use Rattle.cr_expand.specs.Items.{IsTokenNamed}
use Rattle.cr_expand.specs.Running.{Stands, before}
use Rattle.cr_expand.specs.Slots.{pieces, tokens, ends, IsSlotKnown, AreSlotsKnown}
use Rattle.cr_expand.specs.Feeding.{all_with, IsPutBack}
use Rattle.cr_expand.specs.Machines.{total, IsMachine, IsCallKnown}
use Rattle.cr_expand.specs.Expanders.{runs_by}
use Rattle.cr_expand.specs.declared.closing.Ahead.{Ahead}
use Rattle.cr_expand.specs.Calls.{IsSearched}
use Rattle.cr_expand.specs.Groups.{AreNoted}
use Rattle.cr_expand.proofs.Closes.{searched_fed}
use Rattle.cr_expand.proofs.Spans.{groups_fed}
use Rattle.cr_expand.proofs.Going.{current_before}
use Rattle.cr_expand.proofs.Steps.{front, front_tokens, left_by}
use Rattle.cr_expand.proofs.Calling.{tokens_known}

pub fresh_gives : {A : Type 0} (does : Table → List Token → Work A) (names : List Text) (macros : Macros) (m : Machine) (more : List Token) → m.slots.items ≡ [] → m.frames.items ≡ []
    → left_by does names macros m more ≡ does (table_of names macros (text_of names m.file)) more (LIMIT - m.used)
fresh_gives does names macros m more e f = rw (e, f) (ap (λ ts. does (table_of names macros (text_of names m.file)) ts (LIMIT - m.used)) (current_before more [] ∙ append-nil more))

pub fresh_machine : (names : List Text) (macros : Macros) (m : Machine) → m.slots.items ≡ [] → m.frames.items ≡ [] → m.sets ≡ [] ∷ [] → m.used ≤ LIMIT → IsDistinct names → IsNamed names m.notes.from → IsNamed names m.notes.to → IsNamed names m.file
    → IsMachine names macros m
fresh_machine names macros m e f s u d a b c = record {
  tables = subst (AreTables names) (sym s) (record { distinct = d; named = All-cons (λ set. All (IsNamed names) set) [] [] (All-nil (IsNamed names)) (All-nil (λ set. All (IsNamed names) set)); first = refl; some = omega arith });
  slots = subst (AreSlotsKnown names m.sets) (sym e) (All-nil (IsSlotKnown names m.sets));
  calls = subst (All (IsCallKnown names macros m.sets)) (sym f) (All-nil (IsCallKnown names macros m.sets));
  watched = (a, b);
  file = c;
  ends = ap ends e ∙ sym (ap total f);
  limit = u;
}

all_unhidden : (names : List Text) (sets : Sets) (hide : HideSet) (fed : List PpTok) → set_at sets hide.0 ≡ [] → all_held names sets (all_with hide fed) ≡ tokens_of names fed
all_unhidden names sets hide [] e = refl
all_unhidden names sets hide (t ∷ fed) e =
    ap (λ s. token_of names (map (text_of names) s) t ∷ all_held names sets (all_with hide fed)) e ∙ ap (λ l. token_of names [] t ∷ l) (all_unhidden names sets hide fed e)

before_more : (ts more : List Token) → before (ts ++ more) [] ≡ before ts (before more [])
before_more [] more = refl
before_more (t ∷ ts) more = ap (λ ps. Stands t ∷ ps) (before_more ts more)

pub fed_gives : {A : Type 0} (does : Table → List Token → Work A) (names : List Text) (macros : Macros) (old now : Machine) (fed : List PpTok) (more : List Token) → IsPutBack old.sets old.slots.items now.slots.items fed
    → now.sets ≡ old.sets → now.frames.items ≡ old.frames.items → now.file ≡ old.file → now.used ≡ old.used → left_by does names macros now more ≡ left_by does names macros old (tokens_of names fed ++ more)
fed_gives does names macros old now fed more (hide, k, e, s) a b c d =
    rw (a, b, c, d, ap (λ l. front names old.sets l more) s ∙ fronts) refl where
      fronts : front names old.sets (old.slots.items ++ tokens (all_with hide fed)) more ≡ front names old.sets old.slots.items (tokens_of names fed ++ more)
      fronts =
          ap (λ ps. ps ++ before more []) (map-append _ old.slots.items (tokens (all_with hide fed)))
          ∙ append_assoc (pieces names old.sets old.slots.items) (pieces names old.sets (tokens (all_with hide fed))) (before more [])
          ∙ ap (λ ps. pieces names old.sets old.slots.items ++ ps) (
          ap (λ l. pieces names old.sets l ++ before more []) (sym (append-nil (tokens (all_with hide fed)))) ∙ front_tokens names old.sets (all_with hide fed) [] more
          ∙ ap (λ ts. before ts (before more [])) (all_unhidden names old.sets hide fed e) ∙ sym (before_more (tokens_of names fed) more))

all_with_known : (names : List Text) (sets : Sets) (hide : HideSet) (fed : List PpTok) → hide.0 < length sets → All (IsTokenNamed names) fed → AreKnown names sets (all_with hide fed)
all_with_known names sets hide [] k a = All-nil (IsKnown names sets)
all_with_known names sets hide (t ∷ fed) k a =
    All-cons (IsKnown names sets) (record { token = t; hide = hide }) (all_with hide fed) (All-head (IsTokenNamed names) t fed a, k) (all_with_known names sets hide fed k (All-tail (IsTokenNamed names) t fed a))

ends_fed : (slots : List Slot) (hs : List Held) → ends (slots ++ tokens hs) ≡ ends slots
ends_fed [] [] = refl
ends_fed [] (h ∷ hs) = ends_fed [] hs
ends_fed (slot.Token x ∷ slots) hs = ends_fed slots hs
ends_fed (slot.End ∷ slots) hs = ap (λ n. 1 + n) (ends_fed slots hs)

pub fed_machine : (names : List Text) (macros : Macros) (old now : Machine) (fed : List PpTok) → IsPutBack old.sets old.slots.items now.slots.items fed
    → now.sets ≡ old.sets → now.frames ≡ old.frames → now.file ≡ old.file → now.used ≡ old.used → now.notes ≡ old.notes → All (IsTokenNamed names) fed → IsMachine names macros old → IsMachine names macros now
fed_machine names macros old now fed (hide, k, e, s) a b c d n t m = record {
  tables = subst (AreTables names) (sym a) m.tables;
  slots = subst (λ z. AreSlotsKnown names z now.slots.items) (sym a) (subst (AreSlotsKnown names old.sets) (sym s)
      (All-append (IsSlotKnown names old.sets) old.slots.items (tokens (all_with hide fed)) m.slots (tokens_known names old.sets (all_with hide fed) (all_with_known names old.sets hide fed k t))));
  calls = subst (λ z. All (IsCallKnown names macros z) now.frames.items) (sym a) (subst (λ f. All (IsCallKnown names macros old.sets) f.items) (sym b) m.calls);
  watched = subst (λ x. IsNamed names x.from × IsNamed names x.to) (sym n) m.watched;
  file = subst (IsNamed names) (sym c) m.file;
  ends = ap ends s ∙ ends_fed old.slots.items (all_with hide fed) ∙ m.ends ∙ sym (ap (λ f. total f.items) b);
  limit = subst (λ u. u ≤ LIMIT) (sym d) m.limit;
}

length_tokens_with : (hide : HideSet) (fed : List PpTok) → length (tokens (all_with hide fed)) ≡ length fed
length_tokens_with hide [] = refl
length_tokens_with hide (t ∷ fed) = ap suc (length_tokens_with hide fed)

noted_fed : (names : List Text) (slots more : List Slot) (groups : List ℕ) (n : ℕ) → length more ≡ n → AreNoted names slots groups → AreNoted names (slots ++ more) (groups ++ replicate n 0)
noted_fed names slots more groups n l k = (
  (let a = length-append groups (replicate n 0) in let b = length-append slots more in let c = length-replicate {A = ℕ} n 0 in omega (arith, a, b, c, l, k.0)),
  groups_fed names slots more groups n k.0 k.1,
)

pub fed_runs : (names : List Text) (macros : Macros) (old now : Machine) (ahead after : Ahead) (o : Option ExpandFault) (fed : List PpTok) → IsPutBack old.sets old.slots.items now.slots.items fed
    → after.search ≡ ahead.search → after.groups.items ≡ ahead.groups.items ++ replicate (length fed) 0
    → (IsMachine names macros old → IsMachine names macros now) → runs_by names macros old ahead o → runs_by names macros now after o
fed_runs names macros old now ahead after None fed (hide, h, e, s) p g f k = (
  f k.0,
  subst (IsSearched names now.slots.items) (sym p) (subst (λ l. IsSearched names l ahead.search) (sym s) (searched_fed names old.slots.items (tokens (all_with hide fed)) ahead.search k.1)),
  subst (AreNoted names now.slots.items) (sym g) (subst (λ l. AreNoted names l (ahead.groups.items ++ replicate (length fed) 0)) (sym s) (noted_fed names old.slots.items (tokens (all_with hide fed)) ahead.groups.items (length fed) (length_tokens_with hide fed) k.2)),
)
fed_runs names macros old now ahead after (Some x) fed q p g f k = tt

-- that no more comes changes nothing that is held
pub finished_runs : (names : List Text) (macros : Macros) (m now : Machine) (ahead : Ahead) (o : Option ExpandFault) → now ≡ record m { finished = true } → runs_by names macros m ahead o → runs_by names macros now ahead o
finished_runs names macros m now ahead o e k = subst (λ n. runs_by names macros n ahead o) (sym e) (by o k) where
  by : (o : Option ExpandFault) → runs_by names macros m ahead o → runs_by names macros (record m { finished = true }) ahead o
  by None k = (record { tables = k.0.tables; slots = k.0.slots; calls = k.0.calls; watched = k.0.watched; file = k.0.file; ends = k.0.ends; limit = k.0.limit }, k.1, k.2)
  by (Some x) k = tt
