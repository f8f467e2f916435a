-- A machine runs on as names are put into the table.
use Rattle.std.proofs.Common.{◌≡◌, ℕ, ◌-◌, List, refl, subst, ◌∙◌, Option, Some, None, inl, inr}
use Rattle.std.proofs.lemmas.List.Elements.{All-drop}
use Rattle.cr_base.specs.NameTable.{IsDistinct}
use Rattle.cr_macros.specs.declared.fault.ExpandFault.{ExpandFault}
use Rattle.cr_expand.specs.declared.slot.Slot.{Slot}
use Rattle.cr_expand.specs.declared.machine.Machine.{Machine}
use Rattle.cr_expand.specs.declared.machine.TheConstants.{LIMIT}
use Rattle.cr_expand.specs.declared.closing.Ahead.{Ahead}
use Rattle.cr_expand.specs.declared.closing.Search.{Search}
use Rattle.cr_expand.specs.declared.expander.Expander.{Expander}
use Rattle.cr_macros.specs.Tokens.{Text, Token}
use Rattle.cr_macros.specs.MacroTables.{Macros}
use Rattle.cr_expand.specs.HideSets.{Sets, Grows}
use Rattle.cr_expand.specs.Slots.{IsSlotKnown, AreSlotsKnown}
use Rattle.cr_expand.specs.Calls.{IsFound, IsSearched}
use Rattle.cr_expand.specs.Machines.{still, IsMachine, AreMacros}
use Rattle.cr_expand.specs.Expanders.{runs_by, RunsOn}
use Rattle.cr_expand.proofs.Sets.{grows_same}
use Rattle.cr_expand.proofs.Kept.{named_later, tables_later, sets_named_later}
use Rattle.cr_expand.proofs.Keeping.{slots_later, calls_later}
use Rattle.cr_macros.specs.Expansion.{Table}
use Rattle.cr_expand.specs.Running.{Waiting, Piece, goes_on}
use Rattle.cr_expand.proofs.KeptMachine.{table_kept}
use Rattle.cr_expand.proofs.Steps.{waiting_kept, front_kept, calls_held}
use Rattle.cr_expand.proofs.Lefts.{depth_later, tokens_are_known, groups_later}

module _ (names new : List Text) (g : Grows names new) where
  machine_later : (macros : Macros) (m : Machine) → IsDistinct new → AreMacros names macros → IsMachine names macros m → IsMachine new macros m
  machine_later macros m d known mach = record {
    tables = tables_later names new m.sets m.sets mach.tables g (grows_same m.sets) d (sets_named_later names new m.sets g mach.tables.named);
    slots = slots_later names new m.sets m.sets g (grows_same m.sets) m.slots.items mach.slots;
    calls = calls_later names new macros m.sets m.sets g (grows_same m.sets) known m.frames.items mach.calls;
    watched = (named_later names new m.notes.from g mach.watched.0, named_later names new m.notes.to g mach.watched.1);
    file = named_later names new m.file g mach.file;
    ends = mach.ends;
    limit = mach.limit;
  }

  found_later : (sets : Sets) (slots : List Slot) (start i depth : ℕ) → AreSlotsKnown names sets slots → IsFound names slots start i depth → IsFound new slots start i depth
  found_later sets slots start i depth a (inside, rest, e, l, k) =
      let r = tokens_are_known names new sets g inside rest (subst (AreSlotsKnown names sets) e (All-drop (IsSlotKnown names sets) start slots a)) in
      (inside, rest, e, l, depth_later names new sets g inside 0 r.0 ∙ k)

  searched_later : (sets : Sets) (slots : List Slot) (s : Search) → AreSlotsKnown names sets slots → IsSearched names slots s → IsSearched new slots s
  searched_later sets slots s a k = elim k.1 [
    | inl e ↦ (k.0, inl e)
    | inr f ↦ (k.0, inr (found_later sets slots 2 s.at s.depth a f))
  ]

  runs_later : (macros : Macros) (m : Machine) (ahead : Ahead) (o : Option ExpandFault) → IsDistinct new → AreMacros names macros → runs_by names macros m ahead o → runs_by new macros m ahead o
  runs_later macros m ahead None d known r = (
    machine_later macros m d known r.0,
    searched_later m.sets m.slots.items ahead.search r.0.slots r.1,
    (r.2.0, groups_later names new m.sets g m.slots.items ahead.groups.items r.0.slots r.2.1),
  )
  runs_later macros m ahead (Some x) d known r = tt

  same_answer : (t t2 : Table) (ws ws2 : List Waiting) (ps ps2 : List Piece) (left : ℕ) → t ≡ t2 → ws ≡ ws2 → ps ≡ ps2 → goes_on t ws ps left ≡ goes_on t2 ws2 ps2 left
  same_answer t t2 ws ws2 ps ps2 left a b c = rw (a, b, c) refl

  still_later : (macros : Macros) (m : Machine) (more : List Token) → AreMacros names macros → IsMachine names macros m → still new macros m more ≡ still names macros m more
  still_later macros m more known mach =
      same_answer _ _ _ _ _ _ (LIMIT - m.used)
      (table_kept names new g macros m.file known mach.file)
      (waiting_kept names new macros m m more mach known g (grows_same m.sets) refl m.frames.items (calls_held names new macros m m more mach known g (grows_same m.sets) refl))
      (front_kept names new macros m m more mach known g (grows_same m.sets) refl m.slots.items mach.slots)

  pub left_later : (macros : Macros) (e : Expander) (more : List Token) → AreMacros names macros → runs_by names macros e.machine e.ahead e.fault → e.fault ≡ None → still new macros e.machine more ≡ still names macros e.machine more
  left_later macros e more known r f = let x : runs_by names macros e.machine e.ahead None = subst (runs_by names macros e.machine e.ahead) f r in still_later macros e.machine more known x.0

pub runs_on : RunsOn
runs_on = record {
  running = λ names new macros e g d known r. runs_later names new g macros e.machine e.ahead e.fault d known r;
  gives = λ names new macros e more g known r f. left_later names new g macros e more known r f;
}
