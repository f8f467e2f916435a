-- Where a token is wanted, and where the end is.
use Rattle.std.proofs.Common.{◌≡◌, ◌+◌, ◌-◌, ◌<◌, Bool, true, false, List, [], ◌∷◌, ◌++◌, length, refl, sym, ap, subst, ◌∙◌, arith, append-nil, Option, Some, None}
use Rattle.std.specs.Prelude.{slice_index_or}
use Rattle.cr_base.specs.declared.token.Name.{Name}
use Rattle.cr_macros.specs.declared.macros.Macro.{Macro}
use Rattle.cr_expand.specs.declared.held.Held.{Held}
use Rattle.cr_expand.specs.declared.slot.Slot.{Slot}
use Rattle.cr_expand.specs.declared.slot.Slot.TheVariants as slot
use Rattle.cr_expand.specs.declared.turn.Turn.TheVariants as turn
use Rattle.cr_expand.specs.declared.machine.Machine.{Machine}
use Rattle.cr_expand.specs.declared.machine.ExpStep.{ExpStep}
use Rattle.cr_expand.specs.declared.machine.TheConstants.{LIMIT}
use Rattle.cr_macros.specs.Tokens.{Text, Token, Gave}
use Rattle.cr_macros.specs.Definition.{text_of}
use Rattle.cr_macros.specs.Expansion.{Table, Use, use_of}
use Rattle.cr_macros.specs.Laws.{FollowsTheRules}
use Rattle.cr_macros.specs.MacroTables.{Macros, macro_text, table_of}
use Rattle.cr_expand.specs.HideSets.{Sets}
use Rattle.cr_expand.specs.Held.{held}
use Rattle.cr_expand.specs.Frames.{Call}
use Rattle.cr_expand.specs.Running.{current, wants_more, needs_more}
use Rattle.cr_expand.specs.Slots.{pieces, ended, ends}
use Rattle.cr_expand.specs.Turns.{IsNext, IsWanting}
use Rattle.cr_expand.specs.Wanted.{is_wanted}
use Rattle.cr_expand.specs.Machines.{total, still, ahead, IsMachine, IsEntered, IsArgumentEnd, IsWantedAt, IsTurnWanted}
use Rattle.cr_expand.proofs.Going.{goes_end, next_end}
use Rattle.cr_expand.proofs.Calling.{total_last, ends_begun, ends_lists}

pub next_finish : (names : List Text) (sets : Sets) (macros : Macros) (file : Text) (more : List Token) (slots : List Slot) → IsNext names sets macros file slots more turn.End → slots ≡ []
next_finish names sets macros file more [] k = refl
next_finish names sets macros file more (slot.End ∷ slots) k = k
next_finish names sets macros file more (slot.Token h ∷ slots) k = absurd k.1

no_call : (cs : List Call) → 0 ≡ total cs → cs ≡ []
no_call [] e = refl
no_call (c ∷ cs) e = absurd (omega arith)

pub no_calls : (names : List Text) (macros : Macros) (m : Machine) → IsMachine names macros m → ends m.slots.items ≡ 0 → m.frames.items ≡ []
no_calls names macros m k e = no_call m.frames.items (sym e ∙ k.ends)

pub end_gives : (law : FollowsTheRules) (names : List Text) (macros : Macros) (m : Machine) (more : List Token) → IsMachine names macros m → m.slots.items ≡ [] → more ≡ [] → still names macros m more ≡ Gave [] (LIMIT - m.used) []
end_gives law names macros m more k e n =
    rw (e, n, no_calls names macros m k (ap ends e)) (goes_end (table_of names macros (text_of names m.file)) law (LIMIT - m.used))

pub end_ahead : (names : List Text) (macros : Macros) (m : Machine) (more : List Token) → IsMachine names macros m → m.slots.items ≡ [] → more ≡ [] → ahead names macros m more ≡ Gave None (LIMIT - m.used) []
end_ahead names macros m more k e n = rw (e, n, no_calls names macros m k (ap ends e)) (next_end (table_of names macros (text_of names m.file)) (LIMIT - m.used))

pub wanting_end : (names : List Text) (sets : Sets) (finished : Bool) (slots : List Slot) (f : Held → List Token → Use) → IsWanting names sets finished slots f turn.End → finished ≡ true
wanting_end names sets finished [] f k = k
wanting_end names sets finished (slot.End ∷ slots) f k = k
wanting_end names sets finished (slot.Token h ∷ slots) f k = k

pub wanting_hungry : (names : List Text) (sets : Sets) (finished : Bool) (table : Table) (slots : List Slot) → IsWanting names sets finished slots (λ x. use_of table (held names sets x)) turn.Hungry
    → (finished ≡ false) × (ends slots ≡ 0) × (needs_more table (current (pieces names sets slots)) ≡ true)
wanting_hungry names sets finished table [] k = (k, refl, refl)
wanting_hungry names sets finished table (slot.End ∷ slots) k = absurd k
wanting_hungry names sets finished table (slot.Token h ∷ slots) k =
    (k.0, k.1, ap (λ ps. wants_more (use_of table (held names sets h)) (held names sets h) (current ps)) (sym (append-nil (pieces names sets slots))) ∙ k.2)

pub ended_wanted : (names new : List Text) (macros : Macros) (old now : Machine) (rest : List Slot) (o : Option ExpStep) → IsMachine names macros old → old.slots.items ≡ slot.End ∷ rest → IsArgumentEnd names new macros old now rest o → IsTurnWanted names new macros old now o
ended_wanted names new macros old now rest None k e (cs, c, f, m, n, s, a, b, u, x) =
    ((let t1 = k.ends in let t2 = ap ends e in let t3 = ap total f in let t4 = total_last cs c in let t5 = ap ends s in let t6 = ends_begun (slice_index_or c.wanted (length c.done + 1) false) rest in omega (arith, t1, t2, t3, t4, t5, t6, m)), x)
ended_wanted names new macros old now rest (Some s) k e (cs, c, f, m, n, p, q) = subst (IsWantedAt names macros old) (sym q) tt

pub entered_wanted : (names : List Text) (old now : Machine) (h : Held) (m : Macro) (more : List Token) (params : List Name) (inside : List Held) (closes : Held) (rest : List Slot) → IsEntered names old now h m params inside closes rest → 0 < ends now.slots.items
entered_wanted names old now h m more params inside closes rest i =
    let a = ap ends i.slots in let b = ends_begun (is_wanted (macro_text names m) 0) (ended i.lists ++ rest) in let c = ends_lists i.lists rest in let d = i.count in omega (arith, a, b, c, d)
