-- What a machine still gives stays as it was when the tables grow.
use Rattle.std.proofs.Common.{◌≡◌, Bool, true, false, List, [], ◌∷◌, map, refl, sym, ap, ◌∙◌, arith, Option, Some, None}
use Rattle.std.specs.Prelude.{option_map, bytes_eq, ◌==◌, if◌then◌else◌}
use Rattle.std.proofs.lemmas.Bool.Decides.{nat_tests}
use Rattle.std.specs.List.{All}
use Rattle.std.specs.Map.{lookup}
use Rattle.std.proofs.Math.Path.{fun_ext}
use Rattle.std.proofs.lemmas.List.Elements.{All-head, All-tail}
use Rattle.cr_base.specs.declared.token.Name.{Name}
use Rattle.cr_base.specs.declared.token.PpTok.{PpTok}
use Rattle.cr_macros.specs.declared.macros.Macro.{Macro}
use Rattle.cr_expand.specs.declared.slot.Slot.{Slot}
use Rattle.cr_expand.specs.declared.slot.Slot.TheVariants as slot
use Rattle.cr_macros.specs.Tokens.{Text, Token, MacroText, tokens_of, token_of}
use Rattle.cr_macros.specs.Definition.{text_of}
use Rattle.cr_macros.specs.Expansion.{Table}
use Rattle.cr_macros.specs.MacroTables.{Macros, macro_named, macro_text, table_of}
use Rattle.cr_expand.specs.HideSets.{Sets, Grows}
use Rattle.cr_expand.specs.Held.{IsNamed}
use Rattle.cr_expand.specs.Items.{IsMacroKnown, IsTokenNamed, AreNamed}
use Rattle.cr_expand.specs.Heading.{IsEntryKnown, AreMacrosKnown}
use Rattle.cr_expand.specs.Frames.{Call}
use Rattle.cr_expand.specs.Running.{Waiting, Stands}
use Rattle.cr_expand.specs.Slots.{piece, pieces, IsSlotKnown, AreSlotsKnown}
use Rattle.cr_expand.specs.Machines.{means_of, waiting_of, IsCallHeld, AreMacros}
use Rattle.cr_expand.proofs.Kept.{name_kept, names_kept, token_kept, held_kept, all_held_kept, all_args_kept, hidden_kept}
use Rattle.cr_expand.proofs.Looked.{found_known, keys_known}

module _ (names new : List Text) (g : Grows names new) where
  body_kept : (body : List PpTok) → All (IsTokenNamed names) body → tokens_of new body ≡ tokens_of names body
  body_kept [] h = refl
  body_kept (t ∷ body) h =
      ap (λ x. x ∷ tokens_of new body) (token_kept names new [] t g (All-head (IsTokenNamed names) t body h))
      ∙ ap (λ l. token_of names [] t ∷ l) (body_kept body (All-tail (IsTokenNamed names) t body h))

  params_kept : (params : Option (List Name)) → AreNamed names params → option_map (map (text_of new)) params ≡ option_map (map (text_of names)) params
  params_kept None h = refl
  params_kept (Some ns) h = ap Some (names_kept names new ns g h)

  pub macro_kept : (m : Macro) → IsMacroKnown names m → macro_text new m ≡ macro_text names m
  macro_kept m h =
      ap {B = MacroText} (λ p. record { params = p; variadic = m.variadic; body = tokens_of new m.body }) (params_kept m.params h.params)
      ∙ ap {B = MacroText} (λ b. record { params = option_map (map (text_of names)) m.params; variadic = m.variadic; body = b }) (body_kept m.body h.body)

  module _ (all : Macros) (text : Text) (known : (n : Name) (m : Macro) → macro_named n all ≡ Some m → IsMacroKnown names m) where
    abbrev Skips : Macros → Type 0
    Skips xs = (n : Name) → bytes_eq text (text_of names n) ≡ true → macro_named n all ≡ macro_named n xs

    first_found : (e : Name × Macro) (xs : Macros) → Skips (e ∷ xs) → bytes_eq text (text_of names e.0) ≡ true → macro_named e.0 all ≡ Some e.1
    first_found e xs s q = s e.0 q ∙ ap (λ b. if b then Some e.1 else macro_named e.0 xs) (let r : (e.0.0 == e.0.0) ≡ true = grind (arith, nat_tests) in r)

    other_name : (e : Name × Macro) (xs : Macros) (n : Name) → bytes_eq text (text_of names e.0) ≡ false → bytes_eq text (text_of names n) ≡ true → (b : Bool) → (n.0 == e.0.0) ≡ b → (if b then Some e.1 else macro_named n xs) ≡ macro_named n xs
    other_name e xs n q p false r = refl
    other_name e xs n q p true r =
        let same : n.0 ≡ e.0.0 = grind (arith, nat_tests) in
        absurd (no (sym p ∙ ap (λ i. bytes_eq text (text_of names (record { 0 = i }))) same ∙ q)) where
          no : true ≡ false → ⊥
          no z = cc

    skips_more : (e : Name × Macro) (xs : Macros) → Skips (e ∷ xs) → bytes_eq text (text_of names e.0) ≡ false → Skips xs
    skips_more e xs s q = λ n p. s n p ∙ other_name e xs n q p (n.0 == e.0.0) refl

    lookup_kept : (xs : Macros) → AreMacrosKnown names xs → Skips xs
        → option_map (macro_text new) (lookup (λ k. bytes_eq text (text_of new k)) xs) ≡ option_map (macro_text names) (lookup (λ k. bytes_eq text (text_of names k)) xs)
    lookup_kept [] h s = refl
    lookup_kept (e ∷ xs) h s =
        ap (λ t. option_map (macro_text new) (if bytes_eq text t then Some e.1 else lookup (λ k. bytes_eq text (text_of new k)) xs)) (name_kept names new e.0 g (All-head (IsEntryKnown names) e xs h))
        ∙ by (λ t. lookup_kept xs (All-tail (IsEntryKnown names) e xs h) t) (bytes_eq text (text_of names e.0)) refl where
          by : (Skips xs → option_map (macro_text new) (lookup (λ k. bytes_eq text (text_of new k)) xs) ≡ option_map (macro_text names) (lookup (λ k. bytes_eq text (text_of names k)) xs))
              → (b : Bool) → bytes_eq text (text_of names e.0) ≡ b
              → option_map (macro_text new) (if b then Some e.1 else lookup (λ k. bytes_eq text (text_of new k)) xs) ≡ option_map (macro_text names) (if b then Some e.1 else lookup (λ k. bytes_eq text (text_of names k)) xs)
          by r true q = ap Some (macro_kept e.1 (known e.0 e.1 (first_found e xs s q)))
          by r false q = r (skips_more e xs s q)

  pub table_kept : (macros : Macros) (file : Name) → AreMacros names macros → IsNamed names file → table_of new macros (text_of new file) ≡ table_of names macros (text_of names file)
  table_kept macros file h k =
      ap (table_of new macros) (name_kept names new file g k)
      ∙ ap {B = Table} (λ f. record { macro = f; file = text_of names file }) (fun_ext (λ text. lookup_kept macros text (λ n m e. found_known names macros n m h e) macros (keys_known names macros h) (λ n q. refl)))

  pub all_macros_kept : (macros : Macros) (file : Text) → AreMacros names macros → table_of new macros file ≡ table_of names macros file
  all_macros_kept macros file h =
      ap {B = Table} (λ f. record { macro = f; file = file }) (fun_ext (λ text. lookup_kept macros text (λ n m e. found_known names macros n m h e) macros (keys_known names macros h) (λ n q. refl)))

  pub means_kept : (macros : Macros) (o : Option Macro) → ((m : Macro) → o ≡ Some m → IsMacroKnown names m) → means_of new o ≡ means_of names o
  means_kept macros None h = refl
  means_kept macros (Some m) h = macro_kept m (h m refl)

  module _ (macros : Macros) (sets more : Sets) (k : Grows sets more) (named : All (All (IsNamed names)) sets) (known : AreMacros names macros) where
    pub waiting_of_kept : (c : Call) → IsCallHeld names macros sets c → waiting_of new macros more c ≡ waiting_of names macros sets c
    waiting_of_kept c h =
        same _ _ _ _ _ _ _ _ _ _ _ _
        (held_kept names new sets more c.name g k named h.name)
        (means_kept macros (macro_named c.name.token.text macros) (λ m e. found_known names macros c.name.token.text m known e))
        (hidden_kept names new sets more c.hide g k named h.hide)
        (all_args_kept names new sets more c.raw g k named h.raw)
        (all_args_kept names new sets more c.done g k named h.done)
        (all_held_kept names new sets more c.out g k named h.out) where
          same : (n1 n2 : Token) (m1 m2 : MacroText) (h1 h2 : List Text) (r1 r2 d1 d2 : List (List Token)) (o1 o2 : List Token) → n1 ≡ n2 → m1 ≡ m2 → h1 ≡ h2 → r1 ≡ r2 → d1 ≡ d2 → o1 ≡ o2
              → ◌≡◌ {A = Waiting} (record { name = n1; means = m1; hide = h1; raw = r1; done = d1; out = o1; more = c.more }) (record { name = n2; means = m2; hide = h2; raw = r2; done = d2; out = o2; more = c.more })
          same n1 n2 m1 m2 h1 h2 r1 r2 d1 d2 o1 o2 a b c d e f = cc

    pub all_waiting_kept : (cs : List Call) → All (IsCallHeld names macros sets) cs → map (waiting_of new macros more) cs ≡ map (waiting_of names macros sets) cs
    all_waiting_kept [] h = refl
    all_waiting_kept (c ∷ cs) h =
        ap (λ w. w ∷ map (waiting_of new macros more) cs) (waiting_of_kept c (All-head (IsCallHeld names macros sets) c cs h))
        ∙ ap (λ ws. waiting_of names macros sets c ∷ ws) (all_waiting_kept cs (All-tail (IsCallHeld names macros sets) c cs h))

    pub pieces_kept : (slots : List Slot) → AreSlotsKnown names sets slots → pieces new more slots ≡ pieces names sets slots
    pieces_kept [] h = refl
    pieces_kept (s ∷ slots) h =
        ap (λ p. p ∷ pieces new more slots) (one s (All-head (IsSlotKnown names sets) s slots h))
        ∙ ap (λ ps. piece names sets s ∷ ps) (pieces_kept slots (All-tail (IsSlotKnown names sets) s slots h)) where
          one : (s : Slot) → IsSlotKnown names sets s → piece new more s ≡ piece names sets s
          one (slot.Token t) h = ap Stands (held_kept names new sets more t g k named h)
          one slot.End h = refl
