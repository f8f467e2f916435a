-- Macros that are looked up.
use Rattle.std.proofs.Common.{◌≡◌, ℕ, ◌≤◌, Bool, true, false, List, [], ◌∷◌, ◌++◌, append_assoc, arith, length, refl, sym, ap, ◌∙◌, Some}
use Rattle.std.specs.Prelude.{◌==◌, if◌then◌else◌}
use Rattle.std.specs.List.{All}
use Rattle.std.proofs.lemmas.List.Elements.{All-nil, All-cons}
use Rattle.std.proofs.lemmas.Bool.Decides.{nat_tests}
use Rattle.cr_base.specs.declared.token.Name.{Name}
use Rattle.cr_macros.specs.declared.macros.Macro.{Macro}
use Rattle.cr_expand.specs.declared.held.Held.{Held}
use Rattle.cr_macros.specs.Tokens.{Text}
use Rattle.cr_macros.specs.MacroTables.{Macros, macro_named, macro_text}
use Rattle.cr_expand.specs.HideSets.{Sets}
use Rattle.cr_expand.specs.Held.{held, all_args, hidden, IsNamed}
use Rattle.cr_expand.specs.Heading.{IsEntryKnown, AreMacrosKnown}
use Rattle.cr_expand.specs.Items.{IsMacroKnown}
use Rattle.cr_expand.specs.Frames.{Call}
use Rattle.cr_expand.specs.Running.{put_for}
use Rattle.cr_expand.specs.Machines.{AreMacros, means_of, put_for_call}

pub found_known : (names : List Text) (macros : Macros) (n : Name) (m : Macro) → AreMacros names macros → macro_named n macros ≡ Some m → IsMacroKnown names m
found_known names macros n m h e = (h.known n m e).1.0

pub found_short : (names : List Text) (macros : Macros) (n : Name) (m : Macro) → AreMacros names macros → macro_named n macros ≡ Some m → length m.body ≤ 33554432
found_short names macros n m h e = (h.known n m e).1.1

-- an entry's name has a macro
found_here : (ys xs : Macros) (x : Name × Macro) → (m : Macro) × (macro_named x.0 (ys ++ x ∷ xs) ≡ Some m)
found_here [] xs x = (x.1, ap (λ b. if b then Some x.1 else macro_named x.0 xs) (let q : (x.0.0 == x.0.0) ≡ true = grind (arith, nat_tests) in q))
found_here (y ∷ ys) xs x = by (x.0.0 == y.0.0) (found_here ys xs x) where
  by : (b : Bool) → (m : Macro) × (macro_named x.0 (ys ++ x ∷ xs) ≡ Some m) → (m : Macro) × ((if b then Some y.1 else macro_named x.0 (ys ++ x ∷ xs)) ≡ Some m)
  by true r = (y.1, refl)
  by false r = r

keys_from : (names : List Text) (ys xs : Macros) → ((n : Name) (m : Macro) → macro_named n (ys ++ xs) ≡ Some m → IsNamed names n) → All (IsEntryKnown names) xs
keys_from names ys [] k = All-nil (IsEntryKnown names)
keys_from names ys (x ∷ xs) k =
    let f = found_here ys xs x in
    All-cons (IsEntryKnown names) x xs (k x.0 f.0 f.1)
    (keys_from names (ys ++ x ∷ []) xs (λ n m e. k n m (ap (macro_named n) (sym (append_assoc ys (x ∷ []) xs)) ∙ e)))

pub keys_known : (names : List Text) (macros : Macros) → AreMacros names macros → AreMacrosKnown names macros
keys_known names macros h = keys_from names [] macros (λ n m e. (h.known n m e).0)

-- what is put in for a call, by what the call holds
pub call_work : (names : List Text) (macros : Macros) (sets : Sets) (c : Call) (name : Held) (m : Macro) (raw done : List (List Held)) (hide : ℕ)
    → name ≡ c.name → macro_named c.name.token.text macros ≡ Some m → raw ≡ c.raw → done ≡ c.done → hide ≡ c.hide
    → put_for (held names sets name) (macro_text names m) (all_args names sets raw) (all_args names sets done) (hidden names sets hide) ≡ put_for_call names macros sets c
call_work names macros sets c name m raw done hide a e f g h =
    ap (λ x. put_for (held names sets x) (macro_text names m) (all_args names sets raw) (all_args names sets done) (hidden names sets hide)) a
    ∙ ap (λ x. put_for (held names sets c.name) (means_of names x) (all_args names sets raw) (all_args names sets done) (hidden names sets hide)) (sym e)
    ∙ ap (λ x. put_for (held names sets c.name) (means_of names (macro_named c.name.token.text macros)) (all_args names sets x) (all_args names sets done) (hidden names sets hide)) f
    ∙ ap (λ x. put_for (held names sets c.name) (means_of names (macro_named c.name.token.text macros)) (all_args names sets c.raw) (all_args names sets x) (hidden names sets hide)) g
    ∙ ap (λ x. put_for (held names sets c.name) (means_of names (macro_named c.name.token.text macros)) (all_args names sets c.raw) (all_args names sets c.done) (hidden names sets x)) h
