-- Which arguments are taken in some way.
use Rattle.std.proofs.Common.{◌≡◌, ℕ, ◌+◌, ◌<◌, Bool, true, false, List, [], length, drop, get_or, refl, sym, ap, ◌∙◌}
use Rattle.std.specs.Prelude.{◌||◌, not}
use Rattle.std.specs.List.{list_any}
use Rattle.cr_expand.specs.declared.items.Item.{Item}
use Rattle.cr_macros.specs.Tokens.{Text}
use Rattle.cr_macros.specs.Substitution as spec
use Rattle.cr_expand.specs.Items.{item_text, item_texts}
use Rattle.cr_expand.proofs.Bodies.{cut_at}

turn : (a o r : Bool) → ((a || o) || r) ≡ (o || (a || r))
turn true true r = refl
turn true false r = refl
turn false o r = refl

or_false : (a : Bool) → (a || false) ≡ a
or_false true = refl
or_false false = refl

pub marked_more : (names : List Text) (test : spec.Item → Bool) (is1 : List Item) (i : ℕ) (d : Item) (a o u all : Bool) → i < length is1 → test (item_text names (get_or is1 i d)) ≡ a → u ≡ (a || o)
    → (o || list_any test (item_texts names (drop i is1))) ≡ all → (u || list_any test (item_texts names (drop (i + 1) is1))) ≡ all
marked_more names test is1 i d a o u all h e k l =
    ap (λ x. x || list_any test (item_texts names (drop (i + 1) is1))) k
    ∙ turn a o (list_any test (item_texts names (drop (i + 1) is1)))
    ∙ ap (λ x. o || (x || list_any test (item_texts names (drop (i + 1) is1)))) (sym e)
    ∙ ap (λ x. o || list_any test (item_texts names x)) (sym (cut_at is1 i d h))
    ∙ l

pub marked_all : (names : List Text) (test : spec.Item → Bool) (left : List Item) (u all : Bool) → left ≡ [] → (u || list_any test (item_texts names left)) ≡ all → u ≡ all
marked_all names test left u all e h = sym (or_false u) ∙ ap (λ x. u || list_any test (item_texts names x)) (sym e) ∙ h

pub both_marks : {a b c d : Bool} → a ≡ b → c ≡ d → (a || not c) ≡ (b || not d)
both_marks {a} {b} {c} {d} e f = ap (λ x. x || not c) e ∙ ap (λ x. b || not x) f
