-- Which arguments are used.
use Rattle.std.proofs.Common.{◌≡◌, ℕ, ◌+◌, ◌<◌, Bool, true, false, List, [], length, drop, get_or, refl, sym, ap, ◌∙◌}
use Rattle.std.proofs.Common.{◌++◌, append_assoc, append-nil}
use Rattle.std.specs.Prelude.{◌||◌, if◌then◌else◌, flat_map}
use Rattle.cr_base.specs.declared.cause.Role.TheVariants.{Dropped}
use Rattle.cr_macros.specs.declared.macros.Seen.{Seen}
use Rattle.cr_expand.specs.declared.held.Held.{Held}
use Rattle.cr_expand.specs.HideSets.{Sets}
use Rattle.cr_expand.specs.Held.{Watch, noted, all_held, all_args}
use Rattle.cr_expand.proofs.Noted.{noted_append}
use Rattle.std.specs.List.{list_any}
use Rattle.cr_expand.specs.declared.items.Item.{Item}
use Rattle.cr_macros.specs.Tokens.{Text, Event, takes}
use Rattle.cr_macros.specs.Substitution as spec
use Rattle.cr_expand.specs.Items.{item_text, item_texts}
use Rattle.cr_expand.proofs.Bodies.{cut_at}

turn : (a o r : Bool) → ((a || o) || r) ≡ (o || (a || r))
turn true true r = refl
turn true false r = refl
turn false o r = refl

or_false : (a : Bool) → (a || false) ≡ a
or_false true = refl
or_false false = refl

pub used_more : (names : List Text) (n : ℕ) (is1 : List Item) (i : ℕ) (d : Item) (a o u all : Bool) → i < length is1 → spec.is_use n (item_text names (get_or is1 i d)) ≡ a → u ≡ (a || o)
    → (o || list_any (spec.is_use n) (item_texts names (drop i is1))) ≡ all → (u || list_any (spec.is_use n) (item_texts names (drop (i + 1) is1))) ≡ all
used_more names n is1 i d a o u all h e k l =
    ap (λ x. x || list_any (spec.is_use n) (item_texts names (drop (i + 1) is1))) k
    ∙ turn a o (list_any (spec.is_use n) (item_texts names (drop (i + 1) is1)))
    ∙ ap (λ x. o || (x || list_any (spec.is_use n) (item_texts names (drop (i + 1) is1)))) (sym e)
    ∙ ap (λ x. o || list_any (spec.is_use n) (item_texts names x)) (sym (cut_at is1 i d h))
    ∙ l

pub used_all : (names : List Text) (n : ℕ) (left : List Item) (u all : Bool) → left ≡ [] → (u || list_any (spec.is_use n) (item_texts names left)) ≡ all → u ≡ all
used_all names n left u all e h = sym (or_false u) ∙ ap (λ x. u || list_any (spec.is_use n) (item_texts names x)) (sym e) ∙ h

pub dropped_more : (w w1 : Watch) (names : List Text) (sets : Sets) (items : List Item) (raw : List (List Held)) (i : ℕ) (arg : List Held) (used : Bool) (s1 s2 whole : List Seen) → i < length raw → arg ≡ get_or raw i [] → w1 ≡ w
    → used ≡ list_any (spec.is_use i) (item_texts names items)
    → s2 ≡ s1 ++ noted w1 (if used then [] else flat_map (takes Dropped) (all_held names sets arg))
    → s1 ++ noted w (spec.dropped (item_texts names items) i (all_args names sets (drop i raw))) ≡ whole
    → s2 ++ noted w (spec.dropped (item_texts names items) (i + 1) (all_args names sets (drop (i + 1) raw))) ≡ whole
dropped_more w w1 names sets items raw i arg used s1 s2 whole h a e u k l =
    let more : List Event = spec.dropped (item_texts names items) (i + 1) (all_args names sets (drop (i + 1) raw)) in
    let one : List Event = if list_any (spec.is_use i) (item_texts names items) then [] else flat_map (takes Dropped) (all_held names sets (get_or raw i [])) in
    ap (λ s. s ++ noted w more) (k ∙ ap (λ x. s1 ++ noted x (if used then [] else flat_map (takes Dropped) (all_held names sets arg))) e
    ∙ ap (λ x. s1 ++ noted w (if x then [] else flat_map (takes Dropped) (all_held names sets arg))) u
    ∙ ap (λ x. s1 ++ noted w (if list_any (spec.is_use i) (item_texts names items) then [] else flat_map (takes Dropped) (all_held names sets x))) a)
    ∙ append_assoc s1 (noted w one) (noted w more)
    ∙ ap (λ x. s1 ++ x) (sym (noted_append w one more))
    ∙ ap (λ x. s1 ++ noted w (spec.dropped (item_texts names items) i (all_args names sets x))) (sym (cut_at raw i [] h))
    ∙ l

pub dropped_all : (w : Watch) (names : List Text) (sets : Sets) (items : List Item) (raw : List (List Held)) (i : ℕ) (s whole : List Seen) → drop i raw ≡ []
    → s ++ noted w (spec.dropped (item_texts names items) i (all_args names sets (drop i raw))) ≡ whole → s ≡ whole
dropped_all w names sets items raw i s whole e h = sym (append-nil s) ∙ ap (λ x. s ++ noted w (spec.dropped (item_texts names items) i (all_args names sets x))) (sym e) ∙ h
