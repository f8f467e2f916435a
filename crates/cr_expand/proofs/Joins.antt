-- How many pastes there are.
use Rattle.std.proofs.Common.{◌≡◌, ℕ, ◌+◌, ◌<◌, ◌≤◌, List, [], ◌∷◌, ◌++◌, length, drop, get_or, refl, ap, ◌∙◌, arith}
use Rattle.cr_expand.specs.declared.held.Held.{Held}
use Rattle.cr_expand.specs.declared.items.Item.{Item}
use Rattle.cr_expand.specs.declared.items.Item.TheVariants as item
use Rattle.cr_expand.specs.declared.parts.Part.{Part}
use Rattle.cr_expand.specs.declared.parts.Part.TheVariants as part
use Rattle.cr_macros.specs.declared.macros.Seen.{Seen}
use Rattle.cr_macros.specs.Tokens.{Text, Token}
use Rattle.cr_expand.specs.HideSets.{Sets}
use Rattle.cr_expand.specs.Held.{Watch}
use Rattle.cr_expand.specs.Parts.{joins, IsMade, parts_here, or_placemarker_here, filled_here, spaced, arg_here, comma_and_here, unhidden}
use Rattle.cr_expand.proofs.Bodies.{cut_at}

pub joins_append : (xs ys : List Part) → joins (xs ++ ys) ≡ joins xs + joins ys
joins_append [] ys = omega arith
joins_append (part.Joins ∷ xs) ys = let e = joins_append xs ys in omega (arith, e)
joins_append (part.Is h ∷ xs) ys = joins_append xs ys
joins_append (part.Placemarker ∷ xs) ys = joins_append xs ys

no_joins : (hs : List Held) → joins (parts_here hs) ≡ 0
no_joins [] = refl
no_joins (h ∷ hs) = no_joins hs

no_joins_either : (hs : List Held) → joins (or_placemarker_here hs) ≡ 0
no_joins_either [] = refl
no_joins_either (h ∷ hs) = no_joins hs

no_joins_comma : (c : Held) (rest : List Part) (raw : List Held) → joins rest ≡ 0 → joins (comma_and_here c rest raw) ≡ 0
no_joins_comma c rest [] h = refl
no_joins_comma c rest (a ∷ raw) h = h

no_join : (m n j : ℕ) → m ≡ n → j ≡ 0 → m + j ≤ n + 1
no_join m n j e f = omega (arith, e, f)

-- An item makes a name or gives a `##`, not both.
pub one_name : (w : Watch) (before now : List Seen) (names new : List Text) (sets : Sets) (name : Token) (raw full : List (List Held)) (made : Held) (i : Item)
    → IsMade w before now names new sets name raw made i → length new ≤ length names + 1 → length new + joins (filled_here raw full made i) ≤ length names + 1
one_name w before now names new sets name raw full made (item.Stays t) q h = no_join (length new) (length names) 0 (ap length q.0) refl
one_name w before now names new sets name raw full made (item.Spelt t n) q h = omega (arith, h)
one_name w before now names new sets name raw full made (item.Bare t n) q h = no_join (length new) (length names) _ (ap length q.0) (no_joins_either (spaced t.space (arg_here raw n)))
one_name w before now names new sets name raw full made (item.Full t n) q h = no_join (length new) (length names) _ (ap length q.0) (no_joins (spaced t.space (arg_here full n)))
one_name w before now names new sets name raw full made (item.CommaRest c t n) q h =
    no_join (length new) (length names) _ (ap length q.0) (no_joins_comma (unhidden c) (or_placemarker_here (spaced t.space (arg_here full n))) (arg_here raw n) (no_joins_either (spaced t.space (arg_here full n))))
one_name w before now names new sets name raw full made item.Paste q h = let e = ap length q.0 in omega (arith, e)

pub joins_cut : (xs : List Part) (i : ℕ) (d : Part) → i < length xs → joins (drop i xs) ≡ joins (get_or xs i d ∷ []) + joins (drop (i + 1) xs)
joins_cut xs i d h = ap joins (cut_at xs i d h) ∙ joins_append (get_or xs i d ∷ []) (drop (i + 1) xs)

pub joins_room : (xs : List Part) (i : ℕ) (d : Part) (n0 n1 n2 p1 p2 : ℕ) → i < length xs → n2 + p2 ≤ n1 + p1 + joins (get_or xs i d ∷ []) → n1 + p1 + joins (drop i xs) ≤ n0 + joins xs
    → n2 + p2 + joins (drop (i + 1) xs) ≤ n0 + joins xs
joins_room xs i d n0 n1 n2 p1 p2 h k l = let e = joins_cut xs i d h in omega (arith, e, k, l)

pub joins_most : (xs : List Part) (i : ℕ) (d : Part) (n0 n1 n2 p1 : ℕ) → i < length xs → n2 ≤ n1 + p1 + joins (get_or xs i d ∷ []) → n1 + p1 + joins (drop i xs) ≤ n0 + joins xs → n2 ≤ n0 + joins xs
joins_most xs i d n0 n1 n2 p1 h k l = let e = joins_cut xs i d h in omega (arith, e, k, l)
