-- A call's tokens parted by commas, one after another.
use Rattle.std.proofs.Common.{map, ◌≡◌, ℕ, suc, ◌+◌, ◌-◌, ◌<◌, ◌≤◌, Bool, true, false, cond, List, [], ◌∷◌, ◌++◌, length, drop, set, refl, sym, ap, subst, ◌∙◌, arith, append_assoc, append-nil, length-append, Option, Some, None}
use Rattle.std.specs.Prelude.{codes, ◌==◌, ◌&&◌, nat_le, if◌then◌else◌, slice_get}
use Rattle.std.proofs.lemmas.List.{map-append, drop_at}
use Rattle.std.specs.List.{All}
use Rattle.std.proofs.lemmas.List.Elements.{All-nil, All-cons, All-append}
use Rattle.cr_expand.specs.declared.held.Held.{Held}
use Rattle.cr_expand.specs.declared.slot.Slot.{Slot}
use Rattle.cr_expand.specs.declared.slot.Slot.TheVariants as slot
use Rattle.cr_expand.specs.declared.parting.Parting.{Parting}
use Rattle.cr_macros.specs.Tokens.{Text, Token, is_mark}
use Rattle.cr_macros.specs.Substitution.{Args}
use Rattle.cr_macros.specs.Expansion.{into_first, parted}
use Rattle.cr_expand.specs.HideSets.{Sets}
use Rattle.cr_expand.specs.Held.{held, all_held, all_args}
use Rattle.cr_expand.specs.Slots.{tokens, ended}
use Rattle.cr_expand.specs.Calls.{part_at, part_slot, parted_slots, IsTokenAt, IsCallAt, IsAmong, ArePartedAt, AreKeptAt}
use Rattle.cr_expand.specs.Wanted.{kept, all_kept, kept_more}
use Rattle.cr_expand.specs.Partings.{lists_of, IsTaken}
use Rattle.cr_expand.proofs.Closes.{length_tokens, tokens_append}
use Rattle.cr_expand.proofs.Wholes.{kept_none, kept_one_more, all_kept_last, length_all_kept}

length_map : {A B : Type 0} (f : A → B) (xs : List A) → length (map f xs) ≡ length xs
length_map f [] = refl
length_map f (x ∷ xs) = ap suc (length_map f xs)

-- tokens at the front of the first list
abbrev pub onto : List Token → Args → Args
onto [] args = args
onto (t ∷ ts) args = into_first t (onto ts args)

onto_more : (ts : List Token) (t : Token) (args : Args) → onto ts (into_first t args) ≡ onto (ts ++ t ∷ []) args
onto_more [] t args = refl
onto_more (x ∷ ts) t args = ap (into_first x) (onto_more ts t args)

onto_new : (ts : List Token) (args : Args) → onto ts ([] ∷ args) ≡ ts ∷ args
onto_new [] args = refl
onto_new (x ∷ ts) args = ap (into_first x) (onto_new ts args)

abbrev pub by_part : ℕ → Token → List Token → Option ℕ → ℕ → Args
by_part n t ts None depth = [] ∷ parted (n - 1) depth ts
by_part n t ts (Some d) depth = into_first t (parted n d ts)

part_cases : (n depth : ℕ) (t : Token) (ts : List Token) (opens closes parts : Bool)
    → cond opens (into_first t (parted n (depth + 1) ts)) (cond closes (into_first t (parted n (depth - 1) ts)) (cond parts ([] ∷ parted (n - 1) depth ts) (into_first t (parted n depth ts))))
    ≡ by_part n t ts (cond opens (Some (depth + 1)) (cond closes (Some (depth - 1)) (cond parts None (Some depth)))) depth
part_cases n depth t ts true closes parts = refl
part_cases n depth t ts false true parts = refl
part_cases n depth t ts false false true = refl
part_cases n depth t ts false false false = refl

pub parted_at : (n depth : ℕ) (t : Token) (ts : List Token) → parted n depth (t ∷ ts) ≡ by_part n t ts (part_at n depth t) depth
parted_at n depth t ts = part_cases n depth t ts (is_mark (codes "(") t) (is_mark (codes ")") t) (is_mark (codes ",") t && depth == 0 && nat_le 1 n)

-- The lists so far are those of the tokens before, whatever comes.
abbrev pub IsParting : List Text → ℕ → List Held → List (List Held) → List Held → ℕ → ℕ → Type 0
IsParting names n before lists list commas depth =
    (sets : Sets) (ts : List Token) → parted n 0 (all_held names sets before ++ ts) ≡ all_args names sets lists ++ onto (all_held names sets list) (parted commas depth ts)

all_held_more : (names : List Text) (sets : Sets) (before : List Held) (h : Held) (ts : List Token) → all_held names sets (before ++ h ∷ []) ++ ts ≡ all_held names sets before ++ held names sets h ∷ ts
all_held_more names sets before h ts =
    ap (λ l. l ++ ts) (map-append (λ x. held names sets x) before (h ∷ [])) ∙ append_assoc (all_held names sets before) (held names sets h ∷ []) ts

parting_stays : (names : List Text) (n : ℕ) (before : List Held) (lists : List (List Held)) (list : List Held) (commas depth d : ℕ) (h : Held)
    → ((sets : Sets) → part_at commas depth (held names sets h) ≡ Some d) → IsParting names n before lists list commas depth
    → IsParting names n (before ++ h ∷ []) lists (list ++ h ∷ []) commas d
parting_stays names n before lists list commas depth d h e k = λ sets ts.
    ap (parted n 0) (all_held_more names sets before h ts) ∙ k sets (held names sets h ∷ ts)
    ∙ ap (λ a. all_args names sets lists ++ onto (all_held names sets list) a)
    (parted_at commas depth (held names sets h) ts ∙ ap (λ o. by_part commas (held names sets h) ts o depth) (e sets))
    ∙ ap (λ a. all_args names sets lists ++ a) (onto_more (all_held names sets list) (held names sets h) (parted commas d ts))
    ∙ ap (λ l. all_args names sets lists ++ onto l (parted commas d ts)) (sym (map-append (λ x. held names sets x) list (h ∷ [])))

parting_parts : (names : List Text) (n : ℕ) (before : List Held) (lists : List (List Held)) (list : List Held) (commas depth : ℕ) (h : Held)
    → ((sets : Sets) → part_at commas depth (held names sets h) ≡ None) → IsParting names n before lists list commas depth
    → IsParting names n (before ++ h ∷ []) (lists ++ list ∷ []) [] (commas - 1) depth
parting_parts names n before lists list commas depth h e k = λ sets ts.
    ap (parted n 0) (all_held_more names sets before h ts) ∙ k sets (held names sets h ∷ ts)
    ∙ ap (λ a. all_args names sets lists ++ onto (all_held names sets list) a)
    (parted_at commas depth (held names sets h) ts ∙ ap (λ o. by_part commas (held names sets h) ts o depth) (e sets))
    ∙ ap (λ a. all_args names sets lists ++ a) (onto_new (all_held names sets list) (parted (commas - 1) depth ts))
    ∙ sym (append_assoc (all_args names sets lists) (all_held names sets list ∷ []) (parted (commas - 1) depth ts))
    ∙ ap (λ l. l ++ parted (commas - 1) depth ts) (sym (map-append (all_held names sets) lists (list ∷ [])))

parting_ends : (names : List Text) (n : ℕ) (inside : List Held) (lists : List (List Held)) (list : List Held) (commas depth : ℕ) → IsParting names n inside lists list commas depth
    → (sets : Sets) → all_args names sets (lists ++ list ∷ []) ≡ parted n 0 (all_held names sets inside)
parting_ends names n inside lists list commas depth k = λ sets. sym (
    ap (parted n 0) (sym (append-nil (all_held names sets inside))) ∙ k sets []
    ∙ ap (λ a. all_args names sets lists ++ a) (onto_new (all_held names sets list) [])
    ∙ sym (map-append (all_held names sets) lists (list ∷ [])))

ended_more : (lists : List (List Held)) (list : List Held) → ended (lists ++ list ∷ []) ≡ ended lists ++ (tokens list ++ slot.End ∷ [])
ended_more [] list = refl
ended_more (l ∷ lists) list = ap (λ x. tokens l ++ slot.End ∷ x) (ended_more lists list) ∙ sym (append_assoc (tokens l) (slot.End ∷ ended lists) (tokens list ++ slot.End ∷ []))

set_mid : {A : Type 0} (pre : List A) (r v : A) (rs : List A) → set (pre ++ r ∷ rs) (length pre) v ≡ pre ++ v ∷ rs
set_mid [] r v rs = refl
set_mid (p ∷ pre) r v rs = ap (λ l. p ∷ l) (set_mid pre r v rs)

pub get_mid : {A : Type 0} (pre : List A) (r : A) (rs : List A) → slice_get (pre ++ r ∷ rs) (length pre) ≡ Some r
get_mid [] r rs = refl
get_mid (p ∷ pre) r rs = get_mid pre r rs

-- The slots are parted up to a place.
abbrev pub PartedHere : List Text → ℕ → List Slot → ℕ → List (List Held) → List Held → ℕ → ℕ → Slot → Slot → Slot → List Held → List Slot → Type 0
PartedHere names n slots i lists list commas depth a b end inside rest =
    (before left : List Held) × (inside ≡ before ++ left) × (2 + length before ≡ i) × (length (ended lists ++ tokens list) ≡ length before)
    × (slots ≡ a ∷ b ∷ ((ended lists ++ tokens list) ++ (tokens left ++ end ∷ rest))) × IsParting names n before lists list commas depth × All (All (IsAmong inside)) lists × All (IsAmong inside) list
    × ((ended lists ++ tokens list) ++ parted_slots names commas depth left ≡ parted_slots names n 0 inside)

abbrev pub IsPartedTo : List Text → ℕ → List Slot → List Slot → ℕ → ℕ → List (List Held) → List Held → ℕ → ℕ → Type 0
IsPartedTo names n initial slots close i lists list commas depth =
    (a b end : Slot) (inside : List Held) (rest : List Slot) → initial ≡ a ∷ b ∷ (tokens inside ++ end ∷ rest) → close ≡ 2 + length inside
    → PartedHere names n slots i lists list commas depth a b end inside rest

pub parted_first : (names : List Text) (n : ℕ) (slots : List Slot) (close : ℕ) → IsPartedTo names n slots slots close 2 [] [] n 0
parted_first names n slots close = λ a b end inside rest e f. ([], inside, refl, refl, refl, e, λ sets ts. refl, All-nil (All (IsAmong inside)), All-nil (IsAmong inside), refl)

module _ (names : List Text) (n : ℕ) (slots : List Slot) (i : ℕ) (lists : List (List Held)) (list : List Held) (commas depth : ℕ) (a b end : Slot) (inside : List Held) (rest : List Slot) (close : ℕ) (f : close ≡ 2 + length inside) where
  abbrev Here : Type 0
  Here = PartedHere names n slots i lists list commas depth a b end inside rest

  at_token : (before left : List Held) (h : Held) → 2 + length before ≡ i → length (ended lists ++ tokens list) ≡ length before
      → slots ≡ a ∷ b ∷ ((ended lists ++ tokens list) ++ (slot.Token h ∷ (tokens left ++ end ∷ rest))) → slice_get slots i ≡ Some (slot.Token h)
  at_token before left h q r s =
      ap (λ l. slice_get l i) s
      ∙ ap (slice_get (a ∷ b ∷ ((ended lists ++ tokens list) ++ (slot.Token h ∷ (tokens left ++ end ∷ rest))))) (let x : i ≡ suc (suc (length (ended lists ++ tokens list))) = omega arith in x)
      ∙ get_mid (ended lists ++ tokens list) (slot.Token h) (tokens left ++ end ∷ rest)

  token_of_here : i < close → Here → IsTokenAt slots i
  token_of_here lt (before, [], p, q, r, s, t, u, v, w) = let l = ap length p in let m = length-append before [] in absurd (omega (arith, l, m, f, lt))
  token_of_here lt (before, h ∷ left, p, q, r, s, t, u, v, w) = (h, at_token before left h q r s)

  more_of : (before left : List Held) (h : Held) → inside ≡ before ++ h ∷ left → inside ≡ (before ++ h ∷ []) ++ left
  more_of before left h p = p ∙ sym (append_assoc before (h ∷ []) left)

  longer : (before : List Held) (h : Held) → length (before ++ h ∷ []) ≡ length before + 1
  longer before h = length-append before (h ∷ [])

  among : (before left : List Held) (h : Held) → inside ≡ before ++ h ∷ left → IsAmong inside h
  among before left h p = (length before, ap (λ l. slice_get l (length before)) p ∙ get_mid before h left)

  pub here_stays : (h : Held) (d : ℕ) → i < close → slice_get slots i ≡ Some (slot.Token h) → ((sets : Sets) → part_at commas depth (held names sets h) ≡ Some d) → Here
      → PartedHere names n slots (i + 1) lists (list ++ h ∷ []) commas d a b end inside rest
  here_stays h d lt g e (before, [], p, q, r, s, t, u, v, w) = let l = ap length p in let m = length-append before [] in absurd (omega (arith, l, m, f, lt))
  here_stays h d lt g e (before, x ∷ left, p, q, r, s, t, u, v, z) =
      let same : slot.Token x ≡ slot.Token h = by (sym (at_token before left x q r s) ∙ g) in
      let w : x ≡ h = token_same x h same in (
        before ++ h ∷ [],
        left,
        more_of before left h (p ∙ ap (λ y. before ++ y ∷ left) w),
        (let l = longer before h in omega (arith, l)),
        ap length (ap (λ l. ended lists ++ l) (tokens_append list (h ∷ [])) ∙ sym (append_assoc (ended lists) (tokens list) (slot.Token h ∷ []))) ∙ length-append (ended lists ++ tokens list) (slot.Token h ∷ []) ∙ ap (λ k. k + 1) r ∙ sym (longer before h),
        s ∙ ap (λ y. a ∷ b ∷ ((ended lists ++ tokens list) ++ (y ∷ (tokens left ++ end ∷ rest)))) same
            ∙ ap (λ l. a ∷ b ∷ l) (sym (append_assoc (ended lists ++ tokens list) (slot.Token h ∷ []) (tokens left ++ end ∷ rest))
            ∙ ap (λ l. l ++ (tokens left ++ end ∷ rest)) (append_assoc (ended lists) (tokens list) (slot.Token h ∷ []) ∙ ap (λ l. ended lists ++ l) (sym (tokens_append list (h ∷ []))))),
        parting_stays names n before lists list commas depth d h e t,
        u,
        All-append (IsAmong inside) list (h ∷ []) v (All-cons (IsAmong inside) h [] (among before left h (p ∙ ap (λ y. before ++ y ∷ left) w)) (All-nil (IsAmong inside))),
        ap (λ l. l ++ parted_slots names commas d left) (ap (λ l. ended lists ++ l) (tokens_append list (h ∷ [])) ∙ sym (append_assoc (ended lists) (tokens list) (slot.Token h ∷ [])))
            ∙ append_assoc (ended lists ++ tokens list) (slot.Token h ∷ []) (parted_slots names commas d left)
            ∙ ap (λ l. (ended lists ++ tokens list) ++ l) (sym (ap (part_slot h (parted_slots names (commas - 1) depth left) (λ y. parted_slots names commas y left)) (e [])) ∙ ap (λ y. parted_slots names commas depth (y ∷ left)) (sym w))
            ∙ z,
      ) where
        by : {x y : Slot} → Some x ≡ Some y → x ≡ y
        by e = cc

        token_same : (x y : Held) → slot.Token x ≡ slot.Token y → x ≡ y
        token_same x y e = cc

  pub here_parts : (h : Held) → i < close → slice_get slots i ≡ Some (slot.Token h) → ((sets : Sets) → part_at commas depth (held names sets h) ≡ None) → Here
      → PartedHere names n (set slots i slot.End) (i + 1) (lists ++ list ∷ []) [] (commas - 1) depth a b end inside rest
  here_parts h lt g e (before, [], p, q, r, s, t, u, v, w) = let l = ap length p in let m = length-append before [] in absurd (omega (arith, l, m, f, lt))
  here_parts h lt g e (before, x ∷ left, p, q, r, s, t, u, v, z) =
      let same : slot.Token x ≡ slot.Token h = by (sym (at_token before left x q r s) ∙ g) in
      let w : x ≡ h = token_same x h same in
      let grown : (ended lists ++ tokens list) ++ slot.End ∷ [] ≡ ended (lists ++ list ∷ []) ++ [] = append_assoc (ended lists) (tokens list) (slot.End ∷ []) ∙ sym (ended_more lists list) ∙ sym (append-nil (ended (lists ++ list ∷ []))) in (
        before ++ h ∷ [],
        left,
        more_of before left h (p ∙ ap (λ y. before ++ y ∷ left) w),
        (let l = longer before h in omega (arith, l)),
        ap length (sym grown) ∙ length-append (ended lists ++ tokens list) (slot.End ∷ []) ∙ ap (λ k. k + 1) r ∙ sym (longer before h),
        ap (λ l. set l i slot.End) s
            ∙ ap (λ k. set (a ∷ b ∷ ((ended lists ++ tokens list) ++ (slot.Token x ∷ (tokens left ++ end ∷ rest)))) k slot.End) (let y : i ≡ suc (suc (length (ended lists ++ tokens list))) = omega arith in y)
            ∙ ap (λ l. a ∷ b ∷ l) (set_mid (ended lists ++ tokens list) (slot.Token x) slot.End (tokens left ++ end ∷ rest)
            ∙ sym (append_assoc (ended lists ++ tokens list) (slot.End ∷ []) (tokens left ++ end ∷ rest)) ∙ ap (λ l. l ++ (tokens left ++ end ∷ rest)) grown),
        parting_parts names n before lists list commas depth h e t,
        All-append (All (IsAmong inside)) lists (list ∷ []) u (All-cons (All (IsAmong inside)) list [] v (All-nil (All (IsAmong inside)))),
        All-nil (IsAmong inside),
        ap (λ l. l ++ parted_slots names (commas - 1) depth left) (sym grown) ∙ append_assoc (ended lists ++ tokens list) (slot.End ∷ []) (parted_slots names (commas - 1) depth left)
            ∙ ap (λ l. (ended lists ++ tokens list) ++ l) (sym (ap (part_slot h (parted_slots names (commas - 1) depth left) (λ y. parted_slots names commas y left)) (e [])) ∙ ap (λ y. parted_slots names commas depth (y ∷ left)) (sym w))
            ∙ z,
      ) where
        by : {x y : Slot} → Some x ≡ Some y → x ≡ y
        by e = cc

        token_same : (x y : Held) → slot.Token x ≡ slot.Token y → x ≡ y
        token_same x y e = cc

  pub here_ends : i ≡ close → Here → ArePartedAt names n a b inside rest (lists ++ list ∷ []) (set slots i slot.End)
  here_ends c (before, x ∷ left, p, q, r, s, t, u, v, w) = let l = ap length p in let m = length-append before (x ∷ left) in absurd (omega (arith, l, m, f, c))
  here_ends c (before, [], p, q, r, s, t, u, v, w) = (
    ap (λ l. set l i slot.End) s
        ∙ ap (λ k. set (a ∷ b ∷ ((ended lists ++ tokens list) ++ end ∷ rest)) k slot.End) (let y : i ≡ suc (suc (length (ended lists ++ tokens list))) = omega arith in y)
        ∙ ap (λ l. a ∷ b ∷ l) (set_mid (ended lists ++ tokens list) end slot.End rest
        ∙ sym (append_assoc (ended lists ++ tokens list) (slot.End ∷ []) rest) ∙ ap (λ l. l ++ rest) (append_assoc (ended lists) (tokens list) (slot.End ∷ []) ∙ sym (ended_more lists list))),
    parting_ends names n inside lists list commas depth (subst (λ l. IsParting names n l lists list commas depth) (sym (p ∙ append-nil before)) t),
    All-append (All (IsAmong inside)) lists (list ∷ []) u (All-cons (All (IsAmong inside)) list [] v (All-nil (All (IsAmong inside)))),
    ap length (ended_more lists list ∙ sym (append_assoc (ended lists) (tokens list) (slot.End ∷ []))) ∙ length-append (ended lists ++ tokens list) (slot.End ∷ [])
        ∙ (let l = ap length p in let m = length-append before [] in let x : length (ended lists ++ tokens list) + 1 ≡ suc (length inside) = omega (arith, r, l, m) in x),
    ended_more lists list ∙ sym (append_assoc (ended lists) (tokens list) (slot.End ∷ [])) ∙ ap (λ l. l ++ slot.End ∷ []) (sym (append-nil (ended lists ++ tokens list)) ∙ w),
  )

  -- the place is one of the slots
  pub here_within : i ≤ close → Here → i < length slots
  here_within le (before, [], p, q, r, s, t, u, v, w) =
      let l = ap length s in let m = length-append (ended lists ++ tokens list) (end ∷ rest) in omega (arith, l, m, r, q)
  here_within le (before, x ∷ left, p, q, r, s, t, u, v, w) =
      let l = ap length s in let m = length-append (ended lists ++ tokens list) (slot.Token x ∷ (tokens left ++ end ∷ rest)) in omega (arith, l, m, r, q)

  -- from here on nothing is changed
  pub here_same : (initial : List Slot) → initial ≡ a ∷ b ∷ (tokens inside ++ end ∷ rest) → Here → drop i initial ≡ drop i slots
  here_same initial e (before, left, p, q, r, s, t, u, v, w) =
      let left_over : (initial2 : List Slot) (hs : List Slot) → initial2 ≡ a ∷ b ∷ (hs ++ (tokens left ++ end ∷ rest)) → length hs ≡ length before → drop i initial2 ≡ tokens left ++ end ∷ rest = λ initial2 hs x y.
      ap (drop i) x ∙ drop_at (a ∷ b ∷ hs) (tokens left ++ end ∷ rest) i (omega (arith, y, q)) in
      left_over initial (tokens before) (e ∙ ap (λ l. a ∷ b ∷ (tokens l ++ end ∷ rest)) p ∙ ap (λ l. a ∷ b ∷ (l ++ end ∷ rest)) (tokens_append before left) ∙ ap (λ l. a ∷ b ∷ l) (append_assoc (tokens before) (tokens left) (end ∷ rest))) (length_tokens before)
      ∙ sym (left_over slots (ended lists ++ tokens list) s r)

-- the token at a place before the end
pub token_here : (names : List Text) (n : ℕ) (initial slots : List Slot) (close i : ℕ) (lists : List (List Held)) (list : List Held) (commas depth : ℕ)
    → IsCallAt initial close → i < close → IsPartedTo names n initial slots close i lists list commas depth → IsTokenAt slots i
token_here names n initial slots close i lists list commas depth (a, b, end, inside, rest, e, f) lt k =
    token_of_here names n slots i lists list commas depth a b end inside rest close f lt (k a b end inside rest e f)

pub within_here : (names : List Text) (n : ℕ) (initial slots : List Slot) (close i : ℕ) (lists : List (List Held)) (list : List Held) (commas depth : ℕ)
    → IsCallAt initial close → i ≤ close → IsPartedTo names n initial slots close i lists list commas depth → i < length slots
within_here names n initial slots close i lists list commas depth (a, b, end, inside, rest, e, f) le k =
    here_within names n slots i lists list commas depth a b end inside rest close f le (k a b end inside rest e f)

pub same_here : (names : List Text) (n : ℕ) (initial slots : List Slot) (close i : ℕ) (lists : List (List Held)) (list : List Held) (commas depth : ℕ)
    → IsCallAt initial close → IsPartedTo names n initial slots close i lists list commas depth → drop i initial ≡ drop i slots
same_here names n initial slots close i lists list commas depth (a, b, end, inside, rest, e, f) k =
    here_same names n slots i lists list commas depth a b end inside rest close f initial e (k a b end inside rest e f)

-- The same, where of the lists what is wanted is kept.
abbrev pub IsKeptTo : List Text → ℕ → (ℕ → Bool) → List Slot → List Slot → ℕ → ℕ → List (List Held) → List Held → ℕ → ℕ → Type 0
IsKeptTo names n whole initial slots close i lists list commas depth =
    (all : List (List Held)) × (last : List Held) × IsPartedTo names n initial slots close i all last commas depth × (lists ≡ all_kept whole 0 all) × (list ≡ kept (whole (length all)) last)

pub kept_first : (names : List Text) (n : ℕ) (whole : ℕ → Bool) (slots : List Slot) (close : ℕ) → IsKeptTo names n whole slots slots close 2 [] [] n 0
kept_first names n whole slots close = ([], [], parted_first names n slots close, refl, sym (kept_none (whole 0)))

length_lists : (p : Parting) (whole : ℕ → Bool) (all : List (List Held)) → lists_of p ≡ all_kept whole 0 all → length p.lists.items ≡ length all
length_lists p whole all e = sym (length_map (λ v. v.items) p.lists.items) ∙ ap length e ∙ length_all_kept whole 0 all

pub parted_more : (names : List Text) (n : ℕ) (whole : ℕ → Bool) (initial slots slots2 : List Slot) (close i : ℕ) (old new : Parting) (parts : Bool) (h : Held)
    → i < close → slice_get slots i ≡ Some (slot.Token h) → IsTaken names whole h old new parts → slots2 ≡ (if parts then set slots i slot.End else slots)
    → IsKeptTo names n whole initial slots close i (lists_of old) old.list.items old.commas old.depth
    → IsKeptTo names n whole initial slots2 close (i + 1) (lists_of new) new.list.items new.commas new.depth
parted_more names n whole initial slots slots2 close i old new true h lt g t e (all, last, k, p, q) = (
  all ++ last ∷ [],
  [],
  (λ a b end inside rest x f. rw (e, t.3, t.4) (here_parts names n slots i all last old.commas old.depth a b end inside rest close f h lt g t.0 (k a b end inside rest x f))),
  t.1 ∙ ap (λ l. l ++ old.list.items ∷ []) p ∙ ap (λ l. all_kept whole 0 all ++ l ∷ []) q ∙ sym (all_kept_last whole all last),
  t.2 ∙ sym (kept_none (whole (length (all ++ last ∷ [])))),
)
parted_more names n whole initial slots slots2 close i old new false h lt g t e (all, last, k, p, q) = (
  all,
  last ++ h ∷ [],
  (λ a b end inside rest x f. rw (e, t.3) (here_stays names n slots i all last old.commas old.depth a b end inside rest close f h new.depth lt g t.0 (k a b end inside rest x f))),
  t.1 ∙ p,
  t.2 ∙ ap (λ m. kept_more (whole m) old.list.items h) (length_lists old whole all p) ∙ ap (λ l. kept_more (whole (length all)) l h) q ∙ kept_one_more (whole (length all)) last h,
)

pub call_place : (initial : List Slot) (close : ℕ) → IsCallAt initial close → 2 ≤ close
call_place initial close (a, b, end, inside, rest, e, f) = omega arith

pub parted_ends : (names : List Text) (n : ℕ) (whole : ℕ → Bool) (initial slots slots2 : List Slot) (close i : ℕ) (p : Parting) (lists : List (List Held)) → i ≡ close → slots2 ≡ set slots close slot.End → lists ≡ lists_of p ++ p.list.items ∷ []
    → IsKeptTo names n whole initial slots close i (lists_of p) p.list.items p.commas p.depth
    → (a b end : Slot) (inside : List Held) (rest : List Slot) → initial ≡ a ∷ b ∷ (tokens inside ++ end ∷ rest) → close ≡ 2 + length inside → AreKeptAt names n whole a b inside rest lists slots2
parted_ends names n whole initial slots slots2 close i p lists c e g (all, last, k, u, v) a b end inside rest x f = (
  all ++ last ∷ [],
  rw (e, sym c) (here_ends names n slots i all last p.commas p.depth a b end inside rest close f c (k a b end inside rest x f)),
  g ∙ ap (λ l. l ++ p.list.items ∷ []) u ∙ ap (λ l. all_kept whole 0 all ++ l ∷ []) v ∙ sym (all_kept_last whole all last),
)
