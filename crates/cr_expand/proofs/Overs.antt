-- A group that is passed over where a call's tokens are parted.
use Rattle.std.proofs.Common.{◌≡◌, ℕ, zero, suc, ◌+◌, ◌-◌, ◌<◌, ◌≤◌, Bool, true, false, List, [], ◌∷◌, ◌++◌, length, map, drop, set, refl, sym, ap, subst, ◌∙◌, arith, append_assoc, append-nil, length-append, Option, Some, None}
use Rattle.std.specs.Prelude.{codes, ◌==◌, ◌&&◌, nat_le, nat_lt, if◌then◌else◌, slice_get}
use Rattle.std.proofs.lemmas.Bool.Decides.{nat_tests}
use Rattle.cr_expand.specs.declared.held.Held.{Held}
use Rattle.cr_expand.specs.declared.slot.Slot.{Slot}
use Rattle.cr_expand.specs.declared.slot.Slot.TheVariants as slot
use Rattle.cr_expand.specs.declared.parting.Parting.{Parting}
use Rattle.cr_macros.specs.Tokens.{Text, Token, is_mark}
use Rattle.cr_expand.specs.Held.{held}
use Rattle.cr_expand.specs.Slots.{tokens}
use Rattle.cr_expand.specs.Calls.{nested, shown, depth_after, part_at, IsInside}
use Rattle.cr_expand.specs.Groups.{IsGroup, IsSpanAt}
use Rattle.cr_expand.specs.Wanted.{kept, kept_more}
use Rattle.cr_expand.specs.Partings.{lists_of, IsTaken}
use Rattle.cr_expand.proofs.Depths.{by_marks, same_some, depth_first, no_close, no_open}
use Rattle.cr_expand.proofs.Closes.{drop_drop, behind_tokens, span_known}
use Rattle.cr_expand.proofs.Wholes.{length_all_kept}
use Rattle.cr_expand.proofs.PartedLists.{PartedHere, IsKeptTo, here_stays, parted_more}

abbrev pub by_parts : Bool → Bool → Bool → ℕ → Option ℕ
by_parts opens closes parts depth = if opens then Some (depth + 1) else if closes then Some (depth - 1) else if parts then None else Some depth

parts_cases : (o c p : Bool) (k m d : ℕ) → (o ≡ true → c ≡ false) → p ≡ false → by_marks c o m ≡ Some d → by_parts o c p (suc k + m) ≡ Some (suc k + d)
parts_cases true true p k m d x q e = absurd (let y = x refl in let z : ⊥ = cc in z)
parts_cases true false p k m d x q e = let y = same_some (suc m) d e in let z : suc k + m + 1 ≡ suc k + d = omega (arith, y) in ap (λ v. Some v) z
parts_cases false true p k zero d x q e = absurd (let z : ⊥ = cc in z)
parts_cases false true p k (suc m) d x q e = let y = same_some m d e in let z : suc k + suc m - 1 ≡ suc k + d = omega (arith, y) in ap (λ v. Some v) z
parts_cases false false true k m d x q e = absurd (let z : ⊥ = cc in z)
parts_cases false false false k m d x q e = ap (λ v. Some (suc k + v)) (same_some m d e)

no_part : (a b c : Bool) → b ≡ false → ((a && b) && c) ≡ false
no_part true true c e = absurd (let z : ⊥ = cc in z)
no_part true false c e = refl
no_part false b c e = refl

-- inside a group the depth goes on as it does in a search
pub part_deeper : (t : Token) (n k m d : ℕ) → nested t m ≡ Some d → part_at n (suc k + m) t ≡ Some (suc k + d)
part_deeper t n k m d e =
    parts_cases (is_mark (codes "(") t) (is_mark (codes ")") t) (is_mark (codes ",") t && (suc k + m) == 0 && nat_le 1 n) k m d (no_close t)
    (no_part (is_mark (codes ",") t) ((suc k + m) == 0) (nat_le 1 n) (let z : ((suc k + m) == 0) ≡ false = grind (arith, nat_tests) in z)) e

part_open : (t : Token) (n depth : ℕ) → is_mark (codes "(") t ≡ true → part_at n depth t ≡ Some (depth + 1)
part_open t n depth o = ap (λ b. by_parts b (is_mark (codes ")") t) (is_mark (codes ",") t && depth == 0 && nat_le 1 n) depth) o

pub part_close : (t : Token) (n depth : ℕ) → is_mark (codes ")") t ≡ true → part_at n depth t ≡ Some (depth - 1)
part_close t n depth c =
    ap (λ b. by_parts b (is_mark (codes ")") t) (is_mark (codes ",") t && depth == 0 && nat_le 1 n) depth) (no_open t c)
    ∙ ap (λ b. by_parts false b (is_mark (codes ",") t && depth == 0 && nat_le 1 n) depth) c

get_first : (slots rest : List Slot) (i : ℕ) (s : Slot) → drop i slots ≡ s ∷ rest → slice_get slots i ≡ Some s
get_first [] rest zero s e = absurd (let z : ⊥ = cc in z)
get_first [] rest (suc i) s e = absurd (let z : ⊥ = cc in z)
get_first (x ∷ slots) rest zero s e = let f : x ≡ s = cc in ap (λ y. Some y) f
get_first (x ∷ slots) rest (suc i) s e = get_first slots rest i s e

module _ (names : List Text) (n : ℕ) (slots : List Slot) (lists : List (List Held)) (commas : ℕ) (a b end : Slot) (inside : List Held) (rest : List Slot) (close : ℕ) (f : close ≡ 2 + length inside) (k : ℕ) where
  abbrev At : ℕ → List Held → ℕ → Type 0
  At i list depth = PartedHere names n slots i lists list commas depth a b end inside rest

  -- tokens inside a group
  over_tokens : (hs : List Held) (tail : List Slot) (i m d depth : ℕ) (list : List Held) → drop i slots ≡ tokens hs ++ tail → i + length hs ≤ close → depth ≡ suc k + m → depth_after names hs m ≡ Some d
      → At i list depth → At (i + length hs) (list ++ hs) (suc k + d)
  over_tokens [] tail i m d depth list e le p q h =
      subst (λ x. At x (list ++ []) (suc k + d)) (let z : i ≡ i + 0 = omega arith in z)
      (subst (λ l. At i l (suc k + d)) (sym (append-nil list)) (subst (At i list) (p ∙ ap (λ x. suc k + x) (same_some m d q)) h))
  over_tokens (x ∷ hs) tail i m d depth list e le p q h =
      let o = depth_first names x hs m d q in
      let lt : i < close = omega (arith, le) in
      let one = here_stays names n slots i lists list commas depth a b end inside rest close f x (suc k + o.0) lt (get_first slots (tokens hs ++ tail) i (slot.Token x) e)
      (λ sets. ap (λ y. part_at commas y (held names sets x)) p ∙ part_deeper (held names sets x) commas k m o.0 o.1) h in
      let all = over_tokens hs tail (i + 1) o.0 d (suc k + o.0) (list ++ x ∷ []) (drop_drop i 1 slots ∙ ap (drop 1) e) (let z : i + 1 + length hs ≤ close = omega (arith, le) in z) refl o.2 one in
      subst (λ y. At y (list ++ x ∷ hs) (suc k + d)) (let z : i + 1 + length hs ≡ i + suc (length hs) = omega arith in z)
      (subst (λ l. At (i + 1 + length hs) l (suc k + d)) (append_assoc list (x ∷ []) hs) all)

  -- a group whose `(` is taken
  over_group : (hs : List Held) (closes : Held) (tail : List Slot) (i j depth : ℕ) (list : List Held) → drop i slots ≡ tokens hs ++ slot.Token closes ∷ tail → IsInside names hs closes → i + length hs < close → depth ≡ suc k → j ≡ i + length hs + 1
      → At i list depth → At j (list ++ (hs ++ closes ∷ [])) k
  over_group hs closes tail i j depth list e w lt p g h =
      let z : suc k ≡ suc k + 0 = omega arith in
      let m = over_tokens hs (slot.Token closes ∷ tail) i 0 0 depth list e (omega (arith, lt)) (p ∙ z) w.0 h in
      let one = here_stays names n slots (i + length hs) lists (list ++ hs) commas (suc k + 0) a b end inside rest close f closes k lt
      (get_first slots tail (i + length hs) (slot.Token closes) (behind_tokens slots (slot.Token closes ∷ tail) hs i (i + length hs) e refl))
      (λ sets. part_close (held names sets closes) commas (suc k + 0) w.1 ∙ ap (λ x. Some x) (let y : suc k + 0 - 1 ≡ k = omega arith in y)) m in
      subst (λ x. At x (list ++ (hs ++ closes ∷ [])) k) (sym g) (subst (λ l. At (i + length hs + 1) l k) (append_assoc list hs (closes ∷ [])) one)

more_kept : (b : Bool) (list : List Held) (h : Held) → 0 < length (kept_more b list h)
more_kept true list h = let l = length-append list (h ∷ []) in omega (arith, l)
more_kept false [] h = omega arith
more_kept false (x ∷ list) h = omega arith

kept_first_of : (b : Bool) (last more : List Held) → b ≡ false → 0 < length (kept b last) → kept b last ≡ kept b (last ++ more)
kept_first_of true last more e h = absurd (let z : ⊥ = cc in z)
kept_first_of false [] more e h = absurd (omega (arith, h))
kept_first_of false (x ∷ last) more e h = refl

-- the same where the group of the token that was taken is passed over
over_kept : (names : List Text) (n : ℕ) (whole : ℕ → Bool) (initial slots : List Slot) (close i j k : ℕ) (lists : List (List Held)) (list hs : List Held) (closes : Held) (tail : List Slot) (commas depth : ℕ)
    → drop i slots ≡ tokens hs ++ slot.Token closes ∷ tail → IsInside names hs closes → i + length hs < close → depth ≡ suc k → j ≡ i + length hs + 1 → whole (length lists) ≡ false → 0 < length list
    → IsKeptTo names n whole initial slots close i lists list commas depth → IsKeptTo names n whole initial slots close j lists list commas k
over_kept names n whole initial slots close i j k lists list hs closes tail commas depth e w lt p g not_whole some (all, last, x, u, v) = (
  all,
  last ++ (hs ++ closes ∷ []),
  (λ a b end inside rest y f. over_group names n slots all commas a b end inside rest close f k hs closes tail i j depth last e w lt p g (x a b end inside rest y f)),
  u,
  v ∙ kept_first_of (whole (length all)) last (hs ++ closes ∷ []) (ap whole (sym (ap length u ∙ length_all_kept whole 0 all)) ∙ not_whole) (subst (λ l. 0 < length l) v some),
)

-- the token that was taken is the `(`
first_token : (slots rest : List Slot) (i : ℕ) (h opens : Held) → slice_get slots i ≡ Some (slot.Token h) → drop i slots ≡ slot.Token opens ∷ rest → opens ≡ h
first_token slots rest i h opens g t = let x = sym (get_first slots rest i (slot.Token opens) t) ∙ g in cc

length_map : {A B : Type 0} (f : A → B) (xs : List A) → length (map f xs) ≡ length xs
length_map f [] = refl
length_map f (x ∷ xs) = ap suc (length_map f xs)

group_taken : (names : List Text) (n : ℕ) (whole : ℕ → Bool) (initial slots slots2 rest : List Slot) (close i j span : ℕ) (old new : Parting) (parts : Bool) (h opens : Held)
    → i < close → slice_get slots i ≡ Some (slot.Token h) → IsTaken names whole h old new parts → slots2 ≡ (if parts then set slots i slot.End else slots)
    → drop i slots ≡ slot.Token opens ∷ rest → is_mark (codes "(") (shown names opens) ≡ true → IsGroup names rest span → i + span < close → whole (length old.lists.items) ≡ false → j ≡ i + (span + 1)
    → IsKeptTo names n whole initial slots close i (lists_of old) old.list.items old.commas old.depth
    → IsKeptTo names n whole initial slots2 close j (lists_of new) new.list.items new.commas old.depth
group_taken names n whole initial slots slots2 rest close i j span old new true h opens lt g t e d o (hs, closes, tail, x, y, w) le not_whole q k =
    let z = sym (part_open (held names [] h) old.commas old.depth (subst (λ s. is_mark (codes "(") (shown names s) ≡ true) (first_token slots rest i h opens g d) o)) ∙ t.0 [] in absurd (let v : ⊥ = cc in v)
group_taken names n whole initial slots slots2 rest close i j span old new false h opens lt g t e d o (hs, closes, tail, x, y, w) le not_whole q k =
    let z = sym (t.0 []) ∙ part_open (held names [] h) old.commas old.depth (subst (λ s. is_mark (codes "(") (shown names s) ≡ true) (first_token slots rest i h opens g d) o) in
    let one = parted_more names n whole initial slots slots2 close i old new false h lt g t e k in
    over_kept names n whole initial slots2 close (i + 1) j old.depth (lists_of new) new.list.items hs closes tail new.commas new.depth
    (ap (drop (i + 1)) e ∙ drop_drop i 1 slots ∙ ap (drop 1) d ∙ x) w (omega (arith, le, y)) (same_some new.depth (suc old.depth) (z ∙ ap (λ v. Some v) (let v : old.depth + 1 ≡ suc old.depth = omega arith in v))) (omega (arith, q, y))
    (ap whole (ap length t.1 ∙ length_map (λ v. v.items) old.lists.items) ∙ not_whole) (subst (λ l. 0 < length l) (sym t.2) (more_kept (whole (length old.lists.items)) old.list.items h)) one

positive : (n : ℕ) → nat_lt 0 (suc n) ≡ true
positive n = grind (arith, nat_tests)

pub parted_past : (names : List Text) (n : ℕ) (whole : ℕ → Bool) (initial slots slots2 : List Slot) (close i j span depth : ℕ) (old new : Parting) (parts : Bool) (h : Held)
    → i < close → slice_get slots i ≡ Some (slot.Token h) → IsTaken names whole h old new parts → slots2 ≡ (if parts then set slots i slot.End else slots)
    → IsSpanAt names slots i span → (0 < span → (i + span < close) × (whole (length old.lists.items) ≡ false)) → j ≡ i + (span + 1) → depth ≡ (if nat_lt 0 span then old.depth else new.depth)
    → IsKeptTo names n whole initial slots close i (lists_of old) old.list.items old.commas old.depth
    → IsKeptTo names n whole initial slots2 close j (lists_of new) new.list.items new.commas depth
parted_past names n whole initial slots slots2 close i j zero depth old new parts h lt g t e s w q d k =
    let x : i + 1 ≡ j = omega (arith, q) in
    subst (λ y. IsKeptTo names n whole initial slots2 close j (lists_of new) new.list.items new.commas y) (sym d)
    (subst (λ y. IsKeptTo names n whole initial slots2 close y (lists_of new) new.list.items new.commas new.depth) x (parted_more names n whole initial slots slots2 close i old new parts h lt g t e k))
parted_past names n whole initial slots slots2 close i j (suc span) depth old new parts h lt g t e s w q d k =
    let o = span_known names slots i (suc span) s (omega arith) in
    let v = w (omega arith) in
    subst (λ y. IsKeptTo names n whole initial slots2 close j (lists_of new) new.list.items new.commas y) (sym (d ∙ ap (λ x. if x then old.depth else new.depth) (positive span)))
    (group_taken names n whole initial slots slots2 o.1 close i j (suc span) old new parts h o.0 lt g t e o.2 o.3 o.4 v.0 v.1 q k)

-- the depth and the place are in their bounds
pub past_depth : (span i before behind depth close : ℕ) (whole : Bool) → i < close → before ≤ i → behind ≤ before + 1 → (0 < span → (i + span < close) × (whole ≡ false)) → depth ≡ (if nat_lt 0 span then before else behind)
    → (depth ≤ i + (span + 1)) × (i + (span + 1) ≤ close)
past_depth zero i before behind depth close whole lt s t w d = (omega (arith, d, s, t), omega (arith, lt))
past_depth (suc span) i before behind depth close whole lt s t w d =
    let v = w (omega arith) in
    let e : depth ≡ before = d ∙ ap (λ x. if x then before else behind) (positive span) in
    (omega (arith, e, s), omega (arith, v.0))
