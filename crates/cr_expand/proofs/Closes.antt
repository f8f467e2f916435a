-- Where a call's arguments end, token by token.
use Rattle.std.proofs.Common.{◌≡◌, ℕ, zero, suc, ◌+◌, ◌<◌, ◌≤◌, Bool, true, false, cond, List, [], ◌∷◌, ◌++◌, length, drop, get_or, refl, sym, ap, ◌∙◌, arith, append_assoc, append-nil, length-append, Option, Some, None, ◌⊎◌, inl, inr}
use Rattle.std.specs.Prelude.{codes}
use Rattle.std.proofs.lemmas.List.{map-append, get_or_default, drop_at, drop_all, length-drop}
use Rattle.cr_expand.specs.declared.held.Held.{Held}
use Rattle.cr_expand.specs.declared.slot.Slot.{Slot}
use Rattle.cr_expand.specs.declared.slot.Slot.TheVariants as slot
use Rattle.cr_expand.specs.declared.closing.Close.{Close}
use Rattle.cr_expand.specs.declared.closing.Close.TheVariants as close
use Rattle.cr_macros.specs.Tokens.{Text, Token, is_mark}
use Rattle.cr_macros.specs.Expansion.{found_after, closed_by, to_close}
use Rattle.cr_expand.specs.HideSets.{Sets}
use Rattle.cr_expand.specs.Held.{held, all_held}
use Rattle.cr_expand.specs.Slots.{tokens}
use Rattle.cr_expand.specs.declared.closing.Search.{Search}
use Rattle.cr_expand.specs.Calls.{one_less, nested, shown, depth_after, IsInside, IsClosed, IsFound, IsSearched, IsEndAt}
use Rattle.cr_expand.specs.Groups.{IsGroup, IsSpanAt}
use Rattle.cr_expand.proofs.Bodies.{cut_at}
use Rattle.cr_expand.proofs.Depths.{depth_first, depth_joined, depth_single, depth_group, same_some, nested_none, nested_close}

-- what `to_close` finds
abbrev Found : Type 0
Found = Option (List Token × Token × List Token)

-- what was found, with more before it
abbrev found_behind : List Token → Found → Found
found_behind before None = None
found_behind before (Some p) = Some (before ++ p.0, p.1, p.2)

after_behind : (t : Token) (before : List Token) (o : Found) → found_after t (found_behind before o) ≡ found_behind (t ∷ before) o
after_behind t before None = refl
after_behind t before (Some p) = refl

behind_nothing : (o : Found) → o ≡ found_behind [] o
behind_nothing None = refl
behind_nothing (Some p) = refl

abbrev by_nested : Token → List Token → Option ℕ → Found
by_nested t ts None = Some ([], t, ts)
by_nested t ts (Some d) = found_after t (to_close d ts)

close_cases : (t : Token) (ts : List Token) (depth : ℕ) (b : Bool)
    → cond b (closed_by t ts (λ d. to_close d ts) depth) (found_after t (to_close (cond (is_mark (codes "(") t) (suc depth) depth) ts))
    ≡ by_nested t ts (cond b (one_less depth) (Some (cond (is_mark (codes "(") t) (suc depth) depth)))
close_cases t ts zero true = refl
close_cases t ts (suc depth) true = refl
close_cases t ts depth false = refl

close_nested : (t : Token) (ts : List Token) (depth : ℕ) → to_close depth (t ∷ ts) ≡ by_nested t ts (nested t depth)
close_nested t ts depth = close_cases t ts depth (is_mark (codes ")") t)

-- what is found behind tokens, by their depth
passes : (names : List Text) (sets : Sets) (hs : List Held) (d e : ℕ) (ts : List Token) → depth_after names hs d ≡ Some e → to_close d (all_held names sets hs ++ ts) ≡ found_behind (all_held names sets hs) (to_close e ts)
passes names sets [] d e ts h = ap (λ x. to_close x ts) (same_some d e h) ∙ behind_nothing (to_close e ts)
passes names sets (h ∷ hs) d e ts p =
    let f = depth_first names h hs d e p in
    close_nested (held names sets h) (all_held names sets hs ++ ts) d
    ∙ ap (by_nested (held names sets h) (all_held names sets hs ++ ts)) f.1
    ∙ ap (found_after (held names sets h)) (passes names sets hs f.0 e ts f.2)
    ∙ after_behind (held names sets h) (all_held names sets hs) (to_close e ts)

at_close : (names : List Text) (sets : Sets) (inside : List Held) (h : Held) (ts : List Token) → IsInside names inside h
    → to_close 0 (all_held names sets inside ++ held names sets h ∷ ts) ≡ Some (all_held names sets inside, held names sets h, ts)
at_close names sets inside h ts i =
    passes names sets inside 0 0 (held names sets h ∷ ts) i.0
    ∙ ap (found_behind (all_held names sets inside)) (close_nested (held names sets h) ts 0 ∙ ap (by_nested (held names sets h) ts) (nested_close (held names sets h) 0 i.1))
    ∙ ap (λ l. Some (l, held names sets h, ts)) (append-nil (all_held names sets inside))

at_end : (names : List Text) (sets : Sets) (inside : List Held) (depth : ℕ) → depth_after names inside 0 ≡ Some depth → to_close 0 (all_held names sets inside) ≡ None
at_end names sets inside depth k = ap (to_close 0) (sym (append-nil (all_held names sets inside))) ∙ passes names sets inside 0 depth [] k

pub length_tokens : (hs : List Held) → length (tokens hs) ≡ length hs
length_tokens [] = refl
length_tokens (h ∷ hs) = ap suc (length_tokens hs)

pub tokens_append : (hs ks : List Held) → tokens (hs ++ ks) ≡ tokens hs ++ tokens ks
tokens_append hs ks = map-append (λ h. slot.Token h) hs ks

pub drop_drop : {A : Type 0} (n k : ℕ) (xs : List A) → drop (n + k) xs ≡ drop k (drop n xs)
drop_drop zero k xs = ap (λ m. drop m xs) (let e : 0 + k ≡ k = omega arith in e)
drop_drop (suc n) k [] = ap (λ m. drop m []) (let e : suc n + k ≡ suc (n + k) = omega arith in e) ∙ sym (drop_all k [] (omega arith))
drop_drop (suc n) k (x ∷ xs) = ap (λ m. drop m (x ∷ xs)) (let e : suc n + k ≡ suc (n + k) = omega arith in e) ∙ drop_drop n k xs

-- the slots behind tokens
pub behind_tokens : (slots rest : List Slot) (hs : List Held) (start i : ℕ) → drop start slots ≡ tokens hs ++ rest → start + length hs ≡ i → drop i slots ≡ rest
behind_tokens slots rest hs start i e l =
    ap (λ n. drop n slots) (sym l) ∙ drop_drop start (length hs) slots ∙ ap (drop (length hs)) e ∙ drop_at (tokens hs) rest (length hs) (length_tokens hs)

-- the slots from a place on
pub from_place : (slots : List Slot) (i : ℕ) (x : Slot) → i < length slots → get_or slots i slot.End ≡ x → drop i slots ≡ x ∷ drop (i + 1) slots
from_place slots i x lt g = cut_at slots i slot.End lt ∙ ap (λ s. s ∷ drop (i + 1) slots) g

pub found_first : (names : List Text) (slots : List Slot) (start : ℕ) → IsFound names slots start start 0
found_first names slots start = ([], drop start slots, refl, (let e : start + 0 ≡ start = omega arith in e), refl)

found_tokens : (names : List Text) (slots tail : List Slot) (start i j depth d : ℕ) (hs : List Held) → IsFound names slots start i depth → drop i slots ≡ tokens hs ++ tail → depth_after names hs depth ≡ Some d → j ≡ i + length hs
    → IsFound names slots start j d
found_tokens names slots tail start i j depth d hs (inside, rest, e, l, k) t n f = (
  inside ++ hs,
  tail,
  e ∙ ap (λ r. tokens inside ++ r) (sym (behind_tokens slots rest inside start i e l) ∙ t) ∙ sym (append_assoc (tokens inside) (tokens hs) tail) ∙ ap (λ r. r ++ tail) (sym (tokens_append inside hs)),
  (let m = length-append inside hs in omega (arith, m, l, f)),
  depth_joined names inside hs 0 depth d k n,
)

pub found_more : (names : List Text) (slots : List Slot) (start i depth d : ℕ) (h : Held) → IsFound names slots start i depth → i < length slots → get_or slots i slot.End ≡ slot.Token h
    → nested (shown names h) depth ≡ Some d → IsFound names slots start (i + 1) d
found_more names slots start i depth d h k lt g n =
    found_tokens names slots (drop (i + 1) slots) start i (i + 1) depth d (h ∷ []) k (from_place slots i (slot.Token h) lt g) (depth_single names h depth d n) refl

pub found_group : (names : List Text) (slots rest : List Slot) (start i j depth span : ℕ) (opens : Held) → IsFound names slots start i depth → drop i slots ≡ slot.Token opens ∷ rest → is_mark (codes "(") (shown names opens) ≡ true → IsGroup names rest span → j ≡ i + span + 1
    → IsFound names slots start j depth
found_group names slots rest start i j depth span opens k t o (inside, closes, tail, e, s, w) f =
    found_tokens names slots tail start i j depth depth (opens ∷ (inside ++ closes ∷ [])) k
    (t ∙ ap (λ r. slot.Token opens ∷ r) (e ∙ sym (append_assoc (tokens inside) (slot.Token closes ∷ []) tail) ∙ ap (λ r. r ++ tail) (sym (tokens_append inside (closes ∷ [])))))
    (depth_group names opens closes inside depth o w)
    (let m = length-append inside (closes ∷ []) in omega (arith, m, s, f))

-- a group ends among the slots
pub group_within : (names : List Text) (slots rest : List Slot) (i span : ℕ) (opens : Held) → drop i slots ≡ slot.Token opens ∷ rest → IsGroup names rest span → i + span < length slots
group_within names slots rest i span opens t (inside, closes, tail, e, s, w) =
    let a = ap length t in let b = length-drop i slots in let c = ap length e in let d = length-append (tokens inside) (slot.Token closes ∷ tail) in let f = length_tokens inside in omega (arith, a, b, c, d, f, s)

-- where a group is known, it is one
pub span_known : (names : List Text) (slots : List Slot) (i span : ℕ) → IsSpanAt names slots i span → 0 < span
    → (opens : Held) × (rest : List Slot) × (drop i slots ≡ slot.Token opens ∷ rest) × (is_mark (codes "(") (shown names opens) ≡ true) × IsGroup names rest span
span_known names slots i span k h = elim k [ inl z ↦ absurd (omega (arith, z, h)) | inr g ↦ g ]

pub found_known : (names : List Text) (slots : List Slot) (start i j depth span : ℕ) → IsFound names slots start i depth → IsSpanAt names slots i span → 0 < span → j ≡ i + span + 1 → IsFound names slots start j depth
found_known names slots start i j depth span k s h f =
    let g = span_known names slots i span s h in found_group names slots g.1 start i j depth span g.0 k g.2 g.3 g.4 f

pub known_within : (names : List Text) (slots : List Slot) (i span : ℕ) → IsSpanAt names slots i span → 0 < span → i + span < length slots
known_within names slots i span s h = let g = span_known names slots i span s h in group_within names slots g.1 i span g.0 g.2 g.4

pub end_close : (names : List Text) (slots : List Slot) (start i depth : ℕ) (h : Held) → IsFound names slots start i depth → i < length slots → get_or slots i slot.End ≡ slot.Token h
    → nested (shown names h) depth ≡ None → IsEndAt names slots start (close.At i)
end_close names slots start i depth h (inside, rest, e, l, k) lt g n =
    let z = nested_none (shown names h) depth n in (
      inside,
      h,
      drop (i + 1) slots,
      e ∙ ap (λ r. tokens inside ++ r) (sym (behind_tokens slots rest inside start i e l) ∙ from_place slots i (slot.Token h) lt g),
      sym l,
      (k ∙ ap (λ x. Some x) z.1, z.0),
    )

pub end_missing : (names : List Text) (slots : List Slot) (start i depth : ℕ) → IsFound names slots start i depth → i < length slots → get_or slots i slot.End ≡ slot.End → IsEndAt names slots start close.Missing
end_missing names slots start i depth (inside, rest, e, l, k) lt g =
    (inside, depth, drop (i + 1) slots, e ∙ ap (λ r. tokens inside ++ r) (sym (behind_tokens slots rest inside start i e l) ∙ from_place slots i slot.End lt g), k)

pub end_not_yet : (names : List Text) (slots : List Slot) (start i depth : ℕ) → IsFound names slots start i depth → length slots ≤ i → IsEndAt names slots start close.NotYet
end_not_yet names slots start i depth (inside, rest, e, l, k) le =
    (inside, depth, e ∙ ap (λ r. tokens inside ++ r) (sym (behind_tokens slots rest inside start i e l) ∙ drop_all i slots le) ∙ append-nil (tokens inside), k)

-- what stands at a place
pub here : (slots : List Slot) (i : ℕ) (x y : Slot) → i < length slots → x ≡ get_or slots i x → x ≡ y → get_or slots i slot.End ≡ y
here slots i x y h e f = sym (get_or_default slots i x slot.End h) ∙ sym e ∙ f

-- the end of a call at the head
pub closed_call : (names : List Text) (sets : Sets) (slots : List Slot) (c : Close) → 2 ≤ length slots → IsEndAt names slots 2 c → IsClosed names sets slots c
closed_call names sets [] c h k = absurd (omega arith)
closed_call names sets (a ∷ []) c h k = absurd (omega arith)
closed_call names sets (a ∷ b ∷ rest) (close.At n) h (inside, closes, tail, e, l, w) = (a, b, inside, closes, tail, ap (λ r. a ∷ b ∷ r) e, l, (λ ts. at_close names sets inside closes ts w), w)
closed_call names sets (a ∷ b ∷ rest) close.Missing h (inside, depth, tail, e, k) = (a, b, inside, tail, ap (λ r. a ∷ b ∷ r) e, at_end names sets inside depth k)
closed_call names sets (a ∷ b ∷ rest) close.NotYet h (inside, depth, e, k) = (a, b, inside, ap (λ r. a ∷ b ∷ r) e, at_end names sets inside depth k)

-- the end of a group that is known
pub known_call : (names : List Text) (slots rest : List Slot) (span n : ℕ) (opens : Held) → drop 1 slots ≡ slot.Token opens ∷ rest → IsGroup names rest span → n ≡ 1 + span → IsEndAt names slots 2 (close.At n)
known_call names slots rest span n opens t (inside, closes, tail, e, s, w) f =
    (inside, closes, tail, drop_drop 1 1 slots ∙ ap (drop 1) t ∙ e, (omega (arith, s, f)), w)

pub searched_first : (names : List Text) (slots : List Slot) (s : Search) → (s.at ≡ 2) × (s.depth ≡ 0) → IsSearched names slots s
searched_first names slots s e = (omega (arith, e), inl e)

pub searched_found : (names : List Text) (slots : List Slot) (s : Search) → IsSearched names slots s → IsFound names slots 2 s.at s.depth
searched_found names slots s k = elim k.1 [
  | inl e ↦ rw (e.0, e.1) (found_first names slots 2)
  | inr f ↦ f
]

found_fed : (names : List Text) (slots more : List Slot) (s : Search) → IsFound names slots 2 s.at s.depth → 2 ≤ length slots → IsFound names (slots ++ more) 2 s.at s.depth
found_fed names [] more s k h = absurd (omega arith)
found_fed names (a ∷ []) more s k h = absurd (omega arith)
found_fed names (a ∷ b ∷ slots) more s (inside, rest, e, l, k) h = (inside, rest ++ more, ap (λ l. l ++ more) e ∙ append_assoc (tokens inside) rest more, l, k)

short_found : (names : List Text) (slots : List Slot) (s : Search) → IsFound names slots 2 s.at s.depth → length slots < 2 → (s.at ≡ 2) × (s.depth ≡ 0)
short_found names slots s (inside, rest, e, l, k) h =
    let f : inside ≡ [] = none inside (ap length (sym e ∙ drop_all 2 slots (omega (arith, h)))) in
    ((let g = ap length f in omega (arith, l, g)), sym (same_some 0 s.depth (sym (ap (λ i. depth_after names i 0) f) ∙ k))) where
      none : (inside : List Held) → length (tokens inside ++ rest) ≡ 0 → inside ≡ []
      none [] e = refl
      none (h ∷ hs) e = absurd (omega (arith, e))

pub searched_fed : (names : List Text) (slots more : List Slot) (s : Search) → IsSearched names slots s → IsSearched names (slots ++ more) s
searched_fed names slots more s k = elim k.1 [
  | inl e ↦ (k.0, inl e)
  | inr f ↦ (k.0, by (length slots) refl f)
] where
  by : (n : ℕ) → n ≡ length slots → IsFound names slots 2 s.at s.depth → ((s.at ≡ 2) × (s.depth ≡ 0)) ⊎ IsFound names (slots ++ more) 2 s.at s.depth
  by zero e f = inl (short_found names slots s f (omega (arith, e)))
  by (suc zero) e f = inl (short_found names slots s f (omega (arith, e)))
  by (suc (suc n)) e f = inr (found_fed names slots more s f (omega (arith, e)))
