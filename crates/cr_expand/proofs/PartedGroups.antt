-- Ends in the place of commas and of the `)` change no group that is known.
use Rattle.std.proofs.Common.{◌≡◌, ℕ, zero, suc, ◌+◌, ◌-◌, Bool, true, false, List, [], ◌∷◌, ◌++◌, refl, sym, ap, subst, ◌∙◌, arith, append_assoc, Option, Some, None, ◌⊎◌, inl, inr}
use Rattle.std.specs.Prelude.{codes, ◌==◌, ◌&&◌, nat_le}
use Rattle.cr_expand.specs.declared.held.Held.{Held}
use Rattle.cr_expand.specs.declared.slot.Slot.{Slot}
use Rattle.cr_expand.specs.declared.slot.Slot.TheVariants as slot
use Rattle.cr_macros.specs.Tokens.{Text, Token, is_mark}
use Rattle.cr_expand.specs.Slots.{tokens}
use Rattle.cr_expand.specs.Calls.{nested, shown, depth_after, part_at, part_slot, parted_slots}
use Rattle.cr_expand.specs.Groups.{IsSpan, AreGroups}
use Rattle.cr_expand.proofs.Depths.{by_marks, same_some, depth_first, nested_deeper, nested_open, no_close}
use Rattle.cr_expand.proofs.Spans.{groups_none}
use Rattle.cr_expand.proofs.Overs.{by_parts, part_deeper, part_close}

parts_by : (o c p : Bool) (d m : ℕ) → (o ≡ true → c ≡ false) → by_marks c o d ≡ Some m → (by_parts o c p d ≡ Some m) ⊎ ((by_parts o c p d ≡ None) × (d ≡ m))
parts_by true true p d m x e = absurd (let y = x refl in let z : ⊥ = cc in z)
parts_by true false p d m x e = let y = same_some (suc d) m e in let z : d + 1 ≡ m = omega (arith, y) in inl (ap (λ v. Some v) z)
parts_by false true p zero m x e = absurd (let z : ⊥ = cc in z)
parts_by false true p (suc d) m x e = let y = same_some d m e in let z : suc d - 1 ≡ m = omega (arith, y) in inl (ap (λ v. Some v) z)
parts_by false false true d m x e = inr (refl, same_some d m e)
parts_by false false false d m x e = inl e

-- a token that parts nothing leaves the depth of a search; a comma that parts leaves it as it is
part_by : (t : Token) (n d m : ℕ) → nested t d ≡ Some m → (part_at n d t ≡ Some m) ⊎ ((part_at n d t ≡ None) × (d ≡ m))
part_by t n d m e = parts_by (is_mark (codes "(") t) (is_mark (codes ")") t) (is_mark (codes ",") t && d == 0 && nat_le 1 n) d m (no_close t) e

token_first : (x y : Held) (xs ys : List Slot) → slot.Token x ∷ xs ≡ slot.Token y ∷ ys → (x ≡ y) × (xs ≡ ys)
token_first x y xs ys e = (cc, cc)

-- a group that begins among tokens that close a `(` before it ends among them
within : (names : List Text) (hs inside : List Held) (closes end : Held) (rest tail : List Slot) (e j : ℕ) → tokens hs ++ slot.Token end ∷ rest ≡ tokens inside ++ slot.Token closes ∷ tail
    → depth_after names inside e ≡ Some 0 → depth_after names hs (suc j + e) ≡ Some 0 → (more : List Held) × (hs ≡ inside ++ closes ∷ more)
within names [] inside closes end rest tail e j s a b = absurd (let z = same_some (suc j + e) 0 b in omega (arith, z))
within names (x ∷ hs) [] closes end rest tail e j s a b = let t = token_first x closes (tokens hs ++ slot.Token end ∷ rest) tail s in (hs, ap (λ y. y ∷ hs) t.0)
within names (x ∷ hs) (y ∷ inside) closes end rest tail e j s a b =
    let t = token_first x y (tokens hs ++ slot.Token end ∷ rest) (tokens inside ++ slot.Token closes ∷ tail) s in
    let f = depth_first names y inside e 0 a in
    let g = depth_first names x hs (suc j + e) 0 b in
    let d : nested (shown names x) (suc j + e) ≡ Some (suc j + f.0) = ap (λ h. nested (shown names h) (suc j + e)) t.0 ∙ nested_deeper (shown names y) (suc j) e f.0 f.1 in
    let m : g.0 ≡ suc j + f.0 = same_some g.0 (suc j + f.0) (sym g.1 ∙ d) in
    let r = within names hs inside closes end rest tail f.0 j t.1 f.2 (subst (λ n. depth_after names hs n ≡ Some 0) m g.2) in
    (r.0, ap (λ h. h ∷ hs) t.0 ∙ ap (λ l. y ∷ l) r.1)

-- inside a group nothing is parted
parted_inside : (names : List Text) (inside more : List Held) (closes : Held) (n d m : ℕ) → depth_after names inside m ≡ Some 0 → is_mark (codes ")") (shown names closes) ≡ true
    → parted_slots names n (suc d + m) (inside ++ closes ∷ more) ≡ tokens inside ++ slot.Token closes ∷ parted_slots names n d more
parted_inside names [] more closes n d m a c =
    ap (λ x. parted_slots names n (suc d + x) (closes ∷ more)) (same_some m 0 a)
    ∙ ap (part_slot closes (parted_slots names (n - 1) (suc d + 0) more) (λ x. parted_slots names n x more)) (part_close (shown names closes) n (suc d + 0) c ∙ ap (λ x. Some x) (let y : suc d + 0 - 1 ≡ d = omega arith in y))
parted_inside names (x ∷ inside) more closes n d m a c =
    let f = depth_first names x inside m 0 a in
    ap (part_slot x (parted_slots names (n - 1) (suc d + m) (inside ++ closes ∷ more)) (λ y. parted_slots names n y (inside ++ closes ∷ more))) (part_deeper (shown names x) n d m f.0 f.1)
    ∙ ap (λ l. slot.Token x ∷ l) (parted_inside names inside more closes n d f.0 f.2 c)

span_parted : (names : List Text) (n d m g : ℕ) (h end : Held) (hs : List Held) (rest : List Slot) → nested (shown names h) d ≡ Some m → depth_after names hs m ≡ Some 0
    → IsSpan names (tokens hs ++ slot.Token end ∷ rest) g (slot.Token h) → IsSpan names (parted_slots names n m hs ++ slot.End ∷ rest) g (slot.Token h)
span_parted names n d m g h end hs rest a b k = λ o. elim (k o) [
  | inl z ↦ inl z
  | inr (inside, closes, tail, e, s, w) ↦
      let q : m ≡ suc d = same_some m (suc d) (sym a ∙ nested_open (shown names h) d o) in
      let z : suc d ≡ suc d + 0 = omega arith in
      let r = within names hs inside closes end rest tail 0 d e w.0 (subst (λ x. depth_after names hs x ≡ Some 0) (q ∙ z) b) in
      inr (
        inside,
        closes,
        parted_slots names n d r.0 ++ slot.End ∷ rest,
        ap (λ l. l ++ slot.End ∷ rest) (ap (λ x. parted_slots names n x hs) (q ∙ z) ∙ ap (parted_slots names n (suc d + 0)) r.1 ∙ parted_inside names inside r.0 closes n d 0 w.0 w.1)
            ∙ append_assoc (tokens inside) (slot.Token closes ∷ parted_slots names n d r.0) (slot.End ∷ rest),
        s,
        w,
      )
]

pub groups_parted : (names : List Text) (inside : List Held) (end : Held) (rest : List Slot) (groups : List ℕ) (n d : ℕ) → depth_after names inside d ≡ Some 0
    → AreGroups names (tokens inside ++ slot.Token end ∷ rest) groups → AreGroups names (parted_slots names n d inside ++ slot.End ∷ rest) groups
groups_parted names [] end rest [] n d a k = tt
groups_parted names [] end rest (g ∷ groups) n d a k = (tt, k.1)
groups_parted names (h ∷ hs) end rest [] n d a k = groups_none names (parted_slots names n d (h ∷ hs) ++ slot.End ∷ rest)
groups_parted names (h ∷ hs) end rest (g ∷ groups) n d a k =
    let f = depth_first names h hs d 0 a in
    let go : Option ℕ → Type 0 = λ o. AreGroups names (part_slot h (parted_slots names (n - 1) d hs) (λ x. parted_slots names n x hs) o ++ slot.End ∷ rest) (g ∷ groups) in
    elim (part_by (shown names h) n d f.0 f.1) [
      | inl p ↦ subst go (sym p) (span_parted names n d f.0 g h end hs rest f.1 f.2 k.0, groups_parted names hs end rest groups n f.0 f.2 k.1)
      | inr p ↦ subst go (sym p.0) (tt, groups_parted names hs end rest groups (n - 1) d (subst (λ x. depth_after names hs x ≡ Some 0) (sym p.1) f.2) k.1)
    ]
