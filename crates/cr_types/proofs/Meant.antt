-- What the types of a list mean, and that types of one meaning have one number.
use Rattle.std.proofs.Common.{◌≡◌, ◌⊎◌, inl, inr, ℕ, zero, suc, ◌+◌, ◌<◌, ◌≤◌, Some, List, [], ◌∷◌, ◌++◌, length, get_or, slice_get, Contains, refl, sym, ap, subst, ◌∙◌, arith, add-zero, length-append}
use Rattle.std.proofs.Math.Seq.{get_or-append_seam}
use Rattle.std.proofs.lemmas.List.{get_or_append_left}
use Rattle.std.proofs.lemmas.Option.{slice_get_within, slice_get-get_or, get_or_from_slice_get}
use Rattle.cr_types.specs.declared.Ty.{Ty}
use Rattle.cr_types.specs.declared.Ty.TheVariants as ty
use Rattle.cr_types.specs.declared.Part.{Part}
use Rattle.cr_types.specs.declared.Part.TheVariants as part
use Rattle.cr_types.specs.declared.TypeNo.{TypeNo}
use Rattle.cr_types.specs.declared.Record.{Record}
use Rattle.cr_types.specs.Types.{CType, Void, Arith, Mixed, Ptr, Arr, Fun, Rec, IsBelow, Keeps, meant, meant_after, derived, derived_by}
use Rattle.cr_types.specs.Kept.{IsTable, Puts, derivation, DerivesIn}

pub length-meant_after : (cs : List CType) (xs : List Ty) → length (meant_after cs xs) ≡ length cs + length xs
length-meant_after cs [] = sym (add-zero (length cs))
length-meant_after cs (x ∷ xs) =
    let h : length (meant_after (cs ++ meant cs x ∷ []) xs) ≡ length (cs ++ meant cs x ∷ []) + length xs = length-meant_after (cs ++ meant cs x ∷ []) xs in
    let k : length (cs ++ meant cs x ∷ []) ≡ length cs + 1 = length-append cs (meant cs x ∷ []) in
    omega arith

-- a type at the end means what its parts do
pub meant_after-end : (cs : List CType) (xs : List Ty) (x : Ty) → meant_after cs (xs ++ x ∷ []) ≡ meant_after cs xs ++ meant (meant_after cs xs) x ∷ []
meant_after-end cs [] x = refl
meant_after-end cs (y ∷ xs) x = meant_after-end (cs ++ meant cs y ∷ []) xs x

pub meant_after_keeps : (cs : List CType) (xs : List Ty) (i : ℕ) → i < length cs → get_or (meant_after cs xs) i Void ≡ get_or cs i Void
meant_after_keeps cs [] i h = refl
meant_after_keeps cs (x ∷ xs) i h =
    let k : length (cs ++ meant cs x ∷ []) ≡ length cs + 1 = length-append cs (meant cs x ∷ []) in
    meant_after_keeps (cs ++ meant cs x ∷ []) xs i (omega arith) ∙ get_or_append_left cs (meant cs x ∷ []) Void i h

-- where the parts mean the same, the whole does
pub meant_same : (cs ds : List CType) (n m : ℕ) → ((k : ℕ) → k < n → get_or cs k Void ≡ get_or ds k Void) → (x : Ty) → IsBelow n m x → meant cs x ≡ meant ds x
meant_same cs ds n m same ty.Void h = refl
meant_same cs ds n m same ty.Arith h = refl
meant_same cs ds n m same (ty.Ptr k) h = ap Ptr (same k.0 h)
meant_same cs ds n m same (ty.Arr k) h = ap Arr (same k.0 h)
meant_same cs ds n m same (ty.Fun k) h = ap Fun (same k.0 h)
meant_same cs ds n m same (ty.Rec r) h = refl
meant_same cs ds n m same ty.Mixed h = refl

pub meant_at : (cs : List CType) (xs : List Ty) (m i : ℕ) (x : Ty) → slice_get xs i ≡ Some x → IsBelow (length cs + i) m x → get_or (meant_after cs xs) (length cs + i) Void ≡ meant (meant_after cs xs) x
meant_at cs [] m i x at h = cc
meant_at cs (y ∷ xs) m zero x at h =
    let same : y ≡ x = cc in
    let k : length (cs ++ meant cs y ∷ []) ≡ length cs + 1 = length-append cs (meant cs y ∷ []) in
    let z : length cs + 0 ≡ length cs = add-zero (length cs) in
    let b : IsBelow (length cs) m x = (let P : ℕ → Type 0 = λ n. IsBelow n m x in subst P z h) in
    ap (λ n. get_or (meant_after (cs ++ meant cs y ∷ []) xs) n Void) z
    ∙ meant_after_keeps (cs ++ meant cs y ∷ []) xs (length cs) (omega arith)
    ∙ get_or-append_seam cs (meant cs y) [] Void
    ∙ ap (meant cs) same
    ∙ meant_same cs (meant_after (cs ++ meant cs y ∷ []) xs) (length cs) m
    (λ j g. sym (meant_after_keeps (cs ++ meant cs y ∷ []) xs j (omega arith) ∙ get_or_append_left cs (meant cs y ∷ []) Void j g)) x b
meant_at cs (y ∷ xs) m (suc i) x at h =
    let ds : List CType = cs ++ meant cs y ∷ [] in
    let k : length ds ≡ length cs + 1 = length-append cs (meant cs y ∷ []) in
    let e : length ds + i ≡ length cs + suc i = omega arith in
    let b : IsBelow (length ds + i) m x = (let P : ℕ → Type 0 = λ n. IsBelow n m x in subst P (sym e) h) in
    ap (λ n. get_or (meant_after ds xs) n Void) (sym e) ∙ meant_at ds xs m i x at b

-- what a type is by its meaning
pub from_void : (cs : List CType) (x : Ty) → meant cs x ≡ Void → x ≡ ty.Void
from_void cs ty.Void e = refl
from_void cs ty.Arith e = cc
from_void cs (ty.Ptr k) e = cc
from_void cs (ty.Arr k) e = cc
from_void cs (ty.Fun k) e = cc
from_void cs (ty.Rec r) e = cc
from_void cs ty.Mixed e = cc

pub from_arith : (cs : List CType) (x : Ty) → meant cs x ≡ Arith → x ≡ ty.Arith
from_arith cs ty.Void e = cc
from_arith cs ty.Arith e = refl
from_arith cs (ty.Ptr k) e = cc
from_arith cs (ty.Arr k) e = cc
from_arith cs (ty.Fun k) e = cc
from_arith cs (ty.Rec r) e = cc
from_arith cs ty.Mixed e = cc

pub from_mixed : (cs : List CType) (x : Ty) → meant cs x ≡ Mixed → x ≡ ty.Mixed
from_mixed cs ty.Void e = cc
from_mixed cs ty.Arith e = cc
from_mixed cs (ty.Ptr k) e = cc
from_mixed cs (ty.Arr k) e = cc
from_mixed cs (ty.Fun k) e = cc
from_mixed cs (ty.Rec r) e = cc
from_mixed cs ty.Mixed e = refl

pub from_pointer : (cs : List CType) (x : Ty) (c : CType) → meant cs x ≡ Ptr c → (k : TypeNo) × (x ≡ ty.Ptr k) × (get_or cs k.0 Void ≡ c)
from_pointer cs ty.Void c e = cc
from_pointer cs ty.Arith c e = cc
from_pointer cs (ty.Ptr k) c e = (k, refl, cc)
from_pointer cs (ty.Arr k) c e = cc
from_pointer cs (ty.Fun k) c e = cc
from_pointer cs (ty.Rec r) c e = cc
from_pointer cs ty.Mixed c e = cc

pub from_array : (cs : List CType) (x : Ty) (c : CType) → meant cs x ≡ Arr c → (k : TypeNo) × (x ≡ ty.Arr k) × (get_or cs k.0 Void ≡ c)
from_array cs ty.Void c e = cc
from_array cs ty.Arith c e = cc
from_array cs (ty.Ptr k) c e = cc
from_array cs (ty.Arr k) c e = (k, refl, cc)
from_array cs (ty.Fun k) c e = cc
from_array cs (ty.Rec r) c e = cc
from_array cs ty.Mixed c e = cc

pub from_function : (cs : List CType) (x : Ty) (c : CType) → meant cs x ≡ Fun c → (k : TypeNo) × (x ≡ ty.Fun k) × (get_or cs k.0 Void ≡ c)
from_function cs ty.Void c e = cc
from_function cs ty.Arith c e = cc
from_function cs (ty.Ptr k) c e = cc
from_function cs (ty.Arr k) c e = cc
from_function cs (ty.Fun k) c e = (k, refl, cc)
from_function cs (ty.Rec r) c e = cc
from_function cs ty.Mixed c e = cc

pub from_record : (cs : List CType) (x : Ty) (n : ℕ) → meant cs x ≡ Rec n → x ≡ ty.Rec (record { 0 = n })
from_record cs ty.Void n e = cc
from_record cs ty.Arith n e = cc
from_record cs (ty.Ptr k) n e = cc
from_record cs (ty.Arr k) n e = cc
from_record cs (ty.Fun k) n e = cc
from_record cs (ty.Rec r) n e = let k : r.0 ≡ n = cc in ap (λ z. ty.Rec (record { 0 = z })) k
from_record cs ty.Mixed n e = cc

pub same_number : (k l : TypeNo) → k.0 ≡ l.0 → k ≡ l
same_number k l e = ap (λ z. record { 0 = z }) e

module _ (xs : List Ty) (m : ℕ) (is : IsTable xs m) where
  abbrev pub cs : List CType
  cs = meant_after [] xs

  pub at_is : (i : ℕ) (x : Ty) → slice_get xs i ≡ Some x → get_or cs i Void ≡ meant cs x
  at_is i x at =
      let z : 0 + i ≡ i = omega arith in
      let b : IsBelow (0 + i) m x = (let P : ℕ → Type 0 = λ n. IsBelow n m x in subst P (sym z) (is.earlier i x at)) in
      ap (λ n. get_or cs n Void) (sym z) ∙ meant_at [] xs m i x at b

  -- parts are within the table
  pub parts_within : (i : ℕ) (x : Ty) → slice_get xs i ≡ Some x → IsBelow (length xs) m x
  parts_within i x at = by x (is.earlier i x at) (slice_get_within xs i x at)
    where
      by : (x : Ty) → IsBelow i m x → i < length xs → IsBelow (length xs) m x
      by ty.Void h lt = h
      by ty.Arith h lt = h
      by (ty.Ptr k) h lt = omega arith
      by (ty.Arr k) h lt = omega arith
      by (ty.Fun k) h lt = omega arith
      by (ty.Rec r) h lt = h
      by ty.Mixed h lt = h

  -- one part of two types
  pub same_part : (c : CType) → ((i j : ℕ) (x y : Ty) → slice_get xs i ≡ Some x → slice_get xs j ≡ Some y → meant cs x ≡ c → meant cs y ≡ c → x ≡ y)
      → (k l : TypeNo) → k.0 < length xs → l.0 < length xs → get_or cs k.0 Void ≡ c → get_or cs l.0 Void ≡ c → k ≡ l
  same_part c same k l hk hl ek el =
      let x : Ty = get_or xs k.0 ty.Void in
      let y : Ty = get_or xs l.0 ty.Void in
      let ax : slice_get xs k.0 ≡ Some x = slice_get-get_or xs k.0 ty.Void hk in
      let ay : slice_get xs l.0 ≡ Some y = slice_get-get_or xs l.0 ty.Void hl in
      let e : x ≡ y = same k.0 l.0 x y ax ay (sym (at_is k.0 x ax) ∙ ek) (sym (at_is l.0 y ay) ∙ el) in
      same_number k l (is.distinct k.0 l.0 y (ax ∙ ap Some e) ay)

  -- two types of the table with one meaning are one
  pub same_type : (c : CType) (i j : ℕ) (x y : Ty) → slice_get xs i ≡ Some x → slice_get xs j ≡ Some y → meant cs x ≡ c → meant cs y ≡ c → x ≡ y
  same_type Void i j x y ax ay ex ey = from_void cs x ex ∙ sym (from_void cs y ey)
  same_type Arith i j x y ax ay ex ey = from_arith cs x ex ∙ sym (from_arith cs y ey)
  same_type Mixed i j x y ax ay ex ey = from_mixed cs x ex ∙ sym (from_mixed cs y ey)
  same_type (Ptr c) i j x y ax ay ex ey =
      let p : (k : TypeNo) × (x ≡ ty.Ptr k) × (get_or cs k.0 Void ≡ c) = from_pointer cs x c ex in
      let q : (k : TypeNo) × (y ≡ ty.Ptr k) × (get_or cs k.0 Void ≡ c) = from_pointer cs y c ey in
      let hp : IsBelow (length xs) m (ty.Ptr p.0) = subst (IsBelow (length xs) m) p.1 (parts_within i x ax) in
      let hq : IsBelow (length xs) m (ty.Ptr q.0) = subst (IsBelow (length xs) m) q.1 (parts_within j y ay) in
      p.1 ∙ ap ty.Ptr (same_part c (same_type c) p.0 q.0 hp hq p.2 q.2) ∙ sym q.1
  same_type (Arr c) i j x y ax ay ex ey =
      let p : (k : TypeNo) × (x ≡ ty.Arr k) × (get_or cs k.0 Void ≡ c) = from_array cs x c ex in
      let q : (k : TypeNo) × (y ≡ ty.Arr k) × (get_or cs k.0 Void ≡ c) = from_array cs y c ey in
      let hp : IsBelow (length xs) m (ty.Arr p.0) = subst (IsBelow (length xs) m) p.1 (parts_within i x ax) in
      let hq : IsBelow (length xs) m (ty.Arr q.0) = subst (IsBelow (length xs) m) q.1 (parts_within j y ay) in
      p.1 ∙ ap ty.Arr (same_part c (same_type c) p.0 q.0 hp hq p.2 q.2) ∙ sym q.1
  same_type (Fun c) i j x y ax ay ex ey =
      let p : (k : TypeNo) × (x ≡ ty.Fun k) × (get_or cs k.0 Void ≡ c) = from_function cs x c ex in
      let q : (k : TypeNo) × (y ≡ ty.Fun k) × (get_or cs k.0 Void ≡ c) = from_function cs y c ey in
      let hp : IsBelow (length xs) m (ty.Fun p.0) = subst (IsBelow (length xs) m) p.1 (parts_within i x ax) in
      let hq : IsBelow (length xs) m (ty.Fun q.0) = subst (IsBelow (length xs) m) q.1 (parts_within j y ay) in
      p.1 ∙ ap ty.Fun (same_part c (same_type c) p.0 q.0 hp hq p.2 q.2) ∙ sym q.1
  same_type (Rec n) i j x y ax ay ex ey = from_record cs x n ex ∙ sym (from_record cs y n ey)

  -- so no two numbers have one meaning
  pub one_number : (k l : TypeNo) → k.0 < length xs → l.0 < length xs → get_or cs k.0 Void ≡ get_or cs l.0 Void → k ≡ l
  one_number k l hk hl e = same_part (get_or cs l.0 Void) (same_type (get_or cs l.0 Void)) k l hk hl e refl

-- what stands in a list with one more at its end
pub at_end : (xs : List Ty) (x y : Ty) (i : ℕ) → slice_get (xs ++ x ∷ []) i ≡ Some y → (slice_get xs i ≡ Some y) ⊎ ((i ≡ length xs) × (y ≡ x))
at_end [] x y zero at = let e : x ≡ y = cc in inr (refl, sym e)
at_end [] x y (suc i) at = cc
at_end (z ∷ xs) x y zero at = inl at
at_end (z ∷ xs) x y (suc i) at = elim (at_end xs x y i at) [ inl h ↦ inl h | inr h ↦ inr (omega (arith, h.0), h.1) ]

pub slice_get_left : {A : Type 0} (xs ys : List A) (i : ℕ) → i < length xs → slice_get (xs ++ ys) i ≡ slice_get xs i
slice_get_left [] ys i h = absurd (omega arith)
slice_get_left (x ∷ xs) ys zero h = refl
slice_get_left (x ∷ xs) ys (suc i) h = slice_get_left xs ys i (omega arith)

pub contains_at : (xs : List Ty) (x : Ty) (i : ℕ) → slice_get xs i ≡ Some x → Contains xs x
contains_at xs x i at = (i, slice_get_within xs i x at, get_or_from_slice_get xs i x x at)

-- The table grows by one type at its end.
module _ (xs : List Ty) (m : ℕ) (x : Ty) (is : IsTable xs m) (below : IsBelow (length xs) m x) (new : Contains xs x → ⊥) where
  pub earlier_at : (i : ℕ) (y : Ty) → (slice_get xs i ≡ Some y) ⊎ ((i ≡ length xs) × (y ≡ x)) → IsBelow i m y
  earlier_at i y (inl h) = is.earlier i y h
  earlier_at i y (inr h) = subst (λ n. IsBelow n m y) (sym h.0) (subst (IsBelow (length xs) m) (sym h.1) below)

  pub distinct_at : (i j : ℕ) (y : Ty) → (slice_get xs i ≡ Some y) ⊎ ((i ≡ length xs) × (y ≡ x)) → (slice_get xs j ≡ Some y) ⊎ ((j ≡ length xs) × (y ≡ x)) → i ≡ j
  distinct_at i j y (inl h) (inl g) = is.distinct i j y h g
  distinct_at i j y (inl h) (inr g) = absurd (new (contains_at xs x i (h ∙ ap Some g.1)))
  distinct_at i j y (inr h) (inl g) = absurd (new (contains_at xs x j (g ∙ ap Some h.1)))
  distinct_at i j y (inr h) (inr g) = h.0 ∙ sym g.0

  pub grown_table : IsTable (xs ++ x ∷ []) m
  grown_table = record {
    earlier = λ i y at. earlier_at i y (at_end xs x y i at);
    distinct = λ i j y a b. distinct_at i j y (at_end xs x y i a) (at_end xs x y j b);
  }

-- the number n of the old list is one of the new list, for the same type
abbrev pub KeepsNumber : List Ty → List Ty → ℕ → Type 0
KeepsNumber xs ys n =
    (n < length ys) × (slice_get ys n ≡ slice_get xs n) × (get_or (meant_after [] ys) n Void ≡ get_or (meant_after [] xs) n Void)

pub grown_number : (xs : List Ty) (x : Ty) (n : ℕ) → n < length xs → KeepsNumber xs (xs ++ x ∷ []) n
grown_number xs x n h =
    let l : length (xs ++ x ∷ []) ≡ length xs + 1 = length-append xs (x ∷ []) in
    let c : length (meant_after [] xs) ≡ 0 + length xs = length-meant_after [] xs in
    let g : n < length (meant_after [] xs) = omega arith in (
      omega arith,
      slice_get_left xs (x ∷ []) n h,
      ap (λ cs. get_or cs n Void) (meant_after-end [] xs x) ∙ get_or_append_left (meant_after [] xs) (meant (meant_after [] xs) x ∷ []) Void n g,
    )

-- A type is put into a table.
module _ (xs : List Ty) (m : ℕ) (x : Ty) (ys : List Ty) (is : IsTable xs m) (below : IsBelow (length xs) m x) where
  pub put_table : Puts xs x ys → IsTable ys m
  put_table (inl h) = subst (λ zs. IsTable zs m) (sym h.1) is
  put_table (inr h) = subst (λ zs. IsTable zs m) (sym h.1) (grown_table xs m x is below h.0)

  pub put_number : Puts xs x ys → (n : ℕ) → n < length xs → KeepsNumber xs ys n
  put_number (inl h) n lt = subst (λ zs. KeepsNumber xs zs n) (sym h.1) (lt, refl, refl)
  put_number (inr h) n lt = subst (λ zs. KeepsNumber xs zs n) (sym h.1) (grown_number xs x n lt)

  pub put_meant : Puts xs x ys → (n : ℕ) → slice_get ys n ≡ Some x → get_or (meant_after [] ys) n Void ≡ meant (meant_after [] xs) x
  put_meant p n at =
      at_is ys m (put_table p) n x at
      ∙ meant_same (meant_after [] ys) (meant_after [] xs) (length xs) m (λ k h. (put_number p k h).2) x below

  pub put_numbers : Puts xs x ys → (n : ℕ) → slice_get ys n ≡ Some x → (slice_get ys n ≡ Some x) × ((j : TypeNo) → slice_get ys j.0 ≡ Some x → j ≡ record { 0 = n })
  put_numbers p n at = (at, λ j h. same_number j (record { 0 = n }) ((put_table p).distinct j.0 n x h at))

  pub put_keeps : Puts xs x ys → (rs : List Record) → Keeps (record { types = xs; records = rs }) (record { types = ys; records = rs })
  put_keeps p rs = record { types = λ n h. put_number p n.0 h; records = λ r h. (h, refl) }

-- a derived type of a list whose number is within it
pub below_derived : (xs : List Ty) (m : ℕ) (p : Part) (k : ℕ) → k < length xs → IsBelow (length xs) m (derivation p k)
below_derived xs m part.Pointer k h = h
below_derived xs m part.Array k h = h
below_derived xs m part.Function k h = h

pub meant_derived : (ds : List CType) (p : Part) (k : ℕ) → meant ds (derivation p k) ≡ derived p (get_or ds k Void)
meant_derived ds part.Pointer k = refl
meant_derived ds part.Array k = refl
meant_derived ds part.Function k = refl

-- what is kept while types are derived from the type with number b, and what the last is
pub record Derived (xs : List Ty) (m b : ℕ) (ps : List Part) (ys : List Ty) (n : ℕ) : Type 0 where
  pub table : IsTable ys m
  pub within : n < length ys
  pub kept : (k : ℕ) → k < length xs → KeepsNumber xs ys k
  pub meaning : get_or (meant_after [] ys) n Void ≡ derived_by ps (get_or (meant_after [] xs) b Void)

pub keeps_both : (xs ys zs : List Ty) → ((k : ℕ) → k < length xs → KeepsNumber xs ys k) → ((k : ℕ) → k < length ys → KeepsNumber ys zs k) → (k : ℕ) → k < length xs → KeepsNumber xs zs k
keeps_both xs ys zs f g k h =
    let a : KeepsNumber xs ys k = f k h in
    let b : KeepsNumber ys zs k = g k a.0 in (b.0, b.1 ∙ a.1, b.2 ∙ a.2)

pub derives : (xs : List Ty) (m b : ℕ) → IsTable xs m → b < length xs → (ps : List Part) (ys : List Ty) (n : ℕ) → DerivesIn xs b ps ys n → Derived xs m b ps ys n
derives xs m b is h [] ys n d =
    subst (λ zs. Derived xs m b [] zs n) (sym d.0)
    (subst (λ k. Derived xs m b [] xs k) (sym d.1) (record { table = is; within = h; kept = λ k g. (g, refl, refl); meaning = refl }))
derives xs m b is h (p ∷ ps) ys n d =
    let zs : List Ty = d.0 in
    let k : ℕ = d.1 in
    let x : Ty = derivation p k in
    let before : Derived xs m b ps zs k = derives xs m b is h ps zs k d.2 in
    let below : IsBelow (length zs) m x = below_derived zs m p k before.within in
    let kept : (j : ℕ) → j < length zs → KeepsNumber zs ys j = put_number zs m x ys before.table below d.3 in
    record {
      table = put_table zs m x ys before.table below d.3;
      within = slice_get_within ys n x d.4;
      kept = keeps_both xs zs ys before.kept kept;
      meaning = put_meant zs m x ys before.table below d.3 n d.4 ∙ meant_derived (meant_after [] zs) p k ∙ ap (derived p) before.meaning;
    }

-- the same from a list that is equal to the table's
pub derives_from : (zs xs : List Ty) (m b : ℕ) → zs ≡ xs → IsTable xs m → b < length xs → (ps : List Part) (ys : List Ty) (n : ℕ) → DerivesIn zs b ps ys n → Derived xs m b ps ys n
derives_from zs xs m b e is h ps ys n d = derives xs m b is h ps ys n (subst (λ z. DerivesIn z b ps ys n) e d)

pub derived_keeps : (xs : List Ty) (m b : ℕ) (ps : List Part) (ys : List Ty) (n : ℕ) → Derived xs m b ps ys n → (rs : List Record) → Keeps (record { types = xs; records = rs }) (record { types = ys; records = rs })
derived_keeps xs m b ps ys n d rs = record { types = λ k h. d.kept k.0 h; records = λ r h. (h, refl) }

-- one more record
pub more_records : (xs : List Ty) (m n : ℕ) → m ≤ n → IsTable xs m → IsTable xs n
more_records xs m n h is = record { earlier = λ i x at. by i x (is.earlier i x at); distinct = is.distinct }
  where
    by : (i : ℕ) (x : Ty) → IsBelow i m x → IsBelow i n x
    by i ty.Void g = g
    by i ty.Arith g = g
    by i (ty.Ptr k) g = g
    by i (ty.Arr k) g = g
    by i (ty.Fun k) g = g
    by i (ty.Rec r) g = omega arith
    by i ty.Mixed g = g

pub record_keeps : (xs : List Ty) (rs ss : List Record) (x : Record) → ss ≡ rs ++ x ∷ [] → Keeps (record { types = xs; records = rs }) (record { types = xs; records = ss })
record_keeps xs rs ss x e =
    subst (λ z. Keeps (record { types = xs; records = rs }) (record { types = xs; records = z })) (sym e)
    record { types = λ n h. (h, refl, refl); records = λ r h. (let l : length (rs ++ x ∷ []) ≡ length rs + 1 = length-append rs (x ∷ []) in (omega arith, slice_get_left rs (x ∷ []) r.0 h)) }
