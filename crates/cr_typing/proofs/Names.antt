-- The names that select members of a record.
use Rattle.std.proofs.Common.{◌≡◌, ◌⊎◌, inl, inr, ℕ, ◌+◌, ◌<◌, Bool, true, false, cond, if◌then◌else◌, eqb, is_some, IfOk, Option, None, Some, List, [], ◌∷◌, ◌++◌, refl, sym, ap, subst, ◌∙◌, append_assoc, slice_get, zero, suc, arith}
use Rattle.std.proofs.lemmas.List.{append-nil}
use Rattle.cr_base.specs.declared.token.Name.{Name}
use Rattle.cr_typing.specs.declared.members.Named.{Named}
use Rattle.cr_typing.specs.declared.members.MemberNo.{MemberNo}
use Rattle.cr_typing.specs.declared.members.Placed.{Placed}
use Rattle.cr_types.specs.Types.{Table, IsTypeNo, IsRecNo}
use Rattle.cr_typing.specs.Members.{Members, AreOfTable, Listed, nothing_listed, find, redeclared, repeated, least_token, member_in, or_no_member, with_member}
use Rattle.cr_typing.specs.Kept.{AreNew, AreNamedBelow, IsListedBelow}

-- names that are new stay so where they are told in two parts
pub are_new_append : (fs es more : List (Name × Named)) → AreNew fs es → AreNew (fs ++ es) more → AreNew fs (es ++ more)
are_new_append fs [] more h k = subst (λ x. AreNew x more) (append-nil fs) k
are_new_append fs (e ∷ es) more h k =
    (h.0, are_new_append (fs ++ e ∷ []) es more h.1 (subst (λ x. AreNew x more) (sym (append_assoc fs (e ∷ []) es)) k))

-- a record without members has no name already
pub nothing_redeclared : (more : List (Name × Named)) → redeclared nothing_listed more ≡ None
nothing_redeclared [] = refl
nothing_redeclared (e ∷ es) = nothing_redeclared es

pub find_append : (name : Name) (es fs : List (Name × Named)) → find name es ≡ None → find name (es ++ fs) ≡ find name fs
find_append name [] fs h = refl
find_append name (e ∷ es) fs h = by (eqb name.0 e.0.0) (find_append name es fs) h
  where
    by : (b : Bool) → (find name es ≡ None → find name (es ++ fs) ≡ find name fs) → cond b (Some e.1) (find name es) ≡ None → cond b (Some e.1) (find name (es ++ fs)) ≡ find name fs
    by true rest g = cc
    by false rest g = rest g

pub find_in_either : (name : Name) (es fs : List (Name × Named)) (x : Named) → find name (es ++ fs) ≡ Some x → (find name es ≡ Some x) ⊎ (find name fs ≡ Some x)
find_in_either name [] fs x h = inr h
find_in_either name (e ∷ es) fs x h = by (eqb name.0 e.0.0) (find_in_either name es fs x) h
  where
    by : (b : Bool) → (find name (es ++ fs) ≡ Some x → (find name es ≡ Some x) ⊎ (find name fs ≡ Some x)) → cond b (Some e.1) (find name (es ++ fs)) ≡ Some x → (cond b (Some e.1) (find name es) ≡ Some x) ⊎ (find name fs ≡ Some x)
    by true rest g = inl g
    by false rest g = rest g

-- names of which none is redeclared are new
pub are_new_here : (x : Listed) (fs more : List (Name × Named)) → AreNew fs more → redeclared x more ≡ None → AreNew (x.named ++ fs) more
are_new_here x fs [] h r = tt
are_new_here x fs (e ∷ es) h r = by (find e.0 x.named) refl (are_new_here x (fs ++ e ∷ []) es h.1) r
  where
    by : (o : Option Named) → find e.0 x.named ≡ o → (redeclared x es ≡ None → AreNew (x.named ++ (fs ++ e ∷ [])) es)
        → least_token (cond (is_some o) (e ∷ repeated x es) (repeated x es)) ≡ None → AreNew (x.named ++ fs) (e ∷ es)
    by (Some k) found rest g = cc
    by None found rest g = (find_append e.0 x.named fs found ∙ h.0, subst (λ l. AreNew l es) (sym (append_assoc x.named fs (e ∷ []))) (rest g))

pub are_new : (x : Listed) (more : List (Name × Named)) → AreNew [] more → redeclared x more ≡ None → AreNew x.named more
are_new x more h r = subst (λ l. AreNew l more) (append-nil x.named) (are_new_here x [] more h r)

pub slice_get_end : {A : Type 0} (xs : List A) (x y : A) (i : ℕ) → slice_get (xs ++ x ∷ []) i ≡ Some y → (slice_get xs i ≡ Some y) ⊎ (y ≡ x)
slice_get_end [] x y zero at = let e : x ≡ y = cc in inr (sym e)
slice_get_end [] x y (suc i) at = cc
slice_get_end (z ∷ xs) x y zero at = inl at
slice_get_end (z ∷ xs) x y (suc i) at = slice_get_end xs x y i at

-- members below n are below n + 1, and so is one more
pub one_more_below : (n : ℕ) (x : Listed) → IsListedBelow n x → IsListedBelow (n + 1) x
one_more_below n x h =
    record { declared = λ i k at. (let l = h.declared i k at in omega arith); named = λ name k at. (let l = h.named name k at in omega arith) }

pub with_member_below : (n : ℕ) (x : Listed) (k : MemberNo) (more : List (Name × Named)) → IsListedBelow n x → AreNamedBelow (n + 1) more → k.0 ≡ n → IsListedBelow (n + 1) (with_member x k more)
with_member_below n x k more h named e =
    record {
      declared = λ i j at. declared_by j (slice_get_end x.declared k j i at) (λ old. h.declared i j old);
      named = λ name j at. named_by j (find_in_either name x.named more j at) (λ old. h.named name j old) (λ new. named name j new);
    }
  where
    declared_by : {A : Type 0} (j : MemberNo) → A ⊎ (j ≡ k) → (A → j.0 < n) → j.0 < n + 1
    declared_by j (inl a) f = let l = f a in omega arith
    declared_by j (inr same) f = let l : j.0 ≡ k.0 = ap (λ z. z.0) same in omega arith

    named_by : {A B : Type 0} (j : Named) → A ⊎ B → (A → j.member.0 < n) → (B → j.member.0 < n + 1) → j.member.0 < n + 1
    named_by j (inl a) f g = let l = f a in omega arith
    named_by j (inr b) f g = g b

pub found_below : (n : ℕ) (x : Listed) (name : Name) → IsListedBelow n x → IfOk (member_in x name) (λ m. m.0 < n)
found_below n x name h = by (if x.ended then find name x.named else None) (ended_by x.ended)
  where
    ended_by : (b : Bool) (k : Named) → (if b then find name x.named else None) ≡ Some k → k.member.0 < n
    ended_by true k at = h.named name k at
    ended_by false k at = cc

    by : (o : Option Named) → ((k : Named) → o ≡ Some k → k.member.0 < n) → IfOk (or_no_member o) (λ m. m.0 < n)
    by None f = tt
    by (Some k) f = f k refl

-- one more member whose type and record are the table's
pub one_more_of_table : (t : Table) (m n : Members) (p : Placed) → n.all ≡ m.all ++ p ∷ [] → AreOfTable t m → IsTypeNo t p.member.ty × IsRecNo t p.member.rec → AreOfTable t n
one_more_of_table t m n p grown held here i q at = by (slice_get_end m.all p q i (ap (λ l. slice_get l i) (sym grown) ∙ at))
  where
    by : (slice_get m.all i ≡ Some q) ⊎ (q ≡ p) → IsTypeNo t q.member.ty × IsRecNo t q.member.rec
    by (inl old) = held i q old
    by (inr same) = subst (λ z. IsTypeNo t z.member.ty × IsRecNo t z.member.rec) (sym same) here
