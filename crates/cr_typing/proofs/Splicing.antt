-- That what names select in a record stays told by its members.
use Rattle.std.proofs.Common.{◌≡◌, ◌≢◌, ◌⊎◌, inl, inr, true, false, eqb, ℕ, ◌<◌, Option, None, Some, List, [], ◌∷◌, ◌++◌, length, slice_get, refl, sym, ap, subst, ◌∙◌, append_assoc, zero, suc}
use Rattle.std.proofs.lemmas.List.{append-nil}
use Rattle.std.proofs.lemmas.Bool.Decides.{eqb_tells}
use Rattle.cr_base.specs.declared.token.Name.{Name}
use Rattle.cr_types.specs.declared.RecNo.{RecNo}
use Rattle.cr_types.specs.Types.{CType, Rec, Table, type_at}
use Rattle.cr_types.proofs.Meant.{slice_get_left}
use Rattle.cr_typing.specs.declared.members.MemberNo.{MemberNo}
use Rattle.cr_typing.specs.declared.members.MemberData.{MemberData}
use Rattle.cr_typing.specs.declared.members.Placed.{Placed}
use Rattle.cr_typing.specs.Members.{Members, listed, next_member, names_by, added_names, with_member, placed, Adds, Ends}
use Rattle.cr_typing.specs.Splicing.{names_of, spliced, AreSpliced, IsAnonymous}
use Rattle.cr_typing.specs.Kept.{AreListed}
use Rattle.cr_typing.proofs.Lists.{each_listed}

pub names_by_same : (old new : Members) (k : MemberNo) (token : ℕ) (c : CType) (name : Option Name)
    → ((r : ℕ) → name ≡ None → c ≡ Rec r → (listed new r).named ≡ (listed old r).named) → names_by new k token c name ≡ names_by old k token c name
names_by_same old new k token c (Some name) same = refl
names_by_same old new k token (Rec r) None same = same r refl refl
names_by_same old new k token _ None same = refl

pub spliced_append : (t : Table) (m : Members) (ks : List MemberNo) (k : MemberNo) → spliced t m (ks ++ k ∷ []) ≡ spliced t m ks ++ names_of t m k (slice_get m.all k.0)
spliced_append t m [] k = append-nil (names_of t m k (slice_get m.all k.0))
spliced_append t m (j ∷ js) k =
    ap (λ l. names_of t m j (slice_get m.all j.0) ++ l) (spliced_append t m js k)
    ∙ sym (append_assoc (names_of t m j (slice_get m.all j.0)) (spliced t m js) (names_of t m k (slice_get m.all k.0)))

-- where each of some members has the same names, so have all
pub spliced_same : (t : Table) (old new : Members) (ks : List MemberNo)
    → ((i : ℕ) (k : MemberNo) → slice_get ks i ≡ Some k → names_of t new k (slice_get new.all k.0) ≡ names_of t old k (slice_get old.all k.0))
    → spliced t new ks ≡ spliced t old ks
spliced_same t old new [] same = refl
spliced_same t old new (k ∷ ks) same =
    ap (λ l. l ++ spliced t new ks) (same zero k refl) ∙ ap (λ l. names_of t old k (slice_get old.all k.0) ++ l) (spliced_same t old new ks (λ i j at. same (suc i) j at))

pub slice_get_seam : (ps : List Placed) (p : Placed) → slice_get (ps ++ p ∷ []) (length ps) ≡ Some p
slice_get_seam [] p = refl
slice_get_seam (q ∷ ps) p = slice_get_seam ps p

module _ (t : Table) (old new : Members) (member : MemberData) (adds : Adds old member (type_at t member.ty) new) (free : IsAnonymous t new member.rec.0 → ⊥) where
  pub kept_at : (i : ℕ) → i < length old.all → slice_get new.all i ≡ slice_get old.all i
  kept_at i h = ap (λ l. slice_get l i) adds.all ∙ slice_get_left old.all (placed old member ∷ []) i h

  pub put_at : slice_get new.all (length old.all) ≡ Some (placed old member)
  put_at = ap (λ l. slice_get l (length old.all)) adds.all ∙ slice_get_seam old.all (placed old member)

  -- a member of the new list that is no record to which something was added
  pub names_same : (k : MemberNo) (p : Placed) → slice_get new.all k.0 ≡ Some p → names_of t new k (Some p) ≡ names_of t old k (Some p)
  names_same k p at =
      names_by_same old new k p.member.token (type_at t p.member.ty) p.member.name
      (λ r unnamed is. ap (λ x. x.named) (adds.others r (λ e. free (k.0, p, at, unnamed, is ∙ ap Rec e))))

  pub old_names : (k : MemberNo) → k.0 < length old.all → names_of t new k (slice_get new.all k.0) ≡ names_of t old k (slice_get old.all k.0)
  old_names k h = by (slice_get old.all k.0) refl
    where
      by : (o : Option Placed) → slice_get old.all k.0 ≡ o → names_of t new k (slice_get new.all k.0) ≡ names_of t old k (slice_get old.all k.0)
      by None at = ap (names_of t new k) (kept_at k.0 h ∙ at) ∙ ap (names_of t old k) (sym at)
      by (Some p) at =
          ap (names_of t new k) (kept_at k.0 h ∙ at) ∙ names_same k p (kept_at k.0 h ∙ at) ∙ ap (names_of t old k) (sym at)

  pub adding_keeps_splicing : AreListed old → AreSpliced t old → AreSpliced t new
  adding_keeps_splicing sound is =
      let r : ℕ = member.rec.0 in
      let k : MemberNo = next_member old in
      let before : (q : ℕ) → (listed old q).named ≡ spliced t new (listed old q).declared = λ q. is q ∙ sym (spliced_same t old new (listed old q).declared (λ i j at. old_names j ((sound q).declared i j at))) in
      let more : added_names old member (type_at t member.ty) ≡ names_of t new k (slice_get new.all k.0) = sym (ap (names_of t new k) put_at ∙ names_same k (placed old member) put_at) in
      let here : (with_member (listed old r) k (added_names old member (type_at t member.ty))).named ≡ spliced t new ((listed old r).declared ++ k ∷ []) = ap (λ l. l ++ added_names old member (type_at t member.ty)) (before r) ∙ ap (λ l. spliced t new (listed old r).declared ++ l) more ∙ sym (spliced_append t new (listed old r).declared k) in
      each_listed (λ x. x.named ≡ spliced t new x.declared) old.records new.records r
      (subst (λ x. x.named ≡ spliced t new x.declared) (sym adds.this) here) before adds.others

-- the end of a list adds no names
module _ (t : Table) (old new : Members) (r : RecNo) (ends : Ends old r new) where
  pub names_alike : (q : ℕ) → (listed new q).named ≡ (listed old q).named
  names_alike q = by (eqb_tells q r.0)
    where
      by : ((eqb q r.0 ≡ true) × (q ≡ r.0)) ⊎ ((eqb q r.0 ≡ false) × (q ≢ r.0)) → (listed new q).named ≡ (listed old q).named
      by (inl h) = ap (λ k. (listed new k).named) h.1 ∙ ap (λ x. x.named) ends.this ∙ ap (λ k. (listed old k).named) (sym h.1)
      by (inr h) = ap (λ x. x.named) (ends.others q h.1)

  pub names_stay : (k : MemberNo) (o : Option Placed) → names_of t new k o ≡ names_of t old k o
  names_stay k None = refl
  names_stay k (Some p) = names_by_same old new k p.member.token (type_at t p.member.ty) p.member.name (λ q unnamed is. names_alike q)

  pub ending_keeps_splicing : AreSpliced t old → AreSpliced t new
  ending_keeps_splicing is =
      let before : (q : ℕ) → (listed old q).named ≡ spliced t new (listed old q).declared = λ q. is q ∙ sym (spliced_same t old new (listed old q).declared (λ i k at. names_stay k (slice_get new.all k.0) ∙ ap (λ l. names_of t old k (slice_get l k.0)) ends.all)) in
      each_listed (λ x. x.named ≡ spliced t new x.declared) old.records new.records r.0
      (subst (λ x. x.named ≡ spliced t new x.declared) (sym ends.this) (before r.0)) before ends.others
