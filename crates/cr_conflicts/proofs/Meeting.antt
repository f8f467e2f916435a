-- What members add is what meets among them.
use Rattle.std.proofs.Common.{◌≡◌, ℕ, Bool, true, false, cond, Option, Some, None, List, length, refl, sym, ap, subst, ◌∙◌, arith}
use Rattle.std.specs.Prelude.{slice_get, Contains, max}
use Rattle.std.proofs.lemmas.Bool.{eq-eqb}
use Rattle.std.proofs.lemmas.Option.{slice_get_within}
use Rattle.cr_base.specs.declared.token.Name.{Name}
use Rattle.cr_base.specs.declared.token.Place.{Place}
use Rattle.cr_base.specs.declared.token.Tok.{Tok}
use Rattle.cr_base.specs.declared.key.Key.{Key}
use Rattle.cr_scope.specs.Declarations.{same_name}
use Rattle.cr_facts.specs.FactOrder.{Facts}
use Rattle.cr_facts.specs.declared.fact.Fact.{Fact}
use Rattle.cr_facts.specs.declared.fact.Fact.TheVariants as fact
use Rattle.cr_binding.specs.Source.{Source, name_at}
use Rattle.cr_binding.specs.State.{Member, State}
use Rattle.cr_binding.specs.Keys.{member_key}
use Rattle.cr_binding.specs.UnitConflicts.{place_at}
use Rattle.cr_declared.specs.declared.rows.Row.{Row}
use Rattle.cr_declared.specs.declared.rows.UseRow.{UseRow}
use Rattle.cr_declared.specs.Rows.{AreRows}
use Rattle.cr_groups.specs.Adding.{Adds, OfFirst}
use Rattle.cr_groups.specs.Firsts.{find_number, IsFirstOf, AreFirsts}
use Rattle.cr_groups.specs.Rows.{name_in, place_in}
use Rattle.cr_groups.proofs.Added.{adds_same}
use Rattle.cr_groups.proofs.Grouped.{names_same}
use Rattle.cr_groups.proofs.Shown.{Views}
use Rattle.cr_groups.proofs.Taken.{mapped, to_mapped}
use Rattle.cr_conflicts.specs.Members.{row_of, AreMembers, AreUnique, holder_of, member_key_in, MeetingAdds, IsOfMembers}
use Rattle.cr_conflicts.specs.declared.members.MemberRow.{MemberRow}
use Rattle.cr_conflicts.proofs.Keyed.{member_key_is}
use Rattle.cr_conflicts.proofs.Tokened.{first_one, first_is, has_key}
use Rattle.cr_conflicts.proofs.Mentioned.{at, from_at}

holder_is : (b : Bool) (h i : ℕ) → cond b (Some h) None ≡ Some i → (b ≡ true) × (h ≡ i)
holder_is true h i e = (refl, cc)
holder_is false h i e = cc

module _ (unit : ℕ) (t : Source) (s : State) (old new : Name) (ps : List (List ℕ)) (rows : List Row) (uses : List UseRow) (members : List MemberRow) (records : List ℕ)
    (shown : Views t s ps rows uses) (kept : AreRows ps rows) (are : AreMembers s members records) (unique : AreUnique t.tokens members) where
  -- a row is that of a member
  pub member_at : (j : ℕ) (x : MemberRow) → slice_get members j ≡ Some x → (m : Member) × Contains s.members m × (x ≡ row_of m)
  member_at j x h =
      let r : (m : Member) × (slice_get s.members j ≡ Some m) × (x ≡ row_of m) = mapped row_of s.members j x (subst (λ z. slice_get z j ≡ Some x) are.members_are h) in
      (r.0, at s.members j r.0 r.1, r.2)

  pub row_at : (m : Member) → Contains s.members m → (j : ℕ) × (slice_get members j ≡ Some (row_of m))
  row_at m h = (h.0, subst (λ z. slice_get z h.0 ≡ Some (row_of m)) (sym are.members_are) (to_mapped row_of s.members h.0 m (from_at s.members m h)))

  abbrev Adds_of : MemberRow → Fact → Type 0
  Adds_of = MeetingAdds unit t.texts t.tokens rows records members old new

  told : (j : ℕ) (x : MemberRow) (fa : Fact) → slice_get members j ≡ Some x → Adds_of x fa → IsOfMembers unit t s old new fa
  told j x fa here (named, (c, first, same)) =
      let m = member_at j x here in
      let y : MemberRow = first.itself.0 in
      let n = member_at c y first.itself.1 in
      let q = holder_is (same_name (name_in t.tokens y.token) new) y.holder x.holder first.itself.2 in
      let tx : x.token ≡ m.0.token = ap (λ (z : MemberRow). z.token) m.2 in
      let ty : y.token ≡ n.0.token = ap (λ (z : MemberRow). z.token) n.2 in
      let key : member_key_in unit t.texts t.tokens rows records x ≡ member_key unit t s m.0 = ap (member_key_in unit t.texts t.tokens rows records) m.2 ∙ member_key_is unit t s ps rows uses shown kept members records m.0 are in
      let place : place_in t.tokens (max x.token y.token) ≡ place_at t (max m.0.token n.0.token) = ap (λ z. place_at t (max z y.token)) tx ∙ ap (λ z. place_at t (max m.0.token z)) ty in (
        member_key unit t s m.0,
        place_at t (max m.0.token n.0.token),
        same ∙ ap (λ z. fact.Conflict z (place_in t.tokens (max x.token y.token))) key ∙ ap (fact.Conflict (member_key unit t s m.0)) place,
        (
          m.0,
          n.0,
          m.1,
          n.1,
          sym (ap (λ (z : MemberRow). z.holder) m.2) ∙ sym q.1 ∙ ap (λ (z : MemberRow). z.holder) n.2,
          ap (name_at t) (sym tx) ∙ named,
          ap (name_at t) (sym ty) ∙ names_same (name_in t.tokens y.token) new q.0,
          refl,
          refl,
        ),
      )

  untold : (fa : Fact) → IsOfMembers unit t s old new fa → OfFirst Adds_of members (length members) fa
  untold fa (k, p, same, (m, n, hm, hn, holder, nm, nn, keyed, placed)) =
      let x = row_at m hm in
      let y = row_at n hn in
      let named : holder_of t.tokens new (row_of n) ≡ Some m.holder =
      ap (λ b. cond b (Some n.holder) None) (ap (same_name (name_at t n.token)) (sym nn) ∙ eq-eqb (name_at t n.token).0 (name_at t n.token).0 refl) ∙ ap Some (sym holder) in
      let key : k ≡ member_key_in unit t.texts t.tokens rows records (row_of m) = keyed ∙ sym (member_key_is unit t s ps rows uses shown kept members records m are) in (
        x.0,
        row_of m,
        slice_get_within members x.0 (row_of m) x.1,
        x.1,
        (
          nm,
          (
            y.0,
            record {
              before = slice_get_within members y.0 (row_of n) y.1;
              itself = (row_of n, y.1, named);
              earliest = λ j z zt e.
                  let q = holder_is (same_name (name_in t.tokens z.token) new) z.holder m.holder e in
                  let one : y.0 ≡ j = unique y.0 j (row_of n) z y.1 zt (sym holder ∙ sym q.1) (nn ∙ sym (names_same (name_in t.tokens z.token) new q.0)) in
                  omega (arith, one);
            },
            same ∙ ap (λ z. fact.Conflict z p) key ∙ ap (fact.Conflict (member_key_in unit t.texts t.tokens rows records (row_of m))) placed,
          ),
        ),
      )

  pub members_told : (start end : Facts) → Adds start end (OfFirst Adds_of members (length members)) → Adds start end (IsOfMembers unit t s old new)
  members_told start end h =
      adds_same start end (OfFirst Adds_of members (length members)) (IsOfMembers unit t s old new)
      (λ fa a. told a.0 a.1 fa a.3 a.4)
      (λ fa a. untold fa a)
      h

-- a member of old, and the one of new that is noted for its record
pub meeting : (unit : ℕ) (texts : List (List ℕ)) (tokens : List Tok) (rows : List Row) (records : List ℕ) (members : List MemberRow) (old new : Name) (m : MemberRow) (fs : List (ℕ × ℕ)) (o : Option ℕ) (n : ℕ) (y : MemberRow) (k : Key) (site : Place) (start end : Facts)
    → AreFirsts (holder_of tokens new) members fs (length members) → o ≡ find_number m.holder fs → o ≡ Some n → slice_get members n ≡ Some y → name_in tokens m.token ≡ old
    → k ≡ member_key_in unit texts tokens rows records m → site ≡ place_in tokens (max m.token y.token) → Adds start end (λ f. f ≡ fact.Conflict k site)
    → Adds start end (MeetingAdds unit texts tokens rows records members old new m)
meeting unit texts tokens rows records members old new m fs o n y k site start end firsts found is there named keyed placed h =
    adds_same start end (λ f. f ≡ fact.Conflict k site) (MeetingAdds unit texts tokens rows records members old new m)
    (λ f e. (named, (n, record { before = here.before; itself = (y, there, mine); earliest = here.earliest }, e ∙ ap (λ z. fact.Conflict z site) keyed ∙ ap (fact.Conflict (member_key_in unit texts tokens rows records m)) placed)))
    (λ f e.
    let c : e.1.0 ≡ n = first_one (holder_of tokens new) members (length members) m.holder e.1.0 n e.1.1 here in
    let q : Some e.1.1.itself.0 ≡ Some y = sym e.1.1.itself.1 ∙ ap (slice_get members) c ∙ there in
    let s : e.1.1.itself.0 ≡ y = cc in
    e.1.2 ∙ ap (λ z. fact.Conflict z (place_in tokens (max m.token e.1.1.itself.0.token))) (sym keyed)
    ∙ ap (λ (z : MemberRow). fact.Conflict k (place_in tokens (max m.token z.token))) s ∙ ap (fact.Conflict k) (sym placed))
    h
  where
    here : IsFirstOf (holder_of tokens new) members (length members) m.holder n
    here = first_is (holder_of tokens new) members fs m.holder n o firsts found is

    mine : holder_of tokens new y ≡ Some m.holder
    mine = has_key (holder_of tokens new) members (length members) m.holder n y there here
