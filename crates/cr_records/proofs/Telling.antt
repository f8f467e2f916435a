-- That what is told of members by their numbers is what binding sees of them.
use Rattle.std.proofs.Common.{◌≡◌, ℕ, zero, suc, Bool, true, false, cond, ◌==◌, ◌&&◌, not, if◌then◌else◌, Option, None, Some, Ok, Err, List, [], ◌∷◌, map, filter, slice_get, refl, sym, ap, subst, ◌∙◌}
use Rattle.std.specs.Prelude.{Result, option_map, unwrap_or}
use Rattle.std.specs.Option.{option_map_or}
use Rattle.std.specs.List.{find as first_of_list}
use Rattle.std.proofs.lemmas.Bool.{eqb-true}
use Rattle.cr_base.specs.declared.token.Name.{Name}
use Rattle.cr_types.specs.declared.Record.{Record as TypeRecord}
use Rattle.cr_types.specs.Types.{CType, Table, type_at}
use Rattle.cr_typing.specs.declared.fault.TypeFault.{TypeFault}
use Rattle.cr_typing.specs.declared.members.MemberNo.{MemberNo}
use Rattle.cr_typing.specs.declared.members.Placed.{Placed}
use Rattle.cr_typing.specs.Initialisers.{type_of_member}
use Rattle.cr_typing.specs.Initialisers as typing
use Rattle.cr_typing.specs.Members.{Members, listed, is_empty}
use Rattle.cr_typing.specs.Members as members
use Rattle.cr_binding.specs.Source.{Source}
use Rattle.cr_binding.specs.State.{Record, Member, State}
use Rattle.cr_binding.specs.Initialising as binding
use Rattle.cr_binding.specs.RecordMembers.{written_in, members_of, is_complete, is_named, member_in, or_no_member}
use Rattle.cr_records.specs.declared.rows.RecordRow.{RecordRow}
use Rattle.cr_records.specs.Kept.{RecordTable, IsKept, IsOf, placed_at, is_ended, is_written_in}
use Rattle.cr_records.specs.Laws.{IsNamedIn, MembersAreTold}
use Rattle.cr_records.specs.Records.{with_records, record_of, placed_in, AreSpelled}
use Rattle.cr_records.proofs.Seen.{map_map, written_seen, complete_seen}
use Rattle.cr_records.proofs.Selecting.{AreSelected, members_select}

same_unions : (rs : List TypeRecord) (ws : List RecordRow) (r : ℕ) → map {A = TypeRecord} (λ x. x.union) rs ≡ map {A = RecordRow} (λ x. x.is_union) ws
    → unwrap_or (option_map (λ (x : TypeRecord). x.union) (slice_get rs r)) false ≡ option_map_or (λ (x : Record). x.is_union) (slice_get (map record_of ws) r) false
same_unions [] [] r h = refl
same_unions [] (w ∷ ws) r h = cc
same_unions (x ∷ rs) [] r h = cc
same_unions (x ∷ rs) (w ∷ ws) zero h = (let e : x.union ≡ w.is_union = cc in e)
same_unions (x ∷ rs) (w ∷ ws) (suc r) h =
    (let e : map {A = TypeRecord} (λ z. z.union) rs ≡ map {A = RecordRow} (λ z. z.is_union) ws = cc in same_unions rs ws r e)

none_of : (ks : List MemberNo) → is_empty ks ≡ true → ks ≡ []
none_of [] h = refl
none_of (k ∷ ks) h = cc

found_passes : {A : Type 0} (p q : A → Bool) (xs : List A) (y : A) → first_of_list p (filter q xs) ≡ Some y → q y ≡ true
found_passes p q [] y h = cc
found_passes {A} p q (x ∷ xs) y h = by (q x) refl (found_passes p q xs y) h
  where
    here : (b : Bool) → q x ≡ true → (first_of_list p (filter q xs) ≡ Some y → q y ≡ true) → cond b (Some x) (first_of_list p (filter q xs)) ≡ Some y → q y ≡ true
    here true e later g = (let same : x ≡ y = cc in subst (λ z. q z ≡ true) same e)
    here false e later g = later g

    by : (b : Bool) → q x ≡ b → (first_of_list p (filter q xs) ≡ Some y → q y ≡ true) → first_of_list p (cond b (x ∷ filter q xs) (filter q xs)) ≡ Some y → q y ≡ true
    by true e later g = here (p x) e later g
    by false e later g = later g

module _ (t : Table) (x : RecordTable) (s : State) (kept : IsKept x) (of : IsOf t x) where
  abbrev m : Members
  m = x.typing

  abbrev seen : State
  seen = with_records t x s

  types_listed : (r : ℕ) → map (type_of_member t m) (listed m r).declared ≡ map Some (written_in seen r)
  types_listed r =
      let type_of : Placed → CType = λ p. type_at t p.member.ty in
      sym (map_map (option_map type_of) (λ (k : MemberNo). slice_get m.all k.0) (listed m r).declared)
      ∙ ap (map (option_map type_of)) (kept.lists r).declared
      ∙ map_map (option_map type_of) Some (filter (is_written_in r) m.all)
      ∙ sym (map_map Some type_of (filter (is_written_in r) m.all))
      ∙ ap (map Some) (sym (written_seen t x s r))

  complete_by : (r : ℕ) (b e : Bool) → is_empty (listed m r).declared ≡ e
      → map (type_of_member t m) (if (b && not e) then (listed m r).declared else []) ≡ map Some (if b then written_in seen r else [])
  complete_by r true true none = sym (ap (map (type_of_member t m)) (none_of (listed m r).declared none)) ∙ types_listed r
  complete_by r true false some = types_listed r
  complete_by r false e is = refl

  complete_both : (r : ℕ) → map (type_of_member t m) (typing.complete (listed m r)) ≡ map Some (binding.complete seen r)
  complete_both r =
      ap (λ b. map (type_of_member t m) (if b then (listed m r).declared else [])) (kept.lists r).ended
      ∙ complete_by r (is_ended x.ended r) (is_empty (listed m r).declared) refl
      ∙ ap (λ b. map Some (if b then written_in seen r else [])) (sym (complete_seen t x s r))

  unions_both : (r : ℕ) → typing.is_union t r ≡ binding.is_union seen r
  unions_both r = same_unions t.records x.records r of.unions

  module _ (source : Source) (spelled : AreSpelled source x) where
    holder_is : (r : ℕ) (name : Name) (n : Member) → member_in source seen r name ≡ Ok n → n.holder ≡ r
    holder_is r name n h = by (is_complete seen r) h
      where
        found : (o : Option Member) → o ≡ first_of_list (is_named source name) (members_of seen r) → or_no_member o ≡ Ok n → n.holder ≡ r
        found None e g = cc
        found (Some y) e g =
            let same : y ≡ n = cc in
            eqb-true n.holder r (found_passes (is_named source name) (λ (z : Member). z.holder == r) seen.members n (sym e ∙ ap Some same))

        by : (b : Bool) → or_no_member (if b then first_of_list (is_named source name) (members_of seen r) else None) ≡ Ok n → n.holder ≡ r
        by true g = found (first_of_list (is_named source name) (members_of seen r)) refl g
        by false g = cc

    named_by : (r : ℕ) (name : Name) (o : Result MemberNo TypeFault) → AreSelected t m (member_in source seen r name) o → IsNamedIn t m r (member_in source seen r name) o
    named_by r name (Ok k) h =
        h.1 ∙ ap (λ n. Ok (placed_in t n (placed_at m k))) (holder_is r name (placed_in t h.0 (placed_at m k)) h.1)
    named_by r name (Err f) h = h

    named_both : (r : ℕ) (name : Name) → IsNamedIn t m r (member_in source seen r name) (members.member_in (listed m r) name)
    named_both r name = named_by r name (members.member_in (listed m r) name) (members_select t x s source kept spelled r name)

pub members_are_told : MembersAreTold
members_are_told t x s kept of =
    record {
      written = complete_both t x s kept of;
      unions = unions_both t x s kept of;
      named = named_both t x s kept of;
    }
