-- That names select what binding says.
use Rattle.std.proofs.Common.{◌≡◌, ℕ, ◌<◌, zero, suc, Bool, true, false, ◌&&◌, not, if◌then◌else◌, Option, None, Some, Ok, Err, List, [], ◌∷◌, map, filter, length, slice_get, get_or, refl, sym, ap, subst, ◌∙◌, arith}
use Rattle.std.specs.Prelude.{Result, option_map}
use Rattle.std.specs.List.{find as first_of_list}
use Rattle.std.proofs.lemmas.Option.{slice_get-get_or, slice_get-map}
use Rattle.cr_base.specs.declared.token.Name.{Name}
use Rattle.cr_base.specs.declared.cause.IllCause.{IllCause}
use Rattle.cr_types.specs.Types.{CType, Void, Arith, Mixed, Ptr, Arr, Fun, Rec, Table, IsTypeNo, type_at}
use Rattle.cr_typing.specs.declared.fault.TypeFault.{TypeFault}
use Rattle.cr_typing.specs.declared.members.MemberNo.{MemberNo}
use Rattle.cr_typing.specs.declared.members.MemberData.{MemberData}
use Rattle.cr_typing.specs.declared.members.Named.{Named}
use Rattle.cr_typing.specs.declared.members.Placed.{Placed}
use Rattle.cr_typing.specs.ExpressionTypes.{decayed}
use Rattle.cr_typing.specs.Members.{Members, Listed, listed, is_empty, find, data_at}
use Rattle.cr_typing.specs.Members as typing
use Rattle.cr_binding.specs.Source.{Source, name_at}
use Rattle.cr_binding.specs.State.{Member, State}
use Rattle.cr_binding.specs.RecordMembers.{is_named, members_of, is_complete}
use Rattle.cr_binding.specs.RecordMembers as binding
use Rattle.cr_records.specs.declared.rows.Selector.{Selector}
use Rattle.cr_records.specs.Kept.{RecordTable, IsKept, AreThere, no_member, placed_at, name_of, selects_in, is_ended}
use Rattle.cr_records.specs.Records.{with_records, placed_in, member_by, member_of, AreSpelled, AreSpelledBy, IsSelected, cause_of}
use Rattle.cr_records.proofs.Same.{AreFound, found_both}
use Rattle.cr_records.proofs.Seen.{members_seen, complete_seen, spelled_filter}

-- what both find: the same member, or the same cause
abbrev pub AreSelected : Table → Members → Result Member IllCause → Result MemberNo TypeFault → Type 0
AreSelected t m r (Ok k) = (h : ℕ) × (r ≡ Ok (placed_in t h (placed_at m k)))
AreSelected t m r (Err f) = r ≡ Err (cause_of f)

module _ (t : Table) (x : RecordTable) (s : State) (source : Source) (kept : IsKept x) (spelled : AreSpelled source x) where
  abbrev pub seen : State
  seen = with_records t x s

  either : (o : Option Named) (p : Option Member) → AreFound t x.typing o p → AreSelected t x.typing (binding.or_no_member p) (typing.or_no_member o)
  either None p h = ap binding.or_no_member h
  either (Some k) p h = (h.0.holder.0, ap binding.or_no_member h.2 ∙ ap (λ n. Ok (placed_in t h.0.holder.0 (placed_at x.typing n))) h.1)

  found_in : (r : ℕ) (name : Name) → AreFound t x.typing (find name (listed x.typing r).named) (first_of_list (is_named source name) (members_of seen r))
  found_in r name =
      subst (λ l. AreFound t x.typing (find name (listed x.typing r).named) (first_of_list (is_named source name) l)) (sym (members_seen t x s r))
      (subst (λ l. AreFound t x.typing (find name l) (first_of_list (is_named source name) (map (member_by t x.typing) (filter (selects_in r) x.selectors)))) (sym (kept.lists r).named)
      (found_both source t x.typing name (filter (selects_in r) x.selectors) (spelled_filter source x.typing (selects_in r) x.selectors spelled)))

  -- a record that is complete and has no members: nothing is found in either way
  none_in : (r : ℕ) (name : Name) → is_empty (listed x.typing r).declared ≡ true → AreFound t x.typing None (first_of_list (is_named source name) (members_of seen r))
  none_in r name none =
      subst (λ o. AreFound t x.typing o (first_of_list (is_named source name) (members_of seen r)))
      (ap (find name) ((kept.lists r).unnamed none)) (found_in r name)

  found_by : (r : ℕ) (name : Name) (b e : Bool) → is_empty (listed x.typing r).declared ≡ e
      → AreFound t x.typing (if (b && not e) then find name (listed x.typing r).named else None) (if b then first_of_list (is_named source name) (members_of seen r) else None)
  found_by r name true true none = none_in r name none
  found_by r name true false some = found_in r name
  found_by r name false true none = refl
  found_by r name false false some = refl

  pub members_select : (r : ℕ) (name : Name) → AreSelected t x.typing (binding.member_in source seen r name) (typing.member_in (listed x.typing r) name)
  members_select r name =
      either (if (listed x.typing r).ended then find name (listed x.typing r).named else None)
      (if is_complete seen r then first_of_list (is_named source name) (members_of seen r) else None)
      (subst (λ b. AreFound t x.typing (if b then find name (listed x.typing r).named else None) (if is_complete seen r then first_of_list (is_named source name) (members_of seen r) else None)) (sym (kept.lists r).ended)
      (subst (λ b. AreFound t x.typing (if (is_ended x.ended r && not (is_empty (listed x.typing r).declared)) then find name (listed x.typing r).named else None) (if b then first_of_list (is_named source name) (members_of seen r) else None)) (sym (complete_seen t x s r))
      (found_by r name (is_ended x.ended r) (is_empty (listed x.typing r).declared) refl)))

  both_selected : (name : Name) (c : CType) → AreSelected t x.typing (binding.selected source seen name c) (typing.selected x.typing name c)
  both_selected name (Rec r) = members_select r name
  both_selected name Mixed = refl
  both_selected name Void = refl
  both_selected name Arith = refl
  both_selected name (Ptr c) = refl
  both_selected name (Arr c) = refl
  both_selected name (Fun c) = refl

  both_through : (name : Name) (c : CType) → AreSelected t x.typing (binding.selected_through source seen name c) (typing.selected_through x.typing name c)
  both_through name (Ptr c) = both_selected name c
  both_through name Mixed = refl
  both_through name Void = refl
  both_through name Arith = refl
  both_through name (Rec r) = refl
  both_through name (Arr c) = refl
  both_through name (Fun c) = refl

  pub both_select : (arrow : Bool) (name : Name) (c : CType) → AreSelected t x.typing (binding.select source seen arrow name c) (typing.select x.typing arrow name c)
  both_select true name c = both_through name (decayed c)
  both_select false name c = both_selected name c

-- the data of a member by its number
pub data_is : (m : Members) (k : MemberNo) (d : MemberData) → data_at m k ≡ Some d → (placed_at m k).member ≡ d
data_is m k d h = by m.all k.0 h
  where
    by : (ps : List Placed) (i : ℕ) → option_map (λ (p : Placed). p.member) (slice_get ps i) ≡ Some d → (get_or ps i no_member).member ≡ d
    by [] i e = cc
    by (p ∷ ps) zero e = cc
    by (p ∷ ps) (suc i) e = by ps i e

pub place_is : (m : Members) (k : MemberNo) (n : ℕ) → typing.place_at m k ≡ Some n → (placed_at m k).place ≡ n
place_is m k n h = by m.all k.0 h
  where
    by : (ps : List Placed) (i : ℕ) → option_map (λ (p : Placed). p.place) (slice_get ps i) ≡ Some n → (get_or ps i no_member).place ≡ n
    by [] i e = cc
    by (p ∷ ps) zero e = cc
    by (p ∷ ps) (suc i) e = by ps i e

pub selected_is : (t : Table) (m : Members) (r : Result Member IllCause) (k : MemberNo) (d : MemberData) → data_at m k ≡ Some d → AreSelected t m r (Ok k)
    → IsSelected t r (Ok (record { token = d.token; ty = d.ty }))
selected_is t m r k d at h =
    (placed_in t h.0 (placed_at m k), h.1, ap (λ (z : MemberData). z.token) (data_is m k d at), ap (λ (z : MemberData). type_at t z.ty) (data_is m k d at))

-- ---- a selector by its number

pub there_at : (m : Members) (ws : List Selector) (n : ℕ) (w : Selector) → AreThere m ws → n < length ws → w ≡ get_or ws n w → w.member.0 < length m.all
there_at m [] n w h lt e = absurd (omega (arith, lt))
there_at m (v ∷ ws) zero w h lt e = subst (λ z. z.member.0 < length m.all) (sym e) h.0
there_at m (v ∷ ws) (suc n) w h lt e = there_at m ws n w h.1 (omega (arith, lt)) e

pub spelled_at : (source : Source) (m : Members) (ws : List Selector) (n : ℕ) (w : Selector) → AreSpelledBy source m ws → n < length ws → w ≡ get_or ws n w
    → name_of (placed_at m w.member) ≡ name_at source (placed_at m w.member).member.token
spelled_at source m [] n w h lt e = absurd (omega (arith, lt))
spelled_at source m (v ∷ ws) zero w h lt e = subst (λ z. name_of (placed_at m z.member) ≡ name_at source (placed_at m z.member).member.token) (sym e) h.0
spelled_at source m (v ∷ ws) (suc n) w h lt e = spelled_at source m ws n w h.1 (omega (arith, lt)) e

pub data_given : (t : Table) (m : Members) (k : MemberNo) (d : MemberData) → typing.AreOfTable t m → data_at m k ≡ Some d → IsTypeNo t d.ty
data_given t m k d held at = by (slice_get m.all k.0) refl at
  where
    by : (o : Option Placed) → slice_get m.all k.0 ≡ o → option_map (λ (p : Placed). p.member) o ≡ Some d → IsTypeNo t d.ty
    by None e h = cc
    by (Some p) e h = let same : p.member ≡ d = cc in subst (λ (z : MemberData). IsTypeNo t z.ty) same (held k.0 p e).0

-- what a selector selects, by its data
pub member_is : (t : Table) (m : Members) (ws : List Selector) (n : ℕ) (w : Selector) (d : MemberData) (place : ℕ) (name : Name) → n < length ws → w ≡ get_or ws n w
    → data_at m w.member ≡ Some d → typing.place_at m w.member ≡ Some place
    → slice_get (map (member_by t m) ws) n ≡ Some (member_of t (record { holder = w.holder; own = d.rec; place = place; token = d.token; ty = d.ty; name = name }))
member_is t m ws n w d place name lt e at stands =
    slice_get-map (member_by t m) ws n
    ∙ ap (option_map (member_by t m)) (slice_get-get_or ws n w lt ∙ ap Some (sym e))
    ∙ (λ j. Some (record {
      holder = w.holder.0;
      own = (data_is m w.member d at j).rec.0;
      place = place_is m w.member place stands j;
      token = (data_is m w.member d at j).token;
      type = type_at t (data_is m w.member d at j).ty;
    }))

pub selected_both : (t : Table) (x : RecordTable) (arrow : Bool) (name : Name) (c : CType) (r : Result MemberNo TypeFault) → IsKept x → r ≡ typing.select x.typing arrow name c
    → (source : Source) (s : State) → AreSpelled source x → AreSelected t x.typing (binding.select source (with_records t x s) arrow name c) r
selected_both t x arrow name c r kept e source s spelled =
    subst (AreSelected t x.typing (binding.select source (with_records t x s) arrow name c)) (sym e) (both_select t x s source kept spelled arrow name c)
