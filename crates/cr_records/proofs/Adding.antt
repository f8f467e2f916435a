-- That members are added as binding says.
use Rattle.std.proofs.Common.{◌≡◌, ℕ, ◌+◌, unwrap_or, Option, None, Some, List, [], ◌∷◌, ◌++◌, map, length, refl, sym, ap, subst, ◌∙◌, arith, length-append}
use Rattle.std.proofs.lemmas.List.{map-append}
use Rattle.cr_base.specs.declared.token.Name.{Name}
use Rattle.cr_types.specs.declared.RecNo.{RecNo}
use Rattle.cr_types.specs.Types.{CType, Table, type_at}
use Rattle.cr_typing.specs.declared.members.MemberData.{MemberData}
use Rattle.cr_typing.specs.declared.members.MemberNo.{MemberNo}
use Rattle.cr_typing.specs.declared.members.Named.{Named}
use Rattle.cr_typing.specs.declared.members.Placed.{Placed}
use Rattle.cr_typing.specs.declared.fault.TypeFault.{TypeFault}
use Rattle.cr_typing.specs.declared.fault.TypeFault.TheVariants as type_fault
use Rattle.cr_typing.specs.Members.{Members, Listed, listed, placed, next_member, redeclared, RefusesNames}
use Rattle.cr_binding.specs.Source.{Source, name_at}
use Rattle.cr_binding.specs.State.{Member, State}
use Rattle.cr_binding.specs.RecordMembers.{members_of, write_unless, write, named_member}
use Rattle.cr_records.specs.declared.fault.RecordFault.{RecordFault}
use Rattle.cr_records.specs.declared.fault.RecordFault.TheVariants as fault
use Rattle.cr_records.specs.declared.rows.Selector.{Selector}
use Rattle.cr_records.specs.Kept.{RecordTable, IsKept, AreThere, selector_for, no_name, name_of, named_by}
use Rattle.cr_records.specs.Records.{with_records, record_of, written_by, placed_in, member_by, AreSpelledBy, AreSpelled, Refuses}
use Rattle.cr_records.proofs.Same.{AreSame, least_same}
use Rattle.cr_records.proofs.Seen.{names_seen, count_seen}
use Rattle.cr_records.proofs.Writing.{placed_stays, members_stay, spelled_stay, put_at}

pub spelled_append : (source : Source) (m : Members) (vs ws : List Selector) → AreSpelledBy source m vs → AreSpelledBy source m ws → AreSpelledBy source m (vs ++ ws)
spelled_append source m [] ws h g = g
spelled_append source m (v ∷ vs) ws h g = (h.0, spelled_append source m vs ws h.1 g)

-- names that are kept, which are those of members that are new, are refused for the same token
pub write_same : (source : Source) (t : Table) (x : RecordTable) (s : State) (r : ℕ) (c : CType) (named : List (Name × Named)) (new : List Member) (o : Option ℕ)
    → IsKept x → AreSpelled source x → AreSame source named new → redeclared (listed x.typing r) named ≡ o
    → write source r c new (with_records t x s) ≡ write_unless o r c new (with_records t x s)
write_same source t x s r c named new o kept spelled same e =
    ap (λ z. write_unless z r c new (with_records t x s))
    (sym (least_same source (listed x.typing r) (members_of (with_records t x s) r) named new (names_seen t x s source r kept spelled) same) ∙ e)

-- what a fault says of names that are refused
pub refuses : (x : Listed) (named : List (Name × Named)) (f : TypeFault) (g : RecordFault) (P : ℕ → Type 0)
    → ((i : ℕ) → g ≡ fault.Redeclared i → f ≡ type_fault.Redeclared i) → RefusesNames x named f → ((i : ℕ) → redeclared x named ≡ Some i → P i) → Refuses g P
refuses x named f (fault.Redeclared i) P is h gives = gives i (subst (RefusesNames x named) (is i refl) h)
refuses x named f fault.OutOfMemory P is h gives = tt

module _ (t : Table) (x : RecordTable) (new : Members) (member : MemberData) (grown : new.all ≡ x.typing.all ++ placed x.typing member ∷ []) (kept : IsKept x) where
  abbrev pub r : ℕ
  r = member.rec.0

  abbrev pub c : CType
  c = type_at t member.ty

  abbrev pub n : MemberNo
  n = next_member x.typing

  abbrev pub with_new : List Selector → RecordTable
  with_new ws = record { records = x.records; typing = new; selectors = ws; completed = x.completed; ended = x.ended }

  -- the state with the member
  pub written_state : (s : State) (ws more : List Selector) (ms : List Member) → ws ≡ x.selectors ++ more → map (member_by t new) more ≡ ms
      → with_records t (with_new ws) s ≡ write_unless None r c ms (with_records t x s)
  written_state s ws more ms e same = λ j. record s {
    records = map record_of x.records;
    written = all_written j;
    members = all_members j;
    completed = x.completed;
    ended = map {A = RecNo} (λ k. k.0) x.ended;
  }
    where
      all_written : map (written_by t) new.all ≡ map (written_by t) x.typing.all ++ (record { holder = r; type = c }) ∷ []
      all_written = ap (map (written_by t)) grown ∙ map-append (written_by t) x.typing.all (placed x.typing member ∷ [])

      all_members : map (member_by t new) ws ≡ map (member_by t x.typing) x.selectors ++ ms
      all_members =
          ap (map (member_by t new)) e
          ∙ map-append (member_by t new) x.selectors more
          ∙ (λ j. members_stay x.typing new (placed x.typing member) grown t x.selectors kept.there j ++ same j)

  -- ---- a member with a name

  pub named_there : AreThere new (selector_for member.rec (name_of (placed x.typing member), record { member = n; token = member.token }) ∷ [])
  named_there = (let e : length new.all ≡ length x.typing.all + 1 = ap length grown ∙ length-append x.typing.all (placed x.typing member ∷ []) in omega (arith, e), tt)

  pub named_told : (name : Name) → member.name ≡ Some name → map (named_by new) ((record { holder = member.rec; member = n }) ∷ []) ≡ (name, record { member = n; token = member.token }) ∷ []
  named_told name is =
      ap (λ (p : Placed). (name_of p, record { member = n; token = p.member.token }) ∷ []) (put_at x.typing new (placed x.typing member) grown)
      ∙ ap (λ o. (unwrap_or o no_name, record { member = n; token = member.token }) ∷ []) is

  pub named_members : (s : State) → map (member_by t new) ((record { holder = member.rec; member = n }) ∷ []) ≡ named_member r member.token c (with_records t x s) ∷ []
  named_members s =
      ap (λ p. placed_in t r p ∷ []) (put_at x.typing new (placed x.typing member) grown)
      ∙ ap (λ (k : ℕ). record { holder = r; own = r; place = k; token = member.token; type = c } ∷ []) (count_seen t x s r kept)

  pub named_spelled : (source : Source) (name : Name) → member.name ≡ Some name → name_at source member.token ≡ name → AreSpelled source x
      → AreSpelledBy source new (x.selectors ++ (record { holder = member.rec; member = n }) ∷ [])
  named_spelled source name is at h =
      spelled_append source new x.selectors _ (spelled_stay x.typing new (placed x.typing member) grown source x.selectors kept.there h)
      (subst (λ p. name_of p ≡ name_at source p.member.token) (sym (put_at x.typing new (placed x.typing member) grown)) (ap (λ o. unwrap_or o no_name) is ∙ sym at), tt)

  -- ---- a record without a name

  pub brought_there : (q : RecNo) (ws : List Selector) → AreThere x.typing ws → AreThere new (map (selector_for q) (map (named_by x.typing) ws))
  brought_there q [] h = tt
  brought_there q (w ∷ ws) h =
      (let e : length new.all ≡ length x.typing.all + 1 = ap length grown ∙ length-append x.typing.all (placed x.typing member ∷ []) in omega (arith, e, h.0), brought_there q ws h.1)

  pub brought_told : (q : RecNo) (ws : List Selector) → AreThere x.typing ws → map (named_by new) (map (selector_for q) (map (named_by x.typing) ws)) ≡ map (named_by x.typing) ws
  brought_told q [] h = refl
  brought_told q (w ∷ ws) h =
      let e = placed_stays x.typing new (placed x.typing member) grown w.member h.0 in
      let rest = brought_told q ws h.1 in
      λ j. (name_of (e j), record { member = w.member; token = (e j).member.token }) ∷ rest j

  pub brought_members : (q : RecNo) (ws : List Selector) → AreThere x.typing ws
      → map (member_by t new) (map (selector_for q) (map (named_by x.typing) ws)) ≡ map {A = Member} (λ m. record m { holder = q.0 }) (map (member_by t x.typing) ws)
  brought_members q [] h = refl
  brought_members q (w ∷ ws) h =
      let e = placed_stays x.typing new (placed x.typing member) grown w.member h.0 in
      let rest = brought_members q ws h.1 in
      λ j. placed_in t q.0 (e j) ∷ rest j

  pub brought_spelled : (source : Source) (q : RecNo) (ws : List Selector) → AreThere x.typing ws → AreSpelledBy source x.typing ws
      → AreSpelledBy source new (map (selector_for q) (map (named_by x.typing) ws))
  brought_spelled source q [] there h = tt
  brought_spelled source q (w ∷ ws) there h = (
    subst (λ p. name_of p ≡ name_at source p.member.token) (sym (placed_stays x.typing new (placed x.typing member) grown w.member there.0)) h.0,
    brought_spelled source q ws there.1 h.1,
  )

pub brought_same : (source : Source) (t : Table) (m : Members) (q : ℕ) (ws : List Selector) → AreSpelledBy source m ws
    → AreSame source (map (named_by m) ws) (map {A = Member} (λ k. record k { holder = q }) (map (member_by t m) ws))
brought_same source t m q [] h = tt
brought_same source t m q (w ∷ ws) h = (h.0, refl, brought_same source t m q ws h.1)
