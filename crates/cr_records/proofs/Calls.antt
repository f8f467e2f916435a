-- What the calls that add members do.
use Rattle.std.proofs.Common.{◌≡◌, ℕ, Bool, None, Some, List, [], ◌∷◌, ◌++◌, map, filter, refl, sym, ap, subst, ◌∙◌}
use Rattle.cr_base.specs.declared.token.Name.{Name}
use Rattle.cr_types.specs.declared.RecNo.{RecNo}
use Rattle.cr_types.specs.declared.TypeNo.{TypeNo}
use Rattle.cr_types.specs.Types.{CType, Rec, Table, type_at}
use Rattle.cr_typing.specs.declared.fault.TypeFault.{TypeFault}
use Rattle.cr_typing.specs.declared.fault.TypeFault.TheVariants as type_fault
use Rattle.cr_records.specs.declared.fault.RecordFault.{RecordFault}
use Rattle.cr_records.specs.declared.fault.RecordFault.TheVariants as fault
use Rattle.cr_typing.specs.declared.members.MemberData.{MemberData}
use Rattle.cr_typing.specs.declared.members.MemberNo.{MemberNo}
use Rattle.cr_typing.specs.declared.members.Named.{Named}
use Rattle.cr_typing.specs.Members.{Members, listed, placed, added_names, redeclared, IsRefused, next_member}
use Rattle.cr_binding.specs.Source.{Source}
use Rattle.cr_binding.specs.State.{Member, State}
use Rattle.cr_binding.specs.RecordMembers.{write, named_member, brought_in, add_anonymous}
use Rattle.cr_records.specs.declared.rows.Selector.{Selector}
use Rattle.cr_records.specs.Kept.{RecordTable, IsKept, AreThere, Writes, selector_for, named_by, selects_in, is_ended}
use Rattle.cr_records.specs.Records.{with_records, member_by, AreSpelled, IsNamed, Does, KeepsSpelling, Repeats, Refuses, Always, adding, splicing}
use Rattle.cr_binding.specs.Tags.{record_of as record_number}
use Rattle.cr_records.proofs.Same.{AreSame}
use Rattle.cr_records.proofs.Seen.{members_seen, spelled_filter}
use Rattle.cr_records.proofs.Writing.{there_filter, spelled_stay, writing_keeps}
use Rattle.cr_records.proofs.Adding.{spelled_append, refuses, write_same, written_state, named_there, named_told, named_members, named_spelled, brought_there, brought_told, brought_members, brought_spelled, brought_same}

-- ---- a member with a name

module _ (t : Table) (x : RecordTable) (r : RecNo) (name : Name) (ty : TypeNo) (token : ℕ) (kept : IsKept x) where
  abbrev pub member : MemberData
  member = record { rec = r; name = Some name; ty = ty; token = token }

  abbrev pub c : CType
  c = type_at t ty

  pub named_repeats : (i : ℕ) → redeclared (listed x.typing r.0) (added_names x.typing member c) ≡ Some i → Repeats (IsNamed token name) t x (adding r.0 token c) i
  named_repeats i e source s named spelled =
      write_same source t x s r.0 c (added_names x.typing member c) (named_member r.0 token c (with_records t x s) ∷ []) (Some i) kept spelled (sym named, refl, tt) e

  pub named_refused : (f : TypeFault) (g : RecordFault) → ((i : ℕ) → g ≡ fault.Redeclared i → f ≡ type_fault.Redeclared i) → IsRefused x.typing member c f
      → Refuses g (Repeats (IsNamed token name) t x (adding r.0 token c))
  named_refused f g is refused = refuses (listed x.typing r.0) (added_names x.typing member c) f g (Repeats (IsNamed token name) t x (adding r.0 token c)) is refused named_repeats

  module _ (whole : Bool) (new : Members) (k : MemberNo) (ws : List Selector) (is_whole : whole ≡ is_ended x.ended r.0) (number : k ≡ next_member x.typing)
      (writes : Writes whole x.typing member (added_names x.typing member c) new) (items : ws ≡ x.selectors ++ (record { holder = r; member = k }) ∷ []) where
    abbrev pub named_table : RecordTable
    named_table = record { records = x.records; typing = new; selectors = ws; completed = x.completed; ended = x.ended }

    by_next : ws ≡ x.selectors ++ (record { holder = r; member = next_member x.typing }) ∷ []
    by_next = items ∙ ap (λ (n : MemberNo). x.selectors ++ (record { holder = r; member = n }) ∷ []) number

    pub named_keeps : IsKept named_table
    named_keeps =
        subst (λ l. IsKept (record { records = x.records; typing = new; selectors = l; completed = x.completed; ended = x.ended })) (sym by_next)
        (writing_keeps x new member (added_names x.typing member c) kept
        (subst (λ b. Writes b x.typing member (added_names x.typing member c) new) is_whole writes)
        (named_there t x new member writes.all kept)
        (named_told t x new member writes.all kept name refl))

    pub named_does : redeclared (listed x.typing r.0) (added_names x.typing member c) ≡ None → Does (IsNamed token name) t x (adding r.0 token c) named_table
    named_does fresh source s named spelled =
        written_state t x new member writes.all kept s ws _ _ by_next (named_members t x new member writes.all kept s)
        ∙ sym (write_same source t x s r.0 c (added_names x.typing member c) (named_member r.0 token c (with_records t x s) ∷ []) None kept spelled (sym named, refl, tt) fresh)

    pub named_keeps_spelling : KeepsSpelling (IsNamed token name) x named_table
    named_keeps_spelling source named spelled =
        subst (λ l. AreSpelled source (record { records = x.records; typing = new; selectors = l; completed = x.completed; ended = x.ended })) (sym by_next)
        (named_spelled t x new member writes.all kept source name refl named spelled)

-- ---- a record without a name

module _ (t : Table) (x : RecordTable) (r : RecNo) (q : RecNo) (ty : TypeNo) (is : type_at t ty ≡ Rec q.0) (kept : IsKept x) where
  abbrev pub anonymous : MemberData
  anonymous = record { rec = r; name = None; ty = ty; token = 0 }

  -- the names that it brings in
  brought : added_names x.typing anonymous (type_at t ty) ≡ (listed x.typing q.0).named
  brought = ap (added_names x.typing anonymous) is

  abbrev pub selecting : List Selector
  selecting = filter (selects_in q.0) x.selectors

  told : added_names x.typing anonymous (type_at t ty) ≡ map (named_by x.typing) selecting
  told = brought ∙ (kept.lists q.0).named

  there : AreThere x.typing selecting
  there = there_filter x.typing (selects_in q.0) x.selectors kept.there

  abbrev pub brings : State → List Member
  brings s = brought_in r.0 q.0 (with_records t x s)

  brings_same : (s : State) → brings s ≡ map {A = Member} (λ m. record m { holder = r.0 }) (map (member_by t x.typing) selecting)
  brings_same s = ap (map {A = Member} (λ m. record m { holder = r.0 })) (members_seen t x s q.0)

  same : (source : Source) (s : State) → AreSpelled source x → AreSame source (added_names x.typing anonymous (type_at t ty)) (brings s)
  same source s spelled =
      subst (λ es. AreSame source es (brings s)) (sym told)
      (subst (AreSame source (map (named_by x.typing) selecting)) (sym (brings_same s))
      (brought_same source t x.typing r.0 selecting (spelled_filter source x.typing (selects_in q.0) x.selectors spelled)))

  splicing_is : (source : Source) (s : State) → splicing r.0 (type_at t ty) source s ≡ write source r.0 (type_at t ty) (brought_in r.0 q.0 s) s
  splicing_is source s = ap (λ z. add_anonymous source (Some r.0) (record_number z) (type_at t ty) s) is

  pub anonymous_repeats : (i : ℕ) → redeclared (listed x.typing r.0) (added_names x.typing anonymous (type_at t ty)) ≡ Some i → Repeats Always t x (splicing r.0 (type_at t ty)) i
  anonymous_repeats i e source s always spelled =
      splicing_is source (with_records t x s)
      ∙ write_same source t x s r.0 (type_at t ty) (added_names x.typing anonymous (type_at t ty)) (brings s) (Some i) kept spelled (same source s spelled) e

  pub anonymous_refused : (f : TypeFault) (g : RecordFault) → ((i : ℕ) → g ≡ fault.Redeclared i → f ≡ type_fault.Redeclared i)
      → IsRefused x.typing anonymous (type_at t ty) f → Refuses g (Repeats Always t x (splicing r.0 (type_at t ty)))
  anonymous_refused f g is refused =
      refuses (listed x.typing r.0) (added_names x.typing anonymous (type_at t ty)) f g (Repeats Always t x (splicing r.0 (type_at t ty))) is refused anonymous_repeats

  module _ (whole : Bool) (new : Members) (names : List (Name × Named)) (ws : List Selector) (is_whole : whole ≡ is_ended x.ended r.0) (listed_names : names ≡ (listed x.typing q.0).named)
      (writes : Writes whole x.typing anonymous (added_names x.typing anonymous (type_at t ty)) new) (items : ws ≡ x.selectors ++ map (selector_for r) names) where
    abbrev pub anonymous_table : RecordTable
    anonymous_table = record { records = x.records; typing = new; selectors = ws; completed = x.completed; ended = x.ended }

    by_names : ws ≡ x.selectors ++ map (selector_for r) (map (named_by x.typing) selecting)
    by_names = items ∙ ap (λ es. x.selectors ++ map (selector_for r) es) (listed_names ∙ (kept.lists q.0).named)

    pub anonymous_keeps : IsKept anonymous_table
    anonymous_keeps =
        subst (λ l. IsKept (record { records = x.records; typing = new; selectors = l; completed = x.completed; ended = x.ended })) (sym by_names)
        (writing_keeps x new anonymous (map (named_by x.typing) selecting) kept
        (subst (λ es. Writes (is_ended x.ended r.0) x.typing anonymous es new) told
        (subst (λ b. Writes b x.typing anonymous (added_names x.typing anonymous (type_at t ty)) new) is_whole writes))
        (brought_there t x new anonymous writes.all kept r selecting there)
        (brought_told t x new anonymous writes.all kept r selecting there))

    pub anonymous_does : redeclared (listed x.typing r.0) (added_names x.typing anonymous (type_at t ty)) ≡ None → Does Always t x (splicing r.0 (type_at t ty)) anonymous_table
    anonymous_does fresh source s always spelled =
        written_state t x new anonymous writes.all kept s ws _ _ by_names (brought_members t x new anonymous writes.all kept r selecting there ∙ sym (brings_same s))
        ∙ sym (splicing_is source (with_records t x s)
        ∙ write_same source t x s r.0 (type_at t ty) (added_names x.typing anonymous (type_at t ty)) (brings s) None kept spelled (same source s spelled) fresh)

    pub anonymous_keeps_spelling : KeepsSpelling Always x anonymous_table
    anonymous_keeps_spelling source always spelled =
        subst (λ l. AreSpelled source (record { records = x.records; typing = new; selectors = l; completed = x.completed; ended = x.ended })) (sym by_names)
        (spelled_append source new x.selectors _
        (spelled_stay x.typing new (placed x.typing anonymous) writes.all source x.selectors kept.there spelled)
        (brought_spelled t x new anonymous writes.all kept source r selecting there (spelled_filter source x.typing (selects_in q.0) x.selectors spelled)))
