-- What members do to all that is bound.
use Rattle.std.proofs.Common.{◌≡◌, ℕ, Bool, true, false, if◌then◌else◌, Some, None, List, refl, sym, ap, subst, ◌∙◌}
use Rattle.cr_base.specs.declared.token.Name.{Name}
use Rattle.cr_base.specs.declared.token.Tok.{Tok}
use Rattle.cr_base.specs.declared.cause.IllCause.{IllCause}
use Rattle.cr_base.specs.declared.cause.IllCause.TheVariants as cause
use Rattle.cr_types.specs.declared.Part.{Part}
use Rattle.cr_types.specs.declared.TypeNo.{TypeNo}
use Rattle.cr_records.specs.declared.fault.RecordFault.{RecordFault}
use Rattle.cr_records.specs.declared.fault.RecordFault.TheVariants as record_fault
use Rattle.cr_names.specs.declared.fault.BindFault.{BindFault}
use Rattle.cr_binding.specs.Specifying.{specified_type}
use Rattle.cr_binding.specs.Tags.{record_of}
use Rattle.cr_bound.specs.Members.{IsRefusal}
use Rattle.cr_types.specs.declared.RecNo.{RecNo}
use Rattle.cr_types.specs.Types.{Table, type_at}
use Rattle.cr_binding.specs.Source.{Source, name_at}
use Rattle.cr_binding.specs.State.{State}
use Rattle.cr_binding.specs.RecordMembers.{end_record, add_member, add_anonymous}
use Rattle.cr_records.specs.Kept.{RecordTable, IsOf}
use Rattle.cr_records.specs.Records.{with_records, AreSpelled as AreRecordsSpelled, IsNamed, Always, Does as AreDone, KeepsSpelling, Repeats, Refuses as AreRefused, adding as member_adding, splicing as member_splicing}
use Rattle.cr_names.specs.Names.{HasTokens, Refuses, with_names}
use Rattle.cr_bound.specs.declared.bound.Bound.{Bound}
use Rattle.cr_bound.specs.Kept.{number, with_pending, with_place, with_bound, IsTyped}
use Rattle.cr_bound.specs.Bound.{Any, Does, Fails, Moves, Grows, type_by, adding, splicing, ending}
use Rattle.std.specs.Prelude.{option_map}

-- what is beside the records
abbrev pub beside : Bound → Table → State → State
beside b t s = with_names t b.names (with_pending t b.pending (with_place b.place s))

pub record_ended : (b : Bound) (r : RecordTable) (k : RecNo) → b.place.filled ≡ Some k
    → ((t : Table) (s : State) → with_records t r s ≡ end_record (Some k.0) (with_records t b.records s))
    → ((source : Source) → AreRecordsSpelled source b.records → AreRecordsSpelled source r) → Moves b ending (record b { records = r })
record_ended b r k is does spells t = record {
  state = λ source s p sound spelled. does t (beside b t s) ∙ ap (λ o. end_record (option_map number o) (with_bound t b s)) (sym is);
  spelled = λ source p h. (h.0, spells source h.1);
}

-- a refused member
pub refusal : (f : RecordFault) (z : BindFault) (P : ℕ → Type 0) (Q : IllCause → ℕ → Type 0) → IsRefusal f z → ((i : ℕ) → P i → Q cause.Redeclared i) → AreRefused f P → Refuses z Q
refusal (record_fault.Redeclared i) z P Q e more h = subst (λ w. Refuses w Q) (sym e) (more i h)
refusal record_fault.OutOfMemory z P Q e more h = subst (λ w. Refuses w Q) (sym e) tt

pub typed_with : (u : Table) (b : Bound) (r : RecordTable) → IsTyped u b → IsOf u r → IsTyped u (record b { records = r })
typed_with u b r h of = record { names = h.names; records = of; base = h.base; filled = h.filled; basics = h.basics }

module _ (t u : Table) (b : Bound) (grows : Grows t u b) (k : RecNo) (filled : b.place.filled ≡ Some k) (n : TypeNo) where
  -- ---- a member with a name

  module _ (parts : List Part) (tokens : List Tok) (i : ℕ) (named : b.pending.name ≡ Some i) (name : Name) (on : (source : Source) → HasTokens tokens source → name_at source i ≡ name)
      (meant : (s : State) → type_at u n ≡ type_by parts (with_bound t b s)) where
    adding_is : (source : Source) (s : State) → adding parts source (with_bound t b s) ≡ add_member source (Some k.0) (Some i) (type_at u n) (with_bound u b s)
    adding_is source s =
        (λ j. add_member source (option_map number (filled j)) (named j) (sym (meant s) j) (with_bound t b s))
        ∙ ap (add_member source (Some k.0) (Some i) (type_at u n)) (sym (grows.same s))

    pub member_added : (r : RecordTable) → AreDone (IsNamed i name) u b.records (member_adding k.0 i (type_at u n)) r → KeepsSpelling (IsNamed i name) b.records r
        → Does (HasTokens tokens) t b (adding parts) u (record b { records = r })
    member_added r d spells = record {
      state = λ source s q sound spelled. d source (beside b u s) (on source q) spelled.1 ∙ sym (adding_is source s);
      spelled = λ source q h. (h.0, spells source (on source q) h.1);
    }

    pub member_refused : (f : RecordFault) (z : BindFault) → IsRefusal f z → AreRefused f (Repeats (IsNamed i name) u b.records (member_adding k.0 i (type_at u n))) → Refuses z (Fails (HasTokens tokens) t b (adding parts))
    member_refused f z e = refusal f z (Repeats (IsNamed i name) u b.records (member_adding k.0 i (type_at u n))) (Fails (HasTokens tokens) t b (adding parts)) e
        (λ c h source s q sound spelled. ap (λ a. a.fault) (adding_is source s ∙ h source (beside b u s) (on source q) spelled.1))

  -- ---- one without

  module _ (untagged : b.pending.is_untagged ≡ true) (meant : (s : State) → type_at u n ≡ specified_type (with_bound t b s).pending) where
    splicing_is : (source : Source) (s : State) → splicing source (with_bound t b s) ≡ add_anonymous source (Some k.0) (record_of (type_at u n)) (type_at u n) (with_bound u b s)
    splicing_is source s =
        ap (λ z. if z then add_anonymous source (option_map number b.place.filled) (record_of (specified_type (with_bound t b s).pending)) (specified_type (with_bound t b s).pending) (with_bound t b s) else with_bound t b s) untagged
        ∙ (λ j. add_anonymous source (option_map number (filled j)) (record_of (sym (meant s) j)) (sym (meant s) j) (with_bound t b s))
        ∙ ap (add_anonymous source (Some k.0) (record_of (type_at u n)) (type_at u n)) (sym (grows.same s))

    pub member_spliced : (r : RecordTable) → AreDone Always u b.records (member_splicing k.0 (type_at u n)) r → KeepsSpelling Always b.records r → Does Any t b splicing u (record b { records = r })
    member_spliced r d spells = record {
      state = λ source s q sound spelled. d source (beside b u s) tt spelled.1 ∙ sym (splicing_is source s);
      spelled = λ source q h. (h.0, spells source tt h.1);
    }

    pub splice_refused : (f : RecordFault) (z : BindFault) → IsRefusal f z → AreRefused f (Repeats Always u b.records (member_splicing k.0 (type_at u n))) → Refuses z (Fails Any t b splicing)
    splice_refused f z e = refusal f z (Repeats Always u b.records (member_splicing k.0 (type_at u n))) (Fails Any t b splicing) e
        (λ c h source s q sound spelled. ap (λ a. a.fault) (splicing_is source s ∙ h source (beside b u s) tt spelled.1))

-- ---- where nothing is added

pub no_record : (t : Table) (b : Bound) (parts : List Part) (P : Source → Type 0) → b.place.filled ≡ None → Does P t b (adding parts) t b
no_record t b parts P e = record {
  state = λ source s q sound spelled. ap (λ o. add_member source (option_map number o) b.pending.name (type_by parts (with_bound t b s)) (with_bound t b s)) (sym e);
  spelled = λ source q h. h;
}

pub no_name : (t : Table) (b : Bound) (parts : List Part) (P : Source → Type 0) (k : RecNo) → b.place.filled ≡ Some k → b.pending.name ≡ None → Does P t b (adding parts) t b
no_name t b parts P k f e = record {
  state = λ source s q sound spelled j. add_member source (option_map number (sym f j)) (sym e j) (type_by parts (with_bound t b s)) (with_bound t b s);
  spelled = λ source q h. h;
}

pub tagged_spliced : (t : Table) (b : Bound) (P : Source → Type 0) → b.pending.is_untagged ≡ false → Does P t b splicing t b
tagged_spliced t b P e = record {
  state = λ source s q sound spelled.
      ap (λ z. if z then add_anonymous source (option_map number b.place.filled) (record_of (specified_type (with_bound t b s).pending)) (specified_type (with_bound t b s).pending) (with_bound t b s) else with_bound t b s) (sym e);
  spelled = λ source q h. h;
}

pub nowhere_spliced : (t : Table) (b : Bound) (P : Source → Type 0) → b.place.filled ≡ None → Does P t b splicing t b
nowhere_spliced t b P e = record {
  state = λ source s q sound spelled.
      sym (by source (with_bound t b s) b.pending.is_untagged)
      ∙ ap (λ o. if b.pending.is_untagged then add_anonymous source (option_map number o) (record_of (specified_type (with_bound t b s).pending)) (specified_type (with_bound t b s).pending) (with_bound t b s) else with_bound t b s) (sym e);
  spelled = λ source q h. h;
}
  where
    by : (source : Source) (s : State) (z : Bool) → (if z then add_anonymous source None (record_of (specified_type s.pending)) (specified_type s.pending) s else s) ≡ s
    by source s true = refl
    by source s false = refl
