-- That records are announced as binding says.
use Rattle.std.proofs.Common.{◌≡◌, inl, inr, ℕ, Bool, true, false, List, [], ◌∷◌, ◌++◌, map, length, sym, ap, ◌∙◌}
use Rattle.std.specs.Prelude.{if◌then◌else◌}
use Rattle.std.proofs.lemmas.List.{map-append}
use Rattle.cr_base.specs.declared.Kind.{Kind}
use Rattle.cr_types.specs.declared.Ty.{Ty}
use Rattle.cr_types.specs.declared.RecNo.{RecNo}
use Rattle.cr_types.specs.declared.Record.{Record as TypeRecord}
use Rattle.cr_types.specs.Types.{Arith, Rec, Table, Keeps, Adds}
use Rattle.cr_binding.specs.State.{State}
use Rattle.cr_binding.specs.Tags.{is_record_kind, is_union_kind, with_record, new_type}
use Rattle.cr_records.specs.declared.rows.RecordRow.{RecordRow}
use Rattle.cr_records.specs.Kept.{RecordTable, IsKept, IsOf}
use Rattle.cr_records.specs.Records.{with_records, record_of, recorded}
use Rattle.cr_records.proofs.Growing.{held_stays, written_stay, members_stay}

pub made_records : (old new : Table) (x : Ty) → Adds old x new → new.records ≡ old.records
made_records old new x (inl h) = ap (λ (t : Table). t.records) h.1
made_records old new x (inr h) = ap (λ (t : Table). t.records) h.1

pub keeps_both : (t u w : Table) → Keeps t u → Keeps u w → Keeps t w
keeps_both t u w a b = record {
  types = λ n h. (let p = a.types n h in let q = b.types n p.0 in (q.0, q.1 ∙ p.1, q.2 ∙ p.2));
  records = λ r h. (let p = a.records r h in let q = b.records r p.0 in (q.0, q.1 ∙ p.1));
}

module _ (t w : Table) (x : RecordTable) (rows : List RecordRow) (row : RecordRow) (kept : IsKept x) (of : IsOf t x) (keeps : Keeps t w) (items : rows ≡ x.records ++ row ∷ []) where
  abbrev pub announced_table : RecordTable
  announced_table = record { records = rows; typing = x.typing; selectors = x.selectors; completed = x.completed; ended = x.ended }

  pub announced_of : (r : TypeRecord) → r.union ≡ row.is_union → w.records ≡ t.records ++ r ∷ [] → IsOf w announced_table
  announced_of r same grown = record {
    held = held_stays t w keeps x.typing of.held;
    unions = ap (map {A = TypeRecord} (λ k. k.union)) grown
        ∙ map-append (λ (k : TypeRecord). k.union) t.records (r ∷ [])
        ∙ (λ j. of.unions j ++ same j ∷ [])
        ∙ sym (map-append (λ (k : RecordRow). k.is_union) x.records (row ∷ []))
        ∙ ap (map {A = RecordRow} (λ k. k.is_union)) (sym items);
  }

  pub announced_does : (s : State) → with_records w announced_table s ≡ recorded row (with_records t x s)
  announced_does s = λ j. record s {
    records = (ap (map record_of) items ∙ map-append record_of x.records (row ∷ [])) j;
    written = written_stay t w keeps x.typing.all (λ i p at. (of.held i p at).0) j;
    members = members_stay t w keeps x.typing of.held x.selectors kept.there j;
    completed = x.completed;
    ended = map {A = RecNo} (λ r. r.0) x.ended;
  }

-- ---- by the keyword

pub announces : (i : ℕ) (k : Kind) (b : Bool) (s : State) → s.keyword ≡ k → is_record_kind k ≡ true → b ≡ is_union_kind k
    → with_record i s ≡ recorded (record { token = i; is_union = b }) s
announces i k b s e is union =
    ap (λ z. if is_record_kind z then recorded (record { token = i; is_union = is_union_kind z }) s else s) e
    ∙ ap (λ z. if z then recorded (record { token = i; is_union = is_union_kind k }) s else s) is
    ∙ ap (λ z. recorded (record { token = i; is_union = z }) s) (sym union)

pub announces_none : (i : ℕ) (k : Kind) (s : State) → s.keyword ≡ k → is_record_kind k ≡ false → with_record i s ≡ s
announces_none i k s e is =
    ap (λ z. if is_record_kind z then recorded (record { token = i; is_union = is_union_kind z }) s else s) e
    ∙ ap (λ z. if z then recorded (record { token = i; is_union = is_union_kind k }) s else s) is

pub announced_type : (k : Kind) (b : Bool) (s : State) → s.keyword ≡ k → is_record_kind k ≡ b → new_type s ≡ (if b then Rec (length s.records) else Arith)
announced_type k b s e is = ap (λ z. if is_record_kind z then Rec (length s.records) else Arith) e ∙ ap (λ z. if z then Rec (length s.records) else Arith) is
