-- That the same records are seen as types are added.
use Rattle.std.proofs.Common.{◌≡◌, ℕ, zero, suc, Some, List, [], ◌∷◌, map, slice_get, refl, ap, ◌∙◌}
use Rattle.std.proofs.lemmas.Option.{slice_get-get_or}
use Rattle.cr_types.specs.declared.Record.{Record as TypeRecord}
use Rattle.cr_types.specs.declared.RecNo.{RecNo}
use Rattle.cr_types.specs.Types.{Table, IsTypeNo, Keeps, type_at}
use Rattle.cr_typing.specs.declared.members.Placed.{Placed}
use Rattle.cr_typing.specs.Members.{Members, AreOfTable}
use Rattle.cr_records.specs.declared.rows.Selector.{Selector}
use Rattle.cr_records.specs.Kept.{AreThere, no_member, placed_at}
use Rattle.cr_records.specs.Records.{record_of, written_by, member_by}
use Rattle.cr_records.specs.Laws.{RecordsStay}

module _ (t u : Table) (keeps : Keeps t u) where
  pub held_stays : (m : Members) → AreOfTable t m → AreOfTable u m
  held_stays m h i p at = ((keeps.types p.member.ty (h i p at).0).0, (keeps.records p.member.rec (h i p at).1).0)

  pub written_stay : (ps : List Placed) → ((i : ℕ) (p : Placed) → slice_get ps i ≡ Some p → IsTypeNo t p.member.ty) → map (written_by u) ps ≡ map (written_by t) ps
  written_stay [] h = refl
  written_stay (p ∷ ps) h =
      let e : type_at u p.member.ty ≡ type_at t p.member.ty = (keeps.types p.member.ty (h zero p refl)).2 in
      let r = written_stay ps (λ i q at. h (suc i) q at) in
      λ j. record { holder = p.member.rec.0; type = e j } ∷ r j

  pub members_stay : (m : Members) → AreOfTable t m → (ws : List Selector) → AreThere m ws → map (member_by u m) ws ≡ map (member_by t m) ws
  members_stay m h [] there = refl
  members_stay m h (w ∷ ws) there =
      let p : Placed = placed_at m w.member in
      let given : IsTypeNo t p.member.ty = (h w.member.0 p (slice_get-get_or m.all w.member.0 no_member there.0)).0 in
      let e : type_at u p.member.ty ≡ type_at t p.member.ty = (keeps.types p.member.ty given).2 in
      let r = members_stay m h ws there.1 in
      λ j. record { holder = w.holder.0; own = p.member.rec.0; place = p.place; token = p.member.token; type = e j } ∷ r j

pub records_stay : RecordsStay
records_stay t u x keeps same kept of = (
  record { held = held_stays t u keeps x.typing of.held; unions = ap (map {A = TypeRecord} (λ r. r.union)) same ∙ of.unions },
  λ s j. record s {
    records = map record_of x.records;
    written = written_stay t u keeps x.typing.all (λ i p at. (of.held i p at).0) j;
    members = members_stay t u keeps x.typing of.held x.selectors kept.there j;
    completed = x.completed;
    ended = map {A = RecNo} (λ r. r.0) x.ended;
  },
)
