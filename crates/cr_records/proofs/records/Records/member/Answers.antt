use Rattle.std.proofs.Common.{◌≡◌, ◌<◌, Some, length, slice_get, subst, sym, ap, ◌∙◌}
use Rattle.cr_types.specs.Types.{Table}
use Rattle.cr_typing.specs.declared.members.MemberData.{MemberData}
use Rattle.cr_binding.specs.Source.{Source, name_at}
use Rattle.cr_records.specs.Kept.{spelling}
use Rattle.cr_records.specs.Records.{AreSpelled, member_of, members_by}
use Rattle.cr_records.proofs.Selecting.{there_at, spelled_at, data_is, member_is}
use Rattle.cr_records.proofs.records.Records.member.Goals as goal

pub member-data-requires : goal.member-data-requires
member-data-requires c =
    there_at c.self.inside.typing _ c.args.n c.index-selector.result.now c.self.invariant.0.there (subst (λ z. c.args.n < length z.selectors) (sym c.self.view_is) c.requires) c.index-selector.ensures

pub place-requires : goal.place-requires
place-requires c =
    there_at c.self.inside.typing _ c.args.n c.index-selector.result.now c.self.invariant.0.there (subst (λ z. c.args.n < length z.selectors) (sym c.self.view_is) c.requires) c.index-selector.ensures

pub returns-clause-member : goal.returns-clause-member
returns-clause-member c =
    subst
    (λ z. (t : Table) → slice_get (members_by t z) c.args.n ≡ Some (member_of t (record { holder = c.index-selector.result.now.holder; own = c.member-data.result.now.rec; place = c.place.result; token = c.member-data.result.now.token; ty = c.member-data.result.now.ty; name = c.spelling.result })))
    c.self.view_is
    (λ t. member_is t c.self.inside.typing _ c.args.n c.index-selector.result.now c.member-data.result.now c.place.result c.spelling.result
    (subst (λ z. c.args.n < length z.selectors) (sym c.self.view_is) c.requires) c.index-selector.ensures c.member-data.ensures c.place.ensures)

pub returns-clause-name : goal.returns-clause-name
returns-clause-name c =
    subst (λ z. (source : Source) → AreSpelled source z → c.spelling.result ≡ name_at source c.member-data.result.now.token)
    c.self.view_is
    (λ source spelled.
    c.spelling.ensures
    ∙ ap (λ (d : MemberData). spelling d.name) (sym (data_is c.self.inside.typing c.index-selector.result.now.member c.member-data.result.now c.member-data.ensures))
    ∙ spelled_at source c.self.inside.typing c.self.inside.selectors.items c.args.n c.index-selector.result.now spelled (subst (λ z. c.args.n < length z.selectors) (sym c.self.view_is) c.requires) c.index-selector.ensures
    ∙ ap (λ (d : MemberData). name_at source d.token) (data_is c.self.inside.typing c.index-selector.result.now.member c.member-data.result.now c.member-data.ensures))
