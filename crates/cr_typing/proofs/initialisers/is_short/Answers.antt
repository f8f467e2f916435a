use Rattle.std.proofs.Common.{◌≡◌, eqb, not, Some, option_map, sym, ap, subst, ◌∙◌}
use Rattle.cr_types.specs.Types.{Rec, type_at, type_of}
use Rattle.cr_typing.specs.declared.initialisers.ItemKind.TheVariants.{Value}
use Rattle.cr_typing.specs.ExpressionTypes.{same_type}
use Rattle.cr_typing.specs.Initialisers.{IsKindOf, is_short}
use Rattle.cr_typing.proofs.SameTypes.{same_type-numbers}
use Rattle.cr_typing.proofs.initialisers.is_short.Goals as goal

pub returns-in-Rec-Value : goal.returns-in-Rec-Value
returns-in-Rec-Value c =
    let t = c.args.types.now in
    let v = c.in-Rec-Value.value in
    let n = c.in-Some.n in
    let r : type_at t n ≡ Rec c.in-Rec-Value.field-0-0.0 = sym c.get.ensures.meant ∙ ap (type_of t) c.in-Rec-Value.is-0 in
    let given = subst (IsKindOf t) c.in-Rec-Value.is-1 c.requires.kind_given in
    let same : same_type (type_at t v) (type_at t n) ≡ eqb v.0 n.0 = same_type-numbers (type_at t v) (type_at t n) v n (λ e. ap (type_at t) e) (λ e. c.get.ensures.one v given e) in
    c.ne.ensures
    ∙ ap not (sym same)
    ∙ ap (λ d. not (same_type (type_at t v) d)) r
    ∙ ap (λ d. is_short t (Value v) (Some d)) (sym r)
    ∙ ap (λ o. is_short t (Value v) (option_map (type_at t) o)) (sym c.in-Some.is)
    ∙ ap (λ k. is_short t k (option_map (type_at t) c.args.object)) (sym c.in-Rec-Value.is-1)
