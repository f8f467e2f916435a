use Rattle.std.proofs.Common.{◌≡◌, ◌∙◌, ◌-◌, length, ap, sym, subst}
use Rattle.std.specs.Prelude.{slice_get, option_map, unwrap_or}
use Rattle.cr_types.specs.Types.{Void, type_at}
use Rattle.cr_names.specs.Kept.{IsOf}
use Rattle.cr_names.specs.Names.{IsLastType}
use Rattle.cr_names.proofs.Seen.{last_is, given_some}
use Rattle.cr_names.proofs.names.Names.last_type.Goals as goal

last_found : (c : goal.After-copied) → c.copied.result ≡ slice_get c.self.inside.types_of.items (length c.self.inside.types_of.items - 1)
last_found c = c.copied.ensures ∙ c.last.ensures.value ∙ ap (λ ns. slice_get ns (length ns - 1)) c.deref.ensures.value

pub returns-clause-meant : goal.returns-clause-meant
returns-clause-meant c =
    subst (λ x. IsLastType x c.copied.result) c.self.view_is
    (λ t. last_is t _ _ c.self.invariant.counted ∙ ap (λ r. unwrap_or (option_map (type_at t) r) Void) (sym (last_found c)))

pub returns-clause-given : goal.returns-clause-given
returns-clause-given c t of =
    given_some t _ _ _ (last_found c) (subst (IsOf t) (sym c.self.view_is) of)
