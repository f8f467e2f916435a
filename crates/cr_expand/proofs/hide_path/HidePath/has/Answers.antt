use Rattle.std.proofs.Common.{◌≡◌, rules, ap, ◌∙◌, Some, sym}
use Rattle.cr_expand.proofs.HidePaths.{has_at, is_by}
use Rattle.cr_expand.proofs.hide_path.HidePath.has.Goals as goal

pub returns-in-None : goal.returns-in-None
returns-in-None c = λ sets p.
    let same : c.in_ok-get.field-0.now ≡ c.args.set = search rules in
    ap (is_by c.args.set) c.in-None.ensures.value
    ∙ has_at sets c.args.self.now.steps.entries c.args.last c.args.name c.args.set p (sym c.in_ok-get.ensures.value ∙ ap (λ s. Some s) same)

pub returns-in-Some : goal.returns-in-Some
returns-in-Some c = λ sets p.
    let same : c.in_ok-get.field-0.now ≡ c.args.set = search rules in
    ap (is_by c.args.set) c.in-Some.ensures.value
    ∙ has_at sets c.args.self.now.steps.entries c.args.last c.args.name c.args.set p (sym c.in_ok-get.ensures.value ∙ ap (λ s. Some s) same)
