use Rattle.std.proofs.Common.{◌≡◌, None, rules, sym, subst, ◌∙◌}
use Rattle.std.specs.Prelude.{◌==◌}
use Rattle.indexmap.specs.IndexMap.{get}
use Rattle.indexmap.proofs.CallerLemmas.{insert_entry-new}
use Rattle.cr_expand.specs.HidePaths.{IsPath, end_from}
use Rattle.cr_expand.proofs.HidePaths.{front_path, push_path}
use Rattle.cr_expand.proofs.hide_path.HidePath.go.Goals as goal

pub returns-then-ne : goal.returns-then-ne
returns-then-ne c = λ sets p _. front_path sets c.args.self.now.steps.entries c.go_back.new.self.steps.entries c.go_back.ensures p

pub returns-then-contains_key : goal.returns-then-contains_key
returns-then-contains_key c = λ sets p _. front_path sets c.args.self.now.steps.entries c.go_back.new.self.steps.entries c.go_back.ensures p

pub returns-in_err-insert : goal.returns-in_err-insert
returns-in_err-insert c = λ sets p _.
    subst (IsPath sets) (sym c.in_err-insert.ensures.err) (front_path sets c.args.self.now.steps.entries c.go_back.new.self.steps.entries c.go_back.ensures p)

pub returns : goal.returns
returns c = λ sets p s.
    let none : get (λ a b. a.0 == b.0) c.go_back.new.self.steps c.args.name ≡ None = search rules in
    let here : c.args.from.0 ≡ end_from 0 c.go_back.new.self.steps.entries = search rules in
    subst (IsPath sets) (sym (c.in_ok-insert.ensures.entries ∙ insert_entry-new (λ a b. a.0 == b.0) c.go_back.new.self.steps c.args.name c.args.made none))
    (push_path sets c.go_back.new.self.steps.entries c.args.from.0 (c.args.name, c.args.made) (front_path sets c.args.self.now.steps.entries c.go_back.new.self.steps.entries c.go_back.ensures p) here s)
