use Rattle.std.proofs.Common.{drop, sym, ◌∙◌, ap}
use Rattle.std.proofs.lemmas.List.{drop-drop}
use Rattle.cr_ll.proofs.stack.Stack.pop.Goals as goal

pub returns : goal.returns
returns c = sym (drop-drop 1 c.self.inside.top c.self.inside.slots.items) ∙ ap (λ l. drop 1 l) c.self.view_is
