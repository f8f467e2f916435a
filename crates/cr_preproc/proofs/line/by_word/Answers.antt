use Rattle.std.proofs.Common.{◌∷◌, ap, ◌∙◌}
use Rattle.cr_preproc.proofs.line.by_word.Goals as goal

pub returns-in-None-clause-parts : goal.returns-in-None-clause-parts
returns-in-None-clause-parts c behind all first e h = (first, h ∙ ap (λ l. first ∷ l) e)

pub returns-in-Some-clause-parts : goal.returns-in-Some-clause-parts
returns-in-Some-clause-parts c behind all first e h = (first, h ∙ ap (λ l. first ∷ l) e)
