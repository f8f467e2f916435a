-- Words and files decide one outcome.
use Rattle.std.proofs.Common.{◌≡◌, sym, ap, ◌∙◌}
use mathlib.Core.Path.{fun_ext}
use Rattle.cr_small.specs.SmallForm.{DenotesOne}
use Rattle.cr_run.specs.Survey.{Meaning, IsMeaning}
use Rattle.cr_run.specs.Outcome.{OneOutcome, outcome}
use Rattle.cr_run.proofs.Meanings.{means}

-- what texts mean is one
pub meanings_one : DenotesOne → (one other : Meaning) → IsMeaning one → IsMeaning other → one ≡ other
meanings_one law one other is too = fun_ext (λ text. means law one is text (other text) (too text))

pub outcome_one : DenotesOne → OneOutcome
outcome_one law words files one other (m, is, e) (n, too, f) = e ∙ ap (λ x. outcome x words files) (meanings_one law m n is too) ∙ sym f
