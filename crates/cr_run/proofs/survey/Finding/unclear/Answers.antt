use Rattle.std.proofs.Common.{[], refl, arith}
use Rattle.cr_run.proofs.Findings.{nothing, nowhere}
use Rattle.cr_run.proofs.survey.Finding.unclear.Goals as goal

pub returns-clause-found : goal.returns-clause-found
returns-clause-found c meaning wanted path = (
  record { clear = refl; unspellable = refl; bytes = λ some. absurd (omega (arith, some)) },
  record {
    numbered = refl;
    places = [];
    told = nowhere c.args.number c.new-2.result c.new-2.ensures wanted.key;
    holds = refl;
    own = λ n apart. nothing n c.new-2.result c.new-2.ensures wanted.key;
  },
)

pub returns-clause-placed : goal.returns-clause-placed
returns-clause-placed c old key path = record {
  numbered = refl;
  places = [];
  told = nowhere c.args.number c.new-2.result c.new-2.ensures key;
  holds = omega arith;
  own = λ n apart. nothing n c.new-2.result c.new-2.ensures key;
}
