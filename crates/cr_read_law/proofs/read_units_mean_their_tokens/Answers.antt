use Rattle.cr_read_law.proofs.Read.{read_units_mean}
use Rattle.cr_read_law.proofs.read_units_mean_their_tokens.Goals as goal

pub returns : goal.returns
returns c = read_units_mean
