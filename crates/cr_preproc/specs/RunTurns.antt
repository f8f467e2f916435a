-- How a token of a run is given.
use Rattle.std.specs.Prelude.{◌≡◌, List, [], ◌∷◌, length}
use Rattle.cr_base.specs.declared.token.PpTok.{PpTok}
use Rattle.cr_macros.specs.Tokens.{Text, token_of}
use Rattle.cr_preproc.specs.declared.progress.Progress.{Progress}
use Rattle.cr_preproc.specs.declared.progress.TheConstants.{MOST_TOKENS}
use Rattle.cr_preproc.specs.declared.turning.Doing.{Doing}
use Rattle.cr_preproc.specs.declared.turning.Doing.TheVariants as doing
use Rattle.cr_phase4.specs.Tasks.{Over, Tokens, Done, gives}
use Rattle.cr_preproc.specs.Progressing.{Did}
use Rattle.cr_preproc.specs.Expanding.{end_by}

-- The token is a final one, whatever names are hidden from it, nothing but the tokens and the trace is changed, and this is done
-- next; or there is no room for it, and the unit ends.
abbrev pub IsGiving : Progress → Progress → PpTok → Doing → Doing → Type 0
IsGiving p q t next (doing.Expands e then) =
    ((hide : List Text) → Did 0 p q (gives (token_of p.names hide t ∷ [])) Done) × (q ≡ record p { tokens = q.tokens; trace = q.trace }) × (doing.Expands e then ≡ next)
IsGiving p q t next (doing.Fails fault) = (length p.tokens.items ≡ MOST_TOKENS) × (q ≡ p) × (end_by fault ≡ Over Tokens)
IsGiving p q t next doing.Reads = ⊥
IsGiving p q t next (doing.Decides l d) = ⊥
IsGiving p q t next (doing.Includes l) = ⊥
IsGiving p q t next (doing.Looks paths site) = ⊥
