-- Of which tokens a directive is made.
use Rattle.std.specs.Prelude.{◌≡◌, List, ◌∷◌}
use Rattle.cr_base.specs.declared.token.PpTok.{PpTok}
use Rattle.cr_preproc.specs.declared.line.Line.{Line}
use Rattle.cr_preproc.specs.declared.line.Line.TheVariants as line

-- A directive with a word is a `#`, that word, and what stands behind it.
abbrev pub AreParts : List PpTok → Line → Type 0
AreParts ts (line.Conditional hash t word rest) = (first : PpTok) × (ts ≡ first ∷ t ∷ rest.now)
AreParts ts (line.Directive hash t rest) = (first : PpTok) × (ts ≡ first ∷ t ∷ rest.now)
AreParts ts line.Plain = Unit {0}
AreParts ts line.Empty = Unit {0}
AreParts ts (line.Wordless hash) = Unit {0}
