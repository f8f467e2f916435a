use Rattle.std.proofs.Common.{◌≡◌, map, drop}
use Rattle.std.specs.Prelude.{bytes_eq}
use Rattle.std.specs.Map.{lookup}
use Rattle.cr_bound.proofs.words.specifier_among.Given as goal

abbrev pub invariant-loop-word : goal.invariant-loop-word
invariant-loop-word l =
    lookup (bytes_eq l.text) (map (λ r. (r.0.now, r.1)) (drop l.word-index l.words)) ≡ lookup (bytes_eq l.text) (map (λ r. (r.0.now, r.1)) l.words)
