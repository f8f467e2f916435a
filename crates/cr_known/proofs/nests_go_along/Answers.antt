use Rattle.std.proofs.Common.{◌≡◌, List, [], ◌∷◌, map, refl}
use Rattle.cr_known.specs.Known.{Known, Frame, known_close_on}
use Rattle.cr_known.specs.Nested.{nested_of, framed_of, nest_closed_on}
use Rattle.cr_known.proofs.nests_go_along.Goals as goal

closes : (k : Known) (fs : List Frame) → nested_of (known_close_on k fs) ≡ nest_closed_on (nested_of k) (map framed_of fs)
closes k [] = refl
closes k (f ∷ fs) = refl

pub returns : goal.returns
returns c = record { opens = λ m k. refl; passes = λ t i k. refl; acts = λ t x k. refl; closes = λ k. closes k k.above }
