-- What is true of each unit, whatever has happened.
use Rattle.std.specs.Prelude.{ℕ, ◌+◌, Bool, ◌&&◌, ◌||◌, ◌==◌, nat_le}
use Rattle.cr_core.specs.declared.progress.Holders.{Holders}
use Rattle.cr_core.specs.declared.progress.Holders.TheVariants.{Nobody, One, Two}
use Rattle.cr_core.specs.declared.progress.Progress.{Progress}

abbrev pub holder_count : Holders → ℕ
holder_count Nobody = 0
holder_count (One v) = 1
holder_count (Two v w) = 2

-- each assignment of a unit that is neither answered nor dry is still held, or ended in a strike
abbrev pub is_sound : ℕ → Progress → Bool
is_sound retries x =
    nat_le (holder_count x.holders + x.strikes) x.assigned
    && (nat_le x.assigned (retries + 2)
    && (x.is_answered || x.is_dry || x.assigned == holder_count x.holders + x.strikes))
