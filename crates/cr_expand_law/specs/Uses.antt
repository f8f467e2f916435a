-- What a renaming does to one use of a rule of expansion.
use Rattle.std.specs.Prelude.{◌≡◌, ℕ, List, map}
use Rattle.std.specs.List.{AllByRecursion}
use Rattle.cr_macros.specs.Tokens.{Token, Event, Gave}
use Rattle.cr_macros.specs.Expansion.{Table, use_of}
use Rattle.cr_macros.specs.Uses.{put_for, is_given, left_behind}
use Rattle.cr_expand_law.specs.Renaming.{Renaming, renamed, all_renamed, renamed_table, renamed_event, IsHarmless, IsFree}

-- Where the rule for the head of a list gives tokens with harmless events, the rule for the renamed head gives the renamed
-- tokens with the same work and events; they are tokens of the result where those are, and the same comes behind them.
abbrev pub KeepsUses : Type 0
KeepsUses =
    (r : Renaming) (table : Table) (t : Token) (rest out : List Token) (left1 left2 : ℕ) (events : List Event)
    → IsFree r table → put_for table t (use_of table t rest) left1 ≡ Gave out left2 events → AllByRecursion (IsHarmless r) events
    → (put_for (renamed_table r table) (renamed r t) (use_of (renamed_table r table) (renamed r t) (all_renamed r rest)) left1 ≡ Gave (all_renamed r out) left2 (map (renamed_event r) events))
    × (is_given (use_of (renamed_table r table) (renamed r t) (all_renamed r rest)) ≡ is_given (use_of table t rest))
    × (left_behind (all_renamed r rest) (use_of (renamed_table r table) (renamed r t) (all_renamed r rest)) ≡ all_renamed r (left_behind rest (use_of table t rest)))
