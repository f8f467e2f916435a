-- What the code holds, without where it lies in memory.
use Rattle.cr_words.specs.Seen.{name_of}
use Rattle.cr_goal.specs.Goals as goals
use Rattle.cr_goal.specs.declared.goal.Goal.{Goal}
use Rattle.cr_goal.specs.declared.goal.Sought.{Sought}
use Rattle.cr_goal.specs.declared.goal.Sought.TheVariants as sought

abbrev pub sought_of_code : Sought → goals.Sought
sought_of_code (sought.StandsAt path offset) = goals.stands_at path offset
sought_of_code (sought.HasName name) = goals.has_name (name_of name)

abbrev pub goal_of_code : Goal → goals.Goal
goal_of_code g = record { sought = sought_of_code g.sought; units = g.units; new = g.new.now; root = g.root; in_place = g.in_place }
