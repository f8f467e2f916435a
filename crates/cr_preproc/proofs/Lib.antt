pub mod Headers
pub mod Searches
pub mod ByTexts
pub mod MacroNames
pub mod Answered
pub mod Lexemes
pub mod Marked
pub mod Leaving
pub mod Deep
pub mod Frames
pub mod PathLists
pub mod Progresses
pub mod Notings
pub mod Definings
pub mod Givings
pub mod NamesLater
pub mod ReadingOn
pub mod OpenSteps
pub mod OpenedFiles
pub mod NamesGrow
pub mod OpenLater
mod ToldByUses
mod RunsAhead
mod Expandings
pub mod Leadings
mod UnitTurns
mod UnitRuns
mod FirstFiles
mod FirstTurns
mod DirectiveSteps
mod ConditionalSteps
pub mod ReadingKept
pub mod LineTurns
pub mod NextTurns
pub mod Openings
pub mod ListsLeft
pub mod DecideTurns
pub mod Turns
pub mod IncludeTurns
pub mod DirectiveTurns
mod LineSplit
mod UnitSteps
pub mod Falls
