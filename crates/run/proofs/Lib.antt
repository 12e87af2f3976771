mod Told
pub mod Counts
mod Fold
mod Shape
mod Answers
mod Rules
mod Lifts
mod PlaceWarned
mod LineStep
mod LinksStep
mod LightStep
pub mod LightLine
mod Refusals
mod Passing
mod LineEnds
mod GroupLine
pub mod Calls
pub mod Runs
