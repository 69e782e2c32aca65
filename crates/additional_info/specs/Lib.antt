-- What `additional_info` promises, in reading order: definitions, then laws.
pub mod InfoType
pub mod Area
pub mod Appending
pub mod InfoTypeLaws
pub mod WalkLaws
pub mod AreaLaws
pub mod AreaSteps
pub mod AppendingLaws
