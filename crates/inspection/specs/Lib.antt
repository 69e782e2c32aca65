-- What `inspection` promises, in reading order: definitions, then laws.
pub mod Lines
pub mod LinesLaws
pub mod Scanning
pub mod ScanningLaws
pub mod Output
pub mod Printing
pub mod Inspecting
pub mod Turns
pub mod TurnLaws
pub mod Reaching
