-- What `knx` promises, in reading order: definitions, laws, demand 3.
pub mod Reading
pub mod Channel
pub mod CemiLData
pub mod Building
pub mod Info
pub mod Called
pub mod ReadingLaws
pub mod ChannelLaws
pub mod CemiLDataLaws
pub mod BuildingLaws
pub mod InfoLaws
pub mod CalledLaws
pub mod Runs
