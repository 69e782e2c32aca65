-- What `replay` promises, in reading order: definitions, then laws.
pub mod Telling
pub mod Lines
pub mod Records
pub mod Telegrams
pub mod Running
pub mod Laws
pub mod RunningLaws
