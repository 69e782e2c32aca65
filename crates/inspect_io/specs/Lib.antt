-- What the program's own functions promise, in reading order: definitions, then laws.
pub mod Reading
pub mod Turning
pub mod TurningLaws
pub mod Running
