-- What `kip` promises, in reading order: definitions, then laws.
pub mod Capture
pub mod CaptureLaws
pub mod Stepping
