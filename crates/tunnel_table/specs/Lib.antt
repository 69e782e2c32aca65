-- What `tunnel_table` promises, in reading order: definitions, then laws.
pub mod Places
pub mod Spots
pub mod Table
pub mod SeekLaws
pub mod TableLaws
pub mod Compiled
