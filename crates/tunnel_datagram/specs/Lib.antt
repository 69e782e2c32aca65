-- What `tunnel_datagram` promises, in reading order: definitions, then laws.
pub mod Hearing
pub mod HearingLaws
pub mod Order
pub mod WrittenHeard
