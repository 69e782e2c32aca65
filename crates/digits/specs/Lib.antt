-- What `digits` promises: definitions, then laws.
pub mod Digits
pub mod DigitLaws
