-- What `variants` promises.
pub mod Variants
