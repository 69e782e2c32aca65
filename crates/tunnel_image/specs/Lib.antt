-- What `tunnel_image` promises, in reading order: definitions, laws, demand 3.
pub mod Image
pub mod ImageLaws
pub mod Demand3
