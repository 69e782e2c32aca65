-- What is claimed, in the order of the three demands; then the rows, the empty versions, and that no contract has a second answer.
pub mod Demand1
pub mod Demand2
pub mod Demand3
pub mod AdditionalInfo
pub mod StandardCount
pub mod StandardForm
pub mod Where
pub mod Examples
pub mod Inspection
pub mod Empty
pub mod Rows
pub mod Names
pub mod Layouts
pub mod Border
pub mod Orders
pub mod TunnelRows
pub mod Unique
