-- What `borrowed` promises, in reading order: definitions, then laws.
pub mod Borrowed
pub mod KnxnetIpFrame
pub mod LDataFrame
pub mod KnxnetIpFrameLaws
pub mod LDataFrameLaws
