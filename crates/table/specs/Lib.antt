pub mod Tables
pub mod KindCounts
pub mod Rules
pub mod Decoded
pub mod InUse
pub mod Bounds
pub mod SameNumbers
