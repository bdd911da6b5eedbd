pub mod Leads
pub mod Worked
pub mod Network
