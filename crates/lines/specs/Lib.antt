pub mod Ceiling
pub mod Printed
pub mod Starts
pub mod Ready
