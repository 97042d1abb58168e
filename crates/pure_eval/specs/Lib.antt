pub mod Ascending
pub mod Unwinding
pub mod Operands
pub mod Costs
pub mod Copying
