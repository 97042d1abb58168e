pub mod LowBits
pub mod Results
pub mod Sizes
pub mod Inside
pub mod Digits
