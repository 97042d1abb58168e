mod Passing
mod Faulting
