mod Digits
mod Named
mod Reading
