mod Exchanged
mod Filled
mod Items
mod Tabled
mod Viewed
mod Written
