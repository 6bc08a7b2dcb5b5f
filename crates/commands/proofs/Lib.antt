mod Listings
mod Decoding
mod Numbering
pub mod Guards
mod Parsing
mod Printing
