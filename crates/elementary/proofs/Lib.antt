-- What `Examples` says of powers of ten.
pub mod PowersOfTen
