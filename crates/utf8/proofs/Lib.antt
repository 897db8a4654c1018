pub mod Octets
pub mod Utf8Laws
