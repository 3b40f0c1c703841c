pub mod Sha256
pub mod Hmac
pub mod Hasher
