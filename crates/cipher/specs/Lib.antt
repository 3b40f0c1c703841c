pub mod ChaCha20
