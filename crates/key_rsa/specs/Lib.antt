pub mod Rsa
