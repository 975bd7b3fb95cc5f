mod Places
mod Upto
