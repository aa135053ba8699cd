mod Standing
mod Places
mod Spelled
mod Rows
mod Lines
mod Scripts
mod Openings
mod Sources
