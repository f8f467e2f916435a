mod Asks
mod Pairs
mod Ones
