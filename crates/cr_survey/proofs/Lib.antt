mod Causes
mod Runs
mod Waves
mod Parts
