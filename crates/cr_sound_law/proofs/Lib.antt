mod Lists
mod Unique
mod Tokens
mod Keeping
mod Acting
mod Walking
