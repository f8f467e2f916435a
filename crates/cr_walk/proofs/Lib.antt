mod Asking
mod Seeing
