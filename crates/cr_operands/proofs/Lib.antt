mod Agreeing
mod Changing
mod Marks
