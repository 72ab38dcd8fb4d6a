mod Numerals
mod Fielding
mod Runs
