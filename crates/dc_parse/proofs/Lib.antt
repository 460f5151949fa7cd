mod Tails
mod Links
mod Answered
