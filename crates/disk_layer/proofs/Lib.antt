mod Resting
mod Telling
