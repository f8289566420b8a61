mod Numbers
mod Exits
mod Members
