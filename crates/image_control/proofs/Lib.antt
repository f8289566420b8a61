mod Sealing
mod Ending
mod Charged
mod Warmed
mod Told
