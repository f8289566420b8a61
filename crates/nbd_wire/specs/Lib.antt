pub mod Numbers
pub mod Hellos
pub mod Options
pub mod Infos
pub mod Requests
