mod Ending
mod Naming
mod Telling
