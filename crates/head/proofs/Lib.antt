mod Settling
mod Granting
