mod Audited
mod Depths
mod Escaped
mod Told
mod Years
