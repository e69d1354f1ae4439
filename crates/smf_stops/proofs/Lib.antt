mod Kept
mod Orders
mod Plans
mod Batched
