mod Neighbours
mod Pairs
mod Single
