mod Line
mod Placed
mod Moment
mod Route
