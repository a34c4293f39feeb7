mod Accepted
mod Area
