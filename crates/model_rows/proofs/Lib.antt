mod Rows
mod Moments
