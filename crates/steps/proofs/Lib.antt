mod InDA
mod Outside
mod Supervising
