mod Makes
mod Seen
mod Displays
mod LoadWord
