mod Answered
mod Ruled
mod Sheets
