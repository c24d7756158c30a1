mod Records
mod Marks
mod Firsts
mod Asking
mod Judging
pub mod OneAnswer
pub mod Told
