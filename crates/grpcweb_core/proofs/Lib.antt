mod Judging
mod OneAnswer
