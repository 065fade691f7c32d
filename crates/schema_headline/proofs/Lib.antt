mod Describing
mod EveryAnswer
mod OneAnswer
