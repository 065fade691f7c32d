mod EveryAnswer
