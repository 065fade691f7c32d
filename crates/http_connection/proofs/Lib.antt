mod Answering
mod Coming
mod Filling
