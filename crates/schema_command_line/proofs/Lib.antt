mod Asking
mod Numbers
