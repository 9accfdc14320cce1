mod Cuts
mod Numbers
mod Flow
