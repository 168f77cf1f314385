mod Moving
mod Searching
mod OnesLaws
