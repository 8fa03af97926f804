mod Endings
mod Steps
