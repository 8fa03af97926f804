mod Gathering
mod Known
mod Putting
mod FirstUnit
mod FrameForms
mod Looked
