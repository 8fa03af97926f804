mod Passing
mod Copying
mod Running
mod Beginning
mod Closing
mod Causing
mod Statuses
