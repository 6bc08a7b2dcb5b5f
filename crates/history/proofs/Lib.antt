mod Events
mod Appended
mod Generating
mod Worlds
mod Olds
mod Beginning
mod Every
mod Follow
