mod Beginning
mod Gathering
mod Keeping
mod Places
mod Received
mod Spent
mod Seen
