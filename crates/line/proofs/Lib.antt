mod Compared
mod Payload
