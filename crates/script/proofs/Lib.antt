mod Order
mod Unplayed
