mod Mapped
mod Numbered
mod Waitings
