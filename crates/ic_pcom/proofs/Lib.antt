mod InTurn
pub mod OneMore
mod Unmoved
pub mod Places
mod Restores
mod Fed
mod Restaged
mod Wanted
mod Imaged
mod ImagePeers
mod Stands
mod Idle
mod Images
mod Waiting
pub mod Peers
mod Feeds
mod Misfits
mod Recovers
mod Still
mod Results
mod Standing
mod Leading
mod Landed
mod Planned
mod Rooms
mod Puts
mod Followed
mod Finishes
mod Lasts
mod Steps
mod Packets
mod Adopts
