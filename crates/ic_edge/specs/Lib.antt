pub mod RoomyShelf
