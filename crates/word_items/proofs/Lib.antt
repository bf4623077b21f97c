-- Laws: the numbers of an item as they are stored, and that they are written where they are small and there is room.
pub mod Laws
