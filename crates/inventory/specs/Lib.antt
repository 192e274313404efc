pub mod Inventory
pub mod Header
pub mod Worked
pub mod Queue
