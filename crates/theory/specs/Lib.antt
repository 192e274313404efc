pub mod Logic
pub mod Bytes
pub mod Items
pub mod Machine
