pub mod Appends
pub mod Joints
