pub mod Results
pub mod Closing
pub mod Admitting
pub mod Showing
pub mod Pinned
