pub mod Showing
pub mod Views
pub mod Pages
pub mod Watches
