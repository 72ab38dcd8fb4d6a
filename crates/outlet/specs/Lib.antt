pub mod Outlet
pub mod Outlets
