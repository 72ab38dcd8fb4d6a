pub mod Upstream
