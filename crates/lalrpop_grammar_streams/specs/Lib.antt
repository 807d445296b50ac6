pub mod Streams
pub mod Watching
