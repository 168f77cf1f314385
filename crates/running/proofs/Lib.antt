pub mod Blocks
pub mod Inner
pub mod Failing
pub mod CoaxBlocks
