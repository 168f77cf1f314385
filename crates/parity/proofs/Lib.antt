pub mod Recipe
pub mod Solved
pub mod Single
pub mod CoaxSolved
