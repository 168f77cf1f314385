pub mod Tests
pub mod TableLaws
pub mod CoaxLaws
pub mod Sums
pub mod Counting
pub mod Checks
pub mod LessonLaws
pub mod Turns
