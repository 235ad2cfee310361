pub mod FormatLaws
pub mod CodeLaws
pub mod WalkLaws
pub mod RowLaws
pub mod WalkSteps
