pub mod Leading
pub mod LinePlaces
pub mod LineReads
pub mod LiveLaws
pub mod OpeningSteps
pub mod Rising
pub mod UpTo
