pub mod OpeningLines
pub mod Lines
pub mod LineFronts
pub mod OpeningTexts
pub mod OpeningPlaces
pub mod Live
pub mod Reading
