pub mod Slots
pub mod Contents
pub mod Winter
pub mod Axis
pub mod Closing
pub mod Totals
pub mod DataRefusals
