pub mod ReadUnits
