pub mod NoCircles
