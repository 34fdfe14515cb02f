-- disklist's text: lines with numbers in decimal (Lines), and which lines a disk gives (Listing).
pub mod Lines
pub mod Listing
