-- The laws of the checkpoint image: of the image rules (KeyLaws, Rules), of the layout in flat arrays (Pushing, Packing), of the readers (Readings,
-- TxReadings, HeadLaws) and writers (Sizes, Writings); round trip, soundness, that a slot on disk has bytes enough, that the encoding looks at the view
-- alone, worked cases.
pub mod Lists
pub mod KeyLaws
pub mod Rules
pub mod Pushing
pub mod Packing
pub mod Readings
pub mod TxReadings
pub mod Sizes
pub mod Writings
pub mod RoundTrip
pub mod Soundness
pub mod HeadLaws
pub mod Enough
pub mod EncodeView
pub mod Cases
