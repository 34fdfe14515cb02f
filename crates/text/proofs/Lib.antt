-- Numbers in decimal (Decimal), texts put one after another (Putting).
pub mod Decimal
pub mod Putting
