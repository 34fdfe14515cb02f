-- The laws of a disk's forms.
pub mod Forms
