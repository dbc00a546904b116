-- The laws of the SCB's words and control tables, and the words field by field.
pub mod Below
pub mod Fields
pub mod Tables
pub mod Status
pub mod Raising
pub mod Shown
