pub mod BoundText
