pub mod AlsoRead
