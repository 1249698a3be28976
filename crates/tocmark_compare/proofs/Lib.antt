pub mod SameIsEqual
pub mod SameKeys
pub mod Agreements
pub mod Comparisons
pub mod Apart
pub mod Digests
pub mod Marks
pub mod Found
