pub mod MendedFronts
