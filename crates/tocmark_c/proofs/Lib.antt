mod Answers
mod Causes
mod DumpCauses
mod Listed
mod PackedCauses
mod Redefined
mod Rewritten
