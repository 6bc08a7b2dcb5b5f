-- Working definitions: what the contracts of working functions cite. No definition that a public contract cites is built on one of them.
pub mod Stripping
pub mod Sides
pub mod Explaining
pub mod Results
pub mod Occurring
pub mod Lacking
pub mod Spans
pub mod Counting
