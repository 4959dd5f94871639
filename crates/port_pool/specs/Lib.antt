pub mod Limits
pub mod RelayTable
pub mod Changes
pub mod Holdings
pub mod PairCounts
pub mod Pool
pub mod Places
