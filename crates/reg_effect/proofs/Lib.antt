pub mod Places
pub mod Marked
pub mod Edits
pub mod Ranks
pub mod Deep
pub mod Apart
pub mod Graphs
pub mod Leaving
pub mod Passes
pub mod Walking
pub mod Costs
pub mod Counting
pub mod Asking
pub mod Tops
pub mod Lists
pub mod Totals
pub mod Starting
pub mod Rounds
pub mod Own
mod NestedFrom
mod Leaps
pub mod LiveOf
pub mod LiveLaws
pub mod Standing
pub mod Remembering
pub mod NamedGroups
pub mod Turning
