mod Says
mod Splices
mod Images
