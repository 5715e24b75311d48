mod Formed
mod Targets
