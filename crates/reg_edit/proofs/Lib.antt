mod Creating
mod RuleDays
