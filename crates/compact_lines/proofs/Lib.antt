mod LineLemmas
mod WordLemmas
mod Examples
