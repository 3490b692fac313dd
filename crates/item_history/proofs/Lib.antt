mod FitLemmas
mod SearchSteps
mod UsageSteps
mod VersionReads
