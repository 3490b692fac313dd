mod BackendSteps
mod BootSteps
mod GroupLemmas
mod CandidateSteps
mod Vectors
