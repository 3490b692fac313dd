pub mod ItemInputs
pub mod ItemJobs
pub mod LogInputs
pub mod LogJobs
pub mod MirrorInputs
pub mod MirrorJobs
