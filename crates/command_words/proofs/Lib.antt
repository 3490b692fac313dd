mod CommandLemmas
mod FormTable
mod FormWalk
mod FoundLemmas
mod OperandWalk
mod ToolLemmas
