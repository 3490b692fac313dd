mod BootSteps
mod CountSteps
mod FormatSteps
