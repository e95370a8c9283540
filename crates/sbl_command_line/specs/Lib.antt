-- what the contracts of public calls rest on
pub mod CommandLine
