pub mod Named
mod ShownRules
pub mod Answering
pub mod FormAnswers
pub mod Confirmed
mod RulesNamed
