pub mod Verdict
pub mod VerdictLaws
pub mod Refusal
pub mod RefusalLaws
pub mod Table
pub mod TableLaws
