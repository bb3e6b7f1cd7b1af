-- Definitions: what contracts mean.
pub mod ReportRows
pub mod Places
pub mod Findings
pub mod Escapes
pub mod FaultForms
pub mod JsonForm
pub mod GithubForm
pub mod JunitForm
pub mod SarifForm
pub mod HtmlForm
pub mod ExplanationLines
pub mod Lines
pub mod Forms
pub mod ReportLines
pub mod Laws
