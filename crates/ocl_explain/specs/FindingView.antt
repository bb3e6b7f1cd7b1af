-- The text of a finding's explanation.
use Rattle.std.specs.Prelude.{ℕ, List, string_bytes}
use Rattle.ocl_explain.specs.declared.explainer.Finding.{Finding}

abbrev pub finding_text : Finding → List ℕ
finding_text f = string_bytes f.text
