-- An explanation to which nothing was added. Source: own.
use Rattle.std.specs.Prelude.{◌≡◌, false, [], string_bytes}
use Rattle.dap_explain.specs.declared.lines.Lines.{Lines}

-- No line was added, and no allocation failed.
abbrev pub AreNone : Lines → Type 0
AreNone lines = (string_bytes lines.text ≡ []) × (lines.has_failed ≡ false)
