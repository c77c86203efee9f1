-- When a case file is one of given bytes.
use Rattle.std.specs.Prelude.{◌≡◌, ℕ, List}
use Rattle.format.specs.Layout.{header_of}
use Rattle.format.specs.declared.file.CaseFile.{CaseFile}

-- over these bytes, and read by their own header
abbrev pub IsCaseOf : List ℕ → CaseFile → Type 0
IsCaseOf bs c = (c.bytes.now ≡ bs) × (c.header ≡ header_of bs)
