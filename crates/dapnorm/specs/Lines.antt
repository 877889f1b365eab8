-- Texts in parts, and the lines of the program. Source: own.
use Rattle.std.specs.{Fmt.signed_decimal, Prelude.{ℕ, ◌++◌, List, [], ◌∷◌, codes, decimal}}
use Rattle.std.specs.List.{flat_map}
use Rattle.dap_compare.specs.Which.{compare_refused_text}
use Rattle.dap_input.specs.RefusedText.{refused_text}
use Rattle.dap_transcript.specs.TranscriptCauseText.{transcript_cause_text}
use Rattle.dap_transcript.specs.declared.fault.TranscriptFault.{TranscriptFault}
use Rattle.dapnorm.specs.declared.line.{Line.Line, Part.Part}

abbrev pub part_text : Part → List ℕ
part_text (Part.Text text) = text.now
part_text (Part.Bytes bytes) = bytes.now
part_text (Part.Number number) = decimal number
part_text (Part.Count number) = decimal number
part_text (Part.Signed number) = signed_decimal number
part_text (Part.Refused refused) = refused_text refused
part_text (Part.Pair refused) = compare_refused_text refused

-- the text of all parts
abbrev pub parts_text : List Part → List ℕ
parts_text parts = flat_map part_text parts

-- these texts, one after another
abbrev pub joined : List (List ℕ) → List ℕ
joined texts = flat_map (λ text. text) texts

-- the line of an error, of these texts
abbrev pub fault_line : List (List ℕ) → List ℕ
fault_line texts = codes "dapnorm: " ++ joined texts ++ codes "\n"

-- why a text is not a transcript
abbrev pub transcript_fault_text : TranscriptFault → List ℕ
transcript_fault_text fault =
    codes "line " ++ decimal fault.line ++ codes ": " ++ transcript_cause_text fault.cause

abbrev pub line_text : Line → List ℕ
line_text (Line.Whole text) = text.now
line_text (Line.Fault a b c d) =
    codes "dapnorm: " ++ parts_text (a ∷ b ∷ c ∷ d ∷ []) ++ codes "\n"
line_text (Line.Transcript a b c fault) =
    fault_line (part_text a ∷ part_text b ∷ part_text c ∷ transcript_fault_text fault ∷ [])
