-- What `golden` reports if it stopped. Source: own.
use Rattle.std.specs.Prelude.{ℕ, Bool, List, [], ◌∷◌, cond, codes}
use Rattle.dap_golden.specs.declared.fault.GoldenRefused.{GoldenRefused}
use Rattle.dap_golden.specs.declared.updates.GoldenStop.{GoldenStop}
use Rattle.dap_input.specs.RefusedText.{refused_text}
use Rattle.dapnorm.specs.{Lines.{fault_line, transcript_fault_text}, Saving.unsaved_words}

-- a line of these texts
abbrev pub golden_line : List (List ℕ) → List ℕ
golden_line texts = fault_line (codes "golden: " ∷ texts)

-- what the line of a stop says, with the name of the golden file if the stop is about that file;
-- after rules, records are counted in what they leave, so it says if there are rules
abbrev pub stop_texts : Bool → List ℕ → GoldenStop → List (List ℕ)
stop_texts has_rules name (GoldenStop.Input (GoldenRefused.Trace why)) = refused_text why ∷ []
stop_texts has_rules name (GoldenStop.Input (GoldenRefused.Mask why)) = refused_text why ∷ []
stop_texts has_rules name (GoldenStop.Input (GoldenRefused.Session why)) =
    cond has_rules (codes "after the rules: ") [] ∷ refused_text why ∷ []
stop_texts has_rules name (GoldenStop.Input GoldenRefused.NoRecords) = codes "no records" ∷ []
stop_texts has_rules name (GoldenStop.Input GoldenRefused.Memory) = codes "out of memory" ∷ []
stop_texts has_rules name GoldenStop.Missing =
    name ∷ codes " does not exist: --update makes it" ∷ []
stop_texts has_rules name GoldenStop.GoldenUnread = name ∷ codes ": read fault" ∷ []
stop_texts has_rules name GoldenStop.GoldenTooLong = name ∷ codes ": InputTooLong" ∷ []
stop_texts has_rules name GoldenStop.TranscriptTooLong = name ∷ codes ": TranscriptTooLong" ∷ []
stop_texts has_rules name (GoldenStop.Transcript why) =
    name ∷ codes ": " ∷ transcript_fault_text why ∷ []
stop_texts has_rules name (GoldenStop.Golden why) = name ∷ codes ": " ∷ refused_text why ∷ []
stop_texts has_rules name GoldenStop.NotRecording =
    name ∷ codes ": not replaced, since it is not a golden file: remove it first" ∷ []
stop_texts has_rules name (GoldenStop.Unwritten fault) = name ∷ unsaved_words fault.step ∷ []
stop_texts has_rules name GoldenStop.Memory = codes "out of memory" ∷ []

abbrev pub stop_line : Bool → List ℕ → GoldenStop → List ℕ
stop_line has_rules name why = golden_line (stop_texts has_rules name why)

-- the status: a read or a write failed, an allocation failed, or the input or the golden file is
-- rejected
abbrev pub input_status : GoldenRefused → ℕ
input_status GoldenRefused.Memory = 5
input_status why = 2

abbrev pub stop_status : GoldenStop → ℕ
stop_status (GoldenStop.Input why) = input_status why
stop_status GoldenStop.Missing = 4
stop_status GoldenStop.GoldenUnread = 4
stop_status GoldenStop.GoldenTooLong = 2
stop_status GoldenStop.TranscriptTooLong = 2
stop_status (GoldenStop.Transcript why) = 2
stop_status (GoldenStop.Golden why) = 2
stop_status GoldenStop.NotRecording = 2
stop_status (GoldenStop.Unwritten fault) = 4
stop_status GoldenStop.Memory = 5
