-- The text that reports a rejection. Source: own.
use Rattle.std.specs.Prelude.{ℕ, List, [], ◌++◌, codes, decimal}
use Rattle.dap_message.specs.MessageFaultText.{message_fault_text}
use Rattle.dap_recording.specs.FaultNames.{cause_name, recorder_fault_text, trace_cause_name}
use Rattle.dap_session.specs.RuleName.{rule_name}
use Rattle.dap_input.specs.declared.refused.Refused.{Refused}
use Rattle.dap_input.specs.declared.refused.Refused.TheVariants as because

-- the position of an error: this record, or this piece of a trace
abbrev pub in_record : ℕ → List ℕ
in_record number = codes "record " ++ decimal number ++ codes ": "

abbrev pub in_piece : ℕ → List ℕ
in_piece number = codes "piece " ++ decimal number ++ codes ": "

-- the position of an error, if it has one, and the reason
abbrev pub parts_of : Refused → List ℕ × List ℕ
parts_of (because.InputTooLong n) = (in_record n, codes "InputTooLong")
parts_of (because.Record n cause) = (in_record n, cause_name cause)
parts_of (because.Json n) = (in_record n, codes "Json")
parts_of (because.Fraction n) = (in_record n, codes "Fraction")
parts_of (because.Message n fault) = (in_record n, message_fault_text fault)
parts_of (because.Rule n rule) = (in_record n, rule_name rule)
parts_of (because.TooManyIds n) = (in_record n, codes "TooManyIds")
parts_of (because.Grew n) = (in_record n, codes "Grew")
parts_of (because.Incomplete client adapter) = (
  [],
  codes "incomplete: " ++ decimal client
      ++ codes " client, " ++ decimal adapter ++ codes " adapter",
)
parts_of (because.TraceTooLong n) = (in_piece n, codes "TraceTooLong")
parts_of (because.Trace n cause) = (in_piece n, trace_cause_name cause)
parts_of (because.Recorder n fault) = (in_piece n, recorder_fault_text fault)
parts_of because.ReadFault = ([], codes "read fault")
parts_of because.WriteFault = ([], codes "write fault")
parts_of because.Memory = ([], codes "out of memory")

-- why an engine stopped
abbrev pub reason_text : Refused → List ℕ
reason_text refused = (parts_of refused).1

-- the text that reports it
abbrev pub refused_text : Refused → List ℕ
refused_text refused = (parts_of refused).0 ++ reason_text refused
