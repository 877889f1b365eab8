-- The text of an error, as it is written. Source: own.
use Rattle.std.specs.Prelude.{ℕ, List, [], ◌++◌, Option, Some, None, codes, decimal}
use Rattle.dap_message.specs.declared.fault.MessageFault.{MessageFault}
use Rattle.dap_message.specs.declared.fault.MessageFault.TheVariants as fault

-- why a content is not a message, with the number of the row that it violates
abbrev pub message_fault_text : MessageFault → List ℕ
message_fault_text fault.NotObject = codes "NotObject"
message_fault_text fault.UnknownType = codes "UnknownType"
message_fault_text (fault.Missing row) = codes "Missing row " ++ decimal row
message_fault_text (fault.WrongType row) = codes "WrongType row " ++ decimal row
message_fault_text fault.Memory = codes "Memory"

-- the digits of a number, if there is one
abbrev pub digits_of : Option ℕ → List ℕ
digits_of None = []
digits_of (Some number) = decimal number
