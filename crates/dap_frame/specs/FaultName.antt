-- The names of errors, as they are written. Source: own.
use Rattle.std.specs.Prelude.{ℕ, List, codes}
use Rattle.dap_frame.specs.declared.fault.FrameFault.{FrameFault}
use Rattle.dap_frame.specs.declared.fault.FrameFault.TheVariants.{HeaderLine, NoLength, TwoLengths}
use Rattle.dap_frame.specs.declared.fault.FrameFault.TheVariants.{BadLength, HeaderTooLong}
use Rattle.dap_frame.specs.declared.fault.FrameFault.TheVariants.{ContentTooLong, Cut, Memory}

abbrev pub fault_name : FrameFault → List ℕ
fault_name HeaderLine = codes "HeaderLine"
fault_name NoLength = codes "NoLength"
fault_name TwoLengths = codes "TwoLengths"
fault_name BadLength = codes "BadLength"
fault_name HeaderTooLong = codes "HeaderTooLong"
fault_name ContentTooLong = codes "ContentTooLong"
fault_name Cut = codes "Cut"
fault_name Memory = codes "Memory"
