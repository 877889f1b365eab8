-- The error of a joined recording, with the number of a record of the recording that was joined.
-- Source: own.
use Rattle.std.specs.Prelude.{ℕ, ◌-◌, List, slice_index_or}
use Rattle.dap_input.specs.declared.refused.Refused.{Refused}
use Rattle.dap_input.specs.declared.refused.Refused.TheVariants.{InputTooLong, Record, Json}
use Rattle.dap_input.specs.declared.refused.Refused.TheVariants.{Fraction, Message, Rule}
use Rattle.dap_input.specs.declared.refused.Refused.TheVariants.{TooManyIds, Grew}

-- The element of `numbers` for the record with this number, counted from 1. Without such an element
-- the number is unchanged.
abbrev pub number_in : List ℕ → ℕ → ℕ
number_in numbers number = slice_index_or numbers (number - 1) number

-- The error with its record number replaced by the element of `numbers` for that record. An error
-- without a record number is unchanged.
abbrev pub renumbered : List ℕ → Refused → Refused
renumbered numbers (InputTooLong n) = InputTooLong (number_in numbers n)
renumbered numbers (Record n cause) = Record (number_in numbers n) cause
renumbered numbers (Json n) = Json (number_in numbers n)
renumbered numbers (Fraction n) = Fraction (number_in numbers n)
renumbered numbers (Message n fault) = Message (number_in numbers n) fault
renumbered numbers (Rule n rule) = Rule (number_in numbers n) rule
renumbered numbers (TooManyIds n) = TooManyIds (number_in numbers n)
renumbered numbers (Grew n) = Grew (number_in numbers n)
renumbered numbers because = because
