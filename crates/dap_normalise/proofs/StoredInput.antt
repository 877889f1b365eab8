-- The results of `read_session_from`.
use Rattle.std.proofs.Common.{◌≡◌, ℕ, ℤ, ◌+◌, ◌<◌, ◌≤◌, Bool, true, false, Ok, List, [], ◌∷◌}
use Rattle.std.proofs.Common.{◌++◌, sym, ◌∙◌, ap, ap₂, refl, subst, length, Option, Some, slice_get}
use Rattle.std.proofs.lemmas.Bool.{true≢false}
use Rattle.dap_device.specs.declared.device.Source.{Ghosts as Source}
use Rattle.dap_message.specs.Message.{Sent}
use Rattle.dap_rename.specs.declared.mode.Mode.{Mode}
use Rattle.dap_input.specs.declared.limits.Limits.{Limits}
use Rattle.dap_input.specs.Engine.{Accepts}
use Rattle.dap_normalise.specs.declared.normal_records.NormalRecords.{NormalRecords}
use Rattle.dap_normalise.specs.Accepting.{IsAccepted}
use Rattle.dap_normalise.specs.NormalSteps.{RepresentsBefore, StoresNext, remaining}
use Rattle.dap_normalise.proofs.StreamAnswers.{accepts}
use Rattle.dap_normalise.proofs.StreamLoop.{Going, all_taken, at_start, on}

-- The message that was appended last is the one at this place.
last_item : (old : List Sent) (m : Sent) → slice_get (old ++ m ∷ []) (length old) ≡ Some m
last_item [] m = refl
last_item (n ∷ old) m = last_item old m

pub last_message : (old all : List Sent) (m : Sent) (place : ℕ) (found : Option Sent)
    → place ≡ length old → all ≡ old ++ m ∷ [] → found ≡ slice_get all place → found ≡ Some m
last_message old all m place found at appended is =
    is ∙ ap₂ (λ ms i. slice_get ms i) appended at ∙ last_item old m

-- The records before the next one are accepted, and these are their messages.
pub record HasStored {T R : Type 0} (numbers : T → List ℤ) (table_limit : T → ℕ)
    (source : Source R) (limits : Limits) (mode : Mode) (start reader : R)
    (records : NormalRecords T) (stored : List Sent) : Type 0 where
  pub going : Going numbers table_limit source limits mode start reader records
  pub stored_is : stored ≡ going.messages

-- Nothing has been read.
pub none_stored : {T R : Type 0} {numbers : T → List ℤ} {table_limit : T → ℕ}
    (source : Source R) {limits : Limits} {mode : Mode} (start : R) {records : NormalRecords T}
    {stored : List Sent} → RepresentsBefore numbers table_limit limits mode [] records [] []
    → stored ≡ [] → HasStored numbers table_limit source limits mode start start records stored
none_stored source start represents none =
    record { going = at_start source start represents; stored_is = none }

module _ {T R : Type 0} {numbers : T → List ℤ} {table_limit : T → ℕ} {source : Source R}
    {limits : Limits} {mode : Mode} {start reader : R} {records : NormalRecords T}
    {stored : List Sent}
    (has : HasStored numbers table_limit source limits mode start reader records stored)
    {after : R} {more : List Sent} where
  pub more_stored : {new : NormalRecords T} {some : Bool}
      → StoresNext numbers table_limit source limits mode has.going.bytes has.going.messages
      has.going.normal records new reader after stored more (Ok some) → some ≡ true
      → HasStored numbers table_limit source limits mode start after new more
      × (remaining new < remaining records)
  more_stored {some = true} next is = (
    record {
      going = on has.going next.1;
      stored_is = next.2 ∙ ap (λ ms. ms ++ next.1.message ∷ []) has.stored_is;
    },
    next.1.shorter,
  )
  more_stored {some = false} next is = absurd (true≢false (sym is))

  pub all_stored : (new : NormalRecords T) {some : Bool}
      → StoresNext numbers table_limit source limits mode has.going.bytes has.going.messages
      has.going.normal records new reader after stored more (Ok some) → some ≡ false
      → Accepts source limits.input (IsAccepted limits mode) start after more
      × (source.given after ≤ source.given start + limits.input + 1)
  all_stored new {some = true} next is = absurd (true≢false is)
  all_stored new {some = false} next is = (
    subst (Accepts source limits.input (IsAccepted limits mode) start after)
        (sym (next.2 ∙ has.stored_is)) (accepts has.going next.1),
    all_taken has.going next.1,
  )
