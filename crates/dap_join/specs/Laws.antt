-- The theorems about joined recordings.
use Rattle.std.specs.Prelude.{◌≡◌, ◌⊎◌, ◌↔◌, ℕ, List, [], ◌∷◌, map}
use Rattle.dap_recording.specs.Recording.{IsRecording}
use Rattle.dap_input.specs.{declared.limits.Limits.Limits, declared.refused.Refused.Refused}
use Rattle.dap_input.specs.Limits.{AreSound}
use Rattle.dap_join.specs.Outputs.{Item, Output}
use Rattle.dap_join.specs.Joined.{Group, groups_of, joined, others, segments}
use Rattle.dap_join.specs.Joining.{IsNotJoined, Joins, payloads}
use Rattle.dap_mask.specs.declared.joining.Joining.{Joining}

-- A recording is joined in one way.
abbrev pub OneJoined : Type 0
OneJoined = (limits : Limits) (joining : Joining) (bytes written other numbers others : List ℕ)
    → Joins limits joining bytes written numbers → Joins limits joining bytes other others
    → (written ≡ other) × (numbers ≡ others)

-- A recording is not joined and rejected too.
abbrev pub NotBoth : Type 0
NotBoth = (limits : Limits) → AreSound limits → (joining : Joining)
    → (bytes written numbers : List ℕ) (because : Refused)
    → Joins limits joining bytes written numbers → IsNotJoined limits joining bytes because → ⊥

-- A joined text is a recording of the joined records.
abbrev pub JoinedIsRecording : Type 0
JoinedIsRecording = (limits : Limits) → AreSound limits → (joining : Joining)
    → (bytes written numbers : List ℕ) (joins : Joins limits joining bytes written numbers)
    → IsRecording limits.frame written (payloads (joined joining joins.items))

-- Joining a joined recording again does not change its text.
abbrev pub JoinedAgain : Type 0
JoinedAgain = (limits : Limits) → AreSound limits → (joining : Joining)
    → (bytes written numbers : List ℕ) → Joins limits joining bytes written numbers
    → (others : List ℕ) × Joins limits joining written written others

-- The outputs of a segment: for each category, in byte order, the `seq` of its first event and all
-- of its text.
abbrev pub outputs_of : List Item → List Output
outputs_of items = map
    (λ (group : Group). record { seq = group.seq; category = group.category; text = group.text })
    (groups_of items)

-- Two segments have the same records that are not output, byte for byte, and the same outputs.
pub record AreAlike (one two : List Item) : Type 0 where
  pub others : payloads (others one) ≡ payloads (others two)
  pub outputs : outputs_of one ≡ outputs_of two

abbrev pub AreAllAlike : List (List Item) → List (List Item) → Type 0
AreAllAlike [] [] = Unit {0}
AreAllAlike [] (two ∷ twos) = ⊥
AreAllAlike (one ∷ ones) [] = ⊥
AreAllAlike (one ∷ ones) (two ∷ twos) = AreAlike one two × AreAllAlike ones twos

-- Two recordings have the same joined text if and only if their segments are alike, in order: how
-- an adapter divides its output does not matter, and everything else does.
abbrev pub EqualJoined : Type 0
EqualJoined = (limits : Limits) → AreSound limits → (joining : Joining)
    → (bytes written numbers other_bytes other others : List ℕ)
    → (one : Joins limits joining bytes written numbers)
    → (two : Joins limits joining other_bytes other others)
    → (written ≡ other)
    ↔ AreAllAlike (segments joining one.items) (segments joining two.items)

-- Each recording is joined, or is rejected for exactly one error.
pub record HasOneOutcome (limits : Limits) (joining : Joining) (bytes : List ℕ) : Type 0 where
  pub some : ((written : List ℕ) × (numbers : List ℕ) × Joins limits joining bytes written numbers)
      ⊎ ((because : Refused) × IsNotJoined limits joining bytes because)
  pub one_refusal : (because other : Refused) → IsNotJoined limits joining bytes because
      → IsNotJoined limits joining bytes other → because ≡ other

abbrev pub JoinHasOneOutcome : Type 0
JoinHasOneOutcome = (limits : Limits) → AreSound limits → (joining : Joining) (bytes : List ℕ)
    → HasOneOutcome limits joining bytes
