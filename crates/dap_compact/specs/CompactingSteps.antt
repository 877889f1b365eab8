-- The effects of the steps of `compact`.
use Rattle.std.specs.{Prelude.{◌≡◌, ℕ, List, [], ◌∷◌, ◌++◌, Result, Ok, Err}, declared.vec.Vec.Vec}
use Rattle.std.specs.declared.alloc.Global.{Global}
use Rattle.dap_device.specs.declared.device.Source.{Ghosts as Source}
use Rattle.dap_tree.specs.{Doc.Doc, Json.IsRead}
use Rattle.dap_input.specs.{declared.limits.Limits.Limits, declared.records.Records.Records}
use Rattle.dap_input.specs.{declared.refused.Refused.Refused, InputSteps.JudgesAll}
use Rattle.dap_input.specs.Refusals.{RejectsPayload}
use Rattle.dap_frame.specs.Reading.{Reading}
use Rattle.dap_compact.specs.Compacting.{Fits, Rejects, compacting, text}

-- The value of the content follows the values whose output was appended.
pub record IsAppended (limits : Limits) (values : List Doc) (content new : List ℕ) : Type 0 where
  pub value : Doc
  pub is_read : IsRead content value
  pub fits : Fits limits (values ++ value ∷ [])
  pub text_is : new ≡ text (values ++ value ∷ [])

-- The output for the content of record n is appended to that for the values, or the record is
-- rejected.
abbrev pub Appended : {U : Type 0} → Limits → List Doc → ℕ → List ℕ → Result U Refused → List ℕ
    → Type 0
Appended limits values n content (Ok done) new = IsAppended limits values content new
Appended limits values n content (Err because) new =
    RejectsPayload (Rejects limits values content) n because

-- The output for all records is returned, or one record is rejected.
module _ {R : Type 0} (limits : Limits) (source : Source R) where
  abbrev pub JudgesInput : R → R → Records Reading → Result (Vec ℕ Global) Refused → Type 0
  JudgesInput =
      JudgesAll (compacting limits) source text (λ (out : Vec ℕ Global). out.items)
