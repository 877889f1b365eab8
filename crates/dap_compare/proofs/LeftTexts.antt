-- The text that the next record of an input stores.
use Rattle.std.proofs.Common.{◌≡◌, inl, inr, ℕ, ℤ, ◌+◌, Bool, true, false, List, [], ◌++◌}
use Rattle.std.proofs.Common.{length, Some, None, Ok, sym, ◌∙◌, ap, subst}
use Rattle.dap_device.specs.declared.device.Source.{Ghosts as Source}
use Rattle.dap_device.specs.declared.reading.Stop.TheVariants.{End}
use Rattle.dap_rename.specs.declared.mode.Mode.{Mode}
use Rattle.dap_input.specs.declared.limits.Limits.{Limits}
use Rattle.dap_input.proofs.Coming.{came_on}
use Rattle.dap_normalise.specs.declared.normal_records.NormalRecords.{NormalRecords}
use Rattle.dap_normalise.specs.Accepting.{accepting}
use Rattle.dap_normalise.specs.JudgingSteps.{record_of}
use Rattle.dap_normalise.specs.NormalSteps.{HasNext}
use Rattle.dap_normalise.proofs.AcceptingFacts.{accepted_facts, value_laws}
use Rattle.dap_normalise.proofs.StreamLoop.{Going, before_in, next_in, normal_before}
use Rattle.dap_recording.proofs.Records.{readable}
use Rattle.dap_compare.specs.LeftTexts.{LeavesRecord}
use Rattle.dap_compare.proofs.ComparingLoop.{taken_in}
use Rattle.dap_compare.proofs.OneVerdict.{before_same, whole_before}

module _ {T R : Type 0} {numbers : T → List ℤ} {table_limit : T → ℕ} {source : Source R}
    {limits : Limits} {mode : Mode} {start reader : R} {records : NormalRecords T}
    (was : Going numbers table_limit source limits mode start reader records) where
  left_here : (new : NormalRecords T) (after : R) (text longer : List ℕ) (some : Bool)
      → HasNext numbers table_limit source limits mode was.bytes was.messages was.normal records new
      reader after text longer (Ok some)
      → text ≡ [] → LeavesRecord source limits mode start after records.records.number longer
  left_here new after text longer true gone none = record {
    bytes = was.bytes ++ gone.more;
    stop = None;
    came = came_on source start reader after was.bytes gone.more None was.came gone.came;
    is_record = λ input is. inr (
      next_in was gone input is.0
          is.1,
      was.normal,
      gone.named,
      normal_before gone.represents,
      gone.appended ∙ ap (λ t. t ++ record_of gone.named) none,
    );
  }
  left_here new after text longer false ended none = record {
    bytes = was.bytes ++ ended.more;
    stop = Some End;
    came = came_on source start reader after was.bytes ended.more (Some End) was.came ended.came;
    is_record = λ input is.
        let here = before_in was input ended.more is.0 in
        let taken = taken_in limits mode (was.bytes ++ ended.more) input was.messages is
        ended.accepted in
        inl (
          here,
          (before_same (accepting limits mode) (readable limits.frame) (value_laws limits mode)
              (accepted_facts limits mode) input records.records.number (length was.messages + 1)
              here
              (whole_before (accepting limits mode) (readable limits.frame) (value_laws limits mode)
              (accepted_facts limits mode) input was.messages taken) was.represents.number_is).2,
          ended.kept ∙ none,
        );
  }

  pub left_text : (new : NormalRecords T) (after : R) (text longer : List ℕ) (some : Bool)
      → HasNext numbers table_limit source limits mode was.bytes was.messages was.normal records new
      reader after text longer (Ok some)
      → text ≡ [] → (n : ℕ) → n ≡ records.records.number
      → LeavesRecord source limits mode start after n longer
  left_text new after text longer some next none n is =
      subst (λ m. LeavesRecord source limits mode start after m longer) (sym is)
      (left_here new after text longer some next none)
