-- The result of `show` after the records of its input were checked, and the number of bytes that it
-- read.
use Rattle.std.proofs.Common.{◌≡◌, ℕ, ◌+◌, ◌-◌, ◌<◌, ◌≤◌, ◌^◌, false, List, length}
use Rattle.std.proofs.Common.{Some, None, refl, sym, ◌∙◌, subst, arith}
use Rattle.dap_device.specs.declared.device.Sink.{Ghosts as Sink}
use Rattle.dap_device.specs.declared.device.Source.{Ghosts as Source}
use Rattle.dap_device.specs.Written.{AllSent, PrefixWritten}
use Rattle.dap_device.specs.Pieces.{HasReadSoFar}
use Rattle.dap_device.specs.declared.reading.Stop.{Stop}
use Rattle.dap_device.specs.declared.reading.Stop.TheVariants.{End, Full, Failed}
use Rattle.dap_input.proofs.RecordLoop.{nothing}
use Rattle.dap_input.proofs.WholeInputs.{RefusesRead}
use Rattle.dap_input.specs.Engine.{Accepts, HasFinished, HasNotWritten}
use Rattle.dap_input.specs.InputSteps.{AcceptsAll, RefusesOne}
use Rattle.dap_input.specs.RecordSteps.{IsWithin}
use Rattle.dap_input.specs.Refusals.{IsRefused}
use Rattle.dap_input.specs.declared.limits.Limits.{Limits}
use Rattle.dap_input.specs.declared.records.Records.{Records}
use Rattle.dap_input.specs.declared.refused.Refused.{Refused}
use Rattle.dap_show.specs.Viewing.{Entry, IsShownBy, lines_of, showing}
use Rattle.dap_show.specs.declared.detail.Detail.TheVariants.{Lists}

module _ {R : Type 0} (limits : Limits) (source : Source R)
    (old : R) where
  -- ---- the input is accepted

  module _ (new : R) (entries : List Entry)
      (all : AcceptsAll (showing limits) source old new entries) where
    accepts : Accepts source limits.input (IsShownBy limits) old new (lines_of Lists 1 entries)
    accepts = record {
      whole = all.whole;
      came = record {
        came = all.came.came;
        counted = all.came.counted;
        has_length = all.within;
        stopped = all.came.paused;
      };
      gives = (entries, all.accepted, refl);
    }

    pub accepted_taken : source.given new ≤ source.given old + limits.input + 1
    accepted_taken =
        let counted = all.came.counted in let within = all.within in omega (arith, counted, within)

    module _ {W : Type 0} (sink : Sink W)
        (before after : W) (written : List ℕ) (text_is : written ≡ lines_of Lists 1 entries) where
      pub finished : AllSent sink before after written
          → HasFinished source sink limits.input (IsShownBy limits)
          (IsRefused (showing limits)) old new before after
      finished done = record {
        text = lines_of Lists 1 entries;
        accepts = accepts;
        written = subst (AllSent sink before after) text_is done;
      }

      pub not_written : PrefixWritten sink before after written
          → HasNotWritten source sink limits.input (IsShownBy limits)
          (IsRefused (showing limits)) old new before after
      not_written front = record {
        text = lines_of Lists 1 entries;
        accepts = accepts;
        written = subst (PrefixWritten sink before after) text_is front;
      }

  -- ---- the input is rejected

  at_most : (bytes : List ℕ) (stop : Stop) → IsWithin (length bytes) limits.input (Some stop)
      → length bytes ≤ limits.input + 1
  at_most bytes End within = omega (arith, within)
  at_most bytes Full within = omega (arith, within)
  at_most bytes Failed within = omega (arith, within)

  pub refused_taken : (new : R) (because : Refused)
      → RefusesRead (showing limits) source old new because
      → source.given new ≤ source.given old + limits.input + 1
  refused_taken new because read =
      let counted = read.came.counted in
      let most = at_most read.bytes read.stop read.within in omega (arith, counted, most)

  -- If the source has not stopped, the rest of the input can be read.
  module _ {I : Type 0} (mid : R) (records : Records I) (because : Refused)
      (one : RefusesOne (showing limits) source old mid records because)
      (goes_on : records.is_over ≡ false) where
    not_stopped : one.stop ≡ None
    not_stopped = nothing one.stop (sym one.over ∙ goes_on)

    pub rest_counts : limits.input ≤ 2 ^ 62 → source.given old < 2 ^ 62
        → source.given mid + (records.pieces.limit - records.pieces.taken) < 2 ^ 63
    rest_counts most small =
        let came = one.came.counted in
        let taken = one.taken not_stopped in
        let limit = one.limit_is in
        let within = subst (IsWithin (length one.bytes) limits.input) not_stopped one.within in
        omega (arith, most, small, came, taken, limit, within)

    pub rest_failures : source.failures old < 2 ^ 62 → source.failures mid < 2 ^ 63
    rest_failures small =
        let came =
        subst (HasReadSoFar source old mid one.bytes) not_stopped one.came in
        let same : source.failures mid ≡ source.failures old = came.paused in
        omega (arith, small, same)
