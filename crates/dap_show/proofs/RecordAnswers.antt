-- The result of `show_record` if it writes no record.
use Rattle.std.proofs.Common.{inr, ℕ, List, None, Err, refl, arith}
use Rattle.dap_device.specs.declared.device.Sink.{Ghosts as Sink}
use Rattle.dap_device.specs.declared.device.Source.{Ghosts as Source}
use Rattle.dap_input.proofs.Refusals.{untold}
use Rattle.dap_input.specs.declared.limits.Limits.{Limits}
use Rattle.dap_input.specs.declared.refused.Refused.{Refused}
use Rattle.dap_input.specs.declared.refused.Refused.TheVariants as because
use Rattle.dap_show.specs.OneRecord.{HasRecord, ShowsRecord, StopsBefore, framing}
use Rattle.dap_show.proofs.Framing.{reads_framed, sought_first}
use Rattle.dap_show.proofs.Stopping.{stops_at_start}

module _ (limits : Limits) where
  module _ {R W : Type 0} (source : Source R) (sink : Sink W) (number : ℕ) (old new : R)
      (writer : W) where
    abbrev Answers : Refused → Type 0
    Answers why_not = ShowsRecord limits source sink number old new writer writer (Err why_not)

    pub not_framed : (why_not : Refused) → StopsBefore limits source old new number why_not
        → Answers why_not
    not_framed because.WriteFault before =
        absurd (untold because.WriteFault before.stops.number before.stops.says.fault refl
        (λ same. absurd (let e = same in cc)) before.stops.says.tells)
    not_framed why_not before = (before, refl)

    -- An allocation failed at the record.
    pub not_made : (content : List ℕ) → HasRecord limits source old new number content
        → Answers because.Memory
    not_made content found = (
      record {
        stops = record {
          bytes = found.bytes;
          stop = None;
          came = found.came;
          within = found.short;
          number = number;
          read_to = found.read_to;
          before = found.before;
          says = tt;
          cut = λ n is. absurd (let same = is in cc);
        };
        early = inr (omega arith);
      },
      refl,
    )

-- Nothing has been read when an allocation fails.
pub none_shown : {R W : Type 0} (limits : Limits) (source : Source R) (sink : Sink W) (number : ℕ)
    (old : R) (writer : W)
    → ShowsRecord limits source sink number old old writer writer (Err because.Memory)
none_shown limits source sink number old writer =
    let first = stops_at_start (framing limits) (reads_framed limits).accepted source old in (
      record { stops = first.0; early = sought_first number first.0.number first.1 },
      refl,
    )
