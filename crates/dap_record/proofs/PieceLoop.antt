-- The state of `record` between the chunks of its input, and its possible results.
use Rattle.std.proofs.Common.{◌≡◌, ℕ, ◌+◌, ◌-◌, ◌<◌, ◌≤◌, ◌^◌, List, [], ◌∷◌, ◌++◌, length, take}
use Rattle.std.proofs.Common.{drop, Some, None, Result, Err, refl, sym, ◌∙◌, ap, subst, arith}
use Rattle.std.proofs.Common.{append-nil, length-append}
use Rattle.std.proofs.Math.Seq.{take-append_seam}
use Rattle.std.proofs.lemmas.List.{drop_all, take_all}
use Rattle.dap_device.specs.declared.device.Source.{Ghosts as Source}
use Rattle.dap_device.specs.declared.reading.Stop.{Stop}
use Rattle.dap_device.specs.declared.reading.Stop.TheVariants.{End, Full, Failed}
use Rattle.dap_device.specs.Pieces.{HasReadSoFar, HasNextPiece, HasNoPiece, Window}
use Rattle.dap_device.specs.Reading.{FitsStop, HasReadInput, HasLength}
use Rattle.dap_recording.specs.RecorderReading.{RecorderReading}
use Rattle.dap_recording.specs.TraceReading.{TraceReading}
use Rattle.dap_input.specs.declared.limits.Limits.{Limits}
use Rattle.dap_input.specs.declared.refused.Refused.{Refused}
use Rattle.dap_input.specs.Limits.{AreSound}
use Rattle.dap_input.specs.RecordSteps.{IsWithin}
use Rattle.dap_input.proofs.Coming.{came_on, nothing_came}
use Rattle.dap_record.specs.TracingSteps.{HasReadOn, RecordsPiece, Traces, TracesInput}
use Rattle.dap_record.specs.TracingSteps.{Tracing}
use Rattle.dap_record.proofs.TraceAnswers.{refused_later}

length_of : (limit : ℕ) (bytes : List ℕ) (stop : Stop) → IsWithin (length bytes) limit (Some stop)
    → HasLength limit bytes stop
length_of limit bytes End within = within
length_of limit bytes Full within = within
length_of limit bytes Failed within = within

module _ {R : Type 0} (source : Source R) where
  -- If no more bytes follow, these are all bytes of the input.
  all_came : (start end : R) (limit : ℕ) (bytes : List ℕ) (stop : Stop)
      → HasReadSoFar source start end bytes (Some stop) → IsWithin (length bytes) limit (Some stop)
      → HasReadInput source start end limit bytes stop
  all_came start end limit bytes stop came within = record {
    came = came.came;
    counted = came.counted;
    has_length = length_of limit bytes stop within;
    stopped = came.paused;
  }

  -- ---- bytes that are read and discarded

  -- This many more bytes were read, and the limit allows them.
  pub record Dropping (old now : Window) (before mid : R) : Type 0 where
    pub more : List ℕ
    pub came : HasReadSoFar source before mid more None
    pub taken : now.taken ≡ old.taken + length more
    pub limit_is : now.limit ≡ old.limit
    pub within : old.taken ≤ old.limit → now.taken ≤ now.limit
    pub room : source.given mid + (now.limit - now.taken)
        ≤ source.given before + (old.limit - old.taken)

  pub drop_start : (old : Window) (before : R) → Dropping old old before before
  drop_start old before = record {
    more = [];
    came = nothing_came source before;
    taken = omega arith;
    limit_is = refl;
    within = λ le. le;
    room = omega arith;
  }

  module _ (old now : Window) (before mid : R) (was : Dropping old now before mid) where
    pub drop_on : (next filled : Window) (after : R)
        → HasNextPiece source now filled mid after
        → next.taken ≡ filled.taken → next.limit ≡ filled.limit
        → Dropping old next before after
    drop_on next filled after got taken limit =
        let is_taken = ap (λ (w : Window). w.taken) got.window in
        let is_limit = ap (λ (w : Window). w.limit) got.window in
        record {
          more = was.more ++ got.piece;
          came = came_on source before mid after was.more got.piece None was.came got.came;
          taken = taken ∙ is_taken
              ∙ omega (arith, was.taken, length-append was.more got.piece);
          limit_is = limit ∙ is_limit ∙ was.limit_is;
          within = λ le. let within = got.within in omega (arith, taken, limit, within);
          room =
              (let within = got.within in
              let more = got.came.counted in
              let room = was.room in
              omega (arith, taken, limit, is_taken, is_limit, within, more, room));
        }

    at_most : old.taken ≤ old.limit → old.taken + length was.more ≤ old.limit
    at_most le = let within = was.within le in omega (arith, within, was.taken, was.limit_is)

    came_none : (after : R) (stop : Stop) → HasReadSoFar source mid after [] (Some stop)
        → HasReadSoFar source before after was.more (Some stop)
    came_none after stop next =
        subst (λ more. HasReadSoFar source before after more (Some stop)) (append-nil was.more)
        (came_on source before mid after was.more [] (Some stop) was.came next)

    pub dropped : (after : R) (stop : Stop) → HasNoPiece source now mid after stop
        → old.taken ≤ old.limit → HasReadOn source old before after stop
    dropped after Full next le = record {
      more = was.more ++ next.byte ∷ [];
      came = came_on source before mid after was.more (next.byte ∷ []) (Some Full) was.came
          next.came;
      within = omega (
        arith,
        was.taken,
        was.limit_is,
        next.at_limit,
        length-append was.more (next.byte ∷ []),
      );
    }
    dropped after End next le =
        record { more = was.more; came = came_none after End next; within = at_most le }
    dropped after Failed next le =
        record { more = was.more; came = came_none after Failed next; within = at_most le }

  -- ---- bytes that are recorded

  module _ (limits : Limits) (start : R) where
    -- These bytes were read and recorded, and none is unread.
    pub record Going (reader : R) (pieces : Window) (trace : TraceReading)
        (recorder : RecorderReading) (last : ℕ) : Type 0 where
      pub bytes : List ℕ
      pub came : HasReadSoFar source start reader bytes None
      pub none : pieces.unread ≡ []
      pub taken : pieces.taken ≡ length bytes
      pub limit_is : pieces.limit ≡ limits.input
      pub traced : Tracing limits bytes [] trace recorder last

    pub at_start : (reader : R) (pieces : Window) (trace : TraceReading)
        (recorder : RecorderReading)
        → pieces ≡ record { unread = []; taken = 0; limit = limits.input }
        → HasReadSoFar source start reader [] None → Tracing limits [] [] trace recorder 0
        → Going reader pieces trace recorder 0
    at_start reader pieces trace recorder is came traced = record {
      bytes = [];
      came = came;
      none = ap (λ (w : Window). w.unread) is;
      taken = ap (λ (w : Window). w.taken) is;
      limit_is = ap (λ (w : Window). w.limit) is;
      traced = traced;
    }

    -- These bytes were consumed, out of all bytes of the input.
    pub record Ended (taken : List ℕ) (after : R) (stop : Stop) : Type 0 where
      pub bytes : List ℕ
      pub came : HasReadInput source start after limits.input bytes stop
      pub is_front : taken ≡ take limits.input bytes
      pub fits : FitsStop limits.input bytes stop

    module _ (reader : R) (pieces : Window) (trace : TraceReading) (recorder : RecorderReading)
        (last : ℕ) (was : Going reader pieces trace recorder last) where
      pub given_small : limits.input ≤ 2 ^ 62 → source.given start < 2 ^ 62
          → source.given reader < 2 ^ 63
      given_small most small =
          let came = was.came.counted in
          let short = was.traced.short in
          omega (arith, small, most, came, short)

      pub few_failures : source.failures start < 2 ^ 62 → source.failures reader < 2 ^ 63
      few_failures small = let same = was.came.paused in omega (arith, small, same)

      came_whole : (after : R) (stop : Stop) → HasReadSoFar source reader after [] (Some stop)
          → HasReadSoFar source start after was.bytes (Some stop)
      came_whole after stop next =
          subst (λ bytes. HasReadSoFar source start after bytes (Some stop)) (append-nil was.bytes)
          (came_on source start reader after was.bytes [] (Some stop) was.came next)

      -- Why no more bytes follow.
      pub stopped : (after : R) (stop : Stop) → HasNoPiece source pieces reader after stop
          → Ended was.bytes after stop
      stopped after Full next =
          let full : length was.bytes ≡ limits.input =
          omega (arith, was.taken, was.limit_is, next.at_limit) in
          let bytes : List ℕ = was.bytes ++ next.byte ∷ [] in
          let long : length bytes ≡ limits.input + 1 =
          omega (arith, full, length-append was.bytes (next.byte ∷ [])) in
          record {
            bytes = bytes;
            came = all_came start after limits.input bytes Full
                (came_on source start reader after was.bytes (next.byte ∷ []) (Some Full) was.came
                next.came) long;
            is_front = sym (ap (λ n. take n bytes) (sym full)
                ∙ take-append_seam was.bytes (next.byte ∷ []));
            fits = omega (arith, long);
          }
      stopped after End next = record {
        bytes = was.bytes;
        came = all_came start after limits.input was.bytes End (came_whole after End next)
            was.traced.short;
        is_front = sym (take_all limits.input was.bytes was.traced.short);
        fits = was.traced.short;
      }
      stopped after Failed next = record {
        bytes = was.bytes;
        came = all_came start after limits.input was.bytes Failed (came_whole after Failed next)
            was.traced.short;
        is_front = sym (take_all limits.input was.bytes was.traced.short);
        fits = was.traced.short;
      }

      module _ (filled : Window) (after : R) (got : HasNextPiece source pieces filled reader after)
        where
          unread_is : filled.unread ≡ got.piece
          unread_is = ap (λ (w : Window). w.unread) got.window
              ∙ ap (λ t. t ++ got.piece) was.none

          pub now_taken : filled.taken ≡ length (was.bytes ++ filled.unread)
          now_taken =
              let is_taken = ap (λ (w : Window). w.taken) got.window in
              omega (
                arith,
                is_taken,
                was.taken,
                ap length unread_is,
                length-append was.bytes filled.unread,
              )

          pub now_limit : filled.limit ≡ limits.input
          now_limit = ap (λ (w : Window). w.limit) got.window ∙ was.limit_is

          pub now_short : length (was.bytes ++ filled.unread) ≤ limits.input
          now_short = let within = got.within in omega (arith, within, now_taken, now_limit)

          pub came_now : HasReadSoFar source start after (was.bytes ++ filled.unread) None
          came_now =
              subst (λ t. HasReadSoFar source start after (was.bytes ++ t) None) (sym unread_is)
              (came_on source start reader after was.bytes got.piece None was.came got.came)

          -- The result of recording the chunk.
          pub of_piece : AreSound limits → (piece : List ℕ) → piece ≡ filled.unread
              → (now : TraceReading) (recorded : RecorderReading) (outcome : Result ℕ Refused)
              → ((its : Limits) (bytes : List ℕ) → AreSound its
              → length (bytes ++ piece) ≤ its.input
              → Tracing its bytes [] trace recorder last
              → RecordsPiece its (bytes ++ piece) now recorded outcome)
              → RecordsPiece limits (was.bytes ++ filled.unread) now recorded outcome
          of_piece sound piece is now recorded outcome records =
              subst (λ t. RecordsPiece limits (was.bytes ++ t) now recorded outcome) is
              (records limits was.bytes sound
              (subst (λ t. length (was.bytes ++ t) ≤ limits.input) (sym is) now_short) was.traced)

          pub room : limits.input ≤ 2 ^ 62 → source.given start < 2 ^ 62
              → source.given after + (filled.limit - filled.taken) < 2 ^ 63
          room most small =
              let came = came_now.counted in
              omega (arith, small, most, came, now_taken, now_limit, now_short)

          pub no_failure : source.failures start < 2 ^ 62 → source.failures after < 2 ^ 63
          no_failure small = let same = came_now.paused in omega (arith, small, same)

          pub smaller : (next : Window) → next.taken ≡ filled.taken → next.limit ≡ filled.limit
              → next.limit - next.taken < pieces.limit - pieces.taken
          smaller next taken limit =
              let is_taken = ap (λ (w : Window). w.taken) got.window in
              let is_limit = ap (λ (w : Window). w.limit) got.window in
              let some = got.some in
              let within = got.within in
              omega (arith, taken, limit, is_taken, is_limit, some, within, ap length unread_is)

          -- The chunk has been recorded.
          pub goes_on : (now : TraceReading) (recorded : RecorderReading) (piece : ℕ)
              → Tracing limits (was.bytes ++ filled.unread) [] now recorded piece
              → (next : Window) (count : ℕ) → count ≡ length filled.unread
              → next ≡ record {
                unread = drop count filled.unread;
                taken = filled.taken;
                limit = filled.limit;
              }
              → Going after next now recorded piece
          goes_on now recorded piece traced next count all is = record {
            bytes = was.bytes ++ filled.unread;
            came = came_now;
            none = ap (λ (w : Window). w.unread) is
                ∙ drop_all count filled.unread (omega (arith, all));
            taken = ap (λ (w : Window). w.taken) is ∙ now_taken;
            limit_is = ap (λ (w : Window). w.limit) is ∙ now_limit;
            traced = traced;
          }

          -- The chunk contains an error, and the bytes after it were read and discarded.
          pub refused : (because : Refused) (recorded : RecorderReading)
              → ((s : Stop)
              → Traces {U = Unit {0}} limits (was.bytes ++ filled.unread) s (Err because) recorded)
              → (end : R) (stop : Stop) → HasReadOn source filled after end stop
              → TracesInput source {U = Unit {0}} limits start end (Err because) recorded
          refused because recorded reported end stop rest =
              let front : List ℕ = was.bytes ++ filled.unread in
              let long : filled.taken + length rest.more ≡ length (front ++ rest.more) =
              omega (arith, now_taken, length-append front rest.more) in
              record {
                bytes = front ++ rest.more;
                stop = stop;
                came = all_came start end limits.input (front ++ rest.more) stop
                    (came_on source start after end front rest.more (Some stop) came_now rest.came)
                    (subst (λ limit. IsWithin (length (front ++ rest.more)) limit (Some stop))
                    now_limit
                    (subst (λ n. IsWithin n filled.limit (Some stop)) long rest.within));
                traces = refused_later (Unit {0}) limits front rest.more because recorded reported
                    stop;
              }
