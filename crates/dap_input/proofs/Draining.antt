-- The invariant of reading to the end of an input, and what has been received at the end.
use Rattle.std.proofs.Common.{◌≡◌, ℕ, ◌+◌, ◌≤◌, List, [], ◌∷◌, ◌++◌, length, Some}
use Rattle.std.proofs.Common.{None, true, false, Result, Ok, Err, refl, ◌∙◌, ap, subst}
use Rattle.std.proofs.Common.{arith, append-nil, length-append}
use Rattle.std.specs.Result.{is_ok}
use Rattle.dap_device.specs.declared.device.Source.{Ghosts as Source}
use Rattle.dap_device.specs.Pieces.{HasReadSoFar, HasFilled, HasNextPiece, HasNoPiece, Window}
use Rattle.dap_device.specs.declared.reading.Stop.{Stop}
use Rattle.dap_device.specs.declared.reading.Stop.TheVariants.{End, Full, Failed}
use Rattle.dap_input.specs.RecordSteps.{ReadsRest}
use Rattle.dap_input.specs.declared.records.Records.{Records}
use Rattle.dap_input.proofs.Coming.{came_on, nothing_came}

-- More bytes have been received, and this was allowed.
pub record Draining {I R : Type 0} (source : Source R) (old now : Records I) (before mid : R)
    : Type 0 where
  pub more : List ℕ
  pub came : HasReadSoFar source before mid more None
  pub taken : now.pieces.taken ≡ old.pieces.taken + length more
  pub limit_is : now.pieces.limit ≡ old.pieces.limit
  pub within : old.pieces.taken ≤ old.pieces.limit → now.pieces.taken ≤ now.pieces.limit

-- The facts that the test of a loop over the chunks establishes.
module _ {R U : Type 0} (source : Source R)
    (before after : Window) (mid end : R) where
  pub some_piece : (filled : Result U Stop) → is_ok filled ≡ true
      → HasFilled source before after mid end filled
      → HasNextPiece source before after mid end
  some_piece (Ok done) is got = got
  some_piece (Err stop) is got = absurd (let e : false ≡ true = is in cc)

  pub no_piece : (filled : Result U Stop) → is_ok filled ≡ false
      → HasFilled source before after mid end filled
      → (stop : Stop) × HasNoPiece source before mid end stop
  no_piece (Ok done) is got = absurd (let e : true ≡ false = is in cc)
  no_piece (Err stop) is got = (stop, got.2)

module _ {I R : Type 0} (source : Source R) (old : Records I) (before : R) where
  pub drain_start : Draining source old old before before
  drain_start = record {
    more = [];
    came = nothing_came source before;
    taken = omega arith;
    limit_is = refl;
    within = λ le. le;
  }

  module _ (now : Records I) (mid : R)
      (was : Draining source old now before mid) where
    -- A chunk was received, and is dropped.
    pub drain_on : (next : Records I) (filled : Window) (after : R)
        → HasNextPiece source now.pieces filled mid after
        → next.pieces.taken ≡ filled.taken → next.pieces.limit ≡ filled.limit
        → Draining source old next before after
    drain_on next filled after got taken limit = record {
      more = was.more ++ got.piece;
      came = came_on source before mid after was.more got.piece None was.came got.came;
      taken = taken ∙ ap (λ (w : Window). w.taken) got.window
          ∙ omega (arith, was.taken, length-append was.more got.piece);
      limit_is = limit ∙ ap (λ (w : Window). w.limit) got.window ∙ was.limit_is;
      within = λ le. let within = got.within in omega (arith, taken, limit, within);
    }

    at_most : old.pieces.taken ≤ old.pieces.limit
        → old.pieces.taken + length was.more ≤ old.pieces.limit
    at_most le = let within = was.within le in omega (arith, within, was.taken, was.limit_is)

    came_none : (after : R) (stop : Stop)
        → HasReadSoFar source mid after [] (Some stop)
        → HasReadSoFar source before after was.more (Some stop)
    came_none after stop next =
        subst (λ more. HasReadSoFar source before after more (Some stop))
        (append-nil was.more)
        (came_on source before mid after was.more [] (Some stop) was.came next)

    -- No more chunks are received.
    pub drained : (after : R) (stop : Stop)
        → HasNoPiece source now.pieces mid after stop
        → old.pieces.taken ≤ old.pieces.limit → ReadsRest source old before after
    drained after Full next le = record {
      more = was.more ++ next.byte ∷ [];
      stop = Full;
      came = came_on source before mid after was.more (next.byte ∷ []) (Some Full)
          was.came next.came;
      within = omega (
        arith,
        was.taken,
        was.limit_is,
        next.at_limit,
        length-append was.more (next.byte ∷ []),
      );
    }
    drained after End next le = record {
      more = was.more;
      stop = End;
      came = came_none after End next;
      within = at_most le;
    }
    drained after Failed next le = record {
      more = was.more;
      stop = Failed;
      came = came_none after Failed next;
      within = at_most le;
    }
