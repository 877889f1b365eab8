-- The bytes received from a source, joined.
use Rattle.std.proofs.Common.{◌≡◌, ℕ, ◌+◌, ◌≤◌, List, [], ◌++◌, length, Option, Some, None, refl}
use Rattle.std.proofs.Common.{◌∙◌, ap, arith, length-append}
use Rattle.std.proofs.lemmas.List.{nil_from_length}
use Rattle.std.proofs.KnownBytes.{Consumes-nil, Consumes-trans}
use Rattle.dap_device.specs.declared.device.Source.{Ghosts as Source}
use Rattle.dap_device.specs.Pieces.{HasReadSoFar, HasPaused}
use Rattle.dap_device.specs.Reading.{HasReadInput}
use Rattle.dap_device.specs.declared.reading.Stop.{Stop}
use Rattle.dap_device.specs.declared.reading.Stop.TheVariants.{End, Full, Failed}

module _ {R : Type 0} (source : Source R) where
  -- Nothing has been received.
  pub nothing_came : (reader : R) → HasReadSoFar source reader reader [] None
  nothing_came reader =
      record { came = Consumes-nil (source.left reader); counted = omega arith; paused = refl }

  -- More bytes were received.
  pub came_on : (start mid end : R) (bytes more : List ℕ) (stop : Option Stop)
      → HasReadSoFar source start mid bytes None
      → HasReadSoFar source mid end more stop
      → HasReadSoFar source start end (bytes ++ more) stop
  came_on start mid end bytes more stop was next = record {
    came = Consumes-trans _ _ _ _ _ was.came next.came;
    counted = (let before = was.counted in let behind = next.counted in omega
        (arith, before, behind, length-append bytes more));
    paused = paused_on stop next.paused;
  }
    where
      paused_on : (s : Option Stop) → HasPaused source mid end s
          → HasPaused source start end s
      paused_on None same = same ∙ was.paused
      paused_on (Some End) same = (same.0, same.1 ∙ was.paused)
      paused_on (Some Full) same = same ∙ was.paused
      paused_on (Some Failed) same = same ∙ ap (λ n. n + 1) was.paused

  -- If no more bytes are counted, none were received.
  pub none_counted : {mid end : R} {more : List ℕ} {stop : Option Stop}
      → HasReadSoFar source mid end more stop → source.given end ≡ source.given mid → more ≡ []
  none_counted {more = more} next same =
      let counted = next.counted in nil_from_length more (omega (arith, counted, same))

  -- The number of bytes read, if at most one of those received is beyond a limit.
  pub taken_within : {start mid end : R} {bytes more : List ℕ} {stop : Option Stop} (limit : ℕ)
      → HasReadSoFar source start mid bytes None → HasReadSoFar source mid end more stop
      → length (bytes ++ more) ≤ limit + 1
      → source.given end ≤ source.given start + limit + 1
  taken_within {bytes = bytes} {more = more} limit was next within =
      let before = was.counted in
      let behind = next.counted in
      omega (arith, before, behind, within, length-append bytes more)

  -- A source that reached its end delivered a complete input.
  pub whole_came : {start end : R} {limit : ℕ} {bytes : List ℕ}
      → HasReadSoFar source start end bytes (Some End) → length bytes ≤ limit
      → HasReadInput source start end limit bytes End
  whole_came came short =
      record { came = came.came; counted = came.counted; has_length = short; stopped = came.paused }
