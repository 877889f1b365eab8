-- The effect of reading an input in chunks on its source. Source: own.
use Rattle.std.specs.Prelude.{◌≡◌, ◌⊎◌, ℕ, ◌+◌, ◌<◌, ◌≤◌, List, [], ◌∷◌, ◌++◌, length, Option, Some}
use Rattle.std.specs.Prelude.{None, Result, Ok, Err}
use Rattle.std.specs.Io.KnownBytes.{Consumes}
use Rattle.dap_device.specs.declared.device.Source.{Ghosts as Source}
use Rattle.dap_device.specs.declared.reading.Stop.{Stop}
use Rattle.dap_device.specs.declared.reading.Stop.TheVariants.{End, Full, Failed}
use Rattle.dap_device.specs.Reading.{HasStopped}

-- The model of `Pieces`: the bytes that were read and not skipped yet, the number of bytes read,
-- and its limit.
pub record Window : Type 0 where
  pub unread : List ℕ
  pub taken : ℕ
  pub limit : ℕ

module _ {S : Type 0} (source : Source S) where
  -- why reading paused; without a reason, more bytes may follow
  abbrev pub HasPaused : S → S → Option Stop → Type 0
  HasPaused old new None = source.failures new ≡ source.failures old
  HasPaused old new (Some stop) = HasStopped source old new stop

  -- These bytes were read from the source, they are counted, and reading paused for this reason.
  pub record HasReadSoFar (old new : S) (bytes : List ℕ) (stop : Option Stop) : Type 0 where
    pub came : Consumes (source.left old) (source.left new) bytes
    pub counted : source.given new ≡ source.given old + length bytes
    pub paused : HasPaused old new stop

  -- There are unread bytes: those from before, or the chunk that was read.
  pub record HasNextPiece (before after : Window) (old new : S) : Type 0 where
    pub piece : List ℕ
    pub came : HasReadSoFar old new piece None
    pub few : length piece ≤ 65536
    pub needed : (piece ≡ []) ⊎ (before.unread ≡ [])
    pub some : 0 < length after.unread
    pub window : after
        ≡ record {
          unread = before.unread
              ++ piece;
          taken = before.taken + length piece;
          limit = before.limit;
        }
    pub within : after.taken ≤ after.limit

  -- A byte beyond the limit was read.
  pub record HasPassedLimit (before : Window) (old new : S) : Type 0 where
    pub byte : ℕ
    pub came : HasReadSoFar old new (byte ∷ []) (Some Full)
    pub at_limit : before.taken ≡ before.limit

  -- There were no unread bytes, and there are none for this reason.
  abbrev pub HasNoPiece : Window → S → S → Stop → Type 0
  HasNoPiece before old new End = HasReadSoFar old new [] (Some End)
  HasNoPiece before old new Full = HasPassedLimit before old new
  HasNoPiece before old new Failed = HasReadSoFar old new [] (Some Failed)

  -- There are unread bytes; or there are none, for a reason, and the model is unchanged.
  abbrev pub HasFilled : {U : Type 0} → Window → Window → S → S → Result U Stop → Type 0
  HasFilled before after old new (Ok done) = HasNextPiece before after old new
  HasFilled before after old new (Err stop) = (before.unread ≡ []) × (after ≡ before)
      × HasNoPiece before old new stop
