-- Calls of `feed` over the chunks of a stream, one after another.
use Rattle.std.specs.Prelude.{◌≡◌, ℕ, List, option_to_list, Result, Ok, Err}
use Rattle.dap_frame.specs.ItemFeeding as feeding
use Rattle.dap_frame.specs.ItemFeeding.{Calls}
use Rattle.dap_frame.specs.declared.fault.FrameFault.{FrameFault}
use Rattle.dap_frame.specs.declared.fault.FrameFault.TheVariants.{Memory}
use Rattle.dap_frame.specs.declared.fed.Fed.{Fed}
use Rattle.dap_frame.specs.Reading.{Reading, Represents, Gives, limits_of}

-- The contract of one call states these facts about the framer before and after it.
pub record IsCall (old : Reading) (piece : List ℕ) (result : Result Fed FrameFault)
    (new : Reading) : Type 0 where
  pub gives : (rest : List ℕ) → Represents old rest → Gives (limits_of old) rest piece result new
  pub limits : limits_of new ≡ limits_of old

-- the calls of `feed`, by their contract
abbrev pub calls : Calls Reading Fed (List ℕ)
calls = record {
  used = λ fed. fed.used;
  given = λ fed. option_to_list fed.content;
  Took = λ old piece fed new. IsCall old piece (Ok fed) new;
  Refused = λ old piece new. IsCall old piece (Err Memory) new;
}

-- Calls of `feed`, from the first framer on and over these chunks, have returned these contents.
abbrev pub Feeds : Reading → List (List ℕ) → List (List ℕ) → List (List ℕ) → Reading → Type 0
Feeds = feeding.Feeds calls
