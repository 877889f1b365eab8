-- Calls of a reader over the chunks of a stream, one after another.
use Rattle.std.specs.Prelude.{ℕ, List, [], ◌∷◌, ◌++◌, drop}

-- Facts that calls of a reader establish about its state before and after.
pub record Calls (State Fed Value : Type 0) : Type 1 where
  -- the number of bytes that a call consumed, and the values that it returned
  pub used : Fed → ℕ
  pub given : Fed → List Value
  -- a call on this chunk succeeded with this result
  pub Took : State → List ℕ → Fed → State → Type 0
  -- a call consumed nothing and may be repeated
  pub Refused : State → List ℕ → State → Type 0

-- Calls from the first state on, over these chunks in order, have returned these values. `left` are
-- the remaining chunks, and the last argument is the current state. Each call receives the rest of
-- the current chunk. When the rest is empty, the next chunk follows.
pub data Feeds {State Fed Value : Type 0} (calls : Calls State Fed Value) (first : State)
    (pieces : List (List ℕ))
    : List Value → List (List ℕ) → State → Type 0 where
  begun : Feeds calls first pieces [] pieces first
  next_piece : {values : List Value} {left : List (List ℕ)} {state : State}
      → Feeds calls first pieces values ([] ∷ left) state
      → Feeds calls first pieces values left state
  fed_on : {values : List Value} {left : List (List ℕ)} {state new : State} (piece : List ℕ)
      (fed : Fed)
      → Feeds calls first pieces values (piece ∷ left) state → calls.Took state piece fed new
      → Feeds calls first pieces (values ++ calls.given fed) (drop (calls.used fed) piece ∷ left)
      new
  refused : {values : List Value} {left : List (List ℕ)} {state new : State} (piece : List ℕ)
      → Feeds calls first pieces values (piece ∷ left) state → calls.Refused state piece new
      → Feeds calls first pieces values (piece ∷ left) new
