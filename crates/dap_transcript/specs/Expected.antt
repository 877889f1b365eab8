-- The values of `seq` and `request_seq` that a reader expects after the messages before, so that
-- they need not be written. Source: own, over the messages of the DAP specification.
use Rattle.std.specs.Prelude.{◌≡◌, ℕ, ◌-◌, ◌^◌, ℤ, pos, ◌+ℤ◌, Bool, true, false, cond, not, ◌&&◌}
use Rattle.std.specs.Prelude.{List, [], ◌∷◌, ◌++◌, map, Option, Some, None}
use Rattle.std.specs.{List.{filter, list_any}, Ordering.int_eq}
use Rattle.dap_tree.specs.declared.side.Side.{Side}
use Rattle.dap_message.specs.Message.{Sent}
use Rattle.dap_session.specs.Messages.{seq_of, name_of, is_from, is_request}
use Rattle.dap_session.specs.Messages.{is_response_to, is_named, side_of}
use Rattle.dap_session.specs.Messages.{other}

-- ---- seq

-- The maximum sequence number (own): an id is a signed 64-bit number.
abbrev pub max_seq : ℤ
max_seq = pos (2 ^ 63 - 1)

-- The number after n, which is at most the maximum.
abbrev pub number_after : ℤ → ℤ
number_after n = cond (int_eq n max_seq) n (n +ℤ pos 1)

-- The expected number after the numbers of one side, in order: 1 for the first message; the last
-- number if the last two are equal, as those of an adapter that always sends 0; otherwise the last
-- plus one.
abbrev pub next_number : List ℤ → ℤ
next_number [] = pos 1
next_number (n ∷ []) = number_after n
next_number (n ∷ o ∷ []) = cond (int_eq n o) o (number_after o)
next_number (n ∷ o ∷ p ∷ ns) = next_number (o ∷ p ∷ ns)

-- The sequence numbers of the messages of one side, in order.
abbrev pub numbers_of : Side → List Sent → List ℤ
numbers_of side ms = map seq_of (filter (is_from side) ms)

-- The `seq` that is expected of a message of this side after these messages.
abbrev pub expected_seq : List Sent → Side → ℤ
expected_seq before side = next_number (numbers_of side before)

-- ---- request_seq

-- The message is a request of this side with this command.
abbrev pub asks : Side → List ℕ → Sent → Bool
asks side command m = is_request m && (is_from side m && is_named command m)

-- The request is open after these later messages: none of them is a response of the other side to
-- its number, whatever its command (DAP specification, Response.request_seq).
abbrev pub is_open : Side → Sent → List Sent → Bool
is_open side m later = not (list_any (is_response_to side (seq_of m)) later)

-- The number of the oldest open request of this side with this command.
abbrev pub oldest_open : Side → List ℕ → List Sent → Option ℤ
oldest_open side command [] = None
oldest_open side command (m ∷ later) =
    cond (asks side command m && is_open side m later) (Some (seq_of m))
    (oldest_open side command later)

-- The same as a relation: in the messages before, the request with this number is open, and none
-- before it is.
pub record IsOldestOpen (side : Side) (command : List ℕ) (before : List Sent) (n : ℤ) : Type 0 where
  pub earlier : List Sent
  pub request : Sent
  pub later : List Sent
  pub all : before ≡ earlier ++ request ∷ later
  pub asked : asks side command request ≡ true
  pub open_still : is_open side request later ≡ true
  pub number : seq_of request ≡ n
  pub oldest : (first : List Sent) (m : Sent) (rest : List Sent) → earlier ≡ first ++ m ∷ rest
      → asks side command m ≡ true → is_open side m (rest ++ request ∷ later) ≡ false

-- The `request_seq` that is expected of a response after these messages: the number of the oldest
-- open request of the other side with its command. If there is none, no number is expected.
abbrev pub expected_request : List Sent → Sent → Option ℤ
expected_request before m = oldest_open (other (side_of m)) (name_of m) before
