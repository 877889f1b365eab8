-- The numbers of both sides so far. Source: own. For private clauses.
use Rattle.std.specs.Prelude.{◌≡◌, ℤ, cond, List, [], ◌∷◌, Option, Some, None}
use Rattle.std.specs.Ordering.{int_eq}
use Rattle.dap_tree.specs.declared.side.Side.TheVariants.{Client, Adapter}
use Rattle.dap_message.specs.Message.{Sent}
use Rattle.dap_transcript.specs.declared.expected.{Numbers.Numbers, SideNumbers.SideNumbers}
use Rattle.dap_transcript.specs.Expected.{next_number, number_after, numbers_of}

-- The last number, if there is one.
abbrev pub last_number : List ℤ → Option ℤ
last_number [] = None
last_number (n ∷ []) = Some n
last_number (n ∷ o ∷ ns) = last_number (o ∷ ns)

-- The number that is expected after n, which follows a last number.
abbrev pub next_after : Option ℤ → ℤ → ℤ
next_after None n = number_after n
next_after (Some o) n = cond (int_eq o n) n (number_after n)

-- These are the last number and the expected one after these numbers.
pub record Counts (c : Numbers) (ns : List ℤ) : Type 0 where
  pub last_is : c.last ≡ last_number ns
  pub next_is : c.next ≡ next_number ns

pub record CountsSides (c : SideNumbers) (ms : List Sent) : Type 0 where
  pub of_client : Counts c.client (numbers_of Client ms)
  pub of_adapter : Counts c.adapter (numbers_of Adapter ms)
