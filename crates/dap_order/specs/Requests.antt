-- The content of a map of the client's requests, for private clauses.
use Rattle.std.specs.{Prelude.{◌≡◌, ℕ, ℤ, List, Option}, Ordering.int_cmp, BTreeMap.get}
use Rattle.dap_tree.specs.declared.side.Side.TheVariants.{Client}
use Rattle.dap_message.specs.Message.{Sent}
use Rattle.dap_session.specs.Messages.{is_request_of}
use Rattle.dap_order.specs.{ByPlace.first_place, declared.requests.FirstRequests.FirstRequests}

abbrev pub places_found : FirstRequests → ℤ → Option ℕ
places_found f number = get int_cmp f.places number

-- For each number, the map has the place of the first request of the client with that number.
abbrev pub Finds : FirstRequests → List Sent → Type 0
Finds f ms = (number : ℤ) → places_found f number ≡ first_place (is_request_of Client number) ms
