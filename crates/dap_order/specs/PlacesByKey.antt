-- The order of places by their keys, for private clauses.
use Rattle.std.specs.Prelude.{◌≡◌, ℕ, ◌<◌, Bool, false, List, [], Some, length, slice_get}
use Rattle.std.specs.List.{slice_index_or}
use Rattle.dap_message.specs.declared.any_message.AnyMessage.{Ghosts as Form}
use Rattle.dap_order.specs.{ByPlace.less_by_place, MessageOrder.message_answers}
use Rattle.dap_order.specs.{Entries.{sent_by, request_by}, declared.entries.Entry.Entry}

module _ {M : Type 0} {form : Form M} where
  -- The key of the entry e at place i is smaller than that of the entry f at place j.
  abbrev pub less_entry : ℕ → Entry M form → ℕ → Entry M form → Bool
  less_entry i e j f =
      less_by_place (message_answers []) (sent_by e) i (request_by e) (sent_by f) j (request_by f)

  -- No place has a smaller key than an earlier place of the list.
  abbrev pub AreByKey : List (Entry M form) → List ℕ → Type 0
  AreByKey es places = (u v : ℕ) → u < v → v < length places → (e f : Entry M form)
      → slice_get es (slice_index_or places u 0) ≡ Some e
      → slice_get es (slice_index_or places v 0) ≡ Some f
      → less_entry (slice_index_or places v 0) f (slice_index_or places u 0) e ≡ false
