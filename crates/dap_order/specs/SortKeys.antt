-- The keys by which places are sorted, for private clauses.
use Rattle.std.specs.Prelude.{ℕ, Bool, List, ◌++◌, is_none, unwrap_or}
use Rattle.dap_message.specs.declared.any_message.AnyMessage.{Ghosts as Form}
use Rattle.dap_order.specs.{Keys.{Key, key_of, class_key}, Entries.{sent_by, request_by}}
use Rattle.dap_order.specs.declared.entries.Entry.{Entry}
use Rattle.dap_order.specs.declared.by_key.SortKey.{SortKey as ReadSortKey}
use Rattle.dap_order.specs.declared.by_key.Parts.{Parts}

pub record SortKey : Type 0 where
  pub answers_none : Bool
  pub request : ℕ
  pub class : Key
  pub place : ℕ

abbrev pub sort_key_of : ReadSortKey → SortKey
sort_key_of k = record {
  answers_none = k.answers_none;
  request = k.request;
  class = key_of k.class;
  place = k.place;
}

-- The sort key of the entry at this place.
abbrev pub entry_key : {M : Type 0} {form : Form M} → Entry M form → ℕ → SortKey
entry_key e place = record {
  answers_none = is_none (request_by e);
  request = unwrap_or (request_by e) 0;
  class = class_key (sent_by e);
  place = place;
}

-- The keys of the three parts.
abbrev pub keys_in : Parts → List ReadSortKey
keys_in p = p.answers.items ++ (p.others.items ++ p.client.items)
