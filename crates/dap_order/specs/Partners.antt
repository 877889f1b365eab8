-- The messages that rules name together with one message, by the keys of halves, for private
-- clauses.
use Rattle.std.specs.Prelude.{◌≡◌, ℕ, Bool, ◌&&◌, ◌||◌, List, [], Option, None, is_some, unwrap_or}
use Rattle.std.specs.{List.list_any, Option.option_cmp, Cmp.Lexicographic.slice_cmp}
use Rattle.std.specs.declared.cmp.Ordering.{Ordering}
use Rattle.std.specs.Ordering.{nat_cmp, int_cmp, is_eq, ordering_then, on}
use Rattle.std.specs.BTreeSet.{BTreeSet, contains}
use Rattle.dap_profile.specs.declared.profile.Kind.{Kind}
use Rattle.dap_message.specs.{Message.Sent, SwapRules.{Half, SwapRule}}
use Rattle.dap_order.specs.{Free.fits_half, Keys.{Key, key_of, kind_code, with_bit}}
use Rattle.dap_order.specs.declared.keys.Key.{Key as ReadKey}

-- The key of the messages with this kind and, if one is given, this name.
abbrev pub half_key : Kind → Option (List ℕ) → Key
half_key kind name = record {
  code = with_bit (kind_code kind) (is_some name);
  number = None;
  name = unwrap_or name [];
}

-- The order of keys: by code, then by number, then by name.
abbrev pub key_cmp : Key → Key → Ordering
key_cmp k l =
    ordering_then (nat_cmp k.code l.code)
    (ordering_then (option_cmp int_cmp k.number l.number) (slice_cmp nat_cmp k.name l.name))

-- The key is that of the half.
abbrev pub is_half : Half → Key → Bool
is_half h k = is_eq (key_cmp (half_key h.kind h.name) k)

-- A half of the rule names the message, and k is the key of the other half.
abbrev pub is_partner : Sent → Key → SwapRule → Bool
is_partner m k r =
    (fits_half r.one m && is_half r.another k) || (fits_half r.another m && is_half r.one k)

-- The set has the keys of the halves that rules name together with the message.
abbrev pub ArePartners : List SwapRule → Sent → BTreeSet ReadKey → Type 0
ArePartners rules m set = (k : ReadKey)
    → contains (on key_of key_cmp) set k ≡ list_any (is_partner m (key_of k)) rules
