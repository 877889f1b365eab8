-- The groups of messages by their looks, for private clauses.
use Rattle.std.specs.Prelude.{◌≡◌, ℕ, ◌<◌, Bool, not, List, length, map, Some, slice_get}
use Rattle.std.specs.{List.slice_index_or, BTreeSet.BTreeSet}
use Rattle.dap_message.specs.{Message.Sent, SwapRules.SwapRule}
use Rattle.dap_order.specs.{ByPlace.passes_both, Free.may_swap, Keys.Key, Partners.ArePartners}
use Rattle.dap_order.specs.declared.keys.Key.{Key as ReadKey}

-- The messages at the two places may not be swapped, because of their looks.
abbrev pub blocks_at : List SwapRule → List Sent → ℕ → ℕ → Bool
blocks_at rules ms i j = not (passes_both (may_swap rules) (slice_get ms i) (slice_get ms j))

-- If there is a message at the place, the set has its partners.
abbrev pub ArePartnersAt : List SwapRule → List Sent → ℕ → BTreeSet ReadKey → Type 0
ArePartnersAt rules ms i set = (x : Sent) → slice_get ms i ≡ Some x → ArePartners rules x set

-- For each two of these places, whether they block each other.
abbrev pub block_table : List SwapRule → List Sent → List ℕ → List (List Bool)
block_table rules ms firsts = map (λ i. map (blocks_at rules ms i) firsts) firsts

-- The first n keys have these groups, and `firsts` is the list of the first places of the groups.
pub record AreGroups (ks : List Key) (n : ℕ) (groups firsts : List ℕ) : Type 0 where
  pub len : length groups ≡ n
  pub in_range : (j : ℕ) → j < n → slice_index_or groups j 0 < length firsts
  pub earlier : (g : ℕ) → g < length firsts → slice_index_or firsts g 0 < n
  pub same : (j : ℕ) → j < n
      → slice_get ks (slice_index_or firsts (slice_index_or groups j 0) 0) ≡ slice_get ks j
