-- For private clauses: the set of numbers of pairs, and pairs found by class and both numbers.
use Rattle.std.specs.Prelude.{◌≡◌, ℕ, ℤ, pos, Bool, ◌&&◌, List, slice_index_or}
use Rattle.std.specs.BTreeSet as sorted
use Rattle.std.specs.BTreeSet.{BTreeSet}
use Rattle.std.specs.List.{list_any}
use Rattle.std.specs.List.Sorted.{IsSortedByKey}
use Rattle.std.specs.Ordering.{int_eq, nat_cmp, int_cmp, ordering_then}
use Rattle.std.specs.declared.cmp.Ordering.{Ordering}
use Rattle.dap_tree.specs.declared.sort.Sort.TheVariants.{ClientSeq}
use Rattle.dap_rename.specs.Messages.{Class, same_class}
use Rattle.dap_rename.specs.Pairs.{class_of}
use Rattle.dap_rename.specs.Sorts.{sort_number}
use Rattle.dap_rename.specs.declared.pair.Pair.{Pair}
use Rattle.dap_rename.specs.declared.pair_index.PairIndex.{PairIndex}
use Rattle.dap_rename.specs.declared.pair_index.SeenPairs.{SeenPairs}

-- A number of a class as a key, and the order of keys.
abbrev pub Key : Type 0
Key = (ℕ × ℕ) × ℤ

abbrev pub key : Class → ℤ → Key
key c x = ((sort_number c.0, c.1), x)

abbrev pub key_cmp : Key → Key → Ordering
key_cmp k l =
    ordering_then (ordering_then (nat_cmp k.0.0 l.0.0) (nat_cmp k.0.1 l.0.1)) (int_cmp k.1 l.1)

-- The set contains the numbers of the pairs on one side, `from` or `to`.
abbrev pub HasNumbers : BTreeSet Key → (Pair → ℤ) → List Pair → Type 0
HasNumbers set side ps =
    (c : Class) (x : ℤ) → sorted.contains key_cmp set (key c x)
    ≡ list_any (λ p. same_class (class_of p) c && int_eq (side p) x) ps

-- These pairs were seen: for each number of a class it is known whether it is the `from` or the
-- `to` of one of them.
pub record HasSeen (seen : SeenPairs) (ps : List Pair) : Type 0 where
  pub taken : HasNumbers seen.taken (λ p. p.from) ps
  pub given : HasNumbers seen.given (λ p. p.to) ps

-- The key by which a pair of a class is found, and the order of these keys.
abbrev pub pair_key : Class → ℤ → ℤ → Key × ℤ
pair_key c x y = (key c x, y)

abbrev pub pair_key_cmp : Key × ℤ → Key × ℤ → Ordering
pair_key_cmp k l = ordering_then (key_cmp k.0 l.0) (int_cmp k.1 l.1)

-- The pair at a position, or some default pair beyond the last one.
abbrev pub pair_at : List Pair → ℕ → Pair
pair_at ps k =
    slice_index_or ps k (record { sort = ClientSeq; stop = 0; from = pos 0; to = pos 0 })

-- The key of the pair at a position.
abbrev pub key_at : List Pair → ℕ → Key × ℤ
key_at ps k = pair_key (class_of (pair_at ps k)) (pair_at ps k).from (pair_at ps k).to

-- The index contains the positions of the pairs, sorted by the pairs: a test passes for some pair
-- if and only if it passes for the pair at some position in the index.
abbrev pub IsIndexOf : List Pair → PairIndex → Type 0
IsIndexOf ps i =
    ((t : Pair → Bool) → list_any t ps ≡ list_any (λ k. t (pair_at ps k)) i.places.items)
    × IsSortedByKey (key_at ps) pair_key_cmp i.places.items
