-- The joint numbers of ids. Source: own.
use Rattle.std.specs.{Prelude.{◌≡◌, ℕ, suc, ℤ, pos, Some}, BTreeMap.{BTreeMap, get}}
use Rattle.std.specs.declared.cmp.Ordering.{Ordering}
use Rattle.dap_diff.specs.declared.ids.Id.{Id}

-- The id has this number, counted from 1. `order` compares ids.
pub record IsNumberOf (order : Id → Id → Ordering) (ids : BTreeMap Id ℕ) (id : Id) (number : ℤ)
    : Type 0 where
  pub counted : ℕ
  pub has : get order ids id ≡ Some counted
  pub number_is : number ≡ pos (suc counted)
