-- The mask that a `RuleList` represents.
use Rattle.std.specs.Prelude.{Bool, List, map, ℕ, Option, option_map, string_bytes}
use Rattle.dap_mask.specs.{Categories.{CategoryRule, categories_of}, Fills.{Fill, fills_of}}
use Rattle.dap_mask.specs.Declarations.{Declaration, declarations_of}
use Rattle.dap_mask.specs.{Mask.Mask, Omissions.{Omission, omissions_of}, Rules.{Rule, rules_of}}
use Rattle.dap_mask.specs.declared.rule_list.RuleList.{RuleList}
use Rattle.dap_mask.specs.declared.joining.Joining.{Joining}
use Rattle.dap_message.specs.SwapRules.{SwapRule, swaps_of}
use Rattle.dap_words.specs.{Words.Pair, Kept.pairs_in}

abbrev pub listed_changes : RuleList → List Rule
listed_changes r = rules_of r.changes.items

abbrev pub listed_dropped : RuleList → List (Option (List ℕ))
listed_dropped r = map (option_map string_bytes) r.dropped.items

abbrev pub listed_categories : RuleList → List CategoryRule
listed_categories r = categories_of r.categories.items

abbrev pub listed_swaps : RuleList → List SwapRule
listed_swaps r = swaps_of r.swaps.items

abbrev pub listed_per_stop : RuleList → Bool
listed_per_stop r = r.per_stop

abbrev pub listed_joining : RuleList → Option Joining
listed_joining r = r.joining

abbrev pub listed_words : RuleList → List Pair
listed_words r = pairs_in r.words

abbrev pub listed_fills : RuleList → List Fill
listed_fills r = fills_of r.fills.items

abbrev pub listed_omissions : RuleList → List Omission
listed_omissions r = omissions_of r.omissions.items

abbrev pub listed_declared : RuleList → List Declaration
listed_declared r = declarations_of r.declared.items

abbrev pub listed_mask : RuleList → Mask
listed_mask r = record {
  changes = listed_changes r;
  dropped = listed_dropped r;
  categories = listed_categories r;
  swaps = listed_swaps r;
  per_stop = listed_per_stop r;
  joining = listed_joining r;
  words = listed_words r;
  fills = listed_fills r;
  omissions = listed_omissions r;
  declared = listed_declared r;
}
