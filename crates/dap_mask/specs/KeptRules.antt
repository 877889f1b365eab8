-- The mask that a `MaskRules` represents.
use Rattle.std.specs.Prelude.{Bool, List, ℕ, Option}
use Rattle.dap_mask.specs.Categories.{CategoryRule}
use Rattle.dap_mask.specs.ListedRules.{listed_changes, listed_dropped, listed_swaps, listed_mask}
use Rattle.dap_mask.specs.ListedRules.{listed_categories, listed_per_stop, listed_joining}
use Rattle.dap_mask.specs.Declarations.{Declaration}
use Rattle.dap_mask.specs.{Fills.Fill, ListedRules.{listed_words, listed_fills, listed_declared}}
use Rattle.dap_mask.specs.{ListedRules.listed_omissions, Omissions.Omission}
use Rattle.dap_mask.specs.{Mask.Mask, Rules.Rule, declared.mask_rules.MaskRules.MaskRules}
use Rattle.dap_mask.specs.declared.joining.Joining.{Joining}
use Rattle.dap_message.specs.SwapRules.{SwapRule}
use Rattle.dap_words.specs.Words.{Pair}

abbrev pub changes_of : MaskRules → List Rule
changes_of r = listed_changes r.list

abbrev pub dropped_of : MaskRules → List (Option (List ℕ))
dropped_of r = listed_dropped r.list

abbrev pub categories_of_mask : MaskRules → List CategoryRule
categories_of_mask r = listed_categories r.list

abbrev pub swaps_of_mask : MaskRules → List SwapRule
swaps_of_mask r = listed_swaps r.list

-- The file has the line `per-stop`.
abbrev pub per_stop_of : MaskRules → Bool
per_stop_of r = listed_per_stop r.list

-- How the line `join event output` of the file joins output, if the file has this line.
abbrev pub joining_of : MaskRules → Option Joining
joining_of r = listed_joining r.list

-- The words that are put in the place of texts before the rules apply.
abbrev pub words_of_mask : MaskRules → List Pair
words_of_mask r = listed_words r.list

-- The rules that set members before the other rules apply.
abbrev pub fills_of_mask : MaskRules → List Fill
fills_of_mask r = listed_fills r.list

-- The rules that omit elements after the changes.
abbrev pub omissions_of_mask : MaskRules → List Omission
omissions_of_mask r = listed_omissions r.list

-- The rules that declare ids.
abbrev pub declared_of_mask : MaskRules → List Declaration
declared_of_mask r = listed_declared r.list

abbrev pub mask_of : MaskRules → Mask
mask_of r = listed_mask r.list
