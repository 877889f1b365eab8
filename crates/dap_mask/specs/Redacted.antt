-- The effect of the rules of a mask on a document.
use Rattle.std.specs.Prelude.{◌≡◌}
use Rattle.dap_tree.specs.Doc.{Doc}
use Rattle.dap_mask.specs.{Mask.Mask, Masked.{IsMasked, masked}, Omissions.omitted}

-- The document after the rules of a mask (own): masked by the changes, and then without the
-- elements that the other rules omit. So elements are selected by the names that they have at the
-- end.
abbrev pub redacted : Mask → Doc → Doc
redacted mask d = omitted mask.omissions (masked mask.changes d)

-- Two documents agree except for the parts that the mask redacts and the elements that it omits
-- (own): their masked forms without these elements are equal.
unfoldable pub AgreeOutside : Mask → Doc → Doc → Type 0
AgreeOutside mask d e = (m n : Doc) → IsMasked mask.changes d m → IsMasked mask.changes e n
    → omitted mask.omissions m ≡ omitted mask.omissions n
