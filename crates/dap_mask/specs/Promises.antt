-- The guarantees for a masked content.
use Rattle.std.specs.Prelude.{◌≡◌, ◌↔◌, ℕ, List}
use Rattle.dap_tree.specs.Doc.{Doc}
use Rattle.dap_mask.specs.{Ids.KeepsIds, Loose.IsReadBy, Mask.Mask}
use Rattle.dap_mask.specs.Masked.{IsMasked, AgreeBut, KeepsElsewhere, HasNoNewPath, masked}
use Rattle.dap_mask.specs.{Omissions.omitted, Redacted.{redacted, AgreeOutside}}
use Rattle.dap_mask.specs.Rules.{Rule}

-- The document e is d masked by the rules of a rules file.
pub record IsMaskedAs (rules : List Rule) (d e : Doc) : Type 0 where
  -- Only the places of the rules change. The value at each path is the value that the rules produce
  -- there, and the values at all other paths are unchanged. No path is new. An id of the profile is
  -- unchanged or is removed with a value that contains it.
  pub places : IsMasked rules d e
  pub elsewhere : KeepsElsewhere rules d e
  pub none_new : HasNoNewPath d e
  pub ids : KeepsIds d e
  -- No other document is d masked.
  pub one : (f : Doc) → IsMasked rules d f → f ≡ e
  -- Masking e again does not change it.
  pub again : masked rules e ≡ e
  -- Masking another content yields e if and only if the two agree except for the parts that the
  -- rules redact.
  pub equal : (other : Mask) (bytes : List ℕ) (f : Doc) → IsReadBy other bytes f
      → (e ≡ masked rules f)
      ↔ AgreeBut rules d f

-- The document e is d redacted by the rules of a rules file.
pub record IsRedactedAs (mask : Mask) (d e : Doc) : Type 0 where
  -- The masked document, and e is this one without the elements that the rules omit.
  pub between : Doc
  pub is_masked : IsMaskedAs mask.changes d between
  pub without : e ≡ omitted mask.omissions between
  -- Redacting e again does not change it.
  pub again : redacted mask e ≡ e
  -- Redacting another content yields e if and only if the two agree except for the parts that the
  -- rules redact and the elements that they omit.
  pub equal : (other : Mask) (bytes : List ℕ) (f : Doc) → IsReadBy other bytes f
      → (e ≡ redacted mask f)
      ↔ AgreeOutside mask d f

-- The document e is the redacted form of every document that the content represents, with the words
-- in the place of texts and the members that rules set.
abbrev pub IsContentMasked : Mask → List ℕ → Doc → Type 0
IsContentMasked mask bytes e = (d : Doc) → IsReadBy mask bytes d → IsRedactedAs mask d e
