-- A content in which each id keeps its own number is unchanged.
use Rattle.std.proofs.Common.{◌≡◌, [], refl, ap, ap₂, ◌∙◌, sym, List, ℕ}
use lib.Seq.{drop-nil}
use Rattle.dap_tree.specs.Doc.{Doc, null, boolean, whole, text, list, object, id, Items, no_items}
use Rattle.dap_tree.specs.Doc.{item, Members, no_members, member}
use Rattle.dap_tree.specs.Ids.{id_count, with_ids, items_with_ids, members_with_ids}
use Rattle.dap_tree.specs.Json.{text_of}
use Rattle.dap_flat.specs.declared.marks.Mark.{Mark}
use Rattle.dap_flat.specs.Marks.{IsMarkedText, spliced}

mutual
  pub own_ids : (d : Doc) → with_ids d [] ≡ d
  own_ids null = refl
  own_ids (boolean b) = refl
  own_ids (whole z) = refl
  own_ids (text s) = refl
  own_ids (list ds) = ap list (own_items ds)
  own_ids (object ms) = ap object (own_members ms)
  own_ids (id s z) = refl

  own_items : (ds : Items) → items_with_ids ds [] ≡ ds
  own_items no_items = refl
  own_items (item d ds) =
      ap₂ (λ e es. item e es) (own_ids d)
      (ap (items_with_ids ds) (drop-nil (id_count d)) ∙ own_items ds)

  own_members : (ms : Members) → members_with_ids ms [] ≡ ms
  own_members no_members = refl
  own_members (member k d ms) =
      ap₂ (λ e es. member k e es) (own_ids d)
      (ap (members_with_ids ms) (drop-nil (id_count d)) ∙ own_members ms)

pub own_numbers : (content : List ℕ) (marks : List Mark) (d : Doc)
    → IsMarkedText content marks d → spliced 0 content marks [] ≡ content
own_numbers content marks d m = m.splices [] ∙ ap text_of (own_ids d) ∙ sym m.text_is
