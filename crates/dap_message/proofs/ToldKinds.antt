-- Typing and renumbering do not change the kind of a document.
use Rattle.std.proofs.Common.{◌≡◌, ◌∙◌, ℤ, true, false, List, Some, ap, refl, sym}
use Rattle.std.specs.Option.{option_map_or}
use Rattle.dap_tree.specs.Doc.{Doc}
use Rattle.dap_tree.specs.Ids.{with_ids}
use Rattle.dap_tree.proofs.IdNumbers.{skeleton-with}
use Rattle.dap_tree.specs.declared.side.Side.{Side}
use Rattle.dap_profile.specs.RowRanges.{same_kind as equals}
use Rattle.dap_profile.specs.declared.profile.Kind.{Kind}
use Rattle.dap_profile.specs.declared.profile.Kind.TheVariants.{Request, Response, Event}
use Rattle.dap_message.specs.AskedRows.{kind_of_tree}
use Rattle.dap_message.specs.Capabilities.{filled}
use Rattle.dap_message.specs.Marks.{mark, mark_by_rows}
use Rattle.dap_message.specs.Rows.{is_of_kind}
use Rattle.dap_message.proofs.AskedRows.{kind-reported}
use Rattle.dap_message.proofs.Contents.{of_kind-skeleton}
use Rattle.dap_message.proofs.Envelopes.{kind_there}

itself : (k : Kind) → equals k k ≡ true
itself Request = refl
itself Response = refl
itself Event = refl

pub kind-message : (side : Side) (d : Doc) (k : Kind) → kind_of_tree d ≡ Some k
    → is_of_kind k (mark side (filled side d)) ≡ true
unfolding mark_by_rows
kind-message side d k reported =
    kind_there side d k
    (kind-reported k d ∙ ap (λ o. option_map_or (equals k) o false) reported ∙ itself k)

pub kind-with : (k : Kind) (d : Doc) (ns : List ℤ) → is_of_kind k (with_ids d ns) ≡ is_of_kind k d
kind-with k d ns =
    sym (of_kind-skeleton k (with_ids d ns)) ∙ ap (is_of_kind k) (skeleton-with d ns)
    ∙ of_kind-skeleton k d
