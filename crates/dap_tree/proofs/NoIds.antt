-- No part of a tree without ids has an id.
use Rattle.std.proofs.Common.{◌≡◌, ℕ, ◌<◌, ◌++◌, ◌∷◌, ℤ, List, [], ap, append_assoc, drop, get_or}
use Rattle.std.proofs.Common.{length, refl, suc, sym, ◌∙◌}
use Rattle.std.proofs.Math.Seq.{drop-cons}
use Rattle.std.proofs.lemmas.List.{append_cancel_left}
use Rattle.dap_tree.specs.declared.sort.Sort.{Sort}
use Rattle.dap_tree.specs.declared.tree.Tree.{Tree}
use Rattle.dap_tree.specs.Ids.{Extends, ids, items_ids, members_ids}
use Rattle.dap_tree.specs.View.{items_view, members_view, view}
use Rattle.dap_tree.proofs.Views.{Entry}

abbrev Ids : Type 0
Ids = List (Sort × ℤ)

left_nil : (a b : Ids) → a ++ b ≡ [] → a ≡ []
left_nil [] b h = refl
left_nil (x ∷ a) b h = cc

right_nil : (a b : Ids) → a ++ b ≡ [] → b ≡ []
right_nil [] b h = h
right_nil (x ∷ a) b h = cc

-- if there are no ids in total, no ids remain to be found
none_left : (old found left all : Ids) → Extends old found → found ++ left ≡ old ++ all
    → all ≡ [] → left ≡ []
none_left old found left all more h none =
    right_nil more.0 left
    (append_cancel_left old (more.0 ++ left) all
    (sym (append_assoc old more.0 left) ∙ ap (λ is. is ++ left) (sym more.1) ∙ h) ∙ none)

pub item_without : (old found : Ids) (ts : List Tree) (i : ℕ) (t : Tree) → i < length ts
    → t ≡ get_or ts i t → Extends old found
    → found ++ items_ids (items_view (drop i ts)) ≡ old ++ items_ids (items_view ts)
    → items_ids (items_view ts) ≡ [] → ids (view t) ≡ []
item_without old found ts i t within is more h none =
    let parted : drop i ts ≡ t ∷ drop (suc i) ts =
    drop-cons ts i t within ∙ ap (λ u. u ∷ drop (suc i) ts) (sym is) in
    left_nil (ids (view t)) (items_ids (items_view (drop (suc i) ts)))
    (ap (λ us. items_ids (items_view us)) (sym parted)
    ∙ none_left old found (items_ids (items_view (drop i ts))) (items_ids (items_view ts)) more h
    none)

pub member_without : (old found : Ids) (ms left later : List Entry) (m : Entry)
    → left ≡ m ∷ later → Extends old found
    → found ++ members_ids (members_view left) ≡ old ++ members_ids (members_view ms)
    → members_ids (members_view ms) ≡ [] → ids (view m.1) ≡ []
member_without old found ms left later m parted more h none =
    left_nil (ids (view m.1)) (members_ids (members_view later))
    (ap (λ us. members_ids (members_view us)) (sym parted)
    ∙ none_left old found (members_ids (members_view left)) (members_ids (members_view ms)) more h
    none)
