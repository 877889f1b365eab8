-- The traversal that counts levels down tests the depth and the ranges. A document has the same
-- depth as its JSON value.
use Rattle.std.proofs.Common.{◌≡◌, ℕ, suc, max, ◌-◌, Bool, true, false, not, ◌&&◌, ◌||◌, refl, sym}
use Rattle.std.proofs.Common.{ap, ap₂, ◌∙◌, arith, ltb, leb, le-leb}
use Rattle.std.proofs.lemmas.Bool.Decides.{nat_tests}
use Rattle.serde_json.specs.Data as json
use Rattle.dap_tree.specs.Doc.{Doc, null, boolean, whole, text, list, object, id, Items, no_items}
use Rattle.dap_tree.specs.Doc.{item, Members, no_members, member, depth, items_depth, members_depth}
use Rattle.dap_tree.specs.Doc.{in_range, all_in_range, items_in_range, members_in_range, has_id}
use Rattle.dap_tree.specs.Doc.{items_have_id, members_have_id, all_plain, items_plain}
use Rattle.dap_tree.specs.Doc.{members_plain, fits, items_fit, members_fit}
use Rattle.dap_tree.specs.Json.{data_of, items_data, members_data}

both : (a b n : ℕ) (p q : Bool) → ((leb a n && p) && (leb b n && q)) ≡ (leb (max a b) n && (p && q))
both a b n p q = grind (arith, nat_tests)

under : (n a : ℕ) (p : Bool) → (ltb 0 n && (leb a (n - 1) && p)) ≡ (leb (suc a) n && p)
under n a p = grind (arith, nat_tests)

at_zero : (n : ℕ) → leb 0 n ≡ true
at_zero n = le-leb 0 n (omega arith)

mutual
  pub fits_is : (n : ℕ) (d : Doc) → fits n d ≡ (leb (depth d) n && all_in_range d)
  fits_is n null = sym (ap (λ b. b && true) (at_zero n))
  fits_is n (boolean b) = sym (ap (λ b. b && true) (at_zero n))
  fits_is n (whole z) = sym (ap (λ b. b && in_range z) (at_zero n))
  fits_is n (text s) = sym (ap (λ b. b && true) (at_zero n))
  fits_is n (list ds) =
      ap (λ b. ltb 0 n && b) (items_fit_is (n - 1) ds)
      ∙ under n (items_depth ds) (items_in_range ds)
  fits_is n (object ms) =
      ap (λ b. ltb 0 n && b) (members_fit_is (n - 1) ms)
      ∙ under n (members_depth ms) (members_in_range ms)
  fits_is n (id s z) = sym (ap (λ b. b && true) (at_zero n))

  pub items_fit_is : (n : ℕ) (ds : Items)
      → items_fit n ds ≡ (leb (items_depth ds) n && items_in_range ds)
  items_fit_is n no_items = sym (ap (λ b. b && true) (at_zero n))
  items_fit_is n (item d ds) =
      ap₂ (λ a b. a && b) (fits_is n d) (items_fit_is n ds)
      ∙ both (depth d) (items_depth ds) n (all_in_range d) (items_in_range ds)

  pub members_fit_is : (n : ℕ) (ms : Members)
      → members_fit n ms ≡ (leb (members_depth ms) n && members_in_range ms)
  members_fit_is n no_members = sym (ap (λ b. b && true) (at_zero n))
  members_fit_is n (member k d ms) =
      ap₂ (λ a b. a && b) (fits_is n d) (members_fit_is n ms)
      ∙ both (depth d) (members_depth ms) n (all_in_range d) (members_in_range ms)

mutual
  pub depth_data : (d : Doc) → json.depth (data_of d) ≡ depth d
  depth_data null = refl
  depth_data (boolean b) = refl
  depth_data (whole z) = refl
  depth_data (text s) = refl
  depth_data (list ds) = ap suc (items_depth_data ds)
  depth_data (object ms) = ap suc (members_depth_data ms)
  depth_data (id s z) = refl

  items_depth_data : (ds : Items) → json.items_depth (items_data ds) ≡ items_depth ds
  items_depth_data no_items = refl
  items_depth_data (item d ds) = ap₂ max (depth_data d) (items_depth_data ds)

  members_depth_data : (ms : Members) → json.members_depth (members_data ms) ≡ members_depth ms
  members_depth_data no_members = refl
  members_depth_data (member k d ms) = ap₂ max (depth_data d) (members_depth_data ms)

-- ---- plain documents

cross : (a b p q : Bool) → ((a && not p) && (b && not q)) ≡ ((a && b) && not (p || q))
cross true true true q = refl
cross true true false q = refl
cross true false true q = refl
cross true false false q = refl
cross false b p q = refl

alone : (b : Bool) → b ≡ (b && true)
alone true = refl
alone false = refl

mutual
  pub plain_is : (d : Doc) → all_plain d ≡ (all_in_range d && not (has_id d))
  plain_is null = refl
  plain_is (boolean b) = refl
  plain_is (whole z) = alone (in_range z)
  plain_is (text s) = refl
  plain_is (list ds) = items_plain_is ds
  plain_is (object ms) = members_plain_is ms
  plain_is (id s z) = refl

  items_plain_is : (ds : Items) → items_plain ds ≡ (items_in_range ds && not (items_have_id ds))
  items_plain_is no_items = refl
  items_plain_is (item d ds) =
      ap₂ (λ a b. a && b) (plain_is d) (items_plain_is ds)
      ∙ cross (all_in_range d) (items_in_range ds) (has_id d) (items_have_id ds)

  members_plain_is : (ms : Members)
      → members_plain ms ≡ (members_in_range ms && not (members_have_id ms))
  members_plain_is no_members = refl
  members_plain_is (member k d ms) =
      ap₂ (λ a b. a && b) (plain_is d) (members_plain_is ms)
      ∙ cross (all_in_range d) (members_in_range ms) (has_id d) (members_have_id ms)
