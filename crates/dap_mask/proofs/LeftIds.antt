-- Rules that do not change ids.
use Rattle.std.proofs.Common.{◌≡◌, ◌⊎◌, inl, inr, ℕ, Bool, true, false, cond, not, ◌&&◌, List, []}
use Rattle.std.proofs.Common.{◌∷◌, Option, Some, None, option_map, refl, sym, ◌∙◌, ap, subst}
use Rattle.std.proofs.Common.{true≢false, zero, suc, ◌<◌, length, arith}
use Rattle.std.proofs.lemmas.Bool.{not-true}
use Rattle.dap_tree.specs.Doc.{Doc, get}
use Rattle.dap_tree.specs.Path.{Step, at}
use Rattle.dap_tree.proofs.Booleans.{and_left, and_right, and_both, or_left, or_right}
use Rattle.dap_message.specs.Places.{fits_place}
use Rattle.dap_profile.specs.ProfileRows.{ProfileRow}
use Rattle.dap_message.specs.Rows.{row_applies, is_text, is_of_kind, name_key, may_have_body}
use Rattle.dap_profile.specs.declared.profile.Kind.{Kind}
use Rattle.dap_mask.specs.Rules.{Rule, of_verb, takes_parts, has_name, has_head, rule_applies}
use Rattle.dap_mask.specs.RuleSteps.{has_names}
use Rattle.dap_mask.specs.Rules.{are_safe, applies_at, plain_place_of, is_for_names}
use Rattle.dap_mask.specs.Masked.{is_below, left_by, left, mask_by, masked, named_by}
use Rattle.dap_mask.specs.Ids.{meets, takes_id, leave_row, takes_id_of}
use Rattle.dap_mask.specs.Ids.{takes_profile_id, leave_ids, KeepsIds}
use Rattle.dap_message.specs.Marks.{top}
use Rattle.dap_profile.specs.Profile.{profile, wants_id}
use Rattle.std.specs.Prelude.{Contains}
use Rattle.std.specs.List.{slice_index_or, filter}
use Rattle.dap_mask.proofs.ByPath.{left_nothing, at-masked, none_from, head-mask_by}
use Rattle.dap_mask.proofs.ByPath.{first_safe, rest_safe}
use Rattle.dap_mask.proofs.Matches.{fits_same, head_of, kind_alike, name_alike}

-- if a rule and a row both apply to a document, they may apply to the same message
both_meet : (r : Rule) (k : Option Kind) (n : Option (List ℕ)) (d : Doc) → has_head r d ≡ true
    → row_applies k n d ≡ true → meets r k n ≡ true
both_meet r None n d h g = refl
both_meet r (Some k) None d h g =
    let kinds = kind_alike r.kind k d (and_left (is_of_kind r.kind d) (has_name r.kind r.name d) h)
    g in
    and_both _ _ kinds.0 (name_alike r.kind r.name None d (and_right (is_of_kind r.kind d)
    (has_name r.kind r.name d) h) refl)
both_meet r (Some k) (Some n) d h g =
    let kinds = kind_alike r.kind k d (and_left (is_of_kind r.kind d) (has_name r.kind r.name d) h)
    (and_left (is_of_kind k d) (is_text n (get (name_key k) d)) (and_left (is_of_kind k d
    && is_text n (get (name_key k) d)) (may_have_body k d) g)) in
    let row_name : has_name k (Some n) d ≡ true =
    and_right (is_of_kind k d) (is_text n (get (name_key k) d)) (and_left (is_of_kind k d
    && is_text n (get (name_key k) d)) (may_have_body k d) g) in
    and_both _ _ kinds.0 (name_alike r.kind r.name (Some n) d (and_right (is_of_kind r.kind d)
    (has_name r.kind r.name d) h) (subst (λ j. has_name j (Some n) d ≡ true) (sym kinds.1)
    row_name))

-- both documents have the kind and name of a rule, or none of them
abbrev ApplyAlike : Doc → Doc → Type 0
ApplyAlike e d = (r : Rule) → has_head r e ≡ has_head r d

-- a rule that does not take the id of a row keeps the id, or removes it with a value that contains
-- it, also with the names of another document that has the kinds and names of the same rules
one_left : (r : Rule) (row : ProfileRow) (e d : Doc) (p : List Step) (o : Option Doc)
    → ApplyAlike e d → takes_id r row ≡ false → wants_id row.want ≡ true
    → row_applies row.kind row.name d ≡ true → fits_place row.place p ≡ true
    → (left_by r e p o ≡ o) ⊎ (left_by r e p o ≡ None)
one_left r row e d p o alike free wants asked fits =
    go (applies_at r e p) (fits_place (plain_place_of r) p)
    (is_below (plain_place_of r) p && takes_parts r.verb)
    (λ s f. true≢false (sym (and_both _ _ wants (and_both _ _
    (fits_same (plain_place_of r) row.place p f fits)
    (both_meet r row.kind row.name d
    (sym (alike r) ∙ head_of r e (and_left (rule_applies r e) (has_names r.place (Some e) p) s))
    asked)))
    ∙ free)) refl refl
  where
    go : (a b c : Bool) → (applies_at r e p ≡ true → fits_place (plain_place_of r) p ≡ true → ⊥)
        → applies_at r e p ≡ a → fits_place (plain_place_of r) p ≡ b
        → (cond a (cond b (option_map (of_verb r.verb) o) (cond c None o)) o ≡ o)
        ⊎ (cond a (cond b (option_map (of_verb r.verb) o) (cond c None o)) o ≡ None)
    go false b c not_both s f = inl refl
    go true true c not_both s f = absurd (not_both s f)
    go true false true not_both s f = inr refl
    go true false false not_both s f = inl refl

leaves_row : (rules : List Rule) (e d : Doc) (p : List Step) (o : Option Doc) (row : ProfileRow)
    → ApplyAlike e d → leave_row rules row ≡ true → wants_id row.want ≡ true
    → row_applies row.kind row.name d ≡ true → fits_place row.place p ≡ true
    → (left rules e p o ≡ o) ⊎ (left rules e p o ≡ None)
leaves_row [] e d p o row alike h wants asked fits = inl refl
leaves_row (r ∷ rs) e d p o row alike h wants asked fits =
    elim (one_left r row e d p o alike (not-true (takes_id r row) (and_left (not (takes_id r row))
    (leave_row rs row) h)) wants asked fits) [
      | inl k ↦ (rw k (leaves_row rs e d p o row alike (and_right (not (takes_id r row))
          (leave_row rs row) h) wants asked fits))
      | inr k ↦ (inr (ap (left rs e p) k ∙ left_nothing rs e p))
    ]

-- ---- rules without the place of an id of the profile, for each row

takes_none_at : (r : Rule) (rows : List ProfileRow) (k : ℕ) (row : ProfileRow)
    → takes_id_of r rows ≡ false → k < length rows → takes_id r (slice_index_or rows k row) ≡ false
takes_none_at r [] k row h l = absurd (omega arith)
takes_none_at r (q ∷ rows) zero row h l = or_left (takes_id r q) (takes_id_of r rows) h
takes_none_at r (q ∷ rows) (suc k) row h l =
    takes_none_at r rows k row (or_right (takes_id r q) (takes_id_of r rows) h) (omega arith)

takes_none_of : (r : Rule) (row : ProfileRow) → takes_profile_id r ≡ false → Contains profile row
    → takes_id r row ≡ false
unfolding takes_profile_id
takes_none_of r row h (k, l, is) =
    subst (λ q. takes_id r q ≡ false) is (takes_none_at r profile k row h l)

leave_row_of : (rules : List Rule) (row : ProfileRow) → leave_ids rules ≡ true
    → Contains profile row → leave_row rules row ≡ true
leave_row_of [] row h among = refl
leave_row_of (r ∷ rs) row h among =
    and_both _ _
    (ap not (takes_none_of r row
    (not-true (takes_profile_id r) (and_left (not (takes_profile_id r)) (leave_ids rs) h)) among))
    (leave_row_of rs row (and_right (not (takes_profile_id r)) (leave_ids rs) h) among)

pub leaves_ids : (rules : List Rule) (d : Doc) (p : List Step) (o : Option Doc) (row : ProfileRow)
    → leave_ids rules ≡ true → Contains profile row → wants_id row.want ≡ true
    → row_applies row.kind row.name d ≡ true → fits_place row.place p ≡ true
    → (left rules d p o ≡ o) ⊎ (left rules d p o ≡ None)
leaves_ids rules d p o row h among wants asked fits =
    leaves_row rules d d p o row (λ r. refl) (leave_row_of rules row h among) wants asked fits

-- rules apply to a document before and after the rules for names
named_alike : (rules : List Rule) (d : Doc) → are_safe rules ≡ true
    → ApplyAlike (named_by rules d) d
named_alike [] d safe r = refl
named_alike (t ∷ ts) d safe r =
    go (λ e. named_alike ts e (rest_safe t ts safe) r) (is_for_names t.place)
  where
    others : List Rule
    others = filter (λ u. is_for_names u.place) ts

    go : ((e : Doc) → has_head r (named_by ts e) ≡ has_head r e) → (b : Bool)
        → has_head r (masked (cond b (t ∷ others) others) d) ≡ has_head r d
    go rest true = rest (mask_by t d) ∙ head-mask_by t r d (first_safe t ts safe)
    go rest false = rest d

pub keeps_ids : (rules : List Rule) (d : Doc) → are_safe rules ≡ true → leave_ids rules ≡ true
    → KeepsIds d (masked rules d)
unfolding KeepsIds
keeps_ids rules d safe h p row among wants asked fits =
    elim (leaves_row rules (named_by rules d) d p (at p d) row (named_alike rules d safe)
    (leave_row_of rules row h among) wants asked fits) [
      | inl e ↦ inl (at-masked rules d safe p ∙ ap (option_map top) e)
      | inr e ↦ inr (none_from (at p (masked rules d)) (at-masked rules d safe p
          ∙ ap (option_map top) e))
    ]
