-- Naming and typing commute: a named document is typed as the named message.
use Rattle.std.proofs.Common.{◌≡◌, true, List, [], ◌∷◌, map, refl, ap, sym, ◌∙◌}
use Rattle.dap_tree.specs.{Doc.{Doc}, declared.side.Side.{Side}}
use Rattle.dap_profile.specs.Profile.{profile}
use Rattle.dap_message.specs.Capabilities.{filled}
use Rattle.dap_message.specs.Marks.{mark_rows, mark_by_rows}
use Rattle.dap_message.specs.Message.{Sent}
use Rattle.dap_tokens.specs.Naming.{Numbering}
use Rattle.dap_mask.specs.Declarations.{Declaration, are_declared}
use Rattle.dap_mask.specs.Ids.{takes_profile_id}
use Rattle.dap_naming.specs.Numbers.{number}
use Rattle.dap_naming.specs.Documents.{ids_of, named_doc}
use Rattle.dap_naming.specs.Sessions.{rules_for, declared_ids, name_sent}
use Rattle.dap_naming.specs.SessionLaws.{TypedNamesCommute, TypedIdsStay, typed_sent}
use Rattle.dap_naming.specs.SessionLaws.{TypedSessionsCommute, NamesKeepTypes, TypesKeepRules}
use Rattle.dap_naming.proofs.Lists.{same_append, same_cons}
use Rattle.dap_naming.proofs.SessionsPlaces.{rules_alike}
use Rattle.dap_naming.proofs.TypedFaults.{names_keep_faults}
use Rattle.dap_naming.proofs.TypedFills.{filled_named, filled_reads, ids-filled}
use Rattle.dap_naming.proofs.TypedMarks.{marks_named, marks_rules, marks_ids}

full_rules : (xs : List Declaration) (side : Side) (d : Doc)
    → rules_for xs (filled side d) ≡ rules_for xs d
full_rules xs side d = rules_alike (filled side d) d (filled_reads side d) xs

pub types_keep_rules : TypesKeepRules
unfolding mark_by_rows
types_keep_rules xs side d = marks_rules xs side profile (filled side d) ∙ full_rules xs side d

pub typed_names_commute : TypedNamesCommute
unfolding mark_by_rows takes_profile_id
typed_names_commute xs number side d h =
    let e = filled side d in
    let same = full_rules xs side d in
    ap (mark_rows profile side) (sym (filled_named xs number side d h))
    ∙ (ap (λ rs. mark_rows profile side (named_doc rs number e)) (sym same)
    ∙ (sym (marks_named xs h side number profile (λ r p. p.3) e)
    ∙ ap (λ rs. named_doc rs number (mark_rows profile side e))
    (sym (marks_rules xs side profile e))))

pub typed_ids_stay : TypedIdsStay
unfolding mark_by_rows takes_profile_id
typed_ids_stay xs side d h =
    let e = filled side d in
    ap (λ rs. ids_of rs (mark_rows profile side e)) (marks_rules xs side profile e)
    ∙ (marks_ids xs h side profile (λ r p. p.3) e
    ∙ (ap (λ rs. ids_of rs e) (full_rules xs side d) ∙ ids-filled (rules_for xs d) side d))

pub names_keep_types : NamesKeepTypes
names_keep_types xs number side d m h t = (
  names_keep_faults xs number d h ∙ t.0,
  ap (λ e. named_doc (rules_for xs e) number e) t.1 ∙ sym (typed_names_commute xs number side d h),
)

-- ---- lists

typed_declared : (xs : List Declaration) (ms : List Sent) → are_declared xs ≡ true
    → declared_ids xs (map typed_sent ms) ≡ declared_ids xs ms
typed_declared xs [] h = refl
typed_declared xs (m ∷ ms) h =
    same_append _ _ _ _ (typed_ids_stay xs m.side m.doc h) (typed_declared xs ms h)

same_sent : (side : Side) (d e : Doc) → d ≡ e
    → ◌≡◌ {A = Sent} (record { side = side; doc = d }) (record { side = side; doc = e })
same_sent side d e h = rw h refl

typed_each : (xs : List Declaration) (number : Numbering) (ms : List Sent) → are_declared xs ≡ true
    → map typed_sent (map (name_sent xs number) ms) ≡ map (name_sent xs number) (map typed_sent ms)
typed_each xs number [] h = refl
typed_each xs number (m ∷ ms) h =
    same_cons _ _ _ _ (same_sent m.side _ _ (typed_names_commute xs number m.side m.doc h))
    (typed_each xs number ms h)

pub typed_sessions_commute : TypedSessionsCommute
typed_sessions_commute xs ms h =
    typed_each xs (number (declared_ids xs ms)) ms h
    ∙ ap (λ is. map (name_sent xs (number is)) (map typed_sent ms)) (sym (typed_declared xs ms h))
