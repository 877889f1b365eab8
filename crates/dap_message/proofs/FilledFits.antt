-- Filling in capabilities violates no row.
use Rattle.dap_tree.specs.Doc.{Doc, null, boolean, whole, text, list, object, id, no_members, get}
use Rattle.dap_tree.specs.Doc.{change_child}
use Rattle.dap_tree.specs.declared.side.Side.{Side}
use Rattle.dap_tree.specs.declared.side.Side.TheVariants.{Client, Adapter}
use Rattle.dap_tree.proofs.Paths.{get-change}
use Rattle.std.proofs.Common.{◌≡◌, ℕ, Bool, true, false, cond, ◌||◌, List, Some, None}
use Rattle.std.proofs.Common.{option_map, codes, refl, sym, ◌∙◌, ap}
use Rattle.std.specs.Option.{option_or}
use Rattle.dap_profile.specs.Profile.{profile, first_rows, later_rows}
use Rattle.dap_profile.specs.ProfileRows.{ProfileRow}
use Rattle.dap_message.specs.Places.{is_object}
use Rattle.dap_message.specs.Rows.{first_fault, row_fault, is_text}
use Rattle.dap_message.specs.Faults.{broken_by_rows}
use Rattle.dap_message.specs.Faults.{fault, row_broken, has_kind, Fits, FitsRows}
use Rattle.dap_message.specs.declared.fault.MessageFault.TheVariants.{NotObject, UnknownType}
use Rattle.dap_message.specs.Capabilities.{filled, with_capabilities, default_to, false_at}
use Rattle.dap_message.specs.Capabilities.{false_members, capabilities, carries_capabilities}
use Rattle.dap_message.proofs.Edits.{by_bool}
use Rattle.dap_message.proofs.Envelopes.{get-filled, fault_free, fault_parts, rows_free}
use Rattle.dap_message.proofs.BodyRows.{AlikeOutside, Tells, calm_rows, both_free, first-append}
use Rattle.dap_message.proofs.BodyRows.{capability_rows, capabilities_free, body_free, body_was}
use Rattle.dap_message.proofs.BodyRows.{body_case, get-default, row_50, before_body, after_body}
use Rattle.dap_message.proofs.BodyRows.{body_rows, first_is, calm_before, calm_after, calm_later}

object-change : (k : List ℕ) (f : Doc → Doc) (d : Doc)
    → is_object (change_child k f d) ≡ is_object d
object-change k f null = refl
object-change k f (boolean b) = refl
object-change k f (whole z) = refl
object-change k f (text s) = refl
object-change k f (list ds) = refl
object-change k f (object ms) = refl
object-change k f (id s z) = refl

object-default : (k : List ℕ) (e d : Doc) → is_object (default_to k e d) ≡ is_object d
object-default k e null = refl
object-default k e (boolean b) = refl
object-default k e (whole z) = refl
object-default k e (text s) = refl
object-default k e (list ds) = refl
object-default k e (object ms) = refl
object-default k e (id s z) = refl

pub object-if : (b : Bool) (d : Doc) → is_object (cond b (with_capabilities d) d) ≡ is_object d
unfolding with_capabilities
object-if true d =
    object-change (codes "body") (false_at capabilities)
    (default_to (codes "body") (object no_members) d)
    ∙ object-default (codes "body") (object no_members) d
object-if false d = refl

pub body-filled : (d : Doc) → is_object d ≡ true
    → get (codes "body") (with_capabilities d)
    ≡ option_map (false_at capabilities)
    (get (codes "body") (default_to (codes "body") (object no_members) d))
unfolding with_capabilities
body-filled d ob =
    get-change (codes "body") (false_at capabilities)
    (default_to (codes "body") (object no_members) d)

split : (d : Doc) → first_fault first_rows d
    ≡ option_or (first_fault before_body d)
    (option_or (row_fault row_50 d)
    (option_or (first_fault after_body d) (first_fault (capability_rows 105 capabilities) d)))
split d =
    ap (λ rs. first_fault rs d) first_is
    ∙ first-append before_body body_rows d
    ∙ ap (λ o. option_or (first_fault before_body d) (option_or (row_fault row_50 d) o))
    (first-append after_body (capability_rows 105 capabilities) d)

-- filling in capabilities does not violate these rows
abbrev pub AreKept : List ProfileRow → Type 0
AreKept rows =
    (d e : Doc) → AlikeOutside d e → Tells d → is_object d ≡ true → is_object e ≡ true
    → get (codes "body") e
    ≡ option_map (false_at capabilities)
    (get (codes "body") (default_to (codes "body") (object no_members) d))
    → first_fault rows d ≡ None → first_fault rows e ≡ None

pub first_kept : AreKept first_rows
first_kept d e a t ob oe body h =
    let p = fault_free (first_fault before_body d)
    (option_or (row_fault row_50 d)
    (option_or (first_fault after_body d) (first_fault (capability_rows 105 capabilities) d)))
    (sym (split d) ∙ h) in
    let q = fault_free (row_fault row_50 d)
    (option_or (first_fault after_body d) (first_fault (capability_rows 105 capabilities) d))
    p.1 in
    let r = fault_free (first_fault after_body d) (first_fault (capability_rows 105 capabilities) d)
    q.1 in
    let b = body_case (get (codes "body") d) (body_was d t ob q.0) in
    let is : get (codes "body") e ≡ Some (object (false_members capabilities b.0)) =
    body ∙ ap (option_map (false_at capabilities))
    (get-default (codes "body") (object no_members) d ob ∙ b.1) in
    split e
    ∙ both_free (first_fault before_body e) _ (calm_rows before_body d e a t calm_before p.0)
    (both_free (row_fault row_50 e) _ (body_free d e (false_members capabilities b.0) oe is)
    (both_free (first_fault after_body e) (first_fault (capability_rows 105 capabilities) e)
    (calm_rows after_body d e a t calm_after r.0)
    (capabilities_free 105 capabilities d e b.0 t is b.2 r.1)))

profile_split : (d : Doc)
    → first_fault profile d ≡ option_or (first_fault first_rows d) (first_fault later_rows d)
unfolding profile
profile_split d = first-append first_rows later_rows d

pub rows_kept : AreKept profile
rows_kept d e a t ob oe body h =
    let p = fault_free (first_fault first_rows d) (first_fault later_rows d)
    (sym (profile_split d) ∙ h) in
    profile_split e
    ∙ both_free (first_fault first_rows e) (first_fault later_rows e)
    (first_kept d e a t ob oe body p.0) (calm_rows later_rows d e a t calm_later p.1)

pub rows_broken : (d : Doc) → first_fault profile d ≡ None → row_broken d ≡ None
unfolding broken_by_rows
rows_broken d h = h

-- a document that fits the profile fits its first rows
pub first_fits : (d : Doc) → Fits d → FitsRows first_rows d
unfolding broken_by_rows
first_fits d h =
    let p =
    fault_parts (is_object d) (has_kind d) (first_fault profile d) UnknownType NotObject h in
    let q = fault_free (first_fault first_rows d) (first_fault later_rows d)
    (sym (profile_split d) ∙ p.2) in
    rw (p.0, p.1) q.0

pub faultless : (d : Doc) → is_object d ≡ true → has_kind d ≡ true → row_broken d ≡ None
    → fault d ≡ None
faultless d a b c = rw (a, b) c

kind-filled : (side : Side) (d : Doc) → has_kind (filled side d) ≡ has_kind d
kind-filled side d =
    ap (λ o. is_text (codes "request") o || is_text (codes "response") o
    || is_text (codes "event") o) (get-filled (codes "type") side d refl)

-- filling in capabilities violates no row
pub fault-filled : (side : Side) (d : Doc) → fault d ≡ None → fault (filled side d) ≡ None
fault-filled Client d h = h
fault-filled Adapter d h =
    let p = fault_parts (is_object d) (has_kind d) (row_broken d) UnknownType NotObject h in
    let e = filled Adapter d in
    let alike : AlikeOutside d e =
    (object-if (carries_capabilities Adapter d) d, λ k n. get-filled k Adapter d n) in
    by_bool (carries_capabilities Adapter d)
    (λ t. faultless e (alike.0 ∙ p.0) (kind-filled Adapter d ∙ p.1)
    (rows_broken e
    (rows_kept d e alike t p.0 (alike.0 ∙ p.0)
    (ap (λ b. get (codes "body") (cond b (with_capabilities d) d)) t ∙ body-filled d p.0)
    (rows_free d p.2))))
    (λ t. ap (λ b. fault (cond b (with_capabilities d) d)) t ∙ h)
