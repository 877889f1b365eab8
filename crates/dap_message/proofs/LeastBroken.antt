-- The error of a message names the violated row with the lowest number.
use Rattle.dap_tree.specs.Doc.{Doc}
use Rattle.std.proofs.Common.{◌≡◌, ◌⊎◌, ⊎_elim, ℕ, zero, suc, ◌+◌, ◌<◌, ◌↔◌, Bool, true, false}
use Rattle.std.proofs.Common.{cond, List, [], ◌∷◌, length, map, get_or, Contains, Option, Some}
use Rattle.std.proofs.Common.{None, option_map, refl, sym, ◌∙◌, ap, subst, arith}
use Rattle.std.specs.Option.{option_or}
use Rattle.dap_profile.specs.Profile.{profile, first_rows, later_rows}
use Rattle.dap_profile.specs.ProfileRows.{ProfileRow}
use Rattle.dap_message.specs.Faults.{broken_by_rows}
use Rattle.dap_message.specs.Faults.{fault, Fits, has_kind, row_broken}
use Rattle.dap_message.specs.FaultsByPath.{IsKept, BreaksFirst, IsLeastBroken, IsJudged}
use Rattle.dap_message.specs.FaultsByPath.{AreNumbered}
use Rattle.dap_message.specs.Places.{is_object}
use Rattle.dap_message.specs.Rows.{row_applies, broken_at, of_row, row_fault, first_fault}
use Rattle.dap_message.specs.declared.broken_rows.Cause.{Cause}
use Rattle.dap_message.specs.declared.broken_rows.Cause.TheVariants.{Missing, WrongType}
use Rattle.dap_message.specs.declared.fault.MessageFault.{MessageFault}
use Rattle.dap_message.specs.declared.fault.MessageFault.TheVariants.{NotObject, UnknownType}
use Rattle.dap_message.specs.declared.fault.MessageFault.TheVariants.{Memory}
use Rattle.dap_message.proofs.BreakingPaths.{FirstAt, no_cause, none_at, first_at, one_cause_first}
use Rattle.dap_message.proofs.BreakingPaths.{three}
use Rattle.dap_message.proofs.Edits.{by_bool}
use Rattle.dap_message.proofs.Envelopes.{fault_free, fault_parts, free_cause, rows_free, some_is}
use Rattle.dap_message.proofs.FilledFits.{faultless, rows_broken}

-- ---- one row

abbrev broken : ProfileRow → Doc → Option Cause
broken r d = broken_at r.place r.want r.needed d

asked_fault : (r : ProfileRow) (d : Doc) → row_applies r.kind r.name d ≡ true
    → row_fault r d ≡ option_map (of_row r.number) (broken r d)
asked_fault r d asked =
    ap (λ b. cond b (option_map (of_row r.number) (broken r d)) None) asked

row_kept : (r : ProfileRow) (d : Doc) → row_fault r d ≡ None → IsKept r d
row_kept r d h p c at =
    none_at r.want r.needed r.place d
    (free_cause r.number (broken r d) (sym (asked_fault r d at.asked) ∙ h)) p at.found c at.place
    at.shows at.cause

first_of_row : (r : ProfileRow) (d : Doc) (c : Cause) → row_applies r.kind r.name d ≡ true
    → FirstAt r.want r.needed r.place d c → BreaksFirst r d c
first_of_row r d c asked at = record {
  path = at.path;
  breaks = record {
    asked = asked;
    place = at.fits;
    found = at.found;
    shows = at.shows;
    cause = at.cause;
  };
  first = λ q e before other. at.first q other.found e before other.place other.shows other.cause;
}

row_of_first : (r : ProfileRow) (d : Doc) (c : Cause) → BreaksFirst r d c
    → FirstAt r.want r.needed r.place d c
row_of_first r d c at = record {
  path = at.path;
  fits = at.breaks.place;
  found = at.breaks.found;
  shows = at.breaks.shows;
  cause = at.breaks.cause;
  first = λ q o e before f s j. at.first q e before (record {
    asked = at.breaks.asked;
    place = f;
    found = o;
    shows = s;
    cause = j;
  });
}

cause_told : (r : ProfileRow) (d : Doc) (f : MessageFault) (o : Option Cause) → broken r d ≡ o
    → row_applies r.kind r.name d ≡ true → option_map (of_row r.number) o ≡ Some f
    → (c : Cause) × BreaksFirst r d c × (of_row r.number c ≡ f)
cause_told r d f None is asked h = cc
cause_told r d f (Some c) is asked h = (
  c,
  first_of_row r d c asked (first_at r.want r.needed r.place d c is),
  some_is (of_row r.number c) f h,
)

row_broken_first : (r : ProfileRow) (d : Doc) (f : MessageFault) → row_fault r d ≡ Some f
    → (c : Cause) × BreaksFirst r d c × (of_row r.number c ≡ f)
row_broken_first r d f h =
    by_bool (row_applies r.kind r.name d)
    (λ asked. cause_told r d f (broken r d) refl asked (sym (asked_fault r d asked) ∙ h))
    (λ other. absurd (no_cause (row_fault r d) f
    (ap (λ b. cond b (option_map (of_row r.number) (broken r d)) None) other) h))

first_told : (r : ProfileRow) (d : Doc) (c : Cause) (o : Option Cause) → BreaksFirst r d c
    → broken r d ≡ o → o ≡ Some c
first_told r d c None at is =
    absurd (none_at r.want r.needed r.place d is at.path at.breaks.found c at.breaks.place
    at.breaks.shows at.breaks.cause)
first_told r d c (Some e) at is =
    ap Some (one_cause_first r.want r.needed r.place d e c
    (first_at r.want r.needed r.place d e is) (row_of_first r d c at))

row_told : (r : ProfileRow) (d : Doc) (c : Cause) → BreaksFirst r d c
    → row_fault r d ≡ Some (of_row r.number c)
row_told r d c at =
    asked_fault r d at.breaks.asked
    ∙ ap (option_map (of_row r.number)) (first_told r d c (broken r d) at refl)

-- ---- the rows and their numbers

abbrev numbers_from : ℕ → List ProfileRow → List ℕ
numbers_from n [] = []
numbers_from n (r ∷ rs) = n ∷ numbers_from (n + 1) rs

number_at : (rs : List ProfileRow) (n i : ℕ) (r : ProfileRow)
    → map (λ s. s.number) rs ≡ numbers_from n rs → i < length rs → get_or rs i r ≡ r
    → r.number ≡ i + n
number_at [] n i r h lt is = absurd (omega arith)
number_at (q ∷ rs) n zero r h lt is =
    let here : q.number ≡ n = cc in
    let same : q.number ≡ r.number = ap (λ s. s.number) is in
    omega arith
number_at (q ∷ rs) n (suc i) r h lt is =
    let later : map (λ s. s.number) rs ≡ numbers_from (n + 1) rs = cc in
    let reported : r.number ≡ i + (n + 1) = number_at rs (n + 1) i r later (omega arith) is in
    omega arith

profile_numbers : map (λ s. s.number) profile ≡ numbers_from 1 profile
unfolding profile first_rows later_rows
profile_numbers = refl

pub are_numbered : AreNumbered profile
are_numbered i r lt is = number_at profile 1 i r profile_numbers lt is

same_row : (rs : List ProfileRow) (i : ℕ) (r s : ProfileRow) → i < length rs → get_or rs i r ≡ r
    → get_or rs i s ≡ s → r ≡ s
same_row [] i r s lt f g = absurd (omega arith)
same_row (q ∷ rs) zero r s lt f g = sym f ∙ g
same_row (q ∷ rs) (suc i) r s lt f g = same_row rs i r s (omega arith) f g

-- ---- the first row of a list that is violated

all_kept : (rs : List ProfileRow) (d : Doc) → first_fault rs d ≡ None → (i : ℕ) (r : ProfileRow)
    → i < length rs → get_or rs i r ≡ r → row_fault r d ≡ None
all_kept [] d h i r lt is = absurd (omega arith)
all_kept (q ∷ rs) d h zero r lt is =
    ap (λ s. row_fault s d) (sym is) ∙ (fault_free (row_fault q d) (first_fault rs d) h).0
all_kept (q ∷ rs) d h (suc i) r lt is =
    all_kept rs d (fault_free (row_fault q d) (first_fault rs d) h).1 i r (omega arith) is

record FirstRow (rs : List ProfileRow) (d : Doc) (f : MessageFault) : Type 0 where
  index : ℕ
  row : ProfileRow
  inside : index < length rs
  is : get_or rs index row ≡ row
  reported : row_fault row d ≡ Some f
  before : (i : ℕ) (r : ProfileRow) → i < index → get_or rs i r ≡ r → row_fault r d ≡ None

before_more : (q : ProfileRow) (rs : List ProfileRow) (d : Doc) (n : ℕ) → row_fault q d ≡ None
    → ((i : ℕ) (r : ProfileRow) → i < n → get_or rs i r ≡ r → row_fault r d ≡ None)
    → (i : ℕ) (r : ProfileRow) → i < suc n → get_or (q ∷ rs) i r ≡ r → row_fault r d ≡ None
before_more q rs d n h later zero r lt is = ap (λ s. row_fault s d) (sym is) ∙ h
before_more q rs d n h later (suc i) r lt is = later i r (omega arith) is

more_rows : (q : ProfileRow) (rs : List ProfileRow) (d : Doc) (f : MessageFault)
    (o r : Option MessageFault) → row_fault q d ≡ o → option_or o r ≡ Some f
    → (r ≡ Some f → FirstRow rs d f) → FirstRow (q ∷ rs) d f
more_rows q rs d f None r is h below =
    let there = below h in
    record {
      index = suc there.index;
      row = there.row;
      inside = omega (arith, there.inside);
      is = there.is;
      reported = there.reported;
      before = before_more q rs d there.index is there.before;
    }
more_rows q rs d f (Some x) r is h below = record {
  index = 0;
  row = q;
  inside = omega arith;
  is = refl;
  reported = is ∙ h;
  before = λ i s lt g. absurd (omega arith);
}

first_row : (rs : List ProfileRow) (d : Doc) (f : MessageFault) → first_fault rs d ≡ Some f
    → FirstRow rs d f
first_row [] d f h = cc
first_row (q ∷ rs) d f h =
    more_rows q rs d f (row_fault q d) (first_fault rs d) refl h (λ g. first_row rs d f g)

-- ---- the row with the lowest number

same_number : (m n : ℕ) (c e : Cause) → of_row m c ≡ of_row n e → m ≡ n
same_number m n Missing Missing h = cc
same_number m n WrongType WrongType h = cc
same_number m n Missing WrongType h = cc
same_number m n WrongType Missing h = cc

same_cause : (m n : ℕ) (c e : Cause) → of_row m c ≡ of_row n e → c ≡ e
same_cause m n Missing Missing h = refl
same_cause m n WrongType WrongType h = refl
same_cause m n Missing WrongType h = cc
same_cause m n WrongType Missing h = cc

least_told : (d : Doc) (n : ℕ) (c : Cause) → first_fault profile d ≡ Some (of_row n c)
    → IsLeastBroken d n c
least_told d n c h =
    let x = first_row profile d (of_row n c) h in
    let y = row_broken_first x.row d (of_row n c) x.reported in
    let number : x.row.number ≡ n = same_number x.row.number n y.0 c y.2 in
    let cause : y.0 ≡ c = same_cause x.row.number n y.0 c y.2 in
    let place : x.row.number ≡ x.index + 1 = are_numbered x.index x.row x.inside x.is in
    record {
      row = x.row;
      listed = (x.index, x.inside, x.is);
      number = number;
      broken = subst (BreaksFirst x.row d) cause y.1;
      least = λ r listed lt.
          let other : r.number ≡ listed.0 + 1 = are_numbered listed.0 r listed.1 listed.2 in
          row_kept r d (x.before listed.0 r (omega arith) listed.2);
    }

told_among : (d : Doc) (n : ℕ) (c : Cause) → IsLeastBroken d n c → (f : MessageFault)
    → first_fault profile d ≡ Some f → f ≡ of_row n c
told_among d n c l f h =
    let x = first_row profile d f h in
    let i : ℕ = l.listed.0 in
    let here : l.row.number ≡ i + 1 = are_numbered i l.row l.listed.1 l.listed.2 in
    let there : x.row.number ≡ x.index + 1 = are_numbered x.index x.row x.inside x.is in
    let number : l.row.number ≡ n = l.number in
    let reported : row_fault l.row d ≡ Some (of_row l.row.number c) = row_told l.row d c l.broken in
    ⊎_elim
    (λ (apart : x.index < i ⊎ i < x.index). ⊎_elim
    (λ (lt : x.index < i).
    let y = row_broken_first x.row d f x.reported in
    let below : x.row.number < n = omega arith in
    absurd (l.least x.row (x.index, x.inside, x.is) below y.1.path y.0 y.1.breaks))
    (λ (lt : i < x.index).
    absurd (no_cause (row_fault l.row d) (of_row l.row.number c)
    (x.before i l.row lt l.listed.2) reported)) apart)
    (λ (same : x.index ≡ i).
    let row : x.row ≡ l.row =
    same_row profile i x.row l.row l.listed.1 (ap (λ k. get_or profile k x.row) (sym same) ∙ x.is)
    l.listed.2 in
    some_is f (of_row n c)
    (sym x.reported ∙ ap (λ r. row_fault r d) row ∙ reported ∙ ap (λ m. Some (of_row m c)) number))
    (three x.index i)

told_least_by : (d : Doc) (n : ℕ) (c : Cause) → IsLeastBroken d n c → (o : Option MessageFault)
    → first_fault profile d ≡ o → first_fault profile d ≡ Some (of_row n c)
told_least_by d n c l None is =
    absurd (no_cause (row_fault l.row d) (of_row l.row.number c)
    (all_kept profile d is l.listed.0 l.row l.listed.1 l.listed.2) (row_told l.row d c l.broken))
told_least_by d n c l (Some f) is = is ∙ ap Some (told_among d n c l f is)

-- ---- the error

judged_by : (a b : Bool) (o : Option MessageFault) (n : ℕ) (c : Cause)
    → cond a (cond b o (Some UnknownType)) (Some NotObject) ≡ Some (of_row n c)
    → (a ≡ true) × (b ≡ true) × (o ≡ Some (of_row n c))
judged_by true true o n c h = (refl, refl, h)
judged_by true false o n Missing h = cc
judged_by true false o n WrongType h = cc
judged_by false b o n Missing h = cc
judged_by false b o n WrongType h = cc

first_of_profile : (d : Doc) → row_broken d ≡ first_fault profile d
unfolding broken_by_rows
first_of_profile d = refl

pub fault_by_path : (d : Doc) (n : ℕ) (c : Cause)
    → (fault d ≡ Some (of_row n c)) ↔ (IsJudged d × IsLeastBroken d n c)
fault_by_path d n c = (
  λ h.
      let p = judged_by (is_object d) (has_kind d) (row_broken d) n c h in
      ((p.0, p.1), least_told d n c (sym (first_of_profile d) ∙ p.2)),
  λ h.
      ap (λ a. cond a (cond (has_kind d) (row_broken d) (Some UnknownType)) (Some NotObject)) h.0.0
      ∙ ap (λ b. cond b (row_broken d) (Some UnknownType)) h.0.1 ∙ first_of_profile d
      ∙ told_least_by d n c h.1 (first_fault profile d) refl,
)

kept_fault : (d : Doc) → ((r : ProfileRow) → Contains profile r → IsKept r d)
    → (o : Option MessageFault) → first_fault profile d ≡ o → first_fault profile d ≡ None
kept_fault d kept None is = is
kept_fault d kept (Some f) is =
    let x = first_row profile d f is in
    let y = row_broken_first x.row d f x.reported in
    absurd (kept x.row (x.index, x.inside, x.is) y.1.path y.0 y.1.breaks)

pub fits_by_path : (d : Doc)
    → Fits d ↔ (IsJudged d × ((r : ProfileRow) → Contains profile r → IsKept r d))
fits_by_path d = (
  λ h.
      let p = fault_parts (is_object d) (has_kind d) (row_broken d) UnknownType NotObject h in (
        (p.0, p.1),
        λ r listed. row_kept r d
            (all_kept profile d (rows_free d p.2) listed.0 r listed.1 listed.2),
      ),
  λ h. faultless d h.0.0 h.0.1
      (rows_broken d (kept_fault d h.1 (first_fault profile d) refl)),
)

-- ---- no document has the error `Memory`

not_memory : (n : ℕ) (c : Cause) → of_row n c ≡ Memory → ⊥
not_memory n Missing h = cc
not_memory n WrongType h = cc

no_memory_by : (a b : Bool) (o : Option MessageFault) → (o ≡ Some Memory → ⊥)
    → cond a (cond b o (Some UnknownType)) (Some NotObject) ≡ Some Memory → ⊥
no_memory_by true true o never h = never h
no_memory_by true false o never h = cc
no_memory_by false b o never h = cc

pub no_memory : (d : Doc) → fault d ≡ Some Memory → ⊥
no_memory d h =
    no_memory_by (is_object d) (has_kind d) (row_broken d)
    (λ g.
    let x = first_row profile d Memory (sym (first_of_profile d) ∙ g) in
    let y = row_broken_first x.row d Memory x.reported in
    not_memory x.row.number y.0 y.2) h
