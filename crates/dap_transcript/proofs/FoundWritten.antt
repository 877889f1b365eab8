-- The members that are written, by their names in the message.
use Rattle.std.proofs.Common.{◌≡◌, ℕ, List, ◌++◌, Bool, true, false, cond, Option, Some}
use Rattle.std.proofs.Common.{None, refl, sym, ap, ◌∙◌, codes, true≢false}
use Rattle.std.proofs.lemmas.List.{same_from_push}
use Rattle.dap_tree.specs.Doc.{Doc, Members, no_members, member, get_member, put}
use Rattle.dap_tree.proofs.Paths.{skips}
use Rattle.dap_message.proofs.Envelopes.{get_member-put_other}
use Rattle.dap_message.proofs.FilledOnce.{get_member-put}
use Rattle.dap_transcript.proofs.FoundMembers.{by_name, first_found}
use Rattle.dap_transcript.proofs.WrittenMembers.{head_longer}
use Rattle.dap_transcript.specs.{Names.{member_name, names_head}, Transcript.written}

-- ---- two names are not written as one

not_longer : {P : Type 0} (k l : List ℕ) → names_head k ≡ true → names_head l ≡ false
    → k ++ codes "_" ≡ l → P
not_longer k l head other same =
    absurd (true≢false (sym (head_longer k head) ∙ ap names_head same ∙ other))

same_by : (a b : Bool) (k l : List ℕ) → names_head k ≡ a → names_head l ≡ b
    → cond a (k ++ codes "_") k ≡ cond b (l ++ codes "_") l → k ≡ l
same_by true true k l p q h = (same_from_push k l 95 95 h).0
same_by true false k l p q h = not_longer k l p q h
same_by false true k l p q h = not_longer l k q p (sym h)
same_by false false k l p q h = h

pub same_member_name : (k l : List ℕ) → member_name k ≡ member_name l → k ≡ l
same_member_name k l h = same_by (names_head k) (names_head l) k l refl refl h

-- ---- what is written is found

-- The value of a member, if it is not omitted.
abbrev pub unless : Bool → Option Doc → Option Doc
unless omitted o = cond omitted None o

found_first : (b : Bool) (omitted : List ℕ → Bool) (k : List ℕ) (d : Doc) (ms rest : Members)
    → get_member (member_name k) rest ≡ unless b (get_member k ms)
    → get_member (member_name k) (cond b rest (put (member_name k) d rest))
    ≡ unless b (Some d)
found_first true omitted k d ms rest h = h
found_first false omitted k d ms rest h = get_member-put (member_name k) d rest

found_later : (b : Bool) (q k : List ℕ) (d : Doc) (rest : Members) → (q ≡ k → ⊥)
    → get_member (member_name q) (cond b rest (put (member_name k) d rest))
    ≡ get_member (member_name q) rest
found_later true q k d rest other = refl
found_later false q k d rest other =
    get_member-put_other (member_name q) (member_name k) d rest
    (λ same. other (same_member_name q k same))

found_none : (b : Bool) → None ≡ unless b None
found_none true = refl
found_none false = refl

found_at : (omitted : List ℕ → Bool) (k l : List ℕ) (d : Doc) (ms : Members) → k ≡ l
    → get_member (member_name k) (written omitted ms) ≡ unless (omitted k) (get_member k ms)
    → get_member (member_name k) (written omitted (member l d ms))
    ≡ unless (omitted k) (get_member k (member l d ms))
found_at omitted k l d ms same h =
    ap (λ x. get_member (member_name k) (written omitted (member x d ms))) (sym same)
    ∙ found_first (omitted k) omitted k d ms (written omitted ms) h
    ∙ ap (unless (omitted k)) (sym (first_found k d ms))
    ∙ ap (λ x. unless (omitted k) (get_member k (member x d ms))) same

-- A member is found among the written ones under its written name, unless it is omitted.
pub found_written : (omitted : List ℕ → Bool) (ms : Members) (k : List ℕ)
    → get_member (member_name k) (written omitted ms) ≡ unless (omitted k) (get_member k ms)
found_written omitted no_members k = found_none (omitted k)
found_written omitted (member l d ms) k =
    by_name k l (λ same. found_at omitted k l d ms same (found_written omitted ms k))
    (λ other. found_later (omitted l) k l d (written omitted ms) other
    ∙ found_written omitted ms k
    ∙ ap (unless (omitted k)) (sym (skips k l d ms other)))
