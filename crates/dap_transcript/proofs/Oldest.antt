-- The number that is expected of a response is that of the oldest open request.
use Rattle.std.proofs.Common.{◌≡◌, ℕ, ℤ, Bool, true, false, cond, ◌&&◌, List, [], ◌∷◌, ◌++◌, Option}
use Rattle.std.proofs.Common.{Some, refl, sym, ap, ◌∙◌, subst, append_assoc, append-nil}
use Rattle.dap_tree.specs.declared.side.Side.{Side}
use Rattle.dap_message.specs.Message.{Sent}
use Rattle.dap_session.specs.Messages.{seq_of}
use Rattle.dap_transcript.specs.Expected.{IsOldestOpen, asks, is_open, oldest_open}
use Rattle.dap_transcript.specs.Transcript.{record_text, records_after}
use Rattle.dap_transcript.specs.Laws.{ExpectsOldest, OneRecordMore}

both_left : (a b : Bool) → (a && b) ≡ true → a ≡ true
both_left true b h = refl
both_left false b h = absurd (cc)

both_right : (a b : Bool) → (a && b) ≡ true → b ≡ true
both_right true b h = h
both_right false b h = absurd (cc)

second_false : (a b : Bool) → (a && b) ≡ false → a ≡ true → b ≡ false
second_false true b h g = h
second_false false b h g = absurd (cc)

both_false : (a b : Bool) → (a ≡ true → b ≡ false) → (a && b) ≡ false
both_false true b h = h refl
both_false false b h = refl

not_nil : {P : Type 0} (first : List Sent) (x : Sent) (rest : List Sent)
    → [] ≡ first ++ x ∷ rest → P
not_nil [] x rest is = absurd (cc)
not_nil (y ∷ first) x rest is = absurd (cc)

module _ (side : Side) (command : List ℕ) where
  abbrev Oldest : List Sent → ℤ → Type 0
  Oldest before n = IsOldestOpen side command before n

  older : (m : Sent) (later : List Sent) (n : ℤ)
      → (asks side command m && is_open side m later) ≡ false → (r : Oldest later n)
      → (first : List Sent) (x : Sent) (rest : List Sent)
      → m ∷ r.earlier ≡ first ++ x ∷ rest → asks side command x ≡ true
      → is_open side x (rest ++ r.request ∷ r.later) ≡ false
  older m later n closed r [] x rest is asked =
      let one : m ≡ x = cc in
      let others : r.earlier ≡ rest = cc in
      let asked_here : asks side command m ≡ true =
      subst (λ (y : Sent). asks side command y ≡ true) (sym one) asked in
      subst (λ (y : Sent). is_open side y (rest ++ r.request ∷ r.later) ≡ false) one
      (subst (λ (l : List Sent). is_open side m (l ++ r.request ∷ r.later) ≡ false) others
      (subst (λ (l : List Sent). is_open side m l ≡ false) r.all
      (second_false (asks side command m) (is_open side m later) closed asked_here)))
  older m later n closed r (y ∷ first) x rest is asked =
      let others : r.earlier ≡ first ++ x ∷ rest = cc in
      r.oldest first x rest others asked

  oldest_by : (b : Bool) (m : Sent) (later : List Sent) (n : ℤ)
      → (oldest_open side command later ≡ Some n → Oldest later n)
      → (asks side command m && is_open side m later) ≡ b
      → cond b (Some (seq_of m)) (oldest_open side command later) ≡ Some n
      → Oldest (m ∷ later) n
  oldest_by true m later n rest here h = record {
    earlier = [];
    request = m;
    later = later;
    all = refl;
    asked = both_left (asks side command m) (is_open side m later) here;
    open_still = both_right (asks side command m) (is_open side m later) here;
    number = cc;
    oldest = λ first x others is asked. not_nil first x others is;
  }
  oldest_by false m later n rest here h =
      let r = rest h in
      record {
        earlier = m ∷ r.earlier;
        request = r.request;
        later = r.later;
        all = ap (λ l. m ∷ l) r.all;
        asked = r.asked;
        open_still = r.open_still;
        number = r.number;
        oldest = older m later n here r;
      }

  found_oldest : (before : List Sent) (n : ℤ) → oldest_open side command before ≡ Some n
      → Oldest before n
  found_oldest [] n h = absurd (cc)
  found_oldest (m ∷ later) n h =
      oldest_by (asks side command m && is_open side m later) m later n (found_oldest later n) refl
      h

  passed : (b : Bool) (x y : Option ℤ) → b ≡ false → cond b x y ≡ y
  passed true x y h = absurd (cc)
  passed false x y h = refl

  taken : (a b : Bool) (x y : Option ℤ) → a ≡ true → b ≡ true → cond (a && b) x y ≡ x
  taken true true x y h g = refl
  taken true false x y h g = absurd (cc)
  taken false b x y h g = absurd (cc)

  -- The messages before an open request, of which none is an open one, are passed.
  all_passed : (earlier later : List Sent) (request : Sent)
      → asks side command request ≡ true → is_open side request later ≡ true
      → ((first : List Sent) (m : Sent) (rest : List Sent) → earlier ≡ first ++ m ∷ rest
      → asks side command m ≡ true → is_open side m (rest ++ request ∷ later) ≡ false)
      → oldest_open side command (earlier ++ request ∷ later) ≡ Some (seq_of request)
  all_passed [] later request asked still none =
      taken (asks side command request) (is_open side request later) _ _ asked still
  all_passed (m ∷ earlier) later request asked still none =
      passed (asks side command m && is_open side m (earlier ++ request ∷ later)) _ _
      (both_false (asks side command m) (is_open side m (earlier ++ request ∷ later))
      (λ own. none [] m earlier refl own))
      ∙ all_passed earlier later request asked still
      (λ first x rest is own. none (m ∷ first) x rest (ap (λ l. m ∷ l) is) own)

  is_expected : (before : List Sent) (n : ℤ) → Oldest before n
      → oldest_open side command before ≡ Some n
  is_expected before n r =
      ap (oldest_open side command) r.all
      ∙ all_passed r.earlier r.later r.request r.asked r.open_still r.oldest
      ∙ ap Some r.number

pub expects_oldest : ExpectsOldest
expects_oldest side command before n =
    (found_oldest side command before n, is_expected side command before n)

-- ---- one record more

records-append : (before ms : List Sent) (m : Sent)
    → records_after before (ms ++ m ∷ [])
    ≡ records_after before ms ++ record_text (before ++ ms) m
records-append before [] m =
    append-nil (record_text before m)
    ∙ ap (λ l. record_text l m) (sym (append-nil before))
records-append before (x ∷ ms) m =
    ap (λ t. record_text before x ++ t) (records-append (before ++ x ∷ []) ms m)
    ∙ sym (append_assoc (record_text before x) (records_after (before ++ x ∷ []) ms)
    (record_text ((before ++ x ∷ []) ++ ms) m))
    ∙ ap (λ l. (record_text before x ++ records_after (before ++ x ∷ []) ms) ++ record_text l m)
    (append_assoc before (x ∷ []) ms)

pub one_more_record : OneRecordMore
one_more_record ms m = records-append [] ms m
