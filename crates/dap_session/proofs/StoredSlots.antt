-- The slots and the map of a store, and the requests in them.
use Rattle.std.proofs.Common.{◌≡◌, ℕ, zero, suc, ◌+◌, ◌-◌, ◌≤◌, ℤ, Bool, true, false, cond}
use Rattle.std.proofs.Common.{List, [], ◌∷◌, ◌++◌, Option, Some, None, is_some, option_map, length}
use Rattle.std.proofs.Common.{◌==◌, get_or, set, replicate, refl, sym, ap, ◌∙◌, arith, Bor}
use Rattle.std.proofs.lemmas.List.{map-set, map-append, length-map}
use Rattle.std.specs.Ordering.{int_cmp}
use Rattle.std.specs.Map.{lookup, set_value}
use Rattle.std.specs.BTreeMap.{is_at, insert_entry}
use Rattle.dap_session.specs.declared.store.Request.{Request}
use Rattle.dap_session.specs.SessionState.{RequestEntry, held_in, in_slot, other_numbered}
use Rattle.dap_session.specs.SessionState.{Requests, index_from, new_slot, put_at, with_noted}
use Rattle.dap_session.specs.SessionState.{with_other}
use Rattle.dap_session.specs.SessionState.{with_other_answer}
use Rattle.dap_session.specs.Stored.{noted_of, entries_of, slots_of}
use Rattle.dap_session.proofs.Entries.{lookup-map, set_value-map, insert-map}

pub get_or-slots : (ss : List (Option Request)) (i : ℕ)
    → get_or (slots_of ss) i None ≡ option_map noted_of (get_or ss i None)
get_or-slots [] i = refl
get_or-slots (s ∷ ss) zero = refl
get_or-slots (s ∷ ss) (suc i) = get_or-slots ss i

is_some-map : (s : Option Request) → is_some (option_map noted_of s) ≡ is_some s
is_some-map None = refl
is_some-map (Some r) = refl

is_some-slots : (ss : List (Option Request)) (i : ℕ) (b : Bool) → is_some (get_or ss i None) ≡ b
    → is_some (in_slot (slots_of ss) (Some i)) ≡ b
is_some-slots ss i b e = ap is_some (get_or-slots ss i) ∙ is_some-map (get_or ss i None) ∙ e

-- whether a slot contains a request
pub held_yes : (ss : List (Option Request)) (k : Option ℕ) (i : ℕ) → k ≡ Some i
    → is_some (get_or ss i None) ≡ true → Some i ≡ held_in (slots_of ss) k
held_yes ss None i e h = absurd (cc)
held_yes ss (Some j) i e h =
    let at : j ≡ i = cc in
    let some : is_some (get_or ss j None) ≡ true = ap (λ m. is_some (get_or ss m None)) at ∙ h in
    sym (ap (λ b. cond b (Some j) None) (is_some-slots ss j true some) ∙ ap Some at)

pub held_no : (ss : List (Option Request)) (k : Option ℕ) (i : ℕ) → k ≡ Some i
    → is_some (get_or ss i None) ≡ false → None ≡ held_in (slots_of ss) k
held_no ss None i e h = absurd (cc)
held_no ss (Some j) i e h =
    let at : j ≡ i = cc in
    let none : is_some (get_or ss j None) ≡ false = ap (λ m. is_some (get_or ss m None)) at ∙ h in
    sym (ap (λ b. cond b (Some j) None) (is_some-slots ss j false none))

pub held_none : (ss : List (Option Request)) (k : Option ℕ) → k ≡ None
    → None ≡ held_in (slots_of ss) k
held_none ss None e = refl
held_none ss (Some j) e = absurd (cc)

pub past_none : (ss : List (Option Request)) (i : ℕ) → length ss ≤ i
    → is_some (get_or ss i None) ≡ false
past_none [] i h = refl
past_none (s ∷ ss) zero h = absurd (omega (arith, h))
past_none (s ∷ ss) (suc i) h = past_none ss i (omega (arith, h))

none_slots : (j : ℕ) → slots_of (replicate j None) ≡ replicate j None
none_slots zero = refl
none_slots (suc j) = ap (λ ss. None ∷ ss) (none_slots j)

-- one more slot, after empty ones
pub slots_more : (ss : List (Option Request)) (j : ℕ) (r : Request)
    → slots_of (ss ++ (replicate j None ++ Some r ∷ []))
    ≡ slots_of ss ++ (replicate j None ++ Some (noted_of r) ∷ [])
slots_more ss j r =
    map-append (λ s. option_map noted_of s) ss (replicate j None ++ Some r ∷ [])
    ∙ ap (λ ts. slots_of ss ++ ts)
    (map-append (λ s. option_map noted_of s) (replicate j None) (Some r ∷ [])
    ∙ ap (λ ts. ts ++ Some (noted_of r) ∷ []) (none_slots j))

-- a request that is answered
answered_is : (s : Option Request) (r : Request) (c : List ℕ) → s ≡ Some r
    → option_map noted_of s ≡ Some (c, false) → noted_of r ≡ (c, false)
answered_is s r c e h =
    let all : Some (noted_of r) ≡ Some (c, false) = ap (option_map noted_of) (sym e) ∙ h in
    cc

pub slots_answered : (ss ts : List (Option Request)) (i : ℕ) (r w : Request) (c : List ℕ)
    → get_or ss i None ≡ Some r → get_or (slots_of ss) i None ≡ Some (c, false)
    → ts ≡ set ss i (Some w) → noted_of w ≡ ((noted_of r).0, true)
    → slots_of ts ≡ set (slots_of ss) i (Some (c, true))
slots_answered ss ts i r w c there asked put is =
    let old = answered_is (get_or ss i None) r c there (sym (get_or-slots ss i) ∙ asked) in
    let new : noted_of w ≡ (c, true) = is ∙ ap (λ (a : RequestEntry). (a.0, true)) old in
    ap slots_of put ∙ map-set (λ s. option_map noted_of s) ss i (Some w)
    ∙ ap (λ a. set (slots_of ss) i (Some a)) new

pub other_answered : (n : ℤ) (es fs : List (ℤ × Request)) (r w : Request) (c : List ℕ)
    → Some r ≡ lookup (is_at (int_cmp n)) es → other_numbered n (entries_of es) ≡ Some (c, false)
    → fs ≡ set_value (is_at (int_cmp n)) es w → noted_of w ≡ ((noted_of r).0, true)
    → entries_of fs ≡ with_other_answer n c (entries_of es)
other_answered n es fs r w c there asked put is =
    let seen : Some (noted_of r) ≡ Some (c, false) =
    ap (option_map noted_of) there ∙ sym (lookup-map noted_of (is_at (int_cmp n)) es) ∙ asked in
    let old : noted_of r ≡ (c, false) = cc in
    let new : noted_of w ≡ (c, true) = is ∙ ap (λ (a : RequestEntry). (a.0, true)) old in
    ap entries_of put ∙ set_value-map noted_of (is_at (int_cmp n)) es w
    ∙ ap (λ (a : RequestEntry). set_value (is_at (int_cmp n)) (entries_of es) a) new

pub none_other : (n : ℤ) (es : List (ℤ × Request)) → None ≡ lookup (is_at (int_cmp n)) es
    → None ≡ other_numbered n (entries_of es)
none_other n es e =
    ap (option_map noted_of) e ∙ sym (lookup-map noted_of (is_at (int_cmp n)) es)

some_other : (n : ℤ) (es : List (ℤ × Request)) (o : Option Request)
    → o ≡ lookup (is_at (int_cmp n)) es
    → option_map noted_of o ≡ other_numbered n (entries_of es)
some_other n es o e =
    ap (option_map noted_of) e ∙ sym (lookup-map noted_of (is_at (int_cmp n)) es)

bor_map : (o : Option (Bor Request))
    → option_map (λ r. noted_of r.now) o ≡ option_map noted_of (option_map (λ r. r.now) o)
bor_map None = refl
bor_map (Some r) = refl

pub lent_other : (n : ℤ) (es : List (ℤ × Request)) (o : Option (Bor Request))
    → option_map (λ r. r.now) o ≡ lookup (is_at (int_cmp n)) es
    → option_map (λ r. noted_of r.now) o ≡ other_numbered n (entries_of es)
lent_other n es o e = bor_map o ∙ some_other n es (option_map (λ r. r.now) o) e

pub other_put : (n : ℤ) (es fs : List (ℤ × Request)) (r : Request)
    → fs ≡ insert_entry int_cmp es n r → entries_of fs ≡ with_other n (noted_of r) (entries_of es)
other_put n es fs r put = ap entries_of put ∙ insert-map noted_of n es r

pub others_put : (n : ℤ) (r : Request) (first : ℤ) (ss : List (Option Request))
    (es : List (ℤ × Request)) (i : Option ℕ) (len : ℕ)
    → len ≡ length ss → false ≡ (length ss == 0) → i ≡ index_from first n → None ≡ new_slot i len
    → put_at None n (noted_of r)
    (record { first = first; slots = slots_of ss; others = entries_of es })
    ≡ with_noted n (noted_of r)
    (record { first = first; slots = slots_of ss; others = entries_of es })
others_put n r first ss es i len is full at none =
    let seen : Requests =
    record { first = first; slots = slots_of ss; others = entries_of es } in
    let alike : length (slots_of ss) ≡ length ss = length-map ss (λ s. option_map noted_of s) in
    let some : (length (slots_of ss) == 0) ≡ false = ap (λ k. k == 0) alike ∙ sym full in
    let away : new_slot (index_from first n) (length (slots_of ss)) ≡ None =
    ap (λ k. new_slot (index_from first n) k) (alike ∙ sym is) ∙ ap (λ j. new_slot j len) (sym at)
    ∙ sym none in
    sym (ap (λ b. cond b
    (record { first = n; slots = Some (noted_of r) ∷ []; others = entries_of es })
    (put_at (new_slot (index_from first n) (length (slots_of ss))) n (noted_of r) seen)) some
    ∙ ap (λ j. put_at j n (noted_of r) seen) away)
