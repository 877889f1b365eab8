-- A run of steps over a line states what the whole line states.
use Rattle.std.proofs.Common.{◌≡◌, ℕ, suc, ◌+◌, ◌<◌, ◌≤◌, Bool, true, false, not, ◌&&◌, cond, List}
use Rattle.std.proofs.Common.{[], ◌∷◌, ◌++◌, length, take, drop, get_or, refl, sym, ap, ◌∙◌, subst}
use Rattle.std.proofs.Common.{arith, inl, inr, nat_lt, nat_eq}
use Rattle.std.proofs.lemmas.Bool.{eqb-true, cases_Bool, and_parts, and_cases, cond-true}
use Rattle.std.proofs.lemmas.Bool.{cond-false}
use Rattle.std.specs.List.{list_all, prefix_len}
use Rattle.std.specs.Char.{eq_ignore_ascii_case}
use Rattle.std.specs.Str.{str_eq_ignore_ascii_case}
use Rattle.std.proofs.lemmas.List.{at_drop_more}
use Rattle.dap_frame.specs.declared.limits.FrameLimits.{FrameLimits}
use Rattle.dap_frame.specs.declared.length_scan.LengthScan.{LengthScan}
use Rattle.dap_frame.specs.declared.length_scan.LengthScan.TheVariants.{Blank}
use Rattle.dap_frame.specs.declared.line_scan.LineScan.{LineScan}
use Rattle.dap_frame.specs.declared.line_scan.LineScan.TheVariants.{Name, OtherName, Length}
use Rattle.dap_frame.specs.declared.line_scan.LineScan.TheVariants.{OtherValue, NoField}
use Rattle.dap_frame.specs.Lines.{trimmed, is_colon, is_name_byte, is_value_byte, name_of, value_of}
use Rattle.dap_frame.specs.Lines.{is_field_line}
use Rattle.dap_frame.specs.Frame.{length_from}
use Rattle.dap_frame.specs.LengthScan.{length_step, length_outcome}
use Rattle.dap_frame.specs.LineScan.{line_step, line_run, length_name, LineSays}
use Rattle.dap_frame.proofs.LengthRuns.{length_run, length_says}

run_none : (xs : List ℕ) → line_run NoField xs ≡ NoField
run_none [] = refl
run_none (b ∷ bs) = run_none bs

run_other : (xs : List ℕ)
    → line_run OtherValue xs ≡ cond (list_all is_value_byte xs) OtherValue NoField
run_other [] = refl
run_other (b ∷ bs) =
    elim (cases_Bool (is_value_byte b)) [
      | inl h ↦ rw h (run_other bs)
      | inr h ↦ rw h (run_none bs)
    ]

run_length : (d : LengthScan) (xs : List ℕ)
    → line_run (Length d) xs ≡ cond (list_all is_value_byte xs) (Length (length_run d xs)) NoField
run_length d [] = refl
run_length d (b ∷ bs) =
    elim (cases_Bool (is_value_byte b)) [
      | inl h ↦ rw h (run_length (length_step d b) bs)
      | inr h ↦ rw h (run_none bs)
    ]

-- a line after k bytes of a name
abbrev field_from : ℕ → List ℕ → Bool
field_from k xs =
    nat_lt 0 (k + length (name_of xs)) && nat_lt (length (name_of xs)) (length xs)
    && list_all is_name_byte (name_of xs) && list_all is_value_byte (value_of xs)

-- the facts about the rest of a line in each state; `same` decides whether the rest of the name
-- completes Content-Length
abbrev RestSays : FrameLimits → ℕ → (List ℕ → Bool) → List ℕ → LineScan → Type 0
RestSays limits k same xs (Name n) = field_from k xs ≡ false
RestSays limits k same xs OtherName = field_from k xs ≡ false
RestSays limits k same xs (Length d) = (field_from k xs ≡ true) × (same (name_of xs) ≡ true)
    × (length_from limits (trimmed (value_of xs)) ≡ length_outcome limits d)
RestSays limits k same xs OtherValue = (field_from k xs ≡ true) × (same (name_of xs) ≡ false)
RestSays limits k same xs NoField = field_from k xs ≡ false

name_at_colon : (b : ℕ) (bs : List ℕ) → is_colon b ≡ true → name_of (b ∷ bs) ≡ []
name_at_colon b bs h =
    ap (λ n. take n (b ∷ bs))
    (cond-false (not (is_colon b)) (1 + prefix_len (λ x. not (is_colon x)) bs) 0 (ap not h))

value_at_colon : (b : ℕ) (bs : List ℕ) → is_colon b ≡ true → value_of (b ∷ bs) ≡ bs
value_at_colon b bs h =
    ap (λ n. drop (n + 1) (b ∷ bs))
    (cond-false (not (is_colon b)) (1 + prefix_len (λ x. not (is_colon x)) bs) 0 (ap not h))

name_more : (b : ℕ) (bs : List ℕ) → is_colon b ≡ false → name_of (b ∷ bs) ≡ b ∷ name_of bs
name_more b bs h =
    let n : ℕ = prefix_len (λ x. not (is_colon x)) bs in
    ap (λ n. take n (b ∷ bs)) (cond-true (not (is_colon b)) (1 + n) 0 (ap not h)
    ∙ (let e : 1 + n ≡ suc n = omega arith in e))

value_more : (b : ℕ) (bs : List ℕ) → is_colon b ≡ false → value_of (b ∷ bs) ≡ value_of bs
value_more b bs h =
    let n : ℕ = prefix_len (λ x. not (is_colon x)) bs in
    ap (λ n. drop (n + 1) (b ∷ bs)) (cond-true (not (is_colon b)) (1 + n) 0 (ap not h))
    ∙ ap (λ n. drop n (b ∷ bs)) (let e : 1 + n + 1 ≡ suc (n + 1) = omega arith in e)

field_at_colon : (k b : ℕ) (bs : List ℕ) → is_colon b ≡ true
    → field_from k (b ∷ bs) ≡ (nat_lt 0 k && list_all is_value_byte bs)
field_at_colon k b bs h =
    let zero_more : k + 0 ≡ k = omega arith in
    let some : nat_lt 0 (suc (length bs)) ≡ true = grind arith in
    elim (cases_Bool (nat_lt 0 k)) [
      | inl e ↦ rw (name_at_colon b bs h, value_at_colon b bs h, zero_more, some, e) refl
      | inr e ↦ rw (name_at_colon b bs h, value_at_colon b bs h, zero_more, some, e) refl
    ]

field_more : (k b : ℕ) (bs : List ℕ) → is_colon b ≡ false → is_name_byte b ≡ true
    → field_from k (b ∷ bs) ≡ field_from (k + 1) bs
field_more k b bs h name =
    let up : k + suc (length (name_of bs)) ≡ k + 1 + length (name_of bs) = omega arith in
    let under : nat_lt (suc (length (name_of bs))) (suc (length bs))
    ≡ nat_lt (length (name_of bs)) (length bs) = grind arith in
    rw (name_more b bs h, value_more b bs h, up, under, name) refl

field_wrong : (k b : ℕ) (bs : List ℕ) → is_colon b ≡ false → is_name_byte b ≡ false
    → field_from k (b ∷ bs) ≡ false
field_wrong k b bs h name =
    elim (cases_Bool (nat_lt 0 (k + suc (length (name_of bs)))
    && nat_lt (suc (length (name_of bs))) (suc (length bs)))) [
      | inl e ↦ rw (name_more b bs h, value_more b bs h, e, name) refl
      | inr e ↦ rw (name_more b bs h, value_more b bs h, e) refl
    ]

field_nil : (k : ℕ) → field_from k [] ≡ false
field_nil k = elim (cases_Bool (nat_lt 0 (k + 0))) [
  | inl e ↦ rw e refl
  | inr e ↦ rw e refl
]

says_more : (limits : FrameLimits) (k : ℕ) (same : List ℕ
    → Bool) (b : ℕ) (bs : List ℕ) (s : LineScan)
    → is_colon b ≡ false → is_name_byte b ≡ true
    → RestSays limits (k + 1) (λ r. same (b ∷ r)) bs s → RestSays limits k same (b ∷ bs) s
says_more limits k same b bs (Name n) h m says = field_more k b bs h m ∙ says
says_more limits k same b bs OtherName h m says = field_more k b bs h m ∙ says
says_more limits k same b bs (Length d) h m says = (
  field_more k b bs h m ∙ says.0,
  ap same (name_more b bs h)
      ∙ says.1,
  ap (λ v. length_from limits (trimmed v)) (value_more b bs h) ∙ says.2,
)
says_more limits k same b bs OtherValue h m says =
    (field_more k b bs h m ∙ says.0, ap same (name_more b bs h) ∙ says.1)
says_more limits k same b bs NoField h m says = field_more k b bs h m ∙ says

says_alike : (limits : FrameLimits) (k : ℕ) (same other : List ℕ
    → Bool) (xs : List ℕ) (s : LineScan)
    → ((r : List ℕ) → other r ≡ same r) → RestSays limits k same xs s → RestSays limits k other xs s
says_alike limits k same other xs (Name n) alike says = says
says_alike limits k same other xs OtherName alike says = says
says_alike limits k same other xs (Length d) alike says =
    (says.0, alike (name_of xs) ∙ says.1, says.2)
says_alike limits k same other xs OtherValue alike says = (says.0, alike (name_of xs) ∙ says.1)
says_alike limits k same other xs NoField alike says = says

other_name : (limits : FrameLimits) (k : ℕ) (xs : List ℕ) → nat_lt 0 k ≡ true
    → RestSays limits k (λ r. false) xs (line_run OtherName xs)
other_name limits k [] some = field_nil k
other_name limits k (b ∷ bs) some =
    elim (cases_Bool (is_colon b)) [
      | inl h ↦ elim (cases_Bool (list_all is_value_byte bs)) [
        | inl v ↦ (
            let state : line_run OtherName (b ∷ bs) ≡ OtherValue =
            rw h (run_other bs ∙ cond-true _ _ _ v) in
            subst (RestSays limits k (λ r. false) (b ∷ bs)) (sym state) (
              field_at_colon k b bs h
                  ∙ rw (some, v) refl,
              refl,
            ))
        | inr v ↦ (
            let state : line_run OtherName (b ∷ bs) ≡ NoField =
            rw h (run_other bs ∙ cond-false _ _ _ v) in
            subst (RestSays limits k (λ r. false) (b ∷ bs)) (sym state) (field_at_colon k b bs h
            ∙ rw (some, v) refl))
      ]
      | inr h ↦ elim (cases_Bool (is_name_byte b)) [
        | inl m ↦ (
            let state : line_run OtherName (b ∷ bs) ≡ line_run OtherName bs = rw (m, h) refl in
            subst (RestSays limits k (λ r. false) (b ∷ bs)) (sym state)
            (says_more limits k (λ r. false) b bs _ h m
            (other_name limits (k + 1) bs (grind arith))))
        | inr m ↦ (
            let state : line_run OtherName (b ∷ bs) ≡ NoField = rw (m, h) (run_none bs) in
            subst (RestSays limits k (λ r. false) (b ∷ bs)) (sym state) (field_wrong k b bs h m))
      ]
    ]

abbrev is_rest : ℕ → List ℕ → Bool
is_rest n r = str_eq_ignore_ascii_case r (drop n length_name)

rest_more : (n b : ℕ) (r : List ℕ) → n < 14
    → is_rest n (b ∷ r) ≡ (eq_ignore_ascii_case b (get_or length_name n 0) && is_rest (n + 1) r)
rest_more n b r less = at_drop_more (λ t. str_eq_ignore_ascii_case (b ∷ r) t) length_name n 0 less

rest_none : (n : ℕ) → n < 14 → is_rest n [] ≡ false
rest_none n less = at_drop_more (λ t. str_eq_ignore_ascii_case [] t) length_name n 0 less

names : (limits : FrameLimits) (n : ℕ) (xs : List ℕ) → n ≤ 14
    → RestSays limits n (is_rest n) xs (line_run (Name n) xs)
names limits n [] few = field_nil n
names limits n (b ∷ bs) few =
    elim (cases_Bool (is_colon b)) [
      | inl h ↦ elim (cases_Bool (nat_eq n 0)) [
        | inl z ↦ (
            let state : line_run (Name n) (b ∷ bs) ≡ NoField = rw (h, z) (run_none bs) in
            let none : nat_lt 0 n ≡ false = grind (arith, eqb-true n 0 z) in
            subst (RestSays limits n (is_rest n) (b ∷ bs)) (sym state) (field_at_colon n b bs h
            ∙ rw none refl))
        | inr z ↦
            (let some : nat_lt 0 n ≡ true = grind (arith, z) in
            elim (cases_Bool (list_all is_value_byte bs)) [
              | inl v ↦ elim (cases_Bool (nat_eq n 14)) [
                | inl f ↦ (
                    let state : line_run (Name n) (b ∷ bs) ≡ Length (length_run Blank bs) =
                    rw (h, z, f) (run_length Blank bs ∙ cond-true _ _ _ v) in
                    let whole : is_rest n [] ≡ true = ap (λ m. is_rest m []) (eqb-true n 14 f) in
                    subst (RestSays limits n (is_rest n) (b ∷ bs)) (sym state) (
                      field_at_colon n b bs h ∙ rw (some, v) refl,
                      ap (is_rest n) (name_at_colon b bs h) ∙ whole,
                      ap (λ t. length_from limits (trimmed t)) (value_at_colon b bs h)
                          ∙ length_says limits bs,
                    ))
                | inr f ↦ (
                    let state : line_run (Name n) (b ∷ bs) ≡ OtherValue =
                    rw (h, z, f) (run_other bs ∙ cond-true _ _ _ v) in
                    let less : n < 14 = grind (arith, f, few) in
                    subst (RestSays limits n (is_rest n) (b ∷ bs)) (sym state) (
                      field_at_colon n b bs h
                          ∙ rw (some, v) refl,
                      ap (is_rest n) (name_at_colon b bs h)
                          ∙ rest_none n less,
                    ))
              ]
              | inr v ↦ elim (cases_Bool (nat_eq n 14)) [
                | inl f ↦ (
                    let state : line_run (Name n) (b ∷ bs) ≡ NoField =
                    rw (h, z, f) (run_length Blank bs ∙ cond-false _ _ _ v) in
                    subst (RestSays limits n (is_rest n) (b ∷ bs)) (sym state)
                    (field_at_colon n b bs h ∙ rw (some, v) refl))
                | inr f ↦ (
                    let state : line_run (Name n) (b ∷ bs) ≡ NoField =
                    rw (h, z, f) (run_other bs ∙ cond-false _ _ _ v) in
                    subst (RestSays limits n (is_rest n) (b ∷ bs)) (sym state)
                    (field_at_colon n b bs h ∙ rw (some, v) refl))
              ]
            ])
      ]
      | inr h ↦ elim (cases_Bool (is_name_byte b)) [
        | inl m ↦ elim (cases_Bool
            (nat_lt n 14 && eq_ignore_ascii_case b (get_or length_name n 0))) [
              | inl q ↦ (
                  let less : n < 14 =
                  grind (
                    arith,
                    (and_parts (nat_lt n 14) (eq_ignore_ascii_case b (get_or length_name n 0)) q).0,
                  )
                  in
                  let state : line_run (Name n) (b ∷ bs) ≡ line_run (Name (n + 1)) bs =
                  rw (m, h, q) refl in
                  let alike : (r : List ℕ)
                  → is_rest n (b ∷ r) ≡ is_rest (n + 1) r =
                  λ r. rest_more n b r less
                  ∙ ap (λ t. t && is_rest (n + 1) r)
                  (and_parts (nat_lt n 14) (eq_ignore_ascii_case b (get_or length_name n 0)) q).1 in
                  subst (RestSays limits n (is_rest n) (b ∷ bs)) (sym state)
                  (says_more limits n (is_rest n) b bs _ h m
                  (says_alike limits (n + 1) (is_rest (n + 1)) (λ r. is_rest n (b ∷ r)) bs _ alike
                  (names limits (n + 1) bs (omega arith)))))
              | inr q ↦ (
                  let state : line_run (Name n) (b ∷ bs) ≡ line_run OtherName bs =
                  rw (m, h, q) refl in
                  let alike : (r : List ℕ)
                  → is_rest n (b ∷ r) ≡ false = λ r. elim (cases_Bool (nat_lt n 14)) [
                    | inl l ↦ elim
                        (and_cases (nat_lt n 14)
                        (eq_ignore_ascii_case b (get_or length_name n 0)) q) [
                          | inl e ↦ (let wrong = sym l ∙ e in cc)
                          | inr e ↦ rest_more n b r (grind (arith, l)) ∙ ap
                              (λ t. t && is_rest (n + 1) r) e
                        ]
                    | inr l ↦ (let whole : n
                        ≡ 14 = grind (arith, l, few) in ap (λ m. is_rest m (b ∷ r)) whole)
                  ] in
                  subst (RestSays limits n (is_rest n) (b ∷ bs)) (sym state)
                  (says_more limits n (is_rest n) b bs _ h m
                  (says_alike limits (n + 1) (λ r. false) (λ r. is_rest n (b ∷ r)) bs _ alike
                  (other_name limits (n + 1) bs (grind arith)))))
            ]
        | inr m ↦ (
            let state : line_run (Name n) (b ∷ bs) ≡ NoField = rw (m, h) (run_none bs) in
            subst (RestSays limits n (is_rest n) (b ∷ bs)) (sym state) (field_wrong n b bs h m))
      ]
    ]

field_whole : (line : List ℕ) → is_field_line line ≡ field_from 0 line
field_whole line = let e : length (name_of line) ≡ 0 + length (name_of line) = omega arith in
    ap (λ n. nat_lt 0 n && nat_lt (length (name_of line)) (length line)
    && list_all is_name_byte (name_of line) && list_all is_value_byte (value_of line)) e

whole_says : (limits : FrameLimits) (line : List ℕ) (s : LineScan)
    → RestSays limits 0 (is_rest 0) line s
    → LineSays limits line s
whole_says limits line (Name n) says = field_whole line ∙ says
whole_says limits line OtherName says = field_whole line ∙ says
whole_says limits line (Length d) says = (field_whole line ∙ says.0, says.1, says.2)
whole_says limits line OtherValue says = (field_whole line ∙ says.0, says.1)
whole_says limits line NoField says = field_whole line ∙ says

-- the state at the end of a line states what the line states
pub line_says : (limits : FrameLimits) (line : List ℕ)
    → LineSays limits line (line_run (Name 0) line)
line_says limits line = whole_says limits line _ (names limits 0 line (omega arith))

-- a run over more bytes continues the run over the first bytes
pub run_append : (s : LineScan) (xs ys : List ℕ)
    → line_run s (xs ++ ys) ≡ line_run (line_run s xs) ys
run_append s [] ys = refl
run_append s (x ∷ xs) ys = run_append (line_step s x) xs ys
